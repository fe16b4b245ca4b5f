use Rattle.marking.proofs.VerdictLaws.{step_marks}
use Rattle.marking.proofs.step.Goals as goal

pub step-stepped-requires : goal.step-stepped-requires
step-stepped-requires c = tt

pub conclude-requires : goal.conclude-requires
conclude-requires c = tt

pub returns : goal.returns
returns c = step_marks _ _ _ _ _ _ _ c.args.text.now _ c.args.at _ _ c.step-stepped.ensures c.conclude.ensures
