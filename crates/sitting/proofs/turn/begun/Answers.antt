use Rattle.sitting.proofs.Parts.{begun_joins}
use Rattle.sitting.proofs.turn.begun.Goals as goal

pub least-end-requires : goal.least-end-requires
least-end-requires c = tt

pub least-start-requires : goal.least-start-requires
least-start-requires c = tt

pub begin-judged-requires : goal.begin-judged-requires
begin-judged-requires c = tt

pub passed-requires : goal.passed-requires
passed-requires c = tt

pub returns : goal.returns
returns c = begun_joins c.args.sitting _ c.args.answer c.args.to c.args.command c.args.input.now c.args.text.now _ _ _ _ c.least-end.ensures.2 c.least-start.ensures.2 c.begin-judged.ensures c.passed.ensures
