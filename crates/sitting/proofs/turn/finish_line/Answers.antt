use Rattle.sitting.proofs.Parts.{finish_joins}
use Rattle.sitting.proofs.turn.finish_line.Goals as goal

pub least-end-requires : goal.least-end-requires
least-end-requires c = tt

pub least-start-requires : goal.least-start-requires
least-start-requires c = tt

pub finish-done-requires : goal.finish-done-requires
finish-done-requires c = tt

pub finished-requires : goal.finished-requires
finished-requires c = tt

pub returns : goal.returns
returns c = finish_joins c.args.sitting _ c.args.input.now c.args.text.now _ _ _ _ c.least-end.ensures.2 c.least-start.ensures.2 c.finish-done.ensures c.finished.ensures
