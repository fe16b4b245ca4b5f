use Rattle.sitting.proofs.Parts.{script_at}
use Rattle.sitting.proofs.turn.script_to.Goals as goal

pub least-end-requires : goal.least-end-requires
least-end-requires c = tt

pub least-start-requires : goal.least-start-requires
least-start-requires c = tt

pub script_end-requires : goal.script_end-requires
script_end-requires c = tt

pub wrapping_add_usize-requires : goal.wrapping_add_usize-requires
wrapping_add_usize-requires c = tt

pub returns : goal.returns
returns c = script_at _ c.args.input.now c.args.from c.args.to _ _ _ _ c.least-end.ensures.2 c.least-start.ensures.2 c.script_end.ensures c.wrapping_add_usize.ensures.value
