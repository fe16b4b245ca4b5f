use Rattle.sitting.proofs.Parts.{error_joins}
use Rattle.sitting.proofs.turn.put_error.Goals as goal

pub least-at-requires : goal.least-at-requires
least-at-requires c = tt

pub wrapping_add_usize-requires : goal.wrapping_add_usize-requires
wrapping_add_usize-requires c = tt

pub put_stop-n-requires : goal.put_stop-n-requires
put_stop-n-requires c = tt

pub with_more-requires : goal.with_more-requires
with_more-requires c = tt

pub put_last-requires : goal.put_last-requires
put_last-requires c = tt

pub returns : goal.returns
returns c = error_joins c.args.sitting _ c.args.text.now _ _ _ c.least-at.ensures.2 _ _ _ c.wrapping_add_usize.ensures.value c.put_stop-n.ensures c.with_more.ensures c.put_last.ensures
