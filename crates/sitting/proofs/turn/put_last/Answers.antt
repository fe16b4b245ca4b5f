use Rattle.sitting.proofs.Parts.{last_joins}
use Rattle.sitting.proofs.turn.put_last.Goals as goal

pub least-at-requires : goal.least-at-requires
least-at-requires c = tt

pub put_last-n-requires : goal.put_last-n-requires
put_last-n-requires c = tt

pub with_more-requires : goal.with_more-requires
with_more-requires c = tt

pub returns : goal.returns
returns c = last_joins c.args.sitting _ c.args.text.now _ _ _ c.least-at.ensures.2 c.put_last-n.ensures c.with_more.ensures
