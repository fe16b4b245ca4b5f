use Rattle.script.proofs.Behind.{concluded}
use Rattle.script.proofs.conclude.Goals as goal

pub least-from-requires : goal.least-from-requires
least-from-requires c = tt

pub session_of-requires : goal.session_of-requires
session_of-requires c = tt

pub show-written-requires : goal.show-written-requires
show-written-requires c = tt

pub after-then-requires : goal.after-then-requires
after-then-requires c = tt

pub returns : goal.returns
returns c =
    λ l. concluded c.args.day _ _ _ _ _ _ c.session_of.ensures c.after-then.ensures l _ _ _ _
    c.least-from.ensures.2 c.show-written.ensures
