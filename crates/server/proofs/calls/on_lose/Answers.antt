use mathlib.Core.Path.{ap}
use native.Mathlib.Omega.{arith}
use Rattle.refusal.specs.Refusal.{numbered}
use Rattle.server.specs.Calls.{on_lose}
use Rattle.server.proofs.calls.on_lose.Goals as goal

pub forget-requires : goal.forget-requires
forget-requires c = let p = c.requires _ (ap numbered c.in-Ok.is) in (p.session, p.most, p.selections, p.part)

pub with_link-next-requires : goal.with_link-next-requires
with_link-next-requires c = omega (arith, (c.requires _ (ap numbered c.in-Ok.is)).session)

pub returns-in-Err : goal.returns-in-Err
unfolding on_lose
returns-in-Err c = rw (c.in-Err.is, ← c.into.ensures)

pub returns-in-Ok : goal.returns-in-Ok
unfolding on_lose
returns-in-Ok c = rw (c.in-Ok.is, c.forget.ensures.selected_after, c.forget.ensures.held_after, c.with_link-next.ensures, c.closed.ensures)
