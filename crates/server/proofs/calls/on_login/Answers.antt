use mathlib.Core.Path.{ap}
use native.Mathlib.Omega.{arith}
use Rattle.refusal.specs.Refusal.{numbered}
use Rattle.server.specs.Calls.{on_login}
use Rattle.server.proofs.calls.on_login.Goals as goal

pub with_link-next-requires : goal.with_link-next-requires
with_link-next-requires c = omega (arith, c.requires _ (ap numbered c.in-Ok.is))

pub returns-in-Err : goal.returns-in-Err
unfolding on_login
returns-in-Err c = rw (c.in-Err.is, ← c.into.ensures)

pub returns-in-Ok : goal.returns-in-Ok
unfolding on_login
returns-in-Ok c = rw (c.in-Ok.is, c.with_link-next.ensures, c.fresh.ensures, ← c.send-answer.ensures)
