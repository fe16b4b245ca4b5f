use mathlib.Core.Path.{sym, ap, ◌∙◌}
use lib.ListN.{length}
use Rattle.refusal.specs.Refusal.{numbered}
use Rattle.embed.proofs.Checked.{ready_go}
use Rattle.embed.specs.Calls.{receive_by, on_receive}
use Rattle.embed.proofs.Telling.{received_told}
use Rattle.embed.proofs.figmorella_receive.Goals as goal

pub server_at-server-requires : goal.server_at-server-requires
server_at-server-requires c = (ready_go _ c.args.state.now (length c.args.counts.now) (sym c.check.ensures ∙ ap numbered c.in-Ok.is)).room

pub tell-requires : goal.tell-requires
tell-requires c = let p = ready_go _ c.args.state.now (length c.args.counts.now) (sym c.check.ensures ∙ ap numbered c.in-Ok.is) in (p.room, p.two, p.words)

pub returns-in-Err : goal.returns-in-Err
unfolding receive_by on_receive
returns-in-Err c = record { out_after = rw (← c.check.ensures, c.in-Err.is, ← c.into.ensures); state_after = λ e. e }

pub returns-in-Ok : goal.returns-in-Ok
unfolding receive_by on_receive
returns-in-Ok c = record { out_after = rw (← c.check.ensures, c.in-Ok.is, ← c.server_at-server.ensures, ← c.receive-done.ensures) (received_told _ _ _ _ c.tell.ensures.counts_after); state_after = λ _. c.tell.ensures.state_after }
