use mathlib.Core.Path.{sym, ap, ◌∙◌}
use lib.ListN.{length}
use Rattle.refusal.specs.Refusal.{numbered}
use Rattle.embed.proofs.Checked.{ready_go}
use Rattle.embed.specs.Calls.{free_by, on_free, filled}
use Rattle.embed.proofs.figmorella_free.Goals as goal

pub server_at-requires : goal.server_at-requires
server_at-requires c = (ready_go _ c.args.state.now (length c.args.counts.now) (sym c.check_map.ensures ∙ ap numbered c.in-Ok.is)).room

pub free_in-requires : goal.free_in-requires
free_in-requires c = let p = ready_go _ c.args.state.now (length c.args.counts.now) (sym c.check_map.ensures ∙ ap numbered c.in-Ok.is) in (rw c.server_at.ensures p.fits, p.two)

pub returns-in-Err : goal.returns-in-Err
unfolding free_by on_free
returns-in-Err c = rw (← c.check_map.ensures, c.in-Err.is, ← c.into.ensures)

pub returns-in-Ok : goal.returns-in-Ok
unfolding free_by on_free
returns-in-Ok c = rw (← c.check_map.ensures, c.in-Ok.is, ← c.server_at.ensures) (ap (filled 0) c.free_in.ensures)
