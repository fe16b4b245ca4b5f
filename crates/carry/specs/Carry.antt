-- Each act carried out: what becomes of the session, the store and the selection, and the reply (document 01). Assumes nothing.
use Rattle.std.specs.Prelude.{List, ℕ}
use Rattle.session.specs.declared.state.Session.{Session}
use Rattle.session.specs.declared.state.Uplink.TheVariants as up
use Rattle.session.specs.declared.state.Downlink.TheVariants as down
use Rattle.session.specs.declared.reply.Reply.TheVariants.{Nothing, DataEnd}
use Rattle.session.specs.State.{with_up, with_down}
use Rattle.decide.specs.declared.act.Act.{Act}
use Rattle.decide.specs.declared.act.Act.TheVariants as act
use Rattle.carry.specs.declared.turn.Last.{Last}
use Rattle.carry.specs.Turn.{turn_of, Mem, mem, Turned, turned, Frees, Writes, Moves, Chooses}
use Rattle.carry.specs.Upload as upload
use Rattle.carry.specs.Download as download

-- what an act leaves alone stays as it was lent
unfoldable pub on_frees : Mem → Frees → Turned
on_frees m r = turned r.turn (mem m.disk r.map r.owner r.table m.selected)

unfoldable pub on_writes : Mem → Writes → Turned
on_writes m r = turned r.turn (mem r.disk m.map m.owner r.table m.selected)

unfoldable pub on_moves : Mem → Moves → Turned
on_moves m r = turned r.turn (mem r.disk r.map r.owner r.table m.selected)

unfoldable pub on_chooses : Mem → Chooses → Turned
on_chooses m r = turned r.turn (mem m.disk m.map m.owner m.table r.selected)

unfoldable pub carry_out : Act → Session → Last → ℕ → ℕ → ℕ → List ℕ → Mem → Turned
carry_out act.Close s last clock most size info m = on_chooses m (download.close_turn last m.selected)
carry_out act.Ignore s last clock most size info m = turned (turn_of s last Nothing) m
carry_out (act.Tell r) s last clock most size info m = turned (turn_of s last r) m
carry_out (act.Begin n) s last clock most size info m = on_frees m (upload.begin_turn s last n m.map m.owner m.table)
carry_out (act.Resume place number received) s last clock most size info m = turned (upload.resume_turn s last place number received) m
carry_out (act.Store place offset received) s last clock most size info m =
    on_writes m (upload.store_turn s last place offset received size info m.disk m.owner m.table)
carry_out (act.Overrun place) s last clock most size info m =
    on_frees m (upload.discard_turn s last place up.Ignoring 16 m.map m.owner m.table)
carry_out act.Stop s last clock most size info m = turned (turn_of (with_up s up.Idle) last Nothing) m
carry_out (act.Finish place) s last clock most size info m =
    on_moves m (upload.finish_turn s last place clock m.disk m.map m.owner m.table)
carry_out act.Select s last clock most size info m =
    on_chooses m (download.select_turn s last most size info m.disk m.owner m.table m.selected)
carry_out (act.Send place offset lock passed) s last clock most size info m =
    turned (download.begin_turn s last place offset lock passed m.disk m.owner m.table) m
carry_out (act.Confirm place destination) s last clock most size info m =
    turned (download.confirm_turn s last place destination m.disk m.owner m.table) m
carry_out (act.End r) s last clock most size info m = turned (turn_of (with_down s down.Idle) last r) m
carry_out (act.Abort place) s last clock most size info m = turned (turn_of (with_down s (down.Aborting place)) last DataEnd) m
carry_out (act.List listed long passed) s last clock most size info m = turned (download.list_turn s last listed long passed) m
