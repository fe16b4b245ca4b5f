-- What the bytes of a link came to asks for (document 01). Assumes nothing.
use Rattle.std.specs.Prelude.{cond, List, ℕ, eqb, ltb, length}
use Rattle.packet.specs.declared.frame.Frame.{Frame}
use Rattle.packet.specs.declared.frame.Frame.TheVariants.{Open, TooLong, Whole, Refused}
use Rattle.session.specs.declared.state.Session.{Session}
use Rattle.session.specs.Expected.{expected}
use Rattle.table.specs.declared.File.{File}
use Rattle.decide.specs.Uplink.{on_uplink}
use Rattle.decide.specs.Downlink.{on_downlink}
use Rattle.decide.specs.declared.act.Act.{Act}
use Rattle.decide.specs.declared.act.Act.TheVariants as act

-- "Closing beats 1 to 16." Types below 8 are the uplink's.
unfoldable pub on_packet : Session → List Session → ℕ → ℕ → List ℕ → List File → List ℕ → Act
on_packet s links kind size info fs selected =
    cond (expected s.up s.down kind size)
    (cond (ltb kind 8) (on_uplink s.up links kind size info fs) (on_downlink s.down s.count s.next kind size info fs selected))
    act.Close

unfoldable pub on_frame : Session → List Session → Frame → List ℕ → List File → List ℕ → Act
on_frame s links Open info fs selected = act.Ignore
on_frame s links TooLong info fs selected = act.Close
on_frame s links (Whole kind size) info fs selected = on_packet s links kind size info fs selected
on_frame s links (Refused n) info fs selected = act.Ignore

-- the information is in 256 bytes
unfoldable pub decide_of : Session → List Session → Frame → List ℕ → List File → List ℕ → Act
decide_of s links frame info fs selected = cond (eqb (length info) 256) (on_frame s links frame info fs selected) act.Ignore
