use lib.Seq.{take_all, length-take-le}
use mathlib.Core.Path.{sym}
use native.Mathlib.Nat.{le_of_lt}
use Rattle.script.proofs.printing.show_packet.Goals as goal

pub slice_bounds-packet_line-end : goal.slice_bounds-packet_line-end
slice_bounds-packet_line-end c = sym (length-take-le _ _ (le_of_lt c.if-size-out.true))

pub returns : goal.returns
returns c = rw (take_all _ _ c.if-size-out.false) c.packet_line-2.ensures
