use Rattle.std.proofs.Common.{◌≡◌, ◌+◌, ◌*◌, drop}
use lib.Seq.{sets}
use Rattle.lines.specs.Text.{hex_of}
use Rattle.lines.proofs.write.put_hex.Given as goal

abbrev pub invariant-loop-i : goal.invariant-loop-i
invariant-loop-i l = sets l.text (l.at + 2 * l.i) (hex_of (drop l.i l.bytes)) ≡ sets l.initial.text l.at (hex_of l.bytes)
