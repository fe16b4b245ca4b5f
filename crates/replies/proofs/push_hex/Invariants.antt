use Rattle.std.proofs.Common.{◌≡◌, ◌+◌, ◌*◌, drop}
use lib.Seq.{sets}
use Rattle.lines.specs.Text.{hex_of}
use Rattle.replies.proofs.push_hex.Given as goal

abbrev pub invariant-loop-i : goal.invariant-loop-i
invariant-loop-i l = sets l.out (l.n + 2 * l.i) (hex_of (drop l.i l.bytes)) ≡ sets l.initial.out l.n (hex_of l.bytes)
