use Rattle.std.proofs.Common.{◌≡◌, ◌+◌, ◌≤◌, length}
use lib.Seq.{sets}
use Rattle.lines.specs.Text.{decimal_of}
use Rattle.lines.proofs.write.put_decimal.Given as goal

abbrev pub invariant-loop-rest : goal.invariant-loop-rest
invariant-loop-rest l =
    (length l.text ≡ length l.initial.text)
    × (l.i + 1 ≡ l.at + length (decimal_of l.rest))
    × (l.at + length (decimal_of l.rest) ≤ length l.initial.text)
    × (sets l.text l.at (decimal_of l.rest) ≡ sets l.initial.text l.at (decimal_of l.n))

abbrev pub decreases-loop-rest : goal.decreases-loop-rest
decreases-loop-rest l = l.rest
