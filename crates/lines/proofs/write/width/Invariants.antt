use Rattle.std.proofs.Common.{◌≡◌, ◌+◌, length}
use Rattle.lines.specs.Text.{decimal_of}
use Rattle.lines.proofs.write.width.Given as goal

abbrev pub invariant-loop-rest : goal.invariant-loop-rest
invariant-loop-rest l = (l.digits + length (decimal_of l.rest) ≡ length (decimal_of l.n) + 1)

abbrev pub decreases-loop-rest : goal.decreases-loop-rest
decreases-loop-rest l = l.rest
