use Rattle.std.proofs.Common.{◌≡◌, ◌+◌, ◌%◌, ◌<◌, drop}
use Rattle.header.specs.Header.{sum_of}
use Rattle.header.proofs.scan.add_bytes.Given as goal

abbrev pub invariant-loop-b : goal.invariant-loop-b
invariant-loop-b l = (l.total < 65536) × ((l.total + sum_of (drop l.b-index l.part)) % 65536 ≡ (l.initial.total + sum_of l.part) % 65536)
