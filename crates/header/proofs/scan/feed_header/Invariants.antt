use Rattle.std.proofs.Common.{◌≡◌, drop}
use Rattle.header.specs.Scan.{header_from}
use Rattle.header.proofs.scan.feed_header.Given as goal

abbrev pub invariant-loop-b : goal.invariant-loop-b
invariant-loop-b l = header_from l.scan (drop l.b-index l.part) ≡ header_from l.initial.scan l.part
