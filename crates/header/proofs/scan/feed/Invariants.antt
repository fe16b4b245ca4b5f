use Rattle.std.proofs.Common.{◌≡◌, drop}
use Rattle.header.specs.Scan.{scan_from}
use Rattle.header.proofs.scan.feed.Given as goal

abbrev pub invariant-loop-i : goal.invariant-loop-i
invariant-loop-i l = scan_from l.scan (drop l.i l.part) ≡ scan_from l.initial.scan l.part
