use Prim.Native.Nat.{◌+◌, ◌-◌}
use lib.ListN.{length}
use Rattle.header.specs.Scan.{start_of, scan_from}
use Rattle.stored.specs.Answers.{file_at}
use Rattle.stored.proofs.Feeding.{Feeding}
use Rattle.stored.proofs.scan_file.Given as goal

abbrev pub invariant-loop-b : goal.invariant-loop-b
invariant-loop-b l = Feeding scan_from (l.place + 1) l.owner l.disk (scan_from (start_of l.want) (file_at l.disk l.owner l.place l.received)) l.s l.left l.b

abbrev pub decreases-loop-b : goal.decreases-loop-b
decreases-loop-b l = length l.owner - l.b
