use Rattle.table.specs.Table.{files, times}
use Rattle.table.proofs.Ordering.{count_above}
use Rattle.why.proofs.Older.{Counting}
use Rattle.why.proofs.count_older.Given as goal

abbrev pub invariant-loop-place : goal.invariant-loop-place
invariant-loop-place l = Counting l.eq l.disk l.owner l.table l.time l.count l.after

abbrev pub decreases-loop-place : goal.decreases-loop-place
decreases-loop-place l = count_above l.after (times (files l.table))
