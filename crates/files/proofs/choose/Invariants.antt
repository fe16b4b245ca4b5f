use Rattle.table.specs.Table.{files, times}
use Rattle.table.proofs.Ordering.{count_above}
use Rattle.files.specs.Selection.{meets_at}
use Rattle.files.proofs.Choice.{Choosing}
use Rattle.files.proofs.choose.Given as goal

abbrev pub invariant-loop-count : goal.invariant-loop-count
invariant-loop-count l = Choosing (meets_at l.eq l.disk l.owner l.table) l.table l.initial.selected l.selected l.most l.count l.after

abbrev pub decreases-loop-count : goal.decreases-loop-count
decreases-loop-count l = count_above l.after (times (files l.table))
