use Rattle.std.proofs.Common.{◌≡◌, drop}
use Rattle.table.specs.Table.{files, times}
use Rattle.table.specs.Order.{least_above}
use Rattle.table.proofs.least_above.Given as goal

abbrev pub invariant-loop-at : goal.invariant-loop-at
invariant-loop-at l = l.least ≡ least_above l.after (drop l.at (times (files l.table)))
