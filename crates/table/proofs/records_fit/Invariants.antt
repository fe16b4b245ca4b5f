use Rattle.std.proofs.Common.{◌≡◌, drop}
use Rattle.table.specs.Table.{files}
use Rattle.table.specs.Fit.{records_fit_from, records_fit}
use Rattle.table.proofs.records_fit.Given as goal

abbrev pub invariant-loop-at : goal.invariant-loop-at
invariant-loop-at l =
    records_fit l.last l.latest l.counts (files l.table) ≡ records_fit_from l.at l.last l.latest l.counts (drop l.at (files l.table))
