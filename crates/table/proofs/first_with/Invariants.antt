use Rattle.std.proofs.Common.{◌≡◌, drop}
use Rattle.table.specs.Table.{files, keys, first_from, first_with}
use Rattle.table.proofs.first_with.Given as goal

abbrev pub invariant-loop-at : goal.invariant-loop-at
invariant-loop-at l =
    first_with l.value (keys l.key (files l.table)) ≡ first_from l.at l.value (drop l.at (keys l.key (files l.table)))
