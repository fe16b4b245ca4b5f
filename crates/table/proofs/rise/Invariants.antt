use Rattle.table.specs.Table.{files, keys}
use Rattle.table.proofs.Fitting.{Down}
use Rattle.table.proofs.rise.Given as goal

abbrev pub invariant-loop-at : goal.invariant-loop-at
invariant-loop-at l = Down (keys l.key (files l.table)) l.at l.low
