use Rattle.table.proofs.Fitting.{Down}
use Rattle.table.proofs.all_apart.Given as goal

abbrev pub invariant-loop-at : goal.invariant-loop-at
invariant-loop-at l = Down l.values l.at l.low
