use mathlib.Core.Path.{◌≡◌}
use lib.ListN.{drop}
use Rattle.names.specs.Names.{items}
use Rattle.names.specs.Rows.{row_in, row_of}
use Rattle.names.proofs.table.row_of.Given as goal

abbrev pub invariant-loop-k : goal.invariant-loop-k
invariant-loop-k l = (row_of l.id ≡ row_in (drop l.k items) l.id)
