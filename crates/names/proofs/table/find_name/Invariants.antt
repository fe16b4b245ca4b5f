use mathlib.Core.Path.{◌≡◌}
use lib.ListN.{drop}
use Rattle.names.specs.Names.{items}
use Rattle.names.specs.Rows.{found_in, found}
use Rattle.names.proofs.table.find_name.Given as goal

abbrev pub invariant-loop-k : goal.invariant-loop-k
invariant-loop-k l = (found l.text ≡ found_in (drop l.k items) l.most l.text)
