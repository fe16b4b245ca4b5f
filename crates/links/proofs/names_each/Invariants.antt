use mathlib.Core.Path.{◌≡◌}
use lib.ListN.{take, drop}
use Rattle.table.specs.Table.{files}
use Rattle.links.specs.Sound.{names_sound}
use Rattle.links.proofs.names_each.Given as goal

abbrev pub invariant-loop-number : goal.invariant-loop-number
invariant-loop-number l = names_sound (files l.table) (take l.count l.selected) ≡ names_sound (files l.table) (drop l.number-index (take l.count l.selected))
