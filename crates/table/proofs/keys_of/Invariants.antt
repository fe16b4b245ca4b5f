use Rattle.std.proofs.Common.{◌≡◌, take, length}
use Rattle.table.specs.Table.{files, keys}
use Rattle.table.proofs.keys_of.Given as goal

abbrev pub invariant-loop-at : goal.invariant-loop-at
invariant-loop-at l = (length l.values ≡ 256) × (take l.at l.values ≡ take l.at (keys l.key (files l.table)))
