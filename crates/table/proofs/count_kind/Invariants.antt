use Rattle.std.proofs.Common.{◌≡◌, ◌+◌, drop}
use Rattle.table.specs.Table.{files, is_kind, count_of}
use Rattle.table.proofs.count_kind.Given as goal

abbrev pub invariant-loop-at : goal.invariant-loop-at
invariant-loop-at l = l.n + count_of (is_kind l.kind) (drop l.at (files l.table)) ≡ count_of (is_kind l.kind) (files l.table)
