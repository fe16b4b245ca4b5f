use Rattle.std.proofs.Common.{◌≡◌, ℕ, ◌+◌, ◌≤◌, length, drop}
use Rattle.blocks.specs.Owners.{nth}
use Rattle.blocks.proofs.find_block.Given as goal

abbrev pub invariant-loop : goal.invariant-loop
invariant-loop l = (from : ℕ) × (from ≤ length l.owner) × (nth l.v l.owner l.k ≡ from + nth l.v (drop from l.owner) l.left) × (l.b ≡ from + nth l.v (drop from l.owner) l.counter)
