use Rattle.std.proofs.Common.{◌≡◌, ◌+◌, ◌≤◌, drop}
use Rattle.blocks.specs.Owners.{blocks}
use Rattle.blocks.proofs.count_few.Given as goal

abbrev pub invariant-loop-o : goal.invariant-loop-o
invariant-loop-o l = (l.n ≤ l.o-index) × (l.n + blocks l.v (drop l.o-index l.owner) ≡ blocks l.v l.owner)
