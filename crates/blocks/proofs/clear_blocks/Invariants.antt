use Rattle.std.proofs.Common.{◌≡◌, ◌++◌, take, drop}
use Rattle.blocks.specs.Owners.{released_owner}
use Rattle.blocks.proofs.clear_blocks.Given as goal

abbrev pub invariant-loop-o : goal.invariant-loop-o
invariant-loop-o l = released_owner l.v l.initial.owner ≡ take l.o-index l.owner ++ released_owner l.v (drop l.o-index l.owner)
