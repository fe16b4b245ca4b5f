use Rattle.std.proofs.Common.{◌≡◌, ◌&&◌, drop}
use Rattle.blocks.specs.Check.{within}
use Rattle.blocks.proofs.owners_within.Given as goal

abbrev pub invariant-loop-o : goal.invariant-loop-o
invariant-loop-o l = within l.files l.owner ≡ l.good && within l.files (drop l.o-index l.owner)
