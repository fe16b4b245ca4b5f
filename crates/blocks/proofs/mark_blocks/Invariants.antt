use Rattle.std.proofs.Common.{◌≡◌, drop}
use Rattle.blocks.specs.Owners.{released_map}
use Rattle.blocks.proofs.mark_blocks.Given as goal

abbrev pub invariant-loop-b : goal.invariant-loop-b
invariant-loop-b l = released_map l.v l.owner 0 l.initial.map ≡ released_map l.v (drop l.b l.owner) l.b l.map
