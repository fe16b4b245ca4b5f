use Rattle.std.proofs.Common.{◌≡◌, length, take}
use Rattle.blocks.specs.Owners.{map_of}
use Rattle.blocks.proofs.fill_map.Given as goal

abbrev pub invariant-loop-i : goal.invariant-loop-i
invariant-loop-i l = take l.i l.map ≡ take l.i (map_of (length l.initial.map) l.owner)
