use Rattle.std.proofs.Common.{◌≡◌, ◌*◌, drop}
use Rattle.blocks.specs.Check.{map_is}
use Rattle.blocks.proofs.map_is.Given as goal

abbrev pub invariant-loop-i : goal.invariant-loop-i
invariant-loop-i l = map_is l.map l.owner ≡ map_is (drop l.i l.map) (drop (64 * l.i) l.owner)
