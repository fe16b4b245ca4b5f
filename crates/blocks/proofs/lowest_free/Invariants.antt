use Rattle.std.proofs.Common.{◌≡◌, ◌+◌, ◌*◌, drop}
use Rattle.blocks.specs.FreeMap.{lowest}
use Rattle.blocks.proofs.lowest_free.Given as goal

abbrev pub invariant-loop-i : goal.invariant-loop-i
invariant-loop-i l = 64 * l.i + lowest (drop l.i l.map) ≡ lowest l.map
