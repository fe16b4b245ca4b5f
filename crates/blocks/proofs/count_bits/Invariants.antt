use Rattle.std.proofs.Common.{◌≡◌, ◌+◌, ◌*◌, ◌≤◌, drop}
use Rattle.blocks.specs.FreeMap.{free_count}
use Rattle.blocks.proofs.count_bits.Given as goal

abbrev pub invariant-loop-w : goal.invariant-loop-w
invariant-loop-w l = (l.n ≤ 64 * l.w-index) × (l.n + free_count (drop l.w-index l.map) ≡ free_count l.map)
