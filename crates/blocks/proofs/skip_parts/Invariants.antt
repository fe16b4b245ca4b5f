use Rattle.std.proofs.Common.{◌≡◌, ◌+◌, ◌≤◌, length, drop}
use Rattle.std.specs.Slice.Iter.{chunks_exact_rest, chunks_exact_size}
use Rattle.blocks.specs.Owners.{nth}
use Rattle.blocks.proofs.skip_parts.Given as goal

abbrev pub invariant-loop-part : goal.invariant-loop-part
invariant-loop-part l = (chunks_exact_size l.part-iterator ≡ 64) × (l.from ≤ length l.owner) × (chunks_exact_rest l.part-iterator ≡ drop l.from l.owner) × (nth l.v l.owner l.k ≡ l.from + nth l.v (drop l.from l.owner) l.left)
