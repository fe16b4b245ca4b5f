use Rattle.std.proofs.Common.{◌≡◌, ◌≤◌, length, drop}
use Rattle.std.specs.Slice.Iter.{chunks_exact_rest, chunks_exact_size}
use Rattle.blocks.specs.Owners.{next_of}
use Rattle.blocks.proofs.pass_parts.Given as goal

abbrev pub invariant-loop-part : goal.invariant-loop-part
invariant-loop-part l = (chunks_exact_size l.part-iterator ≡ 64) × (l.b ≤ length l.owner) × (chunks_exact_rest l.part-iterator ≡ drop l.b l.owner) × (next_of l.v l.owner l.from ≡ next_of l.v l.owner l.b)
