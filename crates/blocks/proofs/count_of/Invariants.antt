use Rattle.std.proofs.Common.{◌≡◌, ◌+◌}
use Rattle.std.specs.Slice.Iter.{chunks_rest, chunks_size}
use Rattle.blocks.specs.Owners.{blocks}
use Rattle.blocks.proofs.count_of.Given as goal

abbrev pub invariant-loop-part : goal.invariant-loop-part
invariant-loop-part l = (chunks_size l.part-iterator ≡ 4096) × (l.n + blocks l.v (chunks_rest l.part-iterator) ≡ blocks l.v l.owner)
