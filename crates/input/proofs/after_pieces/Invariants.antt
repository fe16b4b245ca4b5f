use Rattle.std.proofs.Common.{◌≡◌, ◌<◌}
use Rattle.std.specs.Slice.Iter.{chunks_exact_rest, chunks_exact_size}
use Rattle.input.proofs.InputLaws.{Left}
use Rattle.input.proofs.after_pieces.Given as goal

abbrev pub invariant-loop-piece : goal.invariant-loop-piece
invariant-loop-piece l = (0 < l.size) × (chunks_exact_size l.piece-iterator ≡ l.size) × Left l.input (chunks_exact_rest l.piece-iterator) l.n × (goal.iterator-loop-piece).can_next l.piece-iterator × (goal.iterator-loop-piece).is_finite l.piece-iterator
