use Rattle.std.proofs.Common.{◌-◌, length}
use Rattle.writing.proofs.Pieces as pieces
use Rattle.back.proofs.put_all.Given as goal

abbrev pub invariant-loop-b : goal.invariant-loop-b
invariant-loop-b l = pieces.Putting l.s l.n l.initial.out l.out (length l.s - length l.yielded) l.k
