use Prim.Native.Nat.{◌+◌}
use mathlib.Core.Path.{◌≡◌}
use lib.ListN.{length, take, drop}
use Rattle.stored.specs.Answers.{file_at}
use Rattle.stored.specs.Cursor.{Stands}
use Rattle.stored.proofs.fetch.Given as goal

abbrev pub invariant-loop-i : goal.invariant-loop-i
invariant-loop-i l =
    (take l.i l.out ≡ take l.i (take (length l.initial.out) (drop l.at (file_at l.disk l.owner l.place l.n))))
    × Stands l.owner l.place l.here.index l.here.block (l.at + l.i)
