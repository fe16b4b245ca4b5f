use mathlib.Core.Path.{◌≡◌}
use Prim.Native.Nat.{◌+◌}
use Rattle.blocks.specs.Owners.{nth}
use Rattle.stored.proofs.moved.Given as goal

abbrev pub invariant-loop-passed : goal.invariant-loop-passed
invariant-loop-passed l = l.block ≡ nth (l.place + 1) l.owner l._passed
