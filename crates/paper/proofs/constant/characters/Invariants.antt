use Prim.Native.Nat.{◌-◌}
use lib.ListN.{length}
use Rattle.readings.proofs.ConstantLaws as laws
use Rattle.paper.proofs.constant.characters.Given as goal

abbrev pub invariant-loop-at : goal.invariant-loop-at
invariant-loop-at l = laws.Spelling l.text l.at l.n l.initial.out l.p l.m l.stars l.out

abbrev pub decreases-loop-at : goal.decreases-loop-at
decreases-loop-at l = length l.text - l.p
