use Prim.Native.Nat.{◌-◌}
use lib.ListN.{length}
use Rattle.equation.proofs.StepLaws as laws
use Rattle.equation.proofs.steps.list_steps.Given as goal

abbrev pub invariant-loop-steps : goal.invariant-loop-steps
invariant-loop-steps l = laws.Listing l.eq l.initial.steps l.steps l.at l.n

abbrev pub decreases-loop-steps : goal.decreases-loop-steps
decreases-loop-steps l = length l.eq - l.at
