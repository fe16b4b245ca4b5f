use Prim.Native.Nat.{◌-◌}
use lib.ListN.{length}
use Rattle.equation.specs.Parsed.{relations_by}
use Rattle.equation.proofs.MarkLaws as marks
use Rattle.equation.proofs.evaluation.settle_items.Given as goal

abbrev pub invariant-loop-id : goal.invariant-loop-id
invariant-loop-id l = marks.Walking (relations_by l.eq l.steps) l.file l.initial.truths l.truths l.at

abbrev pub decreases-loop-id : goal.decreases-loop-id
decreases-loop-id l = length l.file - l.at
