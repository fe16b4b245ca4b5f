use Rattle.equation.proofs.MarkLaws as marks
use Rattle.equation.proofs.evaluation.settle.Given as goal

abbrev pub invariant-loop-step : goal.invariant-loop-step
invariant-loop-step l = marks.Settling (record { id = l.id; bytes = l.item }) l.eq l.steps l.initial.truths l.truths l.step-index l.k
