use Rattle.equation.proofs.Runs as runs
use Rattle.equation.proofs.evaluation.outcome.Given as goal

abbrev pub invariant-loop-step : goal.invariant-loop-step
invariant-loop-step l = runs.Running l.steps l.truths l.st l.d l.step-index l.k
