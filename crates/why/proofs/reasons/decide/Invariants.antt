use Rattle.why.proofs.Passes as passes
use Rattle.why.proofs.reasons.decide.Given as goal

abbrev pub invariant-loop-step : goal.invariant-loop-step
invariant-loop-step l = passes.Passing l.steps l.truths l.bits l.from l.row l.d l.n l.step-index l.k
