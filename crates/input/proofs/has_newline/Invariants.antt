use Rattle.input.proofs.InputLaws.{Near}
use Rattle.input.proofs.has_newline.Given as goal

abbrev pub invariant-loop-b : goal.invariant-loop-b
invariant-loop-b l = Near l.bytes l.least l.b-index
