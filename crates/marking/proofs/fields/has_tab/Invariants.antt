use Rattle.marking.proofs.TabLaws.{Near}
use Rattle.marking.proofs.fields.has_tab.Given as goal

abbrev pub invariant-loop-b : goal.invariant-loop-b
invariant-loop-b l = Near l.bytes l.least l.b-index
