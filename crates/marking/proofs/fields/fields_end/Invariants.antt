use Rattle.std.proofs.Common.{◌≡◌, ◌+◌, ◌-◌, ◌≤◌, length, drop}
use Rattle.marking.specs.Fields.{fields_end}
use Rattle.marking.proofs.fields.fields_end.Given as goal

abbrev pub invariant-loop-passed : goal.invariant-loop-passed
invariant-loop-passed l = (l.at ≤ length l.line) × (l.at + fields_end (l.further - l.passed) (drop l.at l.line) ≡ fields_end l.further l.line)
