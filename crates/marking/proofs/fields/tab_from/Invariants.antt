use Rattle.std.proofs.Common.{◌≡◌, ◌+◌, drop}
use Rattle.marking.specs.Fields.{fields_end}
use Rattle.marking.proofs.fields.tab_from.Given as goal

abbrev pub invariant-loop-n : goal.invariant-loop-n
invariant-loop-n l = fields_end 0 l.line ≡ l.n + fields_end 0 (drop l.n l.line)
