use Rattle.std.proofs.Common.{◌≡◌, ◌-◌, length, drop}
use Rattle.numbers.specs.Numbers.{number}
use Rattle.equation.proofs.relation.value.Given as goal

abbrev pub invariant-loop-b : goal.invariant-loop-b
invariant-loop-b l = l.v ≡ number (drop (length l.bytes - length l.yielded) l.bytes)
