use Rattle.std.proofs.Common.{◌≡◌, false, cond, ltb, drop}
use Rattle.lines.specs.Pairs.{all_hex}
use Rattle.lines.proofs.numeral.has_digits.Given as goal

abbrev pub invariant-loop-b : goal.invariant-loop-b
invariant-loop-b l = all_hex l.digits ≡ cond (ltb l.most 16) (all_hex (drop l.b-index l.digits)) false
