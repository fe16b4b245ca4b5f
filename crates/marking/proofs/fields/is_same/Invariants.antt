use Rattle.std.proofs.Common.{◌≡◌, false, cond, length, drop}
use Rattle.lines.specs.Commands.{same}
use Rattle.marking.proofs.fields.is_same.Given as goal

abbrev pub invariant-loop-i : goal.invariant-loop-i
invariant-loop-i l = (length l.x ≡ length l.y) × (cond l.equal (same (drop l.i l.x) (drop l.i l.y)) false ≡ same l.x l.y)
