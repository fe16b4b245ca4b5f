use Rattle.std.proofs.Common.{◌/◌, refl, arith, length-set}
use Rattle.lines.proofs.TextLaws.{digits_more, digits_some}
use Rattle.lines.proofs.Writing.{decimal_step, decimal_end}
use Rattle.lines.proofs.write.put_decimal.Goals as goal

pub overflow_add-i : goal.overflow_add-i
overflow_add-i c = omega arith

pub overflow_sub-i : goal.overflow_sub-i
overflow_sub-i c = omega (arith, digits_some c.args.n)

pub loop-rest-init : goal.loop-rest-init
loop-rest-init c = let some = digits_some c.args.n in (refl, omega arith, omega arith, refl)

pub overflow_cast-text : goal.overflow_cast-text
overflow_cast-text c = omega arith

pub overflow_add-text : goal.overflow_add-text
overflow_add-text c = omega arith

pub bounds-text-i : goal.bounds-text-i
bounds-text-i c = omega arith

pub overflow_sub-i-in-loop-rest : goal.overflow_sub-i-in-loop-rest
overflow_sub-i-in-loop-rest c = omega (arith, digits_more c.loop-rest.rest (omega arith), digits_some (c.loop-rest.rest / 10))

pub loop-rest-smaller : goal.loop-rest-smaller
loop-rest-smaller c = omega arith

pub loop-rest-preserved : goal.loop-rest-preserved
loop-rest-preserved c = let l = c.loop-rest in let more = digits_more l.rest (omega arith) in let some = digits_some (l.rest / 10) in (
  simp
      length-set (omega arith),
  omega arith,
  omega arith,
  decimal_step l.text c.args.at l.i l.rest _ (omega
      arith) (omega arith) l.invariant.3,
)

pub overflow_cast-text-2 : goal.overflow_cast-text-2
overflow_cast-text-2 c = omega arith

pub overflow_add-text-2 : goal.overflow_add-text-2
overflow_add-text-2 c = omega arith

pub bounds-text-i-2 : goal.bounds-text-i-2
bounds-text-i-2 c = omega arith

pub shape_of-text : goal.shape_of-text
shape_of-text c = simp length-set (omega arith)

pub returns : goal.returns
returns c = let l = c.loop-rest in decimal_end l.text c.args.at l.i l.rest _ (omega arith) (omega arith) l.invariant.3
