use mathlib.Core.Path.{refl}
use Prim.Native.Nat.{◌/◌}
use native.Mathlib.Omega.{arith}
use lib.ListN.{length-set}
use Rattle.lines.proofs.TextLaws.{digits_more, digits_some}
use Rattle.lines.proofs.Writing.{decimal_step, decimal_end}
use Rattle.replies.proofs.push_decimal.Goals as goal

pub overflow_add-i : goal.overflow_add-i
overflow_add-i c = omega (arith, c.width-digits.ensures)

pub overflow_sub-i : goal.overflow_sub-i
overflow_sub-i c = omega (arith, c.width-digits.ensures, digits_some c.args.v)

pub loop-rest-init : goal.loop-rest-init
loop-rest-init c = let some = digits_some c.args.v in (refl, omega (arith, c.width-digits.ensures), omega arith, refl)

pub overflow_cast-out : goal.overflow_cast-out
overflow_cast-out c = omega arith

pub overflow_add-out : goal.overflow_add-out
overflow_add-out c = omega arith

pub bounds-out-i : goal.bounds-out-i
bounds-out-i c = omega arith

pub overflow_sub-i-in-loop-rest : goal.overflow_sub-i-in-loop-rest
overflow_sub-i-in-loop-rest c = omega (arith, digits_more c.loop-rest.rest (omega arith), digits_some (c.loop-rest.rest / 10))

pub loop-rest-smaller : goal.loop-rest-smaller
loop-rest-smaller c = omega arith

pub loop-rest-preserved : goal.loop-rest-preserved
loop-rest-preserved c =
    let l = c.loop-rest in
    let more = digits_more l.rest (omega arith) in let some = digits_some (l.rest / 10) in (
      simp length-set (omega arith),
      omega arith,
      omega arith,
      decimal_step l.out c.args.n l.i l.rest _ (omega arith) (omega arith) l.invariant.3,
    )

pub overflow_cast-out-2 : goal.overflow_cast-out-2
overflow_cast-out-2 c = omega arith

pub overflow_add-out-2 : goal.overflow_add-out-2
overflow_add-out-2 c = omega arith

pub bounds-out-i-2 : goal.bounds-out-i-2
bounds-out-i-2 c = omega arith

pub overflow_add-result : goal.overflow_add-result
overflow_add-result c = omega (arith, c.width-digits.ensures)

pub shape_of-out : goal.shape_of-out
shape_of-out c = simp length-set (omega arith)

pub returns : goal.returns
returns c =
    let l = c.loop-rest in record { value = rw c.width-digits.ensures; out_after = decimal_end l.out c.args.n l.i l.rest _ (omega arith) (omega arith) l.invariant.3 }
