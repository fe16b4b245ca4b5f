use native.Mathlib.Omega.{arith}
use Rattle.std.proofs.lemmas.Result.{err_from_is_err_and}
use Rattle.readings.proofs.ConstantLaws as laws
use Rattle.readings.proofs.ConstantLaws.{operator_small}
use Rattle.paper.proofs.constant.number.Goals as goal

pub overflow_mul-operator_number : goal.overflow_mul-operator_number
overflow_mul-operator_number c = omega (arith, operator_small c.args.c, c.operator_number.ensures)

pub overflow_add-operator_number : goal.overflow_add-operator_number
overflow_add-operator_number c = omega (arith, operator_small c.args.c, c.operator_number.ensures)

pub put_head-m-requires : goal.put_head-m-requires
put_head-m-requires c = let b = c in omega (arith, b.requires.0, b.requires.1, b.well_formed.0.1)

pub put_number-k-requires : goal.put_number-k-requires
put_number-k-requires c =
    let b3 = c in
    let b7 = b3 in
    let b9 = b7 in
    let b12 = b9 in
    let b = b12 in
    let a = b.args in
    let x = b9.number_at in
    let r = laws.was_number a.text.now a.at a.id b.requires.2 x.result _ x.ensures b7.in_ok-v.was in
    (omega (arith, b3.put_head-m.ensures.value, b.requires.0, b.requires.1, b.well_formed.0.1), r.good)

pub returns-in_err-v : goal.returns-in_err-v
returns-in_err-v c =
    let a = c.args in
    let w = c.in_err-v.field-0.0 in
    let r = laws.was_number a.text.now a.at a.id c.requires.2 c.number_at.result _ c.number_at.ensures c.in_err-v.was in
    let p = err_from_is_err_and c.from_residual.result c.from_residual.ensures.1 in
    rw (p.1, p.2) (laws.number_wrong a.text.now a.at a.id a.c a.out.now a.n w.at w.reason a.out.now r)

pub returns : goal.returns
returns c =
    let b = c in
    let a = b.args in
    let x = c.number_at in
    let o = c.operator_number in
    let h = c.put_head-m in
    let k = c.put_number-k in
    let r = laws.was_number a.text.now a.at a.id b.requires.2 x.result _ x.ensures c.in_ok-v.was in
    laws.number_is a.text.now a.at a.id a.c a.out.now a.n c.in_ok-v.v c.in_ok-v.size c.in_ok-v.q h.result k.result h.new.out
    k.new.out r h.ensures.value k.ensures.value (rw o.ensures at h.ensures.out_after) k.ensures.out_after
