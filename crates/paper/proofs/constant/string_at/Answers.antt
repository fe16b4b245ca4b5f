use native.Mathlib.Omega.{arith}
use Rattle.std.proofs.lemmas.Result.{err_from_is_err_and}
use Rattle.readings.proofs.ConstantLaws as laws
use Rattle.readings.proofs.ConstantLaws.{operator_small}
use Rattle.paper.proofs.constant.string_at.Goals as goal

pub overflow_mul-operator_number : goal.overflow_mul-operator_number
overflow_mul-operator_number c =
    let o = c.operator_number in
    omega (arith, operator_small c.args.c, o.ensures)

pub overflow_add-operator_number : goal.overflow_add-operator_number
overflow_add-operator_number c =
    let o = c.operator_number in
    omega (arith, operator_small c.args.c, o.ensures)

pub put_head-m-requires : goal.put_head-m-requires
put_head-m-requires c =
    let b4 = c in
    omega (arith, b4.requires.0, b4.requires.1, b4.well_formed.0.1)

pub overflow_sub-k : goal.overflow_sub-k
overflow_sub-k c =
    let b6 = c in
    let b10 = b6 in
    let b15 = b10 in
    let a = b15.args in
    let h = b10.put_head-m in
    let k = b6.characters in
    let s = laws.was_string a.text.now a.at h.new.out h.result k.result _ k.new.out k.ensures c.in_ok-e.was in
    omega (arith, s.count)

pub overflow_cast-k : goal.overflow_cast-k
overflow_cast-k c =
    let b6 = c in
    let b10 = b6 in
    let b15 = b10 in
    let a = b15.args in
    let h = b10.put_head-m in
    let k = b6.characters in
    let s = laws.was_string a.text.now a.at h.new.out h.result k.result _ k.new.out k.ensures c.in_ok-e.was in
    omega (arith, s.count, s.short)

pub returns-in_err-e : goal.returns-in_err-e
returns-in_err-e c =
    let a = c.args in
    let w = c.in_err-e.field-0.0 in
    let h = c.put_head-m in
    let k = c.characters in
    let s = laws.was_string a.text.now a.at h.new.out h.result k.result _ k.new.out k.ensures c.in_err-e.was in
    let p = err_from_is_err_and c.from_residual.result c.from_residual.ensures.1 in
    rw (p.1, p.2) (laws.string_constant_wrong a.text.now a.at a.id a.c a.out.now a.n h.result h.new.out w.at w.reason k.new.out k.new.out s)

pub returns : goal.returns
returns c =
    let b5 = c in
    let b9 = b5 in
    let b13 = b9 in
    let b14 = b13 in
    let b18 = b14 in
    let a = b18.args in
    let h = b13.put_head-m in
    let k = b9.characters in
    let q = c.put_at in
    laws.string_constant a.text.now a.at a.id a.c a.out.now a.n h.result h.new.out b5.in_ok-e.e b5.in_ok-e.k
    k.new.out q.new.out (laws.was_string a.text.now a.at h.new.out h.result k.result _ k.new.out k.ensures
    b5.in_ok-e.was) h.ensures.value (rw b14.operator_number.ensures at h.ensures.out_after) q.ensures
