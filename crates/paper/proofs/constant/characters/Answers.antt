use native.Mathlib.Omega.{arith}
use Rattle.readings.proofs.ConstantLaws as laws
use lib.Seq.{length-sets}
use Rattle.paper.proofs.constant.characters.Goals as goal

pub loop-at-init : goal.loop-at-init
loop-at-init c =
    let a = c.args in
    laws.spelling_none a.text.now a.at a.n a.out.now c.requires.0

pub overflow_sub-m : goal.overflow_sub-m
overflow_sub-m c = omega (arith, c.loop-at.invariant.count)

pub overflow_add-result : goal.overflow_add-result
overflow_add-result c = omega (arith, c.loop-at.invariant.within, c.well_formed.0.0)

pub shape_of-out-in-End : goal.shape_of-out-in-End
shape_of-out-in-End c =
    let b3 = c in
    let b6 = b3 in
    rw b3.loop-at.invariant.bytes (length-sets b6.args.out.now b6.args.n b3.loop-at.invariant.content)

pub returns-in-End : goal.returns-in-End
returns-in-End c =
    let b3 = c in
    let b6 = b3 in
    let a = b6.args in
    let l = b3.loop-at in
    let x = c.character_at in
    laws.string_ends a.text.now a.at a.n a.out.now l.p l.m l.stars l.out l.invariant
    (laws.was_character a.text.now a.at a.n a.out.now l.p l.m l.stars l.out l.invariant x.result _ x.ensures
    c.in-End.is)

pub shape_of-out-in-Wrong : goal.shape_of-out-in-Wrong
shape_of-out-in-Wrong c =
    let b4 = c in
    let b7 = b4 in
    rw b4.loop-at.invariant.bytes (length-sets b7.args.out.now b7.args.n b4.loop-at.invariant.content)

pub returns-in-Wrong : goal.returns-in-Wrong
returns-in-Wrong c =
    let b3 = c in
    let b4 = b3 in
    let b7 = b4 in
    let a = b7.args in
    let l = b4.loop-at in
    let x = b3.character_at in
    laws.string_wrong a.text.now a.at a.n a.out.now l.p l.m l.stars l.out l.invariant c.in-Wrong.at
    c.in-Wrong.reason l.out (laws.was_character a.text.now a.at a.n a.out.now l.p l.m l.stars l.out l.invariant
    x.result _ x.ensures c.in-Wrong.is)

pub put-m-requires : goal.put-m-requires
put-m-requires c =
    let b5 = c in
    let b8 = b5 in
    omega (arith, b5.loop-at.invariant.count, b5.loop-at.invariant.few, b5.loop-at.invariant.within, b8.requires.1, b8.well_formed.0.1)

pub counted-stars-requires : goal.counted-stars-requires
counted-stars-requires c =
    let a = c.args in
    let l = c.loop-at in
    omega (arith, laws.few_stars a.text.now a.at a.n a.out.now l.p l.m l.stars l.out l.invariant)

pub loop-at-smaller : goal.loop-at-smaller
loop-at-smaller c =
    let b6 = c in
    let b8 = b6 in
    let b9 = b8 in
    let b12 = b9 in
    let a = b12.args in
    let l = b9.loop-at in
    let x = b8.character_at in
    let w1 = laws.was_character a.text.now a.at a.n a.out.now l.p l.m l.stars l.out l.invariant x.result _ x.ensures
    b6.in-Is.is in
    omega (arith, w1.forward, w1.within)

pub loop-at-preserved : goal.loop-at-preserved
loop-at-preserved c =
    let b3 = c in
    let b6 = b3 in
    let b8 = b6 in
    let b9 = b8 in
    let b12 = b9 in
    let a = b12.args in
    let l = b9.loop-at in
    let x = b8.character_at in
    let y = b3.put-m in
    let z = c.counted-stars in
    laws.spelling_more a.text.now a.at a.n a.out.now l.p l.m l.stars l.out l.invariant b6.in-Is.b b6.in-Is.e
    y.result z.result y.new.out (laws.was_character a.text.now a.at a.n a.out.now l.p l.m l.stars l.out l.invariant
    x.result _ x.ensures b6.in-Is.is) y.ensures.value y.ensures.out_after z.ensures
