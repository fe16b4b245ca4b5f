use native.Mathlib.Omega.{arith}
use Rattle.readings.proofs.ConstantLaws as laws
use Rattle.paper.proofs.constant.relation.Goals as goal

pub blanks-q-requires : goal.blanks-q-requires
blanks-q-requires c =
    let b3 = c in
    let b6 = b3 in
    let a = b6.args in
    (laws.was_item a.text.now a.at b6.requires.0 b6.requires.2 b6.requires.3 b3.item_at.result _ b3.item_at.ensures
    c.in-Ok.is).within

pub blanks-d-requires : goal.blanks-d-requires
blanks-d-requires c =
    let b3 = c in
    let b4 = b3 in
    let b11 = b4 in
    let a = b11.args in
    (laws.was_sign a.text.now b4.blanks-q.result b3.sign_at.result _ b4.blanks-q.ensures.stops b3.sign_at.ensures
    c.in-Ok-sign_at.is).within

pub constant_at-requires : goal.constant_at-requires
constant_at-requires c =
    let b3 = c in
    let b5 = b3 in
    let b6 = b5 in
    let b8 = b6 in
    let b10 = b8 in
    let b13 = b10 in
    let a = b13.args in (
      c.blanks-d.ensures.within,
      omega (
        arith,
        b13.requires.1,
        laws.far a.text.now a.at a.out.now a.n b8.in-Ok.id
            b8.in-Ok.e (laws.was_item a.text.now a.at b13.requires.0 b13.requires.2 b13.requires.3 b10.item_at.result _
            b10.item_at.ensures b8.in-Ok.is) b6.blanks-q.result b6.blanks-q.ensures b3.in-Ok-sign_at.c b3.in-Ok-sign_at.k
            (laws.was_sign a.text.now b6.blanks-q.result b5.sign_at.result _ b6.blanks-q.ensures.stops b5.sign_at.ensures
            b3.in-Ok-sign_at.is) c.blanks-d.result c.blanks-d.ensures,
      ),
      c.blanks-d.ensures.stops,
    )

pub returns-in-Err : goal.returns-in-Err
returns-in-Err c =
    let b3 = c in
    let b6 = b3 in
    let a = b6.args in
    laws.was_item a.text.now a.at b6.requires.0 b6.requires.2 b6.requires.3 b3.item_at.result _ b3.item_at.ensures c.in-Err.is

pub returns-in-Err-sign_at : goal.returns-in-Err-sign_at
returns-in-Err-sign_at c =
    let b3 = c in
    let b4 = b3 in
    let b6 = b4 in
    let b8 = b6 in
    let b11 = b8 in
    let a = b11.args in
    laws.no_sign a.text.now a.at a.out.now a.n b6.in-Ok.id b6.in-Ok.e
    (laws.was_item a.text.now a.at b11.requires.0 b11.requires.2 b11.requires.3 b8.item_at.result _ b8.item_at.ensures b6.in-Ok.is)
    b4.blanks-q.result b4.blanks-q.ensures c.in-Err-sign_at.at a.out.now
    (laws.was_sign a.text.now b4.blanks-q.result b3.sign_at.result _ b4.blanks-q.ensures.stops b3.sign_at.ensures
    c.in-Err-sign_at.is)

pub returns-in-Ok-sign_at : goal.returns-in-Ok-sign_at
returns-in-Ok-sign_at c =
    let b4 = c in
    let b6 = b4 in
    let b8 = b6 in
    let b9 = b8 in
    let b11 = b9 in
    let b13 = b11 in
    let b16 = b13 in
    let a = b16.args in
    let k = c.constant_at in
    laws.relation_read a.text.now a.at a.out.now a.n b11.in-Ok.id b11.in-Ok.e
    (laws.was_item a.text.now a.at b16.requires.0 b16.requires.2 b16.requires.3 b13.item_at.result _ b13.item_at.ensures b11.in-Ok.is)
    b9.blanks-q.result b9.blanks-q.ensures b6.in-Ok-sign_at.c b6.in-Ok-sign_at.k
    (laws.was_sign a.text.now b9.blanks-q.result b8.sign_at.result _ b9.blanks-q.ensures.stops b8.sign_at.ensures
    b6.in-Ok-sign_at.is) b4.blanks-d.result b4.blanks-d.ensures k.result _ k.ensures
