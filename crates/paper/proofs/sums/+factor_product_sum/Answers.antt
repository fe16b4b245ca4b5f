use Rattle.std.proofs.Common.{arith}
use Rattle.std.proofs.lemmas.Result.{err_from_is_err_and}
use Rattle.readings.proofs.Readers as readers
use Rattle.paper.proofs.sums.+factor_product_sum.Goals as goal

pub factor-returns-in-Relation : goal.factor-returns-in-Relation
factor-returns-in-Relation t c =
    let a = c.args in
    readers.factor_relation a.text.now a.at a.left a.out.now a.n c.in-Relation.q c.in-Relation.ensures c.relation.result _ c.relation.ensures

pub factor-returns-in_ok-q-in-Open : goal.factor-returns-in_ok-q-in-Open
factor-returns-in_ok-q-in-Open t c =
    let a = c.args in
    readers.factor_close a.text.now a.at a.left a.out.now a.n c.in-Open.e c.in-Open.ensures c.in_ok-q-in-Open.q c.in_ok-q-in-Open.m c.sum.new.out c.in_ok-q-in-Open.ensures
    c.close.result c.close.ensures

pub product-loop-out-init : goal.product-loop-out-init
product-loop-out-init t c =
    let f = c.in_ok-e.ensures in
    readers.grown_none c.args.text.now c.args.left c.in_ok-e.e c.in_ok-e.k c.factor.new.out (omega (arith, f.few, f.count, c.requires.1)) f.within

pub product-returns-in-Other : goal.product-returns-in-Other
product-returns-in-Other t c =
    let a = c.args in
    let l = c.loop-out in
    let q = c.blanks-q in
    readers.product_ends a.text.now a.left c.in_ok-e.e c.in_ok-e.k c.factor.new.out l.p l.m l.out l.invariant q.result q.ensures
    a.at a.out.now a.n c.in_ok-e.ensures
    (readers.was_joiner a.text.now q.result 38 c.join_at.result c.join_at.ensures _ c.in-Other.is)

pub product-returns-in-Half : goal.product-returns-in-Half
product-returns-in-Half t c =
    let a = c.args in
    let l = c.loop-out in
    let q = c.blanks-q in
    let j = readers.was_joiner a.text.now q.result 38 c.join_at.result c.join_at.ensures _ c.in-Half.is in
    readers.product_half a.text.now a.left c.in_ok-e.e c.in_ok-e.k c.factor.new.out l.p l.m l.out l.invariant q.result q.ensures j.0
    a.at a.out.now a.n l.out c.in_ok-e.ensures j.1

pub product-factor-requires-in-Whole : goal.product-factor-requires-in-Whole
product-factor-requires-in-Whole t c =
    let a = c.args in
    let l = c.loop-out in
    let q = c.blanks-q in
    let j = readers.was_joiner a.text.now q.result 38 c.join_at.result c.join_at.ensures _ c.in-Whole.is in (
      omega (arith, c.decreases),
      (
        readers.and_in a.text.now a.left c.in_ok-e.e c.in_ok-e.k c.factor.new.out l.p l.m l.out l.invariant q.result q.ensures j.0 j.1,
        omega (arith, l.invariant.behind, q.ensures.forward),
      ),
    )

pub product-returns-in_err-y-in-Whole : goal.product-returns-in_err-y-in-Whole
product-returns-in_err-y-in-Whole t c =
    let a = c.args in
    let l = c.loop-out in
    let q = c.blanks-q in
    let w = c.in_err-y-in-Whole.field-0.0 in
    let j = readers.was_joiner a.text.now q.result 38 c.join_at.result c.join_at.ensures _ c.in-Whole.is in
    let p = err_from_is_err_and c.from_residual-in_err-y-in-Whole.result c.from_residual-in_err-y-in-Whole.ensures.1 in
    rw (p.1, p.2)
    (readers.product_wrong a.text.now a.left c.in_ok-e.e c.in_ok-e.k c.factor.new.out l.p l.m l.out l.invariant q.result q.ensures j.0 j.1
    a.at a.out.now a.n c.factor-in-Whole.new.out w.at w.reason c.in_ok-e.ensures c.in_err-y-in-Whole.ensures)

pub product-loop-out-preserved : goal.product-loop-out-preserved
product-loop-out-preserved t c =
    let a = c.args in
    let l = c.loop-out in
    let q = c.blanks-q in
    let j = readers.was_joiner a.text.now q.result 38 c.join_at.result c.join_at.ensures _ c.in-Whole.is in
    readers.grown_more a.text.now a.left c.in_ok-e.e c.in_ok-e.k c.factor.new.out l.p l.m l.out l.invariant q.result q.ensures j.0 j.1
    c.in_ok-y-in-Whole.y c.in_ok-y-in-Whole.h c.put-m.result c.factor-in-Whole.new.out c.put-m.new.out c.in_ok-y-in-Whole.ensures c.put-m.ensures.value c.put-m.ensures.out_after

pub sum-loop-out-init : goal.sum-loop-out-init
sum-loop-out-init t c =
    let a = c.args in
    readers.summed_none a.text.now a.at a.left a.out.now a.n c.in_ok-e.e c.in_ok-e.k c.product.new.out c.requires.1 c.in_ok-e.ensures

pub sum-returns-in-Other : goal.sum-returns-in-Other
sum-returns-in-Other t c =
    let a = c.args in
    let l = c.loop-out in
    readers.sum_ends a.text.now a.left c.in_ok-e.e c.in_ok-e.k c.product.new.out l.p l.m l.out l.invariant a.at a.out.now a.n c.in_ok-e.ensures
    (readers.was_joiner a.text.now l.p 124 c.join_at.result c.join_at.ensures _ c.in-Other.is)

pub sum-returns-in-Half : goal.sum-returns-in-Half
sum-returns-in-Half t c =
    let a = c.args in
    let l = c.loop-out in
    let j = readers.was_joiner a.text.now l.p 124 c.join_at.result c.join_at.ensures _ c.in-Half.is in
    readers.sum_half a.text.now a.left c.in_ok-e.e c.in_ok-e.k c.product.new.out l.p l.m l.out l.invariant j.0
    a.at a.out.now a.n l.out c.in_ok-e.ensures j.1

pub sum-product-requires-in-Whole : goal.sum-product-requires-in-Whole
sum-product-requires-in-Whole t c =
    let a = c.args in
    let l = c.loop-out in
    let j = readers.was_joiner a.text.now l.p 124 c.join_at.result c.join_at.ensures _ c.in-Whole.is in (
      omega (arith, c.decreases),
      (
        readers.or_in a.text.now a.left c.in_ok-e.e c.in_ok-e.k c.product.new.out l.p l.m l.out l.invariant j.0 j.1,
        omega (arith, l.invariant.behind),
      ),
    )

pub sum-returns-in_err-y-in-Whole : goal.sum-returns-in_err-y-in-Whole
sum-returns-in_err-y-in-Whole t c =
    let a = c.args in
    let l = c.loop-out in
    let w = c.in_err-y-in-Whole.field-0.0 in
    let j = readers.was_joiner a.text.now l.p 124 c.join_at.result c.join_at.ensures _ c.in-Whole.is in
    let p = err_from_is_err_and c.from_residual-in_err-y-in-Whole.result c.from_residual-in_err-y-in-Whole.ensures.1 in
    rw (p.1, p.2)
    (readers.sum_wrong a.text.now a.left c.in_ok-e.e c.in_ok-e.k c.product.new.out l.p l.m l.out l.invariant j.0 j.1
    a.at a.out.now a.n c.product-in-Whole.new.out w.at w.reason c.in_ok-e.ensures c.in_err-y-in-Whole.ensures)

pub sum-loop-out-preserved : goal.sum-loop-out-preserved
sum-loop-out-preserved t c =
    let a = c.args in
    let l = c.loop-out in
    let j = readers.was_joiner a.text.now l.p 124 c.join_at.result c.join_at.ensures _ c.in-Whole.is in
    readers.summed_more a.text.now a.left c.in_ok-e.e c.in_ok-e.k c.product.new.out l.p l.m l.out l.invariant j.0 j.1
    c.in_ok-y-in-Whole.y c.in_ok-y-in-Whole.h c.put-m.result c.product-in-Whole.new.out c.put-m.new.out c.in_ok-y-in-Whole.ensures c.put-m.ensures.value c.put-m.ensures.out_after
