-- `table::all_apart` meets its contract. The invariant is `Down`: the values from `at` on are apart, and none of them but 0 is below `low`.
use Rattle.std.proofs.Common.{◌-◌, get_or, refl, sym, ◌∙◌, arith}
use Rattle.table.proofs.Fitting.{down_start, down_lower, down_other, down_twice}
use Rattle.table.proofs.all_apart.Goals as goal

pub loop-at-init : goal.loop-at-init
loop-at-init c = down_start c.args.values.now 4294967295

pub loop-at-preserved-then-values-at : goal.loop-at-preserved-then-values-at
loop-at-preserved-then-values-at c =
    let l = c.loop-at in
    let xs = c.args.values.now in
    down_lower xs l.at l.low l.invariant (l.at - 1) (omega (arith, c.loop-at-test.true)) (get_or xs (l.at - 1) 0) c.lower-low.result refl c.if-values-at.true c.lower-low.ensures

pub returns-then-stands_later : goal.returns-then-stands_later
returns-then-stands_later c =
    let l = c.loop-at in
    let xs = c.args.values.now in
    sym (down_twice xs (l.at - 1) (omega (arith, l.invariant.size, c.loop-at-test.true)) (sym c.stands_later.ensures ∙ c.if-stands_later.true))

pub loop-at-preserved : goal.loop-at-preserved
loop-at-preserved c =
    let l = c.loop-at in
    let xs = c.args.values.now in
    down_other xs l.at l.low l.invariant (l.at - 1) (omega (arith, c.loop-at-test.true)) c.if-values-at.false (sym c.stands_later.ensures ∙ c.if-stands_later.false)
