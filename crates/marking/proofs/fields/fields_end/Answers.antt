use Rattle.std.proofs.Common.{◌≡◌, ◌+◌, ◌-◌, refl, ◌∙◌, arith}
use Rattle.marking.proofs.TabLaws.{ends_here, field_on, field_last, field_most}
use Rattle.marking.proofs.fields.fields_end.Goals as goal

pub loop-passed-init : goal.loop-passed-init
loop-passed-init c = let z : c.args.further - 0 ≡ c.args.further = omega arith in (omega arith, rw z (omega arith))

pub near_tab-requires : goal.near_tab-requires
near_tab-requires c = tt

pub overflow_add-end : goal.overflow_add-end
overflow_add-end c = let l = c.loop-passed in omega (arith, field_most c.args.line.now l.at (c.args.further - l.passed) c.near_tab.result l.invariant.0 c.near_tab.ensures)

pub returns-then-line-end : goal.returns-then-line-end
returns-then-line-end c = let l = c.loop-passed in ends_here c.args.line.now l.at (c.args.further - l.passed) c.near_tab.result l.invariant.0 c.near_tab.ensures _ refl c.if-line-end.true ∙ l.invariant.1

pub overflow_add-at : goal.overflow_add-at
overflow_add-at c = omega arith

pub loop-passed-preserved : goal.loop-passed-preserved
loop-passed-preserved c =
    let l = c.loop-passed in
    let z : c.args.further - (l.passed + 1) ≡ c.args.further - l.passed - 1 = omega arith in
    (omega arith, rw z (field_on c.args.line.now l.at (c.args.further - l.passed) c.near_tab.result l.invariant.0 c.near_tab.ensures _ refl (omega arith) (omega arith) ∙ l.invariant.1))

pub far_tab-requires : goal.far_tab-requires
far_tab-requires c = tt

pub overflow_add-result : goal.overflow_add-result
overflow_add-result c = let l = c.loop-passed in omega (arith, field_most c.args.line.now l.at (c.args.further - l.passed) c.far_tab.result l.invariant.0 c.far_tab.ensures)

pub returns : goal.returns
returns c = let l = c.loop-passed in field_last c.args.line.now l.at (c.args.further - l.passed) c.far_tab.result l.invariant.0 c.far_tab.ensures _ refl (omega arith) ∙ l.invariant.1
