-- `equation::evaluation::settle_items` meets its contract. Assumes nothing.
use mathlib.Core.Path.{sym, ◌∙◌}
use native.Mathlib.Omega.{arith}
use borrow.Author.Rules.{rules}
use Rattle.equation.specs.Parsed.{relations_by}
use Rattle.header.proofs.Walk as walks
use Rattle.equation.proofs.MarkLaws as marks
use Rattle.equation.proofs.evaluation.settle_items.Goals as goal

pub loop-id-init : goal.loop-id-init
loop-id-init c = marks.walk_start (relations_by c.args.eq.now c.args.steps.now) c.args.file.now c.args.truths.now

pub overflow_add-start : goal.overflow_add-start
overflow_add-start c = omega (arith, walks.item_within c.args.file.now c.loop-id.at c.in-Item.id c.in-Item.n (sym c.in-Item.ensures))

pub overflow_add-end : goal.overflow_add-end
overflow_add-end c = omega (arith, walks.item_within c.args.file.now c.loop-id.at c.in-Item.id c.in-Item.n (sym c.in-Item.ensures))

pub slice_bounds-settle-count : goal.slice_bounds-settle-count
slice_bounds-settle-count c = omega (arith, walks.item_within c.args.file.now c.loop-id.at c.in-Item.id c.in-Item.n (sym c.in-Item.ensures))

pub slice_bounds-settle-start : goal.slice_bounds-settle-start
slice_bounds-settle-start c =
    let w = walks.item_within c.args.file.now c.loop-id.at c.in-Item.id c.in-Item.n (sym c.in-Item.ensures) in
    search rules

pub slice_bounds-settle-end : goal.slice_bounds-settle-end
slice_bounds-settle-end c =
    let w = walks.item_within c.args.file.now c.loop-id.at c.in-Item.id c.in-Item.n (sym c.in-Item.ensures) in
    search rules

pub loop-id-smaller : goal.loop-id-smaller
loop-id-smaller c = omega (arith, walks.item_within c.args.file.now c.loop-id.at c.in-Item.id c.in-Item.n (sym c.in-Item.ensures))

pub loop-id-preserved : goal.loop-id-preserved
loop-id-preserved c =
    let l = c.loop-id in
    marks.walk_item (relations_by c.args.eq.now c.args.steps.now) c.args.file.now c.args.truths.now l.truths l.at l.invariant c.in-Item.id c.in-Item.n _ (sym c.in-Item.ensures) c.settle.ensures

pub returns : goal.returns
returns c =
    let l = c.loop-id in
    marks.walk_over (relations_by c.args.eq.now c.args.steps.now) c.args.file.now c.args.truths.now l.truths l.at l.invariant (λ i n e. c.in_default.not-Item i n (c.read_head.ensures ∙ e))
