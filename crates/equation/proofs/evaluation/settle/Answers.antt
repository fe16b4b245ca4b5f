-- `equation::evaluation::settle` meets its contract. Assumes nothing.
use native.Mathlib.Omega.{arith}
use Rattle.equation.proofs.MarkLaws as marks
use Rattle.equation.proofs.evaluation.settle.Goals as goal
use Rattle.equation.proofs.evaluation.settle.Goals.{then-at-lt2048+else-truths-k, else-at-lt2048}

pub loop-step-init : goal.loop-step-init
loop-step-init c = let a = c.args in marks.settle_start (record { id = a.id; bytes = a.item.now }) a.eq.now a.steps.now a.truths.now

pub shape_of-truths-then-truths-k : goal.shape_of-truths-then-truths-k
shape_of-truths-then-truths-k c = c.loop-step.invariant.sized

pub returns-then-truths-k : goal.returns-then-truths-k
returns-then-truths-k c =
    let l = c.loop-step in
    let a = c.args in
    marks.settle_full (record { id = a.id; bytes = a.item.now }) a.eq.now a.steps.now a.truths.now l.truths l.step-index l.k l.invariant c.if-truths-k.true

pub loop-step-preserved : goal.loop-step-preserved
loop-step-preserved c =
    let l = c.loop-step in
    let a = c.args in
    elim c.if-at-lt2048.branch [
      | then-at-lt2048+else-truths-k w ↦
          rw (w.truths-is, w.k-is)
          (marks.settle_rel (record { id = a.id; bytes = a.item.now }) a.eq.now a.steps.now a.truths.now l.truths l.step-index l.k l.invariant c.loop-step-test.true w.mark.result (omega (arith, c.from-at.ensures, w.if-at-lt2048.true)) (omega (arith, w.if-truths-k.false)) (rw c.from-at.ensures at w.mark.ensures))
      | else-at-lt2048 w ↦
          rw (w.truths-is, w.k-is)
          (marks.settle_other (record { id = a.id; bytes = a.item.now }) a.eq.now a.steps.now a.truths.now l.truths l.step-index l.k l.invariant c.loop-step-test.true (omega (arith, c.from-at.ensures, w.if-at-lt2048.false)))
    ]

pub shape_of-truths : goal.shape_of-truths
shape_of-truths c = c.loop-step.invariant.sized

pub returns : goal.returns
returns c =
    let l = c.loop-step in
    let a = c.args in
    marks.settle_end (record { id = a.id; bytes = a.item.now }) a.eq.now a.steps.now a.truths.now l.truths l.step-index l.k l.invariant c.loop-step-test.false
