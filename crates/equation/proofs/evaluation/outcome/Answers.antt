-- `equation::evaluation::outcome` meets its contract. Assumes nothing.
use mathlib.Core.Path.{◌∙◌}
use native.Mathlib.Omega.{arith}
use Rattle.equation.proofs.Runs as runs
use Rattle.equation.proofs.evaluation.outcome.Goals as goal
use Rattle.equation.proofs.evaluation.outcome.Goals.{then-s-lt2048+else-d-ge100, else-s-lt2048+else-s-gt2049+else-d-lt2, then-s-gt2049-via-then-s-gt2049, then-s-gt2049-via-else-s-gt2049+then-d-lt2}

pub loop-step-init : goal.loop-step-init
loop-step-init c = runs.run_start c.args.steps.now c.args.truths.now

pub returns-then-d-ge100 : goal.returns-then-d-ge100
returns-then-d-ge100 c =
    let l = c.loop-step in
    let a = c.args in
    runs.run_full a.steps.now a.truths.now l.st l.d l.step-index l.k l.invariant c.loop-step-test.true c.if-s-lt2048.true c.if-d-ge100.true

pub loop-step-preserved : goal.loop-step-preserved
loop-step-preserved c =
    let l = c.loop-step in
    let a = c.args in
    elim c.if-s-lt2048.branch [
      | then-s-lt2048+else-d-ge100 w ↦
          rw (w.st-is, w.d-is, w.k-is)
          (runs.run_rel a.steps.now a.truths.now l.st l.d l.step-index l.k l.invariant c.loop-step-test.true w.if-s-lt2048.true w.marked_true.result (omega (arith, w.if-d-ge100.false)) w.marked_true.ensures)
      | else-s-lt2048+else-s-gt2049+else-d-lt2 w ↦
          rw (w.st-is, w.d-is, w.k-is)
          (runs.run_join a.steps.now a.truths.now l.st l.d l.step-index l.k l.invariant c.loop-step-test.true w.if-s-lt2048.false w.if-s-gt2049.false w.combined.result w.if-d-lt2.false w.combined.ensures)
    ]

pub returns : goal.returns
returns c =
    let l = c.loop-step in
    let a = c.args in
    c.finish.ensures ∙ runs.run_end a.steps.now a.truths.now l.st l.d l.step-index l.k l.invariant c.loop-step-test.false

pub returns-then-s-gt2049 : goal.returns-then-s-gt2049
returns-then-s-gt2049 c =
    let l = c.loop-step in
    let a = c.args in
    elim c.then-s-gt2049.branch [
      | then-s-gt2049-via-then-s-gt2049 w ↦ runs.run_bad a.steps.now a.truths.now l.st l.d l.step-index l.k l.invariant c.loop-step-test.true w.if-s-gt2049.true
      | then-s-gt2049-via-else-s-gt2049+then-d-lt2 w ↦
          runs.run_few a.steps.now a.truths.now l.st l.d l.step-index l.k l.invariant c.loop-step-test.true c.if-s-lt2048.false w.if-s-gt2049.false w.if-d-lt2.true
    ]
