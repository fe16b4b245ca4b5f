-- `why::reasons::decide` meets its contract.
use native.Mathlib.Omega.{arith}
use Rattle.why.proofs.Stacks.{two}
use Rattle.why.proofs.Passes as passes
use Rattle.why.proofs.reasons.decide.Goals as goal
use Rattle.why.proofs.reasons.decide.Goals.{then-s-lt2048+else-d-ge100, else-s-lt2048+else-s-gt2049+else-d-lt2, then-s-gt2049-via-then-s-gt2049, then-s-gt2049-via-else-s-gt2049+then-d-lt2}

pub loop-step-init : goal.loop-step-init
loop-step-init c =
    let a = c.args in
    passes.pass_start a.steps.now a.truths.now a.row.now c.requires.0 c.requires.2

pub shape_of-row-then-d-ge100 : goal.shape_of-row-then-d-ge100
shape_of-row-then-d-ge100 c =
    let l = c.loop-step in
    omega (arith, l.invariant.row_size, c.requires.2)

pub returns-then-d-ge100 : goal.returns-then-d-ge100
returns-then-d-ge100 c =
    let l = c.loop-step in
    let a = c.args in
    passes.pass_full a.steps.now a.truths.now l.bits l.from l.row l.d l.n l.step-index l.k l.invariant
    c.loop-step-test.true c.if-s-lt2048.true _ c.if-d-ge100.true

pub bounds-truths-k : goal.bounds-truths-k
bounds-truths-k c =
    let l = c.loop-step in
    let a = c.args in
    let r = passes.push_room a.steps.now a.truths.now l.bits l.from l.row l.d l.n l.step-index l.k l.invariant
    c.loop-step-test.true c.if-s-lt2048.true in
    omega (arith, r.0, r.1, l.invariant.row_size, c.requires.1)

pub bounds-bits-d : goal.bounds-bits-d
bounds-bits-d c = let l = c.loop-step in omega (arith, l.invariant.in_stack)

pub offset_bounds-from-d : goal.offset_bounds-from-d
offset_bounds-from-d c = let l = c.loop-step in omega (arith, l.invariant.in_stack)

pub bounds-from-d : goal.bounds-from-d
bounds-from-d c = let l = c.loop-step in omega (arith, l.invariant.in_stack)

pub overflow_add-k : goal.overflow_add-k
overflow_add-k c =
    let l = c.loop-step in
    let a = c.args in
    let r = passes.push_room a.steps.now a.truths.now l.bits l.from l.row l.d l.n l.step-index l.k l.invariant
    c.loop-step-test.true c.if-s-lt2048.true in
    omega (arith, r.0, r.1, l.invariant.row_size, c.requires.1)

pub overflow_cast-row : goal.overflow_cast-row
overflow_cast-row c =
    let l = c.loop-step in
    let a = c.args in
    let r = passes.push_room a.steps.now a.truths.now l.bits l.from l.row l.d l.n l.step-index l.k l.invariant
    c.loop-step-test.true c.if-s-lt2048.true in
    omega (arith, r.0, r.1, l.invariant.row_size, c.requires.1)

pub offset_bounds-row-n : goal.offset_bounds-row-n
offset_bounds-row-n c =
    let l = c.loop-step in
    let a = c.args in
    let r = passes.push_room a.steps.now a.truths.now l.bits l.from l.row l.d l.n l.step-index l.k l.invariant
    c.loop-step-test.true c.if-s-lt2048.true in
    omega (arith, r.0, r.1, l.invariant.row_size, c.requires.1)

pub bounds-row-n : goal.bounds-row-n
bounds-row-n c =
    let l = c.loop-step in
    let a = c.args in
    let r = passes.push_room a.steps.now a.truths.now l.bits l.from l.row l.d l.n l.step-index l.k l.invariant
    c.loop-step-test.true c.if-s-lt2048.true in
    omega (arith, r.0, r.1, l.invariant.row_size, c.requires.1)

pub overflow_add-n : goal.overflow_add-n
overflow_add-n c =
    let l = c.loop-step in
    let a = c.args in
    let r = passes.push_room a.steps.now a.truths.now l.bits l.from l.row l.d l.n l.step-index l.k l.invariant
    c.loop-step-test.true c.if-s-lt2048.true in
    omega (arith, r.0, r.1, l.invariant.row_size, c.requires.1)

pub overflow_add-d : goal.overflow_add-d
overflow_add-d c = let l = c.loop-step in omega (arith, l.invariant.in_stack)

pub shape_of-row-then-s-gt2049 : goal.shape_of-row-then-s-gt2049
shape_of-row-then-s-gt2049 c =
    let l = c.loop-step in
    omega (arith, l.invariant.row_size, c.requires.2)

pub returns-then-s-gt2049 : goal.returns-then-s-gt2049
returns-then-s-gt2049 c =
    let l = c.loop-step in
    let a = c.args in
    elim c.then-s-gt2049.branch [
      | then-s-gt2049-via-then-s-gt2049 w ↦
          passes.pass_bad a.steps.now a.truths.now l.bits l.from l.row l.d l.n l.step-index l.k l.invariant c.loop-step-test.true _ w.if-s-gt2049.true
      | then-s-gt2049-via-else-s-gt2049+then-d-lt2 w ↦
          passes.pass_few a.steps.now a.truths.now l.bits l.from l.row l.d l.n l.step-index l.k l.invariant c.loop-step-test.true c.if-s-lt2048.false w.if-s-gt2049.false _ w.if-d-lt2.true
    ]

pub overflow_sub-d : goal.overflow_sub-d
overflow_sub-d c = let l = c.loop-step in omega (arith, l.invariant.in_stack)

pub bounds-bits-j : goal.bounds-bits-j
bounds-bits-j c = let l = c.loop-step in omega (arith, l.invariant.in_stack)

pub bounds-bits-d-else-s-lt2048 : goal.bounds-bits-d-else-s-lt2048
bounds-bits-d-else-s-lt2048 c = let l = c.loop-step in omega (arith, l.invariant.in_stack)

pub offset_bounds-from-j : goal.offset_bounds-from-j
offset_bounds-from-j c = let l = c.loop-step in omega (arith, l.invariant.in_stack)

pub bounds-from-j : goal.bounds-from-j
bounds-from-j c = let l = c.loop-step in omega (arith, l.invariant.in_stack)

pub offset_bounds-from-d-else-s-lt2048 : goal.offset_bounds-from-d-else-s-lt2048
offset_bounds-from-d-else-s-lt2048 c = let l = c.loop-step in omega (arith, l.invariant.in_stack)

pub bounds-from-d-else-s-lt2048 : goal.bounds-from-d-else-s-lt2048
bounds-from-d-else-s-lt2048 c = let l = c.loop-step in omega (arith, l.invariant.in_stack)

pub join-n-requires : goal.join-n-requires
join-n-requires c =
    let l = c.loop-step in
    let a = c.args in
    let w = two l.from l.d l.n c.if-d-lt2.false l.invariant.begun in (
      w.first,
      w.second,
      omega (
        arith,
        passes.row_room a.steps.now a.truths.now l.bits l.from l.row l.d l.n l.step-index l.k l.invariant,
        l.invariant.row_size,
      ),
    )

pub bounds-bits-j-else-s-lt2048 : goal.bounds-bits-j-else-s-lt2048
bounds-bits-j-else-s-lt2048 c = let l = c.loop-step in omega (arith, l.invariant.in_stack)

pub bounds-bits-d-else-s-lt2048-2 : goal.bounds-bits-d-else-s-lt2048-2
bounds-bits-d-else-s-lt2048-2 c = let l = c.loop-step in omega (arith, l.invariant.in_stack)

pub bounds-bits-j-else-s-lt2048-2 : goal.bounds-bits-j-else-s-lt2048-2
bounds-bits-j-else-s-lt2048-2 c = let l = c.loop-step in omega (arith, l.invariant.in_stack)

pub loop-step-preserved : goal.loop-step-preserved
loop-step-preserved c =
    let l = c.loop-step in
    let a = c.args in
    elim c.if-s-lt2048.branch [
      | then-s-lt2048+else-d-ge100 w ↦
          rw (w.bits-is, w.from-is, w.row-is, w.d-is, w.n-is, w.k-is)
          (passes.pass_rel a.steps.now a.truths.now l.bits l.from l.row l.d l.n l.step-index l.k l.invariant c.loop-step-test.true w.if-s-lt2048.true (omega (arith, w.if-d-ge100.false)))
      | else-s-lt2048+else-s-gt2049+else-d-lt2 w ↦
          rw (w.bits-is, w.from-is, w.row-is, w.d-is, w.n-is, w.k-is)
          (passes.pass_join a.steps.now a.truths.now l.bits l.from l.row l.d l.n l.step-index l.k l.invariant c.loop-step-test.true w.if-s-lt2048.false w.if-s-gt2049.false
          w.settles_it-p.result w.settles_it-q.result w.pick.result w.join-n.result _ w.if-d-lt2.false
          w.settles_it-p.ensures w.settles_it-q.ensures w.pick.ensures w.join-n.auto.row w.join-n.ensures.value w.join-n.ensures.row_after)
    ]

pub bounds-bits-0 : goal.bounds-bits-0
bounds-bits-0 c = omega arith

pub shape_of-row : goal.shape_of-row
shape_of-row c =
    let l = c.loop-step in
    omega (arith, l.invariant.row_size, c.requires.2)

pub returns : goal.returns
returns c =
    let l = c.loop-step in
    let a = c.args in
    passes.pass_end a.steps.now a.truths.now l.bits l.from l.row l.d l.n l.step-index l.k l.invariant c.loop-step-test.false
