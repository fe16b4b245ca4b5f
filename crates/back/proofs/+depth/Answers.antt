-- `back::depth` meets its contract. Assumes nothing.
use Rattle.std.proofs.Common.{◌-◌, get_or, refl, arith}
use Rattle.back.proofs.Formulas as formulas
use Rattle.back.proofs.+depth.Goals as goal

pub overflow_sub-i : goal.overflow_sub-i
overflow_sub-i t c = omega (arith, formulas.some_step c.requires.0 c.args.steps.now c.args.e c.requires.1)

pub bounds-steps-i : goal.bounds-steps-i
bounds-steps-i t c = omega (arith, formulas.step_in c.requires.0 c.args.steps.now c.args.e c.requires.1)

pub returns-then-s-lt2048 : goal.returns-then-s-lt2048
returns-then-s-lt2048 t c =
    let a = c.args in
    λ bytes w. formulas.relation_deep bytes a.steps.now a.e w (get_or a.steps.now (a.e - 1) 0) refl c.if-s-lt2048.true a.level

pub depth-b-requires : goal.depth-b-requires
depth-b-requires t c =
    let a = c.args in
    let bytes = c.requires.0 in
    let ready = c.requires.1 in (
      omega (arith, c.decreases, formulas.some_step bytes a.steps.now a.e ready),
      (bytes, formulas.right bytes a.steps.now a.e ready (get_or a.steps.now (a.e - 1) 0) refl c.if-s-lt2048.false),
    )

pub depth-a-requires : goal.depth-a-requires
depth-a-requires t c =
    let a = c.args in
    let bytes = c.requires.0 in
    let ready = c.requires.1 in
    let s = get_or a.steps.now (a.e - 1) 0 in
    let p = c.binding-p in
    let b = c.depth-b in (
      omega (arith, c.decreases, formulas.left_fall bytes a.steps.now a.e ready s refl c.if-s-lt2048.false p.result p.ensures.value b.result b.ensures),
      (bytes, formulas.left_ready bytes a.steps.now a.e ready s refl c.if-s-lt2048.false p.result p.ensures.value b.result b.ensures),
    )

pub overflow_add-deep : goal.overflow_add-deep
overflow_add-deep t c =
    let a = c.args in
    let s = get_or a.steps.now (a.e - 1) 0 in
    let p = c.binding-p in
    let b = c.depth-b in
    let d = c.depth-a in
    let most = c.max-most in
    omega (
      arith,
      formulas.deep_small c.requires.0 a.steps.now a.e c.requires.1 s refl c.if-s-lt2048.false p.result p.ensures.value b.result b.ensures
          d.result d.ensures most.result most.ensures,
    )

pub returns-then-p-level : goal.returns-then-p-level
returns-then-p-level t c =
    let a = c.args in
    let s = get_or a.steps.now (a.e - 1) 0 in
    let p = c.binding-p in
    let b = c.depth-b in
    let d = c.depth-a in
    let most = c.max-most in
    λ bytes w. formulas.deeper bytes a.steps.now a.e w s refl c.if-s-lt2048.false p.result p.ensures.value b.result b.ensures
    d.result d.ensures a.level most.result most.ensures c.if-p-level.true

pub returns-else-p-level : goal.returns-else-p-level
returns-else-p-level t c =
    let a = c.args in
    let s = get_or a.steps.now (a.e - 1) 0 in
    let p = c.binding-p in
    let b = c.depth-b in
    let d = c.depth-a in
    let most = c.max-most in
    λ bytes w. formulas.as_deep bytes a.steps.now a.e w s refl c.if-s-lt2048.false p.result p.ensures.value b.result b.ensures
    d.result d.ensures a.level most.result most.ensures c.if-p-level.false
