-- `back::put_formula` meets its contract. Assumes nothing.
use Rattle.std.proofs.Common.{◌-◌, get_or, refl, arith}
use Rattle.back.proofs.Formulas as formulas
use Rattle.back.proofs.+put_formula.Goals as goal

pub overflow_sub-i : goal.overflow_sub-i
overflow_sub-i t c = omega (arith, formulas.some_step c.args.bytes.now c.args.steps.now c.args.e c.requires.ready)

pub bounds-steps-i : goal.bounds-steps-i
bounds-steps-i t c = omega (arith, formulas.step_in c.args.bytes.now c.args.steps.now c.args.e c.requires.ready)

pub put_relation-m-requires : goal.put_relation-m-requires
put_relation-m-requires t c =
    let a = c.args in
    let s = get_or a.steps.now (a.e - 1) 0 in
    record {
      stands = formulas.relation_stands a.bytes.now a.steps.now a.e a.level a.n c.requires s refl c.if-s-lt2048.true;
      at_len_bound = formulas.relation_room a.bytes.now a.steps.now a.e a.level a.n c.requires s refl c.if-s-lt2048.true;
    }

pub returns-then-s-lt2048 : goal.returns-then-s-lt2048
returns-then-s-lt2048 t c =
    let a = c.args in
    let s = get_or a.steps.now (a.e - 1) 0 in
    let m = c.put_relation-m in
    λ w. formulas.relation_wrote a.bytes.now a.steps.now a.e a.level a.n w s refl c.if-s-lt2048.true a.out.now m.result m.new.out m.ensures

pub put_closing-m-requires : goal.put_closing-m-requires
put_closing-m-requires t c =
    let a = c.args in
    let s = get_or a.steps.now (a.e - 1) 0 in
    let p = c.binding-p in
    formulas.closing_room a.bytes.now a.steps.now a.e a.level a.n c.requires s refl c.if-s-lt2048.false p.result p.ensures.value

pub put_formula-b-requires : goal.put_formula-b-requires
put_formula-b-requires t c =
    let a = c.args in
    let s = get_or a.steps.now (a.e - 1) 0 in
    let p = c.binding-p in
    let m = c.put_closing-m in (
      omega (arith, c.decreases, formulas.some_step a.bytes.now a.steps.now a.e c.requires.ready),
      formulas.right_room a.bytes.now a.steps.now a.e a.level a.n c.requires s refl c.if-s-lt2048.false p.result p.ensures.value a.out.now
          m.result m.new.out m.ensures,
    )

pub put_connective-k-requires : goal.put_connective-k-requires
put_connective-k-requires t c =
    let a = c.args in
    let s = get_or a.steps.now (a.e - 1) 0 in
    let p = c.binding-p in
    let m = c.put_closing-m in
    let b = c.put_formula-b in
    formulas.connective_room a.bytes.now a.steps.now a.e a.level a.n c.requires s refl c.if-s-lt2048.false p.result p.ensures.value a.out.now
    m.result m.new.out m.ensures b.result b.new.out b.ensures

pub put_formula-a-requires : goal.put_formula-a-requires
put_formula-a-requires t c =
    let a = c.args in
    let s = get_or a.steps.now (a.e - 1) 0 in
    let p = c.binding-p in
    let m = c.put_closing-m in
    let b = c.put_formula-b in
    let k = c.put_connective-k in (
      omega (
        arith,
        c.decreases,
        formulas.left_step a.bytes.now a.steps.now a.e a.level a.n c.requires s refl c.if-s-lt2048.false p.result p.ensures.value a.out.now
            m.result m.new.out m.ensures b.result b.new.out b.ensures k.result k.new.out k.ensures,
      ),
      formulas.left_room a.bytes.now a.steps.now a.e a.level a.n c.requires s refl c.if-s-lt2048.false p.result p.ensures.value a.out.now
          m.result m.new.out m.ensures b.result b.new.out b.ensures k.result k.new.out k.ensures,
    )

pub put_opening-o-requires : goal.put_opening-o-requires
put_opening-o-requires t c =
    let a = c.args in
    let s = get_or a.steps.now (a.e - 1) 0 in
    let p = c.binding-p in
    let m = c.put_closing-m in
    let b = c.put_formula-b in
    let k = c.put_connective-k in
    let d = c.put_formula-a in
    formulas.opening_room a.bytes.now a.steps.now a.e a.level a.n c.requires s refl c.if-s-lt2048.false p.result p.ensures.value a.out.now
    m.result m.new.out m.ensures b.result b.new.out b.ensures k.result k.new.out k.ensures d.result d.new.out d.ensures

pub returns : goal.returns
returns t c =
    let a = c.args in
    let s = get_or a.steps.now (a.e - 1) 0 in
    let p = c.binding-p in
    let m = c.put_closing-m in
    let b = c.put_formula-b in
    let k = c.put_connective-k in
    let d = c.put_formula-a in
    let o = c.put_opening-o in
    λ w. formulas.both_wrote a.bytes.now a.steps.now a.e a.level a.n w s refl c.if-s-lt2048.false p.result p.ensures.value a.out.now
    m.result m.new.out m.ensures b.result b.new.out b.ensures k.result k.new.out k.ensures d.result d.new.out d.ensures
    o.result o.new.out o.ensures
