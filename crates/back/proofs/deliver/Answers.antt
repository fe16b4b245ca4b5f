-- `back::deliver` meets its contract. Assumes nothing.
use Rattle.std.proofs.Common.{List, ℕ, ◌++◌, ◌-◌, drop, ap}
use native.Mathlib.Omega.{arith}
use Rattle.back.proofs.Formulas as formulas
use Rattle.back.proofs.Answers as replies
use Rattle.back.proofs.deliver.Goals as goal

pub put_formula-p-requires : goal.put_formula-p-requires
put_formula-p-requires c =
    formulas.all_room c.args.bytes.now c.args.steps.now
    c.requires.accepted c.requires.bytes_len_bound

pub overflow_sub-size : goal.overflow_sub-size
overflow_sub-size c =
    omega (
      arith,
      replies.start_within c.args.bytes.now
          c.args.steps.now c.args.out.now
          c.requires.accepted c.requires.bytes_len_bound
          c.put_formula-p.result
          c.put_formula-p.new.out c.put_formula-p.ensures,
    )

pub returns-then-out-size : goal.returns-then-out-size
returns-then-out-size c =
    λ w. replies.deliver_short c.args.bytes.now
    c.args.steps.now c.args.out.now w
    c.requires.bytes_len_bound c.put_formula-p.result
    c.put_formula-p.new.out c.put_formula-p.ensures c.if-out-size.true

pub slice_bounds-copy_from_slice-count : goal.slice_bounds-copy_from_slice-count
slice_bounds-copy_from_slice-count c =
    omega (
      arith,
      replies.start_within c.args.bytes.now
          c.args.steps.now
          c.args.out.now
          c.requires.accepted
          c.requires.bytes_len_bound
          c.put_formula-p.result c.put_formula-p.new.out
          c.put_formula-p.ensures,
    )

pub slice_bounds-copy_from_slice-start : goal.slice_bounds-copy_from_slice-start
slice_bounds-copy_from_slice-start c =
    omega (
      arith,
      replies.start_within c.args.bytes.now
          c.args.steps.now
          c.args.out.now
          c.requires.accepted
          c.requires.bytes_len_bound c.put_formula-p.result
          c.put_formula-p.new.out c.put_formula-p.ensures,
    )

pub returns : goal.returns
returns c =
    let a = c.args in
    let the-put-formula = c.put_formula-p in
    λ w. replies.deliver_text a.bytes.now a.steps.now
    a.out.now w c.requires.bytes_len_bound
    the-put-formula.result the-put-formula.new.out the-put-formula.ensures
    c.if-out-size.false _ (ap (λ (x : List ℕ). x ++ drop (2560 - the-put-formula.result.n) a.out.now) c.copy_from_slice.ensures.after)
