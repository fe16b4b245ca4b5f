-- `back::answered` meets its contract. Assumes nothing.
use mathlib.Core.Path.{◌∙◌}
use native.Mathlib.Omega.{arith}
use lib.ListN.{length}
use Rattle.equation.specs.Newer.{unmarked}
use Rattle.back.proofs.Formulas as formulas
use Rattle.back.proofs.Answers as replies
use Rattle.back.proofs.answered.Goals as goal

pub returns-then-size-bytes : goal.returns-then-size-bytes
returns-then-size-bytes c =
    λ w. replies.answer_mark w.formula (length c.args.bytes.now)
    (length (unmarked c.args.bytes.now)) c.args.out.now
    (omega (arith, c.size_unmarked-size.ensures, c.if-size-bytes.true))

pub depth-d-requires : goal.depth-d-requires
depth-d-requires c = (
  c.args.bytes.now,
  formulas.all_ready c.args.bytes.now c.args.steps.now
      c.requires,
)

pub returns-then-d-gt16 : goal.returns-then-d-gt16
returns-then-d-gt16 c =
    let a = c.args in
    let the_depth = c.depth-d in
    λ w. replies.answer_deeper w.formula (length a.bytes.now) (length (unmarked a.bytes.now)) a.out.now (omega (
      arith,
      c.size_unmarked-size.ensures,
      c.if-size-bytes.false,
    )) (omega (
      arith,
      replies.whole_nesting a.bytes.now
          a.steps.now w the_depth.result the_depth.ensures,
      c.if-d-gt16.true,
    ))

pub returns-then-bytes-gt256 : goal.returns-then-bytes-gt256
returns-then-bytes-gt256 c =
    let a = c.args in
    let the_depth = c.depth-d in
    λ w. replies.answer_bytes w.formula (length a.bytes.now) (length (unmarked a.bytes.now)) a.out.now (omega (
      arith,
      c.size_unmarked-size.ensures,
      c.if-size-bytes.false,
    )) (omega (
      arith,
      replies.whole_nesting a.bytes.now a.steps.now w the_depth.result the_depth.ensures,
      c.if-d-gt16.false,
    )) c.if-bytes-gt256.true

pub deliver-requires : goal.deliver-requires
deliver-requires c = record { accepted = c.requires; bytes_len_bound = c.if-bytes-gt256.false }

pub returns : goal.returns
returns c =
    let a = c.args in
    let the_depth = c.depth-d in
    λ w. c.deliver.ensures w ∙ replies.answer_text w.formula (length a.bytes.now) (length (unmarked a.bytes.now)) a.out.now
    (omega (
      arith,
      c.size_unmarked-size.ensures,
      c.if-size-bytes.false,
    )) (omega (
      arith,
      replies.whole_nesting a.bytes.now
          a.steps.now w the_depth.result the_depth.ensures,
      c.if-d-gt16.false,
    ))
    c.if-bytes-gt256.false
