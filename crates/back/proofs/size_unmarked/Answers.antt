-- `back::size_unmarked` meets its contract. Assumes nothing.
use Rattle.std.proofs.Common.{◌≡◌, ◌+◌, inl, inr, sym, ◌∙◌, arith}
use Rattle.writing.proofs.Marks as marks
use Rattle.back.proofs.size_unmarked.Goals as goal

pub loop-at-init : goal.loop-at-init
loop-at-init c = marks.pass_start c.args.bytes.now

pub returns-in-Bad : goal.returns-in-Bad
returns-in-Bad c =
    let l = c.loop-at in
    elim c.in-Bad.is [
      | inl e ↦ marks.pass_bad c.args.bytes.now l.at l.invariant (sym c.read_token.ensures ∙ e)
      | inr e ↦ marks.pass_end c.args.bytes.now l.at l.invariant (sym c.read_token.ensures ∙ e)
    ]

pub overflow_add-at : goal.overflow_add-at
overflow_add-at c =
    let l = c.loop-at in
    elim c.in-And.is [
      | inl e ↦ omega (arith, marks.and_within c.args.bytes.now l.at l.invariant (sym c.read_token.ensures ∙ e))
      | inr e ↦ omega (arith, marks.or_within c.args.bytes.now l.at l.invariant (sym c.read_token.ensures ∙ e))
    ]

pub loop-at-smaller-in-And : goal.loop-at-smaller-in-And
loop-at-smaller-in-And c =
    let l = c.loop-at in
    elim c.in-And.is [
      | inl e ↦ omega (arith, marks.and_within c.args.bytes.now l.at l.invariant (sym c.read_token.ensures ∙ e))
      | inr e ↦ omega (arith, marks.or_within c.args.bytes.now l.at l.invariant (sym c.read_token.ensures ∙ e))
    ]

pub loop-at-preserved-in-And : goal.loop-at-preserved-in-And
loop-at-preserved-in-And c =
    let l = c.loop-at in
    elim c.in-And.is [
      | inl e ↦ marks.pass_and c.args.bytes.now l.at l.invariant (sym c.read_token.ensures ∙ e)
      | inr e ↦ marks.pass_or c.args.bytes.now l.at l.invariant (sym c.read_token.ensures ∙ e)
    ]

pub overflow_add-at-in-Rel : goal.overflow_add-at-in-Rel
overflow_add-at-in-Rel c =
    omega (
      arith,
      marks.rel_within c.args.bytes.now c.loop-at.at c.loop-at.invariant c.in-Rel.field-0 c.in-Rel.field-1 c.in-Rel.m (sym c.read_token.ensures ∙ c.in-Rel.is),
    )

pub overflow_add-at-in-Rel-2 : goal.overflow_add-at-in-Rel-2
overflow_add-at-in-Rel-2 c =
    omega (
      arith,
      marks.rel_within c.args.bytes.now c.loop-at.at c.loop-at.invariant c.in-Rel.field-0 c.in-Rel.field-1 c.in-Rel.m (sym c.read_token.ensures ∙ c.in-Rel.is),
    )

pub loop-at-smaller : goal.loop-at-smaller
loop-at-smaller c =
    omega (
      arith,
      marks.rel_within c.args.bytes.now c.loop-at.at c.loop-at.invariant c.in-Rel.field-0 c.in-Rel.field-1 c.in-Rel.m (sym c.read_token.ensures ∙ c.in-Rel.is),
    )

pub loop-at-preserved : goal.loop-at-preserved
loop-at-preserved c =
    let l = c.loop-at in
    let z : l.at + (4 + c.in-Rel.m) ≡ l.at + 4 + c.in-Rel.m = omega arith in
    rw z (marks.pass_rel c.args.bytes.now l.at l.invariant c.in-Rel.field-0 c.in-Rel.field-1 c.in-Rel.m (sym c.read_token.ensures ∙ c.in-Rel.is))
