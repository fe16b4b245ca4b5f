-- `equation::evaluation::mark` meets its contract. Assumes nothing.
use mathlib.Core.Path.{sym, ◌∙◌}
use borrow.Author.Tests.{eq-eqb, ne_eqb}
use Rattle.equation.specs.Marks.{field_of, mark_after}
use Rattle.equation.specs.Parsed.{relation_from}
use Rattle.equation.proofs.Settled.{after_met}
use Rattle.equation.proofs.StepLaws.{relation_id}
use Rattle.equation.proofs.evaluation.mark.Goals as goal
use Rattle.equation.proofs.evaluation.mark.Goals.{else-id-named-via-then-id-named+else-meets_at, else-id-named-via-else-id-named}

pub returns-then-m-eq1 : goal.returns-then-m-eq1
returns-then-m-eq1 c =
    let a = c.args in
    rw c.if-m-eq1.true (sym (after_met (relation_from a.eq.now a.at) (field_of a.id a.item.now)))

pub returns-then-meets_at : goal.returns-then-meets_at
unfolding mark_after
returns-then-meets_at c =
    let a = c.args in
    let n = relation_id a.eq.now a.at _ _ _ c.byte_of.ensures c.byte_of-2.ensures c.number16-named.ensures in
    rw (eq-eqb _ _ (c.if-id-named.true ∙ n), ← c.meets_at.ensures, c.if-meets_at.true)

pub returns-else-id-named : goal.returns-else-id-named
unfolding mark_after
returns-else-id-named c =
    let a = c.args in
    let n = relation_id a.eq.now a.at _ _ _ c.byte_of.ensures c.byte_of-2.ensures c.number16-named.ensures in
    elim c.else-id-named.branch [
      | else-id-named-via-then-id-named+else-meets_at w ↦ rw (eq-eqb _ _ (w.if-id-named.true ∙ n), ← w.meets_at.ensures, w.if-meets_at.false)
      | else-id-named-via-else-id-named w ↦ rw (ne_eqb _ _ (λ e. w.if-id-named.false (e ∙ sym n)))
    ]
