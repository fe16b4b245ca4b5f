-- `equation::relation::number_meets` meets its contract. Assumes nothing.
use Rattle.std.proofs.Common.{◌≡◌, true, false, sym, ◌∙◌}
use Rattle.equation.proofs.RelationLaws as numbers
use Rattle.equation.proofs.relation.number_meets.Goals as goal
use Rattle.equation.proofs.relation.number_meets.Goals.{then-number_width, else-number_width}

pub value-requires : goal.value-requires
value-requires c =
    elim c.if-number_width.branch [
      | then-number_width w ↦ numbers.width_le _ (sym w.number_width-then-number_width.ensures ∙ sym w.value-is ∙ c.if-number_width-2.true)
      | else-number_width w ↦ let z : false ≡ true = sym w.if-number_width.false ∙ sym w.value-is ∙ c.if-number_width-2.true in cc
    ]

pub value-requires-then-number_width-2 : goal.value-requires-then-number_width-2
value-requires-then-number_width-2 c =
    elim c.if-number_width.branch [
      | then-number_width w ↦ numbers.width_le _ (sym c.number_width.ensures ∙ w.if-number_width.true)
      | else-number_width w ↦ let z : false ≡ true = sym w.if-number_width.false ∙ sym w.value-is ∙ c.if-number_width-2.true in cc
    ]
