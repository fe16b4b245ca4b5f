-- `blocks::agrees` meets its contract. Each answer follows from the tests that led to it.
use Rattle.std.proofs.Common.{sym, ◌∙◌, eq-eqb, ne_eqb}
use Rattle.std.proofs.lemmas.Bool.{false≢true}
use Rattle.blocks.specs.Check.{agrees_test}
use Rattle.blocks.proofs.agrees.Goals as goal
use Rattle.blocks.proofs.agrees.Goals.{then-map-owner, else-map-owner}

pub returns-then-owners_within : goal.returns-then-owners_within
unfolding agrees_test
returns-then-owners_within c =
    elim c.if-map-owner.branch [
      | then-map-owner w ↦ c.map_is.ensures ∙ simp (eq-eqb _ _ w.if-map-owner.true, sym w.owners_within.ensures ∙ sym w.value-is ∙ c.if-owners_within.true)
      | else-map-owner w ↦ absurd (false≢true (sym (w.value-is ∙ ne_eqb _ _ w.if-map-owner.false) ∙ c.if-owners_within.true))
    ]

pub returns-else-owners_within : goal.returns-else-owners_within
unfolding agrees_test
returns-else-owners_within c =
    elim c.if-map-owner.branch [
      | then-map-owner w ↦ c.if-owners_within.false ∙ simp (eq-eqb _ _ w.if-map-owner.true, sym w.owners_within.ensures ∙ sym w.value-is ∙ c.if-owners_within.false)
      | else-map-owner w ↦ c.if-owners_within.false ∙ simp (ne_eqb _ _ w.if-map-owner.false)
    ]
