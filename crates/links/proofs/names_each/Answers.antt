-- `links::names_each` meets its contract. Assumes nothing.
use mathlib.Core.Path.{◌∙◌, sym}
use Rattle.links.proofs.Names.{passed, failed, none_left}
use Rattle.links.proofs.names_each.Goals as goal

pub loop-number-preserved : goal.loop-number-preserved
loop-number-preserved c = c.loop-number.invariant ∙ passed _ _ _ c.loop-number-test.true (sym c.named_sound.ensures ∙ c.if-not-named_sound.false)

pub returns-then-not-named_sound : goal.returns-then-not-named_sound
returns-then-not-named_sound c = sym (c.loop-number.invariant ∙ failed _ _ _ c.loop-number-test.true (sym c.named_sound.ensures ∙ c.if-not-named_sound.true))

pub returns : goal.returns
returns c = sym (c.loop-number.invariant ∙ none_left _ _ _ c.loop-number-test.false)
