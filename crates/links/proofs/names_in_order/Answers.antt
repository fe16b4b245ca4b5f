-- `links::names_in_order` meets its contract. The invariant: the numbers before the next one are those of complete files.
use mathlib.Core.Path.{sym, ◌∙◌}
use Rattle.links.proofs.Names.{passed, failed, none_left, named_place, named_none}
use Rattle.links.proofs.names_in_order.Goals as goal

pub place_of-found-requires : goal.place_of-found-requires
place_of-found-requires c = c.requires.1

pub returns-in_default : goal.returns-in_default
returns-in_default c =
    let p = c.place_of-found in
    sym (c.loop-number.invariant ∙ failed _ _ _ c.loop-number-test.true (named_none _ _ p.result p.ensures c.in_default.is))

pub loop-number-preserved : goal.loop-number-preserved
loop-number-preserved c =
    let p = c.place_of-found in
    c.loop-number.invariant
    ∙ passed _ _ _ c.loop-number-test.true (named_place _ _ _ p.result c.complete_at.result p.ensures c.in-Some.is c.complete_at.ensures ∙ c.if-not-complete_at.false)

pub returns-then-not-complete_at : goal.returns-then-not-complete_at
returns-then-not-complete_at c =
    let p = c.place_of-found in
    sym (c.loop-number.invariant
    ∙ failed _ _ _ c.loop-number-test.true (named_place _ _ _ p.result c.complete_at.result p.ensures c.in-Some.is c.complete_at.ensures ∙ c.if-not-complete_at.true))

pub returns : goal.returns
returns c = sym (c.loop-number.invariant ∙ none_left _ _ _ c.loop-number-test.false)
