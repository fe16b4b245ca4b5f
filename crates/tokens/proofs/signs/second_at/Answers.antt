use mathlib.Core.Path.{sym, ◌∙◌}
use lib.ListN.{get_or}
use borrow.Author.Tests.{eq-eqb, ne_eqb}
use Rattle.tokens.specs.Tokens.{second_at}
use Rattle.tokens.proofs.signs.second_at.Goals as goal

pub returns-then-byte_of-eq61 : goal.returns-then-byte_of-eq61
unfolding second_at
returns-then-byte_of-eq61 c =
    let a = c.args in
    rw (eq-eqb (get_or a.text.now a.at 0) 61 (sym c.byte_of.ensures ∙ c.if-byte_of-eq61.true))

pub returns : goal.returns
unfolding second_at
returns c =
    let a = c.args in
    rw (ne_eqb (get_or a.text.now a.at 0) 61 (λ z. c.if-byte_of-eq61.false (c.byte_of.ensures ∙ z)))
