use borrow.Author.Tests.{eq-eqb, ne_eqb}
use Rattle.grammar.specs.Meaning.{is_width}
use Rattle.tokens.proofs.amounts.is_width.Goals as goal

pub returns-then-b-eq49 : goal.returns-then-b-eq49
unfolding is_width
returns-then-b-eq49 c =
    let a = c.args in
    rw (eq-eqb a.b 49 c.if-b-eq49.true)

pub returns-then-b-eq50 : goal.returns-then-b-eq50
unfolding is_width
returns-then-b-eq50 c =
    let a = c.args in
    rw (ne_eqb a.b 49 c.if-b-eq49.false, eq-eqb a.b 50 c.if-b-eq50.true)

pub returns : goal.returns
unfolding is_width
returns c =
    let a = c.args in
    rw (ne_eqb a.b 49 c.if-b-eq49.false, ne_eqb a.b 50 c.if-b-eq50.false)
