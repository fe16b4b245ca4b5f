use borrow.Author.Tests.{eq-eqb, ne_eqb}
use Rattle.tokens.proofs.strings.fifth_star.Goals as goal

pub returns-then-b-eq42 : goal.returns-then-b-eq42
returns-then-b-eq42 c =
    let a = c.args in
    rw (eq-eqb a.b 42 c.if-b-eq42.true)

pub returns-else-b-eq42 : goal.returns-else-b-eq42
returns-else-b-eq42 c =
    let a = c.args in
    rw (ne_eqb a.b 42 c.if-b-eq42.false)
