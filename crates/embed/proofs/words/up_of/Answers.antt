use Rattle.embed.specs.Words.{up_of}
use borrow.Author.Tests.{eq-eqb, ne_eqb}
use Rattle.embed.proofs.words.up_of.Goals as goal

pub returns-then-case-eq1 : goal.returns-then-case-eq1
unfolding up_of
returns-then-case-eq1 c = rw (c.number.ensures, c.low32.ensures, c.low32-then-case-eq1.ensures, eq-eqb _ _ c.if-case-eq1.true)

pub returns-then-case-eq2 : goal.returns-then-case-eq2
unfolding up_of
returns-then-case-eq2 c = rw (ne_eqb _ _ c.if-case-eq1.false, eq-eqb _ _ c.if-case-eq2.true)

pub returns : goal.returns
unfolding up_of
returns c = rw (ne_eqb _ _ c.if-case-eq1.false, ne_eqb _ _ c.if-case-eq2.false)
