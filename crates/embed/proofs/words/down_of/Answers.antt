-- `embed::words::down_of` meets its contract. Assumes nothing.
use borrow.Author.Tests.{eq-eqb, ne_eqb}
use Rattle.embed.specs.Words.{down_of}
use Rattle.embed.proofs.words.down_of.Goals as goal

pub returns-then-case-eq1 : goal.returns-then-case-eq1
unfolding down_of
returns-then-case-eq1 c = rw (c.number.ensures, c.low32.ensures, c.low32-then-case-eq1.ensures, eq-eqb _ _ c.if-case-eq1.true)

pub returns-then-case-eq2 : goal.returns-then-case-eq2
unfolding down_of
returns-then-case-eq2 c = rw (c.number-then-case-eq2.ensures, ne_eqb _ _ c.if-case-eq1.false, eq-eqb _ _ c.if-case-eq2.true)

pub returns-then-case-eq3 : goal.returns-then-case-eq3
unfolding down_of
returns-then-case-eq3 c = rw (c.number-then-case-eq3.ensures, ne_eqb _ _ c.if-case-eq1.false, ne_eqb _ _ c.if-case-eq2.false, eq-eqb _ _ c.if-case-eq3.true)

pub returns-then-case-eq4 : goal.returns-then-case-eq4
unfolding down_of
returns-then-case-eq4 c = rw (c.listing_of.ensures, c.number-then-case-eq4.ensures, ne_eqb _ _ c.if-case-eq1.false, ne_eqb _ _ c.if-case-eq2.false, ne_eqb _ _ c.if-case-eq3.false, eq-eqb _ _ c.if-case-eq4.true)

pub returns-then-case-eq5 : goal.returns-then-case-eq5
unfolding down_of
returns-then-case-eq5 c = rw (c.listing_of-then-case-eq5.ensures, c.number-then-case-eq5.ensures, ne_eqb _ _ c.if-case-eq1.false, ne_eqb _ _ c.if-case-eq2.false, ne_eqb _ _ c.if-case-eq3.false, ne_eqb _ _ c.if-case-eq4.false, eq-eqb _ _ c.if-case-eq5.true)

pub returns-then-case-eq6 : goal.returns-then-case-eq6
unfolding down_of
returns-then-case-eq6 c = rw (c.listing_of-then-case-eq6.ensures, c.number-then-case-eq6.ensures, ne_eqb _ _ c.if-case-eq1.false, ne_eqb _ _ c.if-case-eq2.false, ne_eqb _ _ c.if-case-eq3.false, ne_eqb _ _ c.if-case-eq4.false, ne_eqb _ _ c.if-case-eq5.false, eq-eqb _ _ c.if-case-eq6.true)

pub returns-then-case-eq7 : goal.returns-then-case-eq7
unfolding down_of
returns-then-case-eq7 c = rw (c.listing_of-then-case-eq7.ensures, c.number-then-case-eq7.ensures, ne_eqb _ _ c.if-case-eq1.false, ne_eqb _ _ c.if-case-eq2.false, ne_eqb _ _ c.if-case-eq3.false, ne_eqb _ _ c.if-case-eq4.false, ne_eqb _ _ c.if-case-eq5.false, ne_eqb _ _ c.if-case-eq6.false, eq-eqb _ _ c.if-case-eq7.true)

pub returns : goal.returns
unfolding down_of
returns c = rw (ne_eqb _ _ c.if-case-eq1.false, ne_eqb _ _ c.if-case-eq2.false, ne_eqb _ _ c.if-case-eq3.false, ne_eqb _ _ c.if-case-eq4.false, ne_eqb _ _ c.if-case-eq5.false, ne_eqb _ _ c.if-case-eq6.false, ne_eqb _ _ c.if-case-eq7.false)
