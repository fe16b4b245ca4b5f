use mathlib.Core.Path.{sym, ◌∙◌}
use lib.ListN.{length, get_or}
use borrow.Author.Tests.{lt-ltb, le-ltb, eq-eqb, ne_eqb}
use Rattle.readings.specs.Contract.{closed_at}
use Rattle.paper.proofs.sums.close.Goals as goal

pub returns-then-byte_of-eq41 : goal.returns-then-byte_of-eq41
unfolding closed_at
returns-then-byte_of-eq41 c =
    let a = c.args in
    rw (eq-eqb (get_or a.text.now a.at 0) 41 (sym c.byte_of.ensures ∙ c.if-byte_of-eq41.true))

pub returns-then-at-text : goal.returns-then-at-text
unfolding closed_at
returns-then-at-text c =
    let b4 = c in
    let a = b4.args in
    rw (
      ne_eqb (get_or a.text.now a.at 0) 41 (λ z. c.if-byte_of-eq41.false (c.byte_of.ensures ∙ z)),
      lt-ltb a.at (length a.text.now)
          c.if-at-text.true,
    )

pub returns : goal.returns
unfolding closed_at
returns c =
    let b4 = c in
    let a = b4.args in
    rw (
      ne_eqb (get_or a.text.now a.at 0) 41 (λ z. c.if-byte_of-eq41.false (c.byte_of.ensures ∙ z)),
      le-ltb a.at (length a.text.now)
          c.if-at-text.false,
    )
