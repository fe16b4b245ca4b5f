use mathlib.Core.Path.{sym, ◌∙◌}
use Prim.Native.Nat.{◌+◌}
use lib.ListN.{get_or}
use borrow.Author.Tests.{eq-eqb, ne_eqb}
use Rattle.readings.specs.Contract.{join_at}
use Rattle.paper.proofs.sums.join_at.Goals as goal

pub returns-then-byte_of-b-2 : goal.returns-then-byte_of-b-2
unfolding join_at
returns-then-byte_of-b-2 c =
    let b3 = c in
    let b5 = b3 in
    let a = b5.args in
    rw (
      eq-eqb (get_or a.text.now a.at 0) a.b (sym b3.byte_of.ensures ∙ c.if-byte_of-b.true),
      eq-eqb (get_or a.text.now (a.at + 1) 0)
          a.b (sym c.byte_of-then-byte_of-b.ensures ∙ c.if-byte_of-b-2.true),
    )

pub returns-then-byte_of-b : goal.returns-then-byte_of-b
unfolding join_at
returns-then-byte_of-b c =
    let b3 = c in
    let b5 = b3 in
    let a = b5.args in
    rw (
      eq-eqb (get_or a.text.now a.at 0) a.b (sym b3.byte_of.ensures ∙ c.if-byte_of-b.true),
      ne_eqb (get_or a.text.now (a.at + 1) 0)
          a.b (λ z. c.if-byte_of-b-2.false (c.byte_of-then-byte_of-b.ensures ∙ z)),
    )

pub returns : goal.returns
unfolding join_at
returns c =
    let a = c.args in
    rw (ne_eqb (get_or a.text.now a.at 0) a.b (λ z. c.if-byte_of-b.false (c.byte_of.ensures ∙ z)))
