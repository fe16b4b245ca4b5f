use mathlib.Core.Path.{sym, ◌∙◌}
use native.Mathlib.Omega.{arith}
use lib.ListN.{get_or}
use borrow.Author.Tests.{eq-eqb, ne_eqb}
use Rattle.tokens.specs.Tokens.{escape_at}
use Rattle.tokens.proofs.Places as places
use Rattle.tokens.proofs.strings.escape_at.Goals as goal

pub returns-then-b-eq34 : goal.returns-then-b-eq34
unfolding escape_at
returns-then-b-eq34 c =
    let a = c.args in
    rw (eq-eqb (get_or a.text.now a.at 0) 34 (sym c.byte_of-b.ensures ∙ c.if-b-eq34.true))

pub returns-then-b-eq92 : goal.returns-then-b-eq92
unfolding escape_at
returns-then-b-eq92 c =
    let b4 = c in
    let a = b4.args in
    rw (
      ne_eqb (get_or a.text.now a.at 0) 34 (λ z. c.if-b-eq34.false (c.byte_of-b.ensures ∙ z)),
      eq-eqb
          (get_or a.text.now a.at 0) 92 (sym c.byte_of-b.ensures ∙ c.if-b-eq92.true),
    )

pub code_at-requires : goal.code_at-requires
code_at-requires c =
    let a = c.args in
    omega (arith, places.byte_in a.text.now a.at 120 (sym c.byte_of-b.ensures ∙ c.if-b-eq120.true) (omega arith))

pub returns-then-b-eq120 : goal.returns-then-b-eq120
unfolding escape_at
returns-then-b-eq120 c =
    let b3 = c in
    let b4 = b3 in
    let b6 = b4 in
    let a = b6.args in
    rw (
      ne_eqb (get_or a.text.now a.at 0) 34 (λ z. b3.if-b-eq34.false (b4.byte_of-b.ensures ∙ z)),
      ne_eqb (get_or a.text.now a.at 0) 92
          (λ z. c.if-b-eq92.false (b4.byte_of-b.ensures ∙ z)),
      eq-eqb (get_or a.text.now a.at 0) 120
          (sym b4.byte_of-b.ensures ∙ c.if-b-eq120.true),
    ) c.code_at.ensures

pub returns : goal.returns
unfolding escape_at
returns c =
    let b3 = c in
    let b5 = b3 in
    let a = b5.args in
    rw (
      ne_eqb (get_or a.text.now a.at 0) 34 (λ z. c.if-b-eq34.false (b3.byte_of-b.ensures ∙ z)),
      ne_eqb (get_or a.text.now a.at 0) 92
          (λ z. c.if-b-eq92.false (b3.byte_of-b.ensures ∙ z)),
      ne_eqb (get_or a.text.now a.at 0) 120 (λ z. c.if-b-eq120.false (b3.byte_of-b.ensures ∙ z)),
    )
