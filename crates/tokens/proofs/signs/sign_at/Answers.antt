use mathlib.Core.Path.{sym, ◌∙◌}
use native.Mathlib.Omega.{arith}
use lib.ListN.{get_or}
use borrow.Author.Tests.{eq-eqb, ne_eqb}
use Rattle.tokens.specs.Tokens.{sign_at}
use Rattle.tokens.proofs.Places as places
use Rattle.tokens.proofs.signs.sign_at.Goals as goal

pub order_at-requires : goal.order_at-requires
order_at-requires c =
    let a = c.args in
    let b = c.byte_of-b in
    let h = places.byte_in a.text.now a.at 60 (sym b.ensures ∙ c.if-b-eq60.true) (omega arith) in
    omega (arith, h)

pub returns-then-b-eq60 : goal.returns-then-b-eq60
unfolding sign_at
returns-then-b-eq60 c =
    let a = c.args in
    let b = c.byte_of-b in
    let s = get_or a.text.now a.at 0 in
    rw (eq-eqb s 60 (sym b.ensures ∙ c.if-b-eq60.true))
    c.order_at.ensures

pub order_at-requires-then-b-eq62 : goal.order_at-requires-then-b-eq62
order_at-requires-then-b-eq62 c =
    let a = c.args in
    let b = c.byte_of-b in
    let h = places.byte_in a.text.now a.at 62 (sym b.ensures ∙ c.if-b-eq62.true) (omega arith) in
    omega (arith, h)

pub returns-then-b-eq62 : goal.returns-then-b-eq62
unfolding sign_at
returns-then-b-eq62 c =
    let a = c.args in
    let b = c.byte_of-b in
    let s = get_or a.text.now a.at 0 in
    rw (ne_eqb s 60 (λ z. c.if-b-eq60.false (b.ensures ∙ z)), eq-eqb s 62 (sym b.ensures ∙ c.if-b-eq62.true))
    c.order_at-then-b-eq62.ensures

pub second_at-requires : goal.second_at-requires
second_at-requires c =
    let a = c.args in
    let b = c.byte_of-b in
    let h = places.byte_in a.text.now a.at 61 (sym b.ensures ∙ c.if-b-eq61.true) (omega arith) in
    omega (arith, h)

pub returns-then-b-eq61 : goal.returns-then-b-eq61
unfolding sign_at
returns-then-b-eq61 c =
    let b3 = c in
    let b4 = b3 in
    let b6 = b4 in
    let a = b6.args in
    let b = b4.byte_of-b in
    let s = get_or a.text.now a.at 0 in
    rw (
      ne_eqb s 60 (λ z. b3.if-b-eq60.false (b.ensures ∙ z)),
      ne_eqb s 62 (λ z. c.if-b-eq62.false (b.ensures ∙ z)),
      eq-eqb s 61
          (sym b.ensures ∙ c.if-b-eq61.true),
    )
    c.second_at.ensures

pub second_at-requires-then-b-eq33 : goal.second_at-requires-then-b-eq33
second_at-requires-then-b-eq33 c =
    let a = c.args in
    let b = c.byte_of-b in
    let h = places.byte_in a.text.now a.at 33 (sym b.ensures ∙ c.if-b-eq33.true) (omega arith) in
    omega (arith, h)

pub returns-then-b-eq33 : goal.returns-then-b-eq33
unfolding sign_at
returns-then-b-eq33 c =
    let b3 = c in
    let b4 = b3 in
    let b5 = b4 in
    let b7 = b5 in
    let a = b7.args in
    let b = b5.byte_of-b in
    let s = get_or a.text.now a.at 0 in
    rw (
      ne_eqb s 60 (λ z. b4.if-b-eq60.false (b.ensures ∙ z)),
      ne_eqb s 62 (λ z. b3.if-b-eq62.false (b.ensures ∙ z)),
      ne_eqb s 61
          (λ z. c.if-b-eq61.false (b.ensures ∙ z)),
      eq-eqb s 33 (sym b.ensures ∙ c.if-b-eq33.true),
    )
    c.second_at-then-b-eq33.ensures

pub returns : goal.returns
unfolding sign_at
returns c =
    let b3 = c in
    let b4 = b3 in
    let b6 = b4 in
    let a = b6.args in
    let b = b4.byte_of-b in
    let s = get_or a.text.now a.at 0 in
    rw (
      ne_eqb s 60 (λ z. b3.if-b-eq60.false (b.ensures ∙ z)),
      ne_eqb s 62 (λ z. c.if-b-eq62.false (b.ensures ∙ z)),
      ne_eqb s 61
          (λ z. c.if-b-eq61.false (b.ensures ∙ z)),
      ne_eqb s 33 (λ z. c.if-b-eq33.false (b.ensures ∙ z)),
    )
