use mathlib.Core.Path.{sym, ◌∙◌}
use native.Mathlib.Omega.{arith}
use lib.ListN.{get_or}
use borrow.Author.Tests.{lt-ltb, le-ltb, eq-eqb, ne_eqb}
use Rattle.tokens.specs.Tokens.{character_at}
use Rattle.names.proofs.Tests as tests
use Rattle.tokens.proofs.Places as places
use Rattle.tokens.proofs.strings.character_at.Goals as goal

pub returns-then-b-eq34 : goal.returns-then-b-eq34
unfolding character_at
returns-then-b-eq34 c =
    let a = c.args in
    rw (eq-eqb (get_or a.text.now a.at 0) 34 (sym c.byte_of-b.ensures ∙ c.if-b-eq34.true))

pub escape_at-requires : goal.escape_at-requires
escape_at-requires c =
    let a = c.args in
    omega (arith, places.byte_in a.text.now a.at 92 (sym c.byte_of-b.ensures ∙ c.if-b-eq92.true) (omega arith))

pub returns-then-count-lt255 : goal.returns-then-count-lt255
unfolding character_at
returns-then-count-lt255 c =
    let b3 = c in
    let b4 = b3 in
    let b6 = b4 in
    let a = b6.args in
    rw (
      ne_eqb (get_or a.text.now a.at 0) 34 (λ z. b3.if-b-eq34.false (b4.byte_of-b.ensures ∙ z)),
      eq-eqb (get_or a.text.now a.at 0) 92
          (sym b4.byte_of-b.ensures ∙ c.if-b-eq92.true),
      lt-ltb a.count 255 c.if-count-lt255.true,
    ) c.escape_at.ensures

pub returns-then-b-eq92 : goal.returns-then-b-eq92
unfolding character_at
returns-then-b-eq92 c =
    let b3 = c in
    let b5 = b3 in
    let a = b5.args in
    rw (
      ne_eqb (get_or a.text.now a.at 0) 34 (λ z. c.if-b-eq34.false (b3.byte_of-b.ensures ∙ z)),
      eq-eqb (get_or a.text.now a.at 0) 92
          (sym b3.byte_of-b.ensures ∙ c.if-b-eq92.true),
      le-ltb a.count 255 c.if-count-lt255.false,
    )

pub added_at-requires : goal.added_at-requires
added_at-requires c =
    let a = c.args in
    let b = c.byte_of-b in
    let p = tests.printed_least b.result (sym c.is_printed.ensures ∙ c.if-is_printed.true) in
    let h = places.byte_in a.text.now a.at b.result (sym b.ensures) (omega (arith, p)) in
    omega (arith, h, c.well_formed.0.0)

pub returns-then-is_printed : goal.returns-then-is_printed
unfolding character_at
returns-then-is_printed c =
    let b3 = c in
    let b4 = b3 in
    let b5 = b4 in
    let b7 = b5 in
    let a = b7.args in
    let b = b5.byte_of-b in
    rw (
      ne_eqb (get_or a.text.now a.at 0) 34 (λ z. b4.if-b-eq34.false (b5.byte_of-b.ensures ∙ z)),
      ne_eqb (get_or a.text.now a.at 0) 92
          (λ z. b3.if-b-eq92.false (b5.byte_of-b.ensures ∙ z)),
      ← b.ensures,
      ← c.is_printed.ensures,
      c.if-is_printed.true,
    ) c.added_at.ensures

pub returns : goal.returns
unfolding character_at
returns c =
    let b3 = c in
    let b4 = b3 in
    let b6 = b4 in
    let a = b6.args in
    let b = b4.byte_of-b in
    rw (
      ne_eqb (get_or a.text.now a.at 0) 34 (λ z. b3.if-b-eq34.false (b4.byte_of-b.ensures ∙ z)),
      ne_eqb (get_or a.text.now a.at 0) 92
          (λ z. c.if-b-eq92.false (b4.byte_of-b.ensures ∙ z)),
      ← b.ensures,
      ← c.is_printed.ensures,
      c.if-is_printed.false,
    )
