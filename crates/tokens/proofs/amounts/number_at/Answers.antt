use mathlib.Core.Path.{sym, ◌∙◌}
use native.Mathlib.Omega.{arith}
use Rattle.names.proofs.Tests as tests
use Rattle.tokens.proofs.TokenLaws as laws
use Rattle.tokens.proofs.Places as places
use Rattle.tokens.proofs.amounts.number_at.Goals as goal

pub overflow_add-at : goal.overflow_add-at
overflow_add-at c =
    let a = c.args in
    let b = c.byte_of-b in
    let d = sym c.is_digit.ensures ∙ c.if-not-is_digit.false in
    let h = places.byte_in a.text.now a.at b.result (sym b.ensures) (omega (arith, tests.digit_least b.result d)) in
    omega (arith, h, c.well_formed.0.0)

pub overflow_sub-b : goal.overflow_sub-b
overflow_sub-b c = tests.digit_least c.byte_of-b.result (sym c.is_digit.ensures ∙ c.if-not-is_digit.false)

pub amount_from-requires : goal.amount_from-requires
amount_from-requires c =
    let a = c.args in
    let b = c.byte_of-b in
    let d = sym c.is_digit.ensures ∙ c.if-not-is_digit.false in
    let h = places.byte_in a.text.now a.at b.result (sym b.ensures) (omega (arith, tests.digit_least b.result d)) in
    omega (arith, h)

pub size_at-requires : goal.size_at-requires
size_at-requires c =
    let a = c.args in
    let b = c.byte_of-b in
    let d = sym c.is_digit.ensures ∙ c.if-not-is_digit.false in
    let m = c.amount_from in
    laws.amount_in a.text.now a.at a.id b.result b.ensures d m.result m.ensures c.in-Ok.v c.in-Ok.e c.in-Ok.is

pub returns-in-Err : goal.returns-in-Err
returns-in-Err c =
    let a = c.args in
    let b = c.byte_of-b in
    let d = sym c.is_digit.ensures ∙ c.if-not-is_digit.false in
    let m = c.amount_from in
    laws.number_large a.text.now a.at a.id b.result b.ensures d m.result m.ensures c.in-Err.p c.in-Err.is

pub returns-in-Err-size_at : goal.returns-in-Err-size_at
returns-in-Err-size_at c =
    let b3 = c in
    let b5 = b3 in
    let b7 = b5 in
    let b8 = b7 in
    let b9 = b8 in
    let b10 = b9 in
    let b12 = b10 in
    let a = b12.args in
    let b = b10.byte_of-b in
    let d = sym b9.is_digit.ensures ∙ b8.if-not-is_digit.false in
    let m = b7.amount_from in
    let z = b3.size_at in
    laws.number_width a.text.now a.at a.id b.result b.ensures d m.result m.ensures b5.in-Ok.v b5.in-Ok.e b5.in-Ok.is z.result z.ensures
    c.in-Err-size_at.p c.in-Err-size_at.is

pub returns-in-Ok-size_at : goal.returns-in-Ok-size_at
returns-in-Ok-size_at c =
    let b3 = c in
    let b5 = b3 in
    let b7 = b5 in
    let b8 = b7 in
    let b9 = b8 in
    let b10 = b9 in
    let b12 = b10 in
    let a = b12.args in
    let b = b10.byte_of-b in
    let d = sym b9.is_digit.ensures ∙ b8.if-not-is_digit.false in
    let m = b7.amount_from in
    let z = b3.size_at in
    laws.number_is a.text.now a.at a.id b.result b.ensures d m.result m.ensures b5.in-Ok.v b5.in-Ok.e b5.in-Ok.is z.result z.ensures
    c.in-Ok-size_at.w c.in-Ok-size_at.q c.in-Ok-size_at.is

pub returns-then-not-is_digit : goal.returns-then-not-is_digit
returns-then-not-is_digit c =
    let a = c.args in
    let b = c.byte_of-b in
    laws.number_none a.text.now a.at a.id b.result b.ensures (sym c.is_digit.ensures ∙ c.if-not-is_digit.true)
