use mathlib.Core.Path.{sym, ◌∙◌}
use native.Mathlib.Omega.{arith}
use Rattle.readings.proofs.ConstantLaws as laws
use Rattle.paper.proofs.constant.constant_at.Goals as goal

pub number-requires : goal.number-requires
number-requires c =
    let b3 = c in
    let b6 = b3 in
    let b = b3.byte_of-b in
    (b6.requires.0, omega (arith, b6.requires.1), rw (← b.ensures) (sym c.is_digit.ensures ∙ c.if-is_digit.true))

pub string_at-requires : goal.string_at-requires
string_at-requires c =
    let b3 = c in
    let b6 = b3 in
    let b9 = b6 in
    let a = b9.args in
    let b = b6.byte_of-b in (
      laws.string_in a.text.now a.at a.id a.c a.out.now a.n b9.requires.2 b.result b.ensures
          b3.if-b-eq34.true,
      omega (arith, b9.requires.1),
    )

pub returns-then-is_equality : goal.returns-then-is_equality
returns-then-is_equality c =
    let b4 = c in
    let b5 = b4 in
    let b6 = b5 in
    let b9 = b6 in
    let b12 = b9 in
    let a = b12.args in
    let b = b9.byte_of-b in
    let s = c.string_at in
    laws.string_from a.text.now a.at a.id a.c a.out.now a.n b12.requires.2 b.result b.ensures b6.if-b-eq34.true
    (sym b5.is_equality.ensures ∙ b4.if-is_equality.true) s.result _ s.ensures

pub returns-then-b-eq34 : goal.returns-then-b-eq34
returns-then-b-eq34 c =
    let b5 = c in
    let b8 = b5 in
    let a = b8.args in
    let b = b5.byte_of-b in
    laws.no_order a.text.now a.at a.id a.c a.out.now a.n b8.requires.2 b.result b.ensures c.if-b-eq34.true
    (sym c.is_equality.ensures ∙ c.if-is_equality.false) a.out.now

pub returns : goal.returns
returns c =
    let b3 = c in
    let b6 = b3 in
    let a = b6.args in
    let b = b3.byte_of-b in
    laws.no_constant a.text.now a.at a.id a.c a.out.now a.n b6.requires.2 b.result b.ensures
    (sym c.is_digit.ensures ∙ c.if-is_digit.false) c.if-b-eq34.false a.out.now
