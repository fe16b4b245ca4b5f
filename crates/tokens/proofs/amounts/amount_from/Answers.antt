use Rattle.std.proofs.Common.{◌≡◌, length, get_or, refl, sym, ◌∙◌, arith}
use lib.ListN.{get_or-eq_default}
use Rattle.lines.specs.Numerals.{digit}
use Rattle.names.proofs.Tests as tests
use Rattle.tokens.proofs.TokenLaws as laws
use Rattle.tokens.proofs.amounts.amount_from.Goals as goal

pub overflow_sub-w : goal.overflow_sub-w
overflow_sub-w c = tests.digit_least _ (sym c.is_digit.ensures ∙ c.if-not-is_digit.false)

pub overflow_add-w : goal.overflow_add-w
overflow_add-w c = omega (arith, tests.digit_most _ (sym c.is_digit.ensures ∙ c.if-not-is_digit.false), c.loop-e.invariant.small)

pub returns-then-not-is_digit : goal.returns-then-not-is_digit
returns-then-not-is_digit c =
    let a = c.args in
    let l = c.loop-e in
    laws.counting_done a.text.now a.at a.first l.e l.v l.invariant _ refl (sym c.is_digit.ensures ∙ c.if-not-is_digit.true)

pub returns-then-w-gt4294967295 : goal.returns-then-w-gt4294967295
returns-then-w-gt4294967295 c =
    let a = c.args in
    let l = c.loop-e in
    laws.counting_large a.text.now a.at a.first l.e l.v l.invariant _ refl (sym c.is_digit.ensures ∙ c.if-not-is_digit.false) c.if-w-gt4294967295.true

pub loop-e-preserved : goal.loop-e-preserved
loop-e-preserved c =
    let a = c.args in
    let l = c.loop-e in
    laws.counting_more a.text.now a.at a.first l.e l.v l.invariant _ refl (sym c.is_digit.ensures ∙ c.if-not-is_digit.false) c.if-w-gt4294967295.false

pub returns : goal.returns
unfolding digit
returns c =
    let a = c.args in
    let l = c.loop-e in
    let e : length a.text.now ≡ l.e = omega (arith, l.invariant.within) in
    let z : 0 ≡ get_or a.text.now l.e 0 = sym (get_or-eq_default a.text.now 0 {n = l.e} (omega arith)) in
    rw e (laws.counting_done a.text.now a.at a.first l.e l.v l.invariant 0 z refl)
