use Rattle.std.proofs.Common.{◌≡◌, length, sym, ap, ◌∙◌, arith}
use Rattle.lines.proofs.NumeralLaws.{digit_least, digits_next, digits_stop, digits_end, decimal_next, decimal_passed, decimal_stop}
use Rattle.lines.proofs.numeral.decimal.Goals as goal

pub returns-then-not-is_digit : goal.returns-then-not-is_digit
returns-then-not-is_digit c =
    let l = c.loop-i in
    let line = c.args.line.now in
    c.ended.ensures
    ∙ decimal_stop line c.args.at l.value l.i l.invariant.same l.auto.i l.invariant.fits l.invariant.count
    (digits_stop line l.i (omega arith) (sym c.is_digit.ensures ∙ c.if-not-is_digit.true))

pub overflow_sub-value : goal.overflow_sub-value
overflow_sub-value c = digit_least _ (sym c.is_digit.ensures ∙ c.if-not-is_digit.false)

pub returns-then-value-gt4294967295 : goal.returns-then-value-gt4294967295
returns-then-value-gt4294967295 c =
    let l = c.loop-i in
    decimal_passed c.args.line.now c.args.at l.value l.i l.invariant.same (omega arith) (sym c.is_digit.ensures ∙ c.if-not-is_digit.false) (omega arith)

pub loop-i-preserved : goal.loop-i-preserved
loop-i-preserved c =
    let l = c.loop-i in
    let line = c.args.line.now in
    let e = sym c.is_digit.ensures ∙ c.if-not-is_digit.false in
    record {
      within = omega arith;
      fits = omega arith;
      count = omega (arith, l.invariant.count, ap length (digits_next line l.i (omega arith) e));
      same = sym (decimal_next line l.i l.value (omega arith) e) ∙ l.invariant.same;
    }

pub returns : goal.returns
returns c =
    let l = c.loop-i in
    let line = c.args.line.now in
    let e : l.i ≡ c.max.result = omega arith in
    c.ended-2.ensures
    ∙ rw (← e) (decimal_stop line c.args.at l.value l.i l.invariant.same l.auto.i l.invariant.fits l.invariant.count (digits_end line l.i (omega arith)))
