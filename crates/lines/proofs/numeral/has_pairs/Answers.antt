use Rattle.std.proofs.Common.{◌≡◌, ◌-◌, ◌%◌, ◌≢◌, length, take, drop, sym, ◌∙◌, arith, take_all, length-drop, ne_eqb}
use Rattle.lines.proofs.NumeralLaws.{hex_odd, hex_end}
use Rattle.lines.proofs.PairLaws.{even_digits}
use Rattle.lines.proofs.numeral.has_pairs.Goals as goal

pub returns-then-line-at : goal.returns-then-line-at
returns-then-line-at c = sym (hex_end c.args.line.now c.args.at c.if-line-at.true)

pub returns-then-digits-eq0 : goal.returns-then-digits-eq0
returns-then-digits-eq0 c =
    let e = c.args in
    let rest = drop e.at e.line.now in
    let whole : take (length e.line.now - e.at) rest ≡ rest = take_all (length e.line.now - e.at) rest (omega (arith, length-drop e.at e.line.now)) in
    c.has_digits.ensures ∙ rw whole (even_digits rest (rw whole at c.if-digits-eq0.true))

pub returns-else-digits-eq0 : goal.returns-else-digits-eq0
returns-else-digits-eq0 c =
    let e = c.args in
    let rest = drop e.at e.line.now in
    let whole : take (length e.line.now - e.at) rest ≡ rest = take_all (length e.line.now - e.at) rest (omega (arith, length-drop e.at e.line.now)) in
    let odd : (length e.line.now - e.at) % 2 ≢ 0 = rw (whole, length-drop e.at e.line.now) at c.if-digits-eq0.false in
    rw (whole, hex_odd e.line.now e.at (omega arith)) (ne_eqb _ _ (rw whole at c.if-digits-eq0.false))
