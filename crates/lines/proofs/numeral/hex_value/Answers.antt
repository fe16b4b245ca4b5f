-- `lines::numeral::hex_value` meets its contract.
use Rattle.std.proofs.Common.{arith}
use Rattle.lines.proofs.NumeralLaws.{digit_value, letter_value, no_value}
use Rattle.lines.proofs.numeral.hex_value.Goals as goal

pub returns-then-d-lt10 : goal.returns-then-d-lt10
returns-then-d-lt10 c =
    digit_value c.args.b c.wrapping_sub_u8-d.result (omega (arith, c.wrapping_sub_u8-d.ensures)) c.if-d-lt10.true

pub returns-then-l-lt6 : goal.returns-then-l-lt6
returns-then-l-lt6 c =
    letter_value c.args.b c.wrapping_sub_u8-l.result (omega (arith, c.wrapping_sub_u8-l.ensures))
    c.if-l-lt6.true

pub returns-else-l-lt6 : goal.returns-else-l-lt6
returns-else-l-lt6 c =
    no_value c.args.b c.wrapping_sub_u8-d.result c.wrapping_sub_u8-l.result
    (omega arith) (omega arith) (omega (arith, c.wrapping_sub_u8-d.ensures)) (omega (arith, c.wrapping_sub_u8-l.ensures)) c.if-d-lt10.false
    c.if-l-lt6.false
