use native.Mathlib.Omega.{arith}
use Rattle.numbers.proofs.HexLaws.{digit_figure, digit_letter}
use Rattle.numbers.proofs.hex_digit.Goals as goal

pub returns-then-half-lt10 : goal.returns-then-half-lt10
returns-then-half-lt10 c = digit_figure c.args.n c.if-half-lt10.true

pub returns-else-half-lt10 : goal.returns-else-half-lt10
returns-else-half-lt10 c = digit_letter c.args.n (omega (arith, c.if-half-lt10.false))
