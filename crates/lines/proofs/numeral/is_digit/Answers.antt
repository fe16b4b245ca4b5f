use Rattle.std.proofs.Common.{le-ltb, lt-ltb, arith}
use Rattle.std.proofs.lemmas.Bool.{lt-leb}
use Rattle.lines.specs.Numerals.{digit}
use Rattle.lines.proofs.numeral.is_digit.Goals as goal

pub returns-then-b-ge48 : goal.returns-then-b-ge48
unfolding digit
returns-then-b-ge48 c = rw (le-ltb c.args.b 48 (omega arith))

pub returns-else-b-ge48 : goal.returns-else-b-ge48
unfolding digit
returns-else-b-ge48 c = rw (lt-ltb c.args.b 48 (omega arith), lt-leb 48 c.args.b (omega arith))
