use Rattle.std.proofs.Common.{refl}
use Rattle.lines.specs.Pairs.{pair_byte}
use Rattle.lines.proofs.numeral.pair_byte.Goals as goal

pub returns : goal.returns
unfolding pair_byte
returns c = refl
