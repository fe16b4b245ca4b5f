use Rattle.std.proofs.Common.{◌≡◌, ◌*◌, drop}
use lib.Seq.{sets}
use Rattle.lines.specs.Pairs.{pairs_in}
use Rattle.lines.proofs.numeral.pair_up.Given as goal

abbrev pub invariant-loop-k : goal.invariant-loop-k
invariant-loop-k l = sets l.pairs l.k (pairs_in (drop (2 * l.k) l.digits)) ≡ pairs_in l.digits
