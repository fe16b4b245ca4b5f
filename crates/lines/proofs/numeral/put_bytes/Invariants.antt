use Rattle.std.proofs.Common.{◌≡◌, ◌+◌, map, drop}
use lib.Seq.{sets}
use Rattle.lines.specs.Pairs.{pair_byte}
use Rattle.lines.proofs.numeral.put_bytes.Given as goal

abbrev pub invariant-loop-k : goal.invariant-loop-k
invariant-loop-k l = sets l.bytes (l.at + l.k) (map pair_byte (drop l.k l.pairs)) ≡ sets l.initial.bytes l.at (map pair_byte l.pairs)
