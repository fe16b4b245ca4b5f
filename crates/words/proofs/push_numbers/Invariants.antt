use Rattle.words.proofs.PieceLaws.{Left}
use Rattle.words.proofs.push_numbers.Given as goal

abbrev pub invariant-loop-v : goal.invariant-loop-v
invariant-loop-v l = Left l.initial.out l.n l.named l.out l.to l.v-index
