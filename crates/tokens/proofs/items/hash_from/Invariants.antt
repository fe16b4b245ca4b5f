use Rattle.tokens.proofs.TokenLaws as laws
use Rattle.tokens.proofs.items.hash_from.Given as goal

abbrev pub invariant-loop-n : goal.invariant-loop-n
invariant-loop-n l = laws.Hashing l.text l.at l.n l.v
