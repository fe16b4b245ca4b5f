use Rattle.tokens.proofs.TokenLaws as laws
use Rattle.tokens.proofs.amounts.amount_from.Given as goal

abbrev pub invariant-loop-e : goal.invariant-loop-e
invariant-loop-e l = laws.Counting l.text l.at l.first l.e l.v
