use Rattle.std.proofs.Common.{◌≡◌, ◌≤◌, max, length}
use Rattle.tokens.specs.Tokens.{past_blanks}
use Rattle.tokens.proofs.items.past_blanks.Given as goal

abbrev pub invariant-loop-e : goal.invariant-loop-e
invariant-loop-e l = record { within : l.e ≤ max l.at (length l.text); same : past_blanks l.text l.e ≡ past_blanks l.text l.at }
