-- The machine (crates/grammar) between two places of a text. Assumes nothing.
use Rattle.std.specs.Prelude.{◌≡◌, true, false, List, ℕ, ◌≤◌, length, get_or}
use Rattle.equation.specs.Holds.{Relation}
use Rattle.names.specs.Kinds.{is_blank}
use Rattle.grammar.specs.Formula.{relation, and_after}
use Rattle.grammar.specs.Machine.{Phase, Level, State, inside, have, go, step, refused, from}
use Rattle.grammar.specs.declared.Reason.{Reason}

abbrev pub Goes : List ℕ → State → ℕ → State → ℕ → Type 0
Goes text st at s e = from st at text ≡ from s e text

-- the same inside a relation
abbrev pub GoesIn : List ℕ → Phase → ℕ → Phase → ℕ → Type 0
GoesIn text a at b e = (l : Level) (ls : List Level) → Goes text (inside a l ls) at (inside b l ls) e

abbrev pub StopsIn : List ℕ → Phase → ℕ → ℕ → Reason → Type 0
StopsIn text a at p why = (l : Level) (ls : List Level) → from (inside a l ls) at text ≡ refused p why

-- the state behind a relation
abbrev pub behind : Level → List Level → Relation → State
behind l ls r = have (and_after l.product (relation r)) l.sum ls

-- blanks passed over
pub record Skipped (text : List ℕ) (at e : ℕ) : Type 0 where
  pub forward : at ≤ e
  pub within : e ≤ length text
  pub stops : is_blank (get_or text e 0) ≡ false
  pub runs : (st : State) → ((b : ℕ) → is_blank b ≡ true → step st b ≡ go st) → Goes text st at st e
