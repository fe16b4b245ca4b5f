-- An equation parsed: the list of its steps, by which its relations are found again without reading or judging its bytes anew. A step is a
-- number: below 2,048 the place of a relation's first byte, 2,048 AND, 2,049 OR, any other what is none of these. Assumes nothing.
use Rattle.std.specs.Prelude.{◌&&◌, ◌||◌, cond, List, [], ◌∷◌, ◌++◌, map, ℕ, zero, suc, ◌+◌, ◌*◌, ltb, leb, eqb, length, get_or, take, drop, Bool, Result, Ok, Err}
use Rattle.refusal.specs.Refusal.{number}
use Rattle.equation.specs.Holds.{Relation, relation_of}
use Rattle.equation.specs.Symbols.{token_of, Symbol, rel, and, or, bad, relations}
use Rattle.equation.specs.Tree.{run}
use Rattle.equation.specs.Marks.{marked_true}
use Rattle.equation.specs.Answer.{validity_of, verdict}
use Rattle.equation.specs.declared.evaluation.Unparsed.{Unparsed}
use Rattle.equation.specs.declared.tokens.Token.{Token}
use Rattle.equation.specs.declared.tokens.Token.TheVariants.{Bad, End, And, Or, Rel}

-- ---- what steps say

-- the relation that stands at a place of an equation, its bytes not judged
abbrev pub relation_from : List ℕ → ℕ → Relation
relation_from eq at =
    relation_of (get_or eq at 0) (get_or eq (at + 1) 0 + 256 * get_or eq (at + 2) 0) (take (get_or eq (at + 3) 0) (drop (at + 4) eq))

unfoldable pub symbol_at : List ℕ → ℕ → Symbol
symbol_at eq s = cond (ltb s 2048) (rel (relation_from eq s)) (cond (eqb s 2048) and (cond (eqb s 2049) or bad))

abbrev pub symbols_by : List ℕ → List ℕ → List Symbol
symbols_by eq steps = map (symbol_at eq) steps

abbrev pub relations_by : List ℕ → List ℕ → List Relation
relations_by eq steps = relations (symbols_by eq steps)

-- the run of steps by the marks of their relations; which relations they are does not matter then, so the symbols are those on no bytes
unfoldable pub outcome_by : List ℕ → List ℕ → Result Bool ℕ
outcome_by steps ms = verdict (run (λ k r. marked_true ms k) ◌&&◌ ◌||◌ 0 (symbols_by [] steps) [])

-- ---- the steps of an equation

-- what a token at a place gives, with the steps past so many further bytes
unfoldable pub step_then : Token → ℕ → (ℕ → List ℕ) → List ℕ
step_then Bad at k = 2050 ∷ []
step_then End at k = []
step_then And at k = 2048 ∷ k 0
step_then Or at k = 2049 ∷ k 0
step_then (Rel c i n) at k = at ∷ k (3 + n)

-- past the first bytes, as many as the first number says, the steps; the second number is the place of the first byte
unfoldable pub steps_past : ℕ → ℕ → List ℕ → List ℕ
steps_past n at [] = []
steps_past zero at (c ∷ bs) = step_then (token_of (c ∷ bs)) at (λ n. steps_past n (suc at) bs)
steps_past (suc n) at (c ∷ bs) = steps_past n (suc at) bs

abbrev pub steps_of : List ℕ → List ℕ
steps_of eq = steps_past 0 0 eq

-- ---- the answer of parsing, and the lent steps afterwards

-- the same answer with the refusal's number and the count in the refusal's place
abbrev pub counted : Result ℕ Unparsed → Result ℕ (ℕ × ℕ)
counted (Ok count) = Ok count
counted (Err unparsed) = Err (number unparsed.refusal, unparsed.count)

-- the answer by an equation's number, 0 where it is accepted, and by how many steps it has
abbrev pub counted_by : ℕ → ℕ → Result ℕ (ℕ × ℕ)
counted_by n count = cond (eqb n 0) (Ok count) (Err (n, count))

-- how many steps there are; where they are refused, behind the number of the refusal
pub record Parses : Type 0 where
  pub answer : Result ℕ (ℕ × ℕ)
  pub steps : List ℕ

abbrev pub parses : Result ℕ (ℕ × ℕ) → List ℕ → Parses
parses answer steps = record { answer = answer; steps = steps }

-- 33 above 2,047 bytes or where fewer numbers are lent than the equation has bytes, and nothing is written; else the steps in front and how many
-- they are, and 8 where they are refused
unfoldable pub parse_of : List ℕ → List ℕ → Parses
parse_of eq steps =
    cond (leb (length eq) 2047 && leb (length eq) (length steps))
    (parses (counted_by (validity_of eq) (length (steps_of eq))) (steps_of eq ++ drop (length (steps_of eq)) steps))
    (parses (Err (33, 0)) steps)
