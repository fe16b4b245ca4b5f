-- The answers of this layer, with document 01's numbers: 8, "equation refused", and 33, "a size or length outside the table" ("equation bytes
-- the evaluator takes" are at most 2,047). 8 is one number, whatever is wrong: that of what is no token. Assumes nothing.
use Rattle.std.specs.Prelude.{Bool, false, cond, List, ℕ, ltb, length, Result, Ok, Err}
use Rattle.std.proofs.Math.Option.{Option, none, some}
use Rattle.header.specs.Items.{Field, fields_of}
use Rattle.equation.specs.Holds.{Relation, holds}
use Rattle.equation.specs.Symbols.{token_number}
use Rattle.equation.specs.Tree.{Tree, parse, truth}
use Rattle.equation.specs.Marks.{marked_true}
use Rattle.equation.specs.declared.tokens.Token.TheVariants.{Bad}

-- the number of an answer: 0 for an equation that is taken
unfoldable pub number_of : Result Bool ℕ → ℕ
number_of (Ok b) = 0
number_of (Err n) = n

-- a tree's truth, or 8 where there is none
unfoldable pub said : (ℕ → Relation → Bool) → Option Tree → Result Bool ℕ
said f none = Err (token_number Bad)
said f (some t) = Ok (truth f t)

-- the same of a run's result
unfoldable pub verdict : Option Bool → Result Bool ℕ
verdict none = Err (token_number Bad)
verdict (some b) = Ok b

-- an equation, with the truth of its relations given
unfoldable pub answer : (ℕ → Relation → Bool) → List ℕ → Result Bool ℕ
answer f eq = cond (ltb 2047 (length eq)) (Err 33) (said f (parse eq))

-- an equation by the marks of its relations
abbrev pub outcome_of : List ℕ → List ℕ → Result Bool ℕ
outcome_of eq ms = answer (λ k r. marked_true ms k) eq

-- an equation on the items of a header, and on the bytes of a file
abbrev pub answer_on : List ℕ → List Field → Result Bool ℕ
answer_on eq fields = answer (λ k r. holds r fields) eq

abbrev pub answer_of : List ℕ → List ℕ → Result Bool ℕ
answer_of eq file = answer_on eq (fields_of file)

-- 8 where an equation has no tree, 33 above 2,047 bytes, and else 0
unfoldable pub refusal : Option Tree → ℕ
refusal none = token_number Bad
refusal (some t) = 0

unfoldable pub validity_of : List ℕ → ℕ
validity_of eq = cond (ltb 2047 (length eq)) 33 (refusal (parse eq))

-- an equation selects a file with these items: it is accepted, and true of them
unfoldable pub is_yes : Result Bool ℕ → Bool
is_yes (Ok b) = b
is_yes (Err n) = false

abbrev pub selects : List ℕ → List Field → Bool
selects eq fields = is_yes (answer_on eq fields)
