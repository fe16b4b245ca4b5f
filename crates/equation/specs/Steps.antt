-- What the evaluator's private steps find: the stack in an array, and the rest of a run. Assumes nothing.
use Rattle.std.specs.Prelude.{Bool, false, ◌&&◌, ◌||◌, cond, List, [], ◌∷◌, ℕ, zero, suc, eqb, get_or, Result, Ok, Err}
use Rattle.std.proofs.Math.Option.{Option}
use Rattle.equation.specs.Symbols.{token_number}
use Rattle.equation.specs.Tree.{run}
use Rattle.equation.specs.Marks.{marked_true}
use Rattle.equation.specs.Parsed.{symbols_by}
use Rattle.equation.specs.declared.tokens.Token.TheVariants.{Bad}

-- what a run's end says, by a depth and the result at the stack's bottom
abbrev pub finished : ℕ → Bool → Result Bool ℕ
finished d b = cond (eqb d 1) (Ok b) (Err (token_number Bad))

-- AND or OR of two results
abbrev pub combine : Bool → Bool → Bool → Bool
combine all a b = cond all (a && b) (a || b)

-- the stack that an array holds, its last result first
unfoldable pub stack_of : List Bool → ℕ → List Bool
stack_of bits zero = []
stack_of bits (suc d) = get_or bits d false ∷ stack_of bits d

-- what the rest of the steps gives on a stack, the next relation having number k
unfoldable pub rest : List ℕ → ℕ → List ℕ → List Bool → Option Bool
rest ms k steps st = run (λ j r. marked_true ms j) ◌&&◌ ◌||◌ k (symbols_by [] steps) st
