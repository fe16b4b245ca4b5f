-- What the code finds in one pass over an equation's steps: the run of equation.specs.Tree over results that have their reasons with them, and
-- its stack as it lies in arrays. Assumes nothing.
use Rattle.std.specs.Prelude.{◌≡◌, Bool, true, false, not, cond, List, [], ◌∷◌, ◌++◌, ℕ, zero, suc, ◌+◌, ◌≤◌, length, get_or, take, drop}
use Rattle.std.proofs.Math.Option.{Option, none, some}
use Rattle.header.specs.Items.{Field}
use Rattle.equation.specs.Holds.{Relation}
use Rattle.equation.specs.Tree.{run, Tree, truth_on}
use Rattle.equation.specs.Marks.{marked_true}
use Rattle.equation.specs.Parsed.{symbols_by}
use Rattle.why.specs.Answer.{reasons_on}
use Rattle.why.specs.declared.reasons.Decided.{Decided}

-- ---- results with their reasons

pub record Result : Type 0 where
  pub truth : Bool
  pub reasons : List ℕ

abbrev pub result : Bool → List ℕ → Result
result truth reasons = record { truth = truth; reasons = reasons }

-- a tree's result on the items of a header
abbrev pub result_on : List Field → Tree → Result
result_on fields t = result (truth_on fields t) (reasons_on fields t)

-- an operand of AND (all) that is false settles it, and one of OR that is true
abbrev pub settles : Bool → Bool → Bool
settles all truth = cond all (not truth) truth

-- the reasons of the first operand that settles the outcome, and of both where none does
abbrev pub deciding : Bool → Bool → List ℕ → List ℕ → List ℕ
deciding first second xs ys = cond first xs (cond second ys (xs ++ ys))

unfoldable pub join_of : Bool → Result → Result → Result
join_of all a b =
    result (cond (settles all a.truth) a.truth b.truth)
    (deciding (settles all a.truth) (settles all b.truth) a.reasons b.reasons)

abbrev pub leaf_of : List ℕ → ℕ → Relation → Result
leaf_of ms k r = result (marked_true ms k) ((k + 1) ∷ [])

-- what the rest of the steps gives on a stack, by the marks of the relations, the next of which has number k from 0
unfoldable pub rest : List ℕ → ℕ → List ℕ → List Result → Option Result
rest ms k steps st = run (leaf_of ms) (join_of true) (join_of false) k (symbols_by [] steps) st

abbrev pub result_by : List ℕ → List ℕ → Option Result
result_by steps ms = rest ms 0 steps []

-- ---- as it lies in arrays

-- the reasons of all results of the stack lie in a row one behind the other, the last result's at its end; `from` has where each begins
unfoldable pub stack_of : List Bool → List ℕ → ℕ → List ℕ → List Result
stack_of bits from zero row = []
stack_of bits from (suc d) row = result (get_or bits d false) (drop (get_or from d 0) row) ∷ stack_of bits from d (take (get_or from d 0) row)

-- they begin in order, the first at the row's first place
abbrev pub Begin : List ℕ → ℕ → ℕ → Type 0
Begin from zero n = n ≡ 0
Begin from (suc d) n = (get_or from d 0 ≤ n) × Begin from d (get_or from d 0)

-- the row after the last two results, whose reasons begin at two places, became one
unfoldable pub joined_row : Bool → Bool → ℕ → ℕ → List ℕ → List ℕ
joined_row p q first second row = take first row ++ deciding p q (drop first (take second row)) (drop second row)

-- the pass tells a result: its truth, and its reasons in front of the row; of steps that are refused it tells nothing
abbrev pub Tells : Option Result → Decided → List ℕ → Type 0
Tells none r row = Unit {0}
Tells (some v) r row = (r.matched ≡ v.truth) × (r.count ≡ length v.reasons) × (take r.count row ≡ v.reasons)
