-- WHAT IS PROMISED of the relations named and of the list, beside the equation of the public call (src/lib.rt). Document 02, A5: "Prove that each
-- named relation has the truth shown, and that no change to the truth of unnamed ones can change the outcome." Assumes nothing.
use Rattle.std.specs.Prelude.{◌≡◌, Bool, true, false, not, Result, Ok, ◌⊎◌, ℕ, ◌+◌, ◌-◌, ◌≤◌, ◌<◌, length, get_or, take, drop, Some}
use mathlib.Core.List.{List, [], ◌∷◌, Memᴰ}
use Rattle.header.specs.Items.{Field}
use Rattle.equation.specs.Holds.{Relation, relation_of, holds}
use Rattle.equation.specs.Marks.{relations_of}
use Rattle.equation.specs.Answer.{answer, answer_on}
use Rattle.table.specs.Table.{files, numbers, times, find_of}
use Rattle.table.specs.Fit.{Distinct}
use Rattle.files.specs.Selection.{count_in, select_number, select_of}
use Rattle.why.specs.declared.Explained.{Explained}
use Rattle.why.specs.Answer.{refused_by, sizes_fit, items_at, time_at, why_of}

-- a number stands in a list
abbrev pub In : ℕ → List ℕ → Type 0
In n ns = Memᴰ n ns

-- ---- relations by their numbers, from 1

abbrev pub relation_at : List ℕ → ℕ → Relation
relation_at eq n = get_or (relations_of eq) (n - 1) (relation_of 0 0 [])

-- the truth shown: of the relation of a number, on the items of a header
abbrev pub shown : List ℕ → List Field → ℕ → Bool
shown eq fields n = holds (relation_at eq n) fields

-- the outcome of an equation whose relations have these truths, by their numbers
abbrev pub outcome_with : (ℕ → Bool) → List ℕ → Result Bool ℕ
outcome_with truths eq = answer (λ k r. truths (k + 1)) eq

abbrev pub truth_of : Bool → Result Bool ℕ
truth_of matched = Ok matched

-- the numbers rise, from above `low` and up to `high`
abbrev pub Rising : ℕ → ℕ → List ℕ → Type 0
Rising low high [] = Unit {0}
Rising low high (n ∷ ns) = (low < n) × (n ≤ high) × Rising n high ns

-- ---- the relations named

pub record Decides (eq : List ℕ) (fields : List Field) (matched : Bool) (named : List ℕ) : Type 0 where
  -- what decides is the equation's truth on the items
  pub outcome : answer_on eq fields ≡ truth_of matched
  -- "by their numbers in the equation from 1, rising"; at least one is named
  pub rising : Rising 0 (length (relations_of eq)) named
  pub one : 0 < length named
  -- each named relation has the truth shown, and that is the outcome's
  pub truths : (n : ℕ) → In n named → shown eq fields n ≡ matched
  -- whatever the truth of the others, the outcome is the same
  pub enough : (truths : ℕ → Bool) → ((n : ℕ) → In n named → truths n ≡ shown eq fields n) → outcome_with truths eq ≡ truth_of matched
  -- none can be left out: with all other named ones as shown, the outcome can be the other
  pub needed : (n : ℕ) → In n named
      → (truths : ℕ → Bool) × ((m : ℕ) → In m named → (m ≡ n → ⊥) → truths m ≡ shown eq fields m) × (outcome_with truths eq ≡ truth_of (not matched))

-- ---- the list

-- the numbers of the files that SELECT lists
abbrev pub list_of : List ℕ → List ℕ → List ℕ → List ℕ → List ℕ → ℕ → List ℕ
list_of eq disk owner table selected most =
    take (count_in (select_of eq disk owner table selected most).answer) (select_of eq disk owner table selected most).selected

-- a file matched and is not beyond exactly when SELECT lists it
pub record Listed (number : ℕ) (answer : Explained) (list : List ℕ) : Type 0 where
  pub given : answer.matched ≡ true → answer.beyond ≡ false → In number list
  pub only : In number list → (answer.matched ≡ true) × (answer.beyond ≡ false)

-- ---- all of it

module _ (eq : List ℕ) (number : ℕ) (disk owner table : List ℕ) (most : ℕ) (named : List ℕ) where
  pub record Promised (answer : Result Explained ℕ) (named' : List ℕ) : Type 0 where
    -- a refusal has a number, tells nothing else and writes nothing
    pub refusal : (n : ℕ) → answer ≡ refused_by n → (n ≡ 0 → ⊥) × (named' ≡ named)
    -- 33 is for sizes, or for fewer numbers lent than the equation has relations
    pub room : answer ≡ refused_by 33 → (sizes_fit (length eq) (length disk) (length owner) (length table) most ≡ false) ⊎ (length named < length (relations_of eq))
    -- where it is not refused there is a complete file of that number, the relations named decide on its items, and the other numbers lent stay
    pub decided : (told : Explained) → answer ≡ Ok told
        → (place : ℕ) × (find_of (files table) number ≡ Some place) × (0 < time_at table place)
        × Decides eq (items_at disk owner table place) told.matched (take told.count named')
        × (told.count ≤ length named) × (drop told.count named' ≡ drop told.count named)
    -- where file numbers and upload times are given once, the answer is about the list of the SELECT with this equation
    pub listed : (told : Explained) → answer ≡ Ok told → Distinct (numbers (files table)) → Distinct (times (files table))
        → (selected : List ℕ) → select_number eq (length selected) most ≡ 0 → Listed number told (list_of eq disk owner table selected most)

-- of every call
abbrev pub Promises : Type 0
Promises = (eq : List ℕ) (number : ℕ) (disk owner table : List ℕ) (most : ℕ) (named : List ℕ)
    → Promised eq number disk owner table most named (why_of eq number disk owner table most named).answer (why_of eq number disk owner table most named).named
