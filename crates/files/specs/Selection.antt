-- The files that an equation selects (document 01, "Equations", last paragraph): "The selection is the oldest MAXSEL matching complete
-- files by upload time".
use Rattle.std.specs.Prelude.{ℕ, ◌-◌, Bool, false, cond, Result, Ok, Err, ◌&&◌, List, [], ◌∷◌, ◌++◌, map, length, take, drop, replicate, leb, eqb}
use Rattle.equation.specs.Answer.{validity_of}
use Rattle.stored.specs.Answers.{truth_at}
use Rattle.table.specs.Table.{files}
use Rattle.table.specs.Order.{in_order}
use Rattle.files.specs.View.{record_at}

unfoldable pub is_yes : Result Bool ℕ → Bool
is_yes (Ok b) = b
is_yes (Err n) = false

-- the equation is true on the file at a place
abbrev pub meets_at : List ℕ → List ℕ → List ℕ → List ℕ → ℕ → Bool
meets_at eq disk owner table place = is_yes (truth_at eq disk owner place (record_at table place).received)

-- of the places, those that pass a test, in their order
unfoldable pub passing : (ℕ → Bool) → List ℕ → List ℕ
passing test [] = []
passing test (place ∷ places) = cond (test place) (place ∷ passing test places) (passing test places)

-- the numbers of the files at places
abbrev pub numbers_at : List ℕ → List ℕ → List ℕ
numbers_at table places = map (λ place. (record_at table place).number) places

-- the places of the oldest `most` matching complete files, oldest first
abbrev pub chosen : ℕ → List ℕ → List ℕ → List ℕ → List ℕ → List ℕ
chosen most eq disk owner table = take most (passing (meets_at eq disk owner table) (in_order 0 (files table)))

-- 33, "a size or length outside the table .. or a lent buffer too short": MAXSEL is 1 to 50, the server accepts 256 information bytes;
-- 8, "equation refused"
unfoldable pub select_number : List ℕ → ℕ → ℕ → ℕ
select_number eq n most = cond (leb 1 most && (leb most 50 && (leb most n && leb (length eq) 256))) (validity_of eq) 33

-- how many files were selected, 0 for a refusal; and the number of a refusal, 0 for none
abbrev pub count_in : Result ℕ ℕ → ℕ
count_in (Ok count) = count
count_in (Err n) = 0

abbrev pub refusal_in : Result ℕ ℕ → ℕ
refusal_in (Ok count) = 0
refusal_in (Err n) = n

-- the answer, and the lent numbers afterwards
pub record Selects : Type 0 where
  pub answer : Result ℕ ℕ
  pub selected : List ℕ

abbrev pub selects : Result ℕ ℕ → List ℕ → Selects
selects answer selected = record { answer = answer; selected = selected }

-- the numbers chosen, zeros up to `most`, and what was there beyond
abbrev pub listed : ℕ → List ℕ → List ℕ → List ℕ
listed most numbers selected = numbers ++ (replicate (most - length numbers) 0 ++ drop most selected)

unfoldable pub select_of : List ℕ → List ℕ → List ℕ → List ℕ → List ℕ → ℕ → Selects
select_of eq disk owner table selected most =
    cond (eqb (select_number eq (length selected) most) 0)
    (selects (Ok (length (chosen most eq disk owner table)))
    (listed most (numbers_at table (chosen most eq disk owner table)) selected))
    (selects (Err (select_number eq (length selected) most)) selected)
