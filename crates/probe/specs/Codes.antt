-- Answers of several cases as one number: a refusal's number of document 01's table as it is, which is below 256, and 256 plus the place
-- or the count of an answer that is no refusal.
use Rattle.std.specs.Prelude.{ℕ, ◌+◌, Bool, cond, List, Result, Ok, Err}
use Rattle.files.specs.Uploads.{Begins, begun_number}
use Rattle.files.specs.Selection.{Selects}

-- ---- a new file

-- the place of a file that was begun, 0 for a refusal
unfoldable pub place_of : Result ℕ ℕ → ℕ
place_of (Err n) = 0
place_of (Ok place) = place

unfoldable pub begun_code : Result ℕ ℕ → ℕ
begun_code (Err n) = begun_number (Err n)
begun_code (Ok place) = 256 + place

-- the number answered, and the map, the owners and the table afterwards
pub record Began : Type 0 where
  pub answer : ℕ
  pub map : List ℕ
  pub owner : List ℕ
  pub table : List ℕ

abbrev pub began : ℕ → List ℕ → List ℕ → List ℕ → Began
began answer map owner table = record { answer = answer; map = map; owner = owner; table = table }

-- what the call below leaves, its answer as a number
abbrev pub began_of : Begins → Began
began_of b = began (begun_code b.answer) b.map b.owner b.table

-- ---- a selection

unfoldable pub selection_code : Result ℕ ℕ → ℕ
selection_code (Ok count) = 256 + count
selection_code (Err n) = n

-- the number answered, and the lent numbers afterwards
pub record Picked : Type 0 where
  pub answer : ℕ
  pub selected : List ℕ

abbrev pub picked : ℕ → List ℕ → Picked
picked answer selected = record { answer = answer; selected = selected }

abbrev pub picked_of : Selects → Picked
picked_of s = picked (selection_code s.answer) s.selected

-- ---- soundness

abbrev pub sound_code : Bool → ℕ
sound_code sound = cond sound 1 0
