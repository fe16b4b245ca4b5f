-- The selected numbers one after the other.
use mathlib.Core.Path.{◌≡◌, sym, ap, ◌∙◌}
use mathlib.Core.Bool.{Bool, true, false, cond}
use mathlib.Core.List.{List}
use Prim.Native.Nat.{ℕ, ◌+◌, ◌<◌, ◌≤◌}
use native.Mathlib.Numerals.{add-one}
use lib.ListN.{length, take, drop, get_or, drop_of_length-le}
use lib.Seq.{drop-cons}
use Rattle.table.specs.declared.File.{File}
use Rattle.std.proofs.Common.{Option, Some, None}
use Rattle.table.specs.Table.{file_at, numbers, find_of}
use Rattle.table.specs.Fit.{Distinct}
use Rattle.table.proofs.Finding.{find_own}
use Rattle.links.specs.Sound.{complete_at, named_at, named_sound, names_sound}

-- the names from index k on: the one at k, and those after it
step : (fs : List File) (xs : List ℕ) (k : ℕ) → k < length xs
    → names_sound fs (drop k xs) ≡ cond (named_sound fs (get_or xs k 0)) (names_sound fs (drop (k + 1) xs)) false
unfolding names_sound
step fs xs k h = rw (drop-cons xs k 0 h, add-one)

pub passed : (fs : List File) (xs : List ℕ) (k : ℕ) → k < length xs → named_sound fs (get_or xs k 0) ≡ true
    → names_sound fs (drop k xs) ≡ names_sound fs (drop (k + 1) xs)
passed fs xs k h e = step fs xs k h ∙ rw e

pub failed : (fs : List File) (xs : List ℕ) (k : ℕ) → k < length xs → named_sound fs (get_or xs k 0) ≡ false
    → names_sound fs (drop k xs) ≡ false
failed fs xs k h e = step fs xs k h ∙ rw e

pub none_left : (fs : List File) (xs : List ℕ) (k : ℕ) → length xs ≤ k → names_sound fs (drop k xs) ≡ true
unfolding names_sound
none_left fs xs k h = rw (drop_of_length-le xs h)

-- no number is sound, whatever the store
pub none_selected : (fs : List File) (xs : List ℕ) (count : ℕ) → count ≡ 0 → true ≡ names_sound fs (take count xs)
unfolding names_sound
none_selected fs xs count e = rw e

-- what is found at a place is sound where the file there is complete
pub named_place : (fs : List File) (number place : ℕ) (found : Option ℕ) (t : Bool) → found ≡ find_of fs number → found ≡ Some place → t ≡ complete_at fs place
    → named_sound fs number ≡ t
unfolding named_at
named_place fs number place found t e f g = ap (named_at fs) (sym e ∙ f) ∙ sym g

pub named_none : (fs : List File) (number : ℕ) (found : Option ℕ) → found ≡ find_of fs number → found ≡ None → named_sound fs number ≡ false
unfolding named_at
named_none fs number found e f = ap (named_at fs) (sym e ∙ f)

-- with distinct numbers, the place of a record with the number is the place that is found
pub place_own : (fs : List File) → Distinct (numbers fs) → (f : File) (p number : ℕ) → f ≡ file_at fs p → f.number ≡ number → (number ≡ 0 → ⊥)
    → Some p ≡ find_of fs number
place_own fs d f p number e q z =
    let k : (file_at fs p).number ≡ number = ap (λ (g : File). g.number) (sym e) ∙ q in
    sym (ap (λ (n : ℕ). find_of fs n) (sym k) ∙ find_own fs d p (λ y. z (sym k ∙ y)))
