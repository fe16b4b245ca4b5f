-- The complete files in order of upload time. The times are those at each place, 0 where there is no complete file.
use Rattle.std.specs.Prelude.{ℕ, zero, suc, ◌<◌, cond, List, [], ◌∷◌, length, get_or, eqb, ltb, Option, Some, None}
use Rattle.table.specs.declared.File.{File}
use Rattle.table.specs.Table.{first_with, times}

-- the lesser of a time and the least of others, which is 0 where there are none
abbrev pub lesser : ℕ → ℕ → ℕ
lesser t least = cond (eqb least 0) t (cond (ltb least t) least t)

-- the least of the times above `after`, 0 where there is none
unfoldable pub least_above : ℕ → List ℕ → ℕ
least_above after [] = 0
least_above after (t ∷ ts) = cond (ltb after t) (lesser t (least_above after ts)) (least_above after ts)

-- the place with the least time above `after`, the lowest where two have it
unfoldable pub next_above : ℕ → List ℕ → Option ℕ
next_above after ts = cond (eqb (least_above after ts) 0) None (first_with (least_above after ts) ts)

abbrev pub next_complete : List File → ℕ → Option ℕ
next_complete fs after = next_above after (times fs)

-- a place that was found and what comes after it
abbrev pub and_then : Option ℕ → (ℕ → List ℕ) → List ℕ
and_then None rest = []
and_then (Some place) rest = place ∷ rest place

-- the places from the next one above `after` on, each the next above the time of the one before; at most n of them
unfoldable pub places_above : ℕ → ℕ → List ℕ → List ℕ
places_above zero after ts = []
places_above (suc n) after ts = and_then (next_above after ts) (λ place. places_above n (get_or ts place 0) ts)

-- the places of the complete files with an upload time above `after`, oldest first; there are no more of them than places
abbrev pub in_order : ℕ → List File → List ℕ
in_order after fs = places_above (length fs) after (times fs)

-- the times at these places rise strictly, and the first is above `after`
abbrev pub Rising : ℕ → List ℕ → List ℕ → Type 0
Rising after ts [] = Unit {0}
Rising after ts (place ∷ places) = (after < get_or ts place 0) × Rising (get_or ts place 0) ts places
