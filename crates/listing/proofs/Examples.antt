-- Worked examples: a directory of two entries, of 80 and of 200 bytes, filled from several positions. Assumes nothing.
use mathlib.Core.Path.{◌≡◌, refl}
use mathlib.Core.List.{List, [], ◌∷◌, ◌++◌, map}
use Prim.Native.Nat.{ℕ, zero, suc}
use lib.ListN.{length, drop, replicate}
use Rattle.listing.specs.declared.Filled.{Filled}
use Rattle.header.specs.Entries.{running_on}
use Rattle.listing.specs.Listing.{position_at, fill_of}

-- n numbers from one on
up_from : ℕ → ℕ → List ℕ
up_from first zero = []
up_from first (suc n) = first ∷ up_from (suc first) n

entries : List (List ℕ)
entries = up_from 100 80 ∷ up_from 0 200 ∷ []

-- so many entries lie behind then, and bytes of the next one; and these bytes go out
gives : ℕ → ℕ → List ℕ → Filled
gives done sent bytes = record { done = done; sent = sent; size = length bytes; bytes = bytes ++ drop (length bytes) (replicate 256 0) }

record Row : Type 0 where
  done : ℕ
  sent : ℕ
  want : Filled

row : ℕ → ℕ → Filled → Row
row done sent want = record { done = done; sent = sent; want = want }

rows : List Row
rows =
    row 0 0 (gives 1 176 (up_from 100 80 ++ up_from 0 176))  -- from the front: all of the first entry, and of the second what there is room for
    ∷ row 1 176 (gives 2 0 (up_from 176 24))  -- what is left of the second
    ∷ row 2 0 (gives 2 0 [])  -- nothing is left: DATA_END
    ∷ row 0 24 (gives 2 0 (up_from 124 56 ++ up_from 0 200))  -- 256 bytes that end with the last entry
    ∷ row 0 79 (gives 2 0 (179 ∷ up_from 0 200))  -- the first entry's last byte
    ∷ row 0 80 (gives 2 0 (up_from 0 200))  -- at an entry's end the next one follows
    ∷ row 1 0 (gives 2 0 (up_from 0 200))
    ∷ row 0 300 (gives 2 0 [])  -- past all bytes
    ∷ row 3 7 (gives 3 0 [])  -- past all entries
    ∷ []

filled_rows : map (λ r. fill_of entries r.done r.sent) rows ≡ map (λ r. r.want) rows
unfolding fill_of position_at running_on entries up_from gives rows row
filled_rows = refl

-- an entry that the bytes just reach lies behind
reached : fill_of (up_from 0 256 ∷ up_from 0 80 ∷ []) 0 0 ≡ gives 1 0 (up_from 0 256)
unfolding fill_of position_at running_on up_from gives
reached = refl

-- an entry without bytes, a file that is no longer there, is passed over
passed_over : fill_of ([] ∷ up_from 0 80 ∷ []) 0 0 ≡ gives 2 0 (up_from 0 80)
unfolding fill_of position_at running_on up_from gives
passed_over = refl
