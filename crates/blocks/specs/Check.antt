-- The check of the map against the owners, as a test and as the facts that it stands for: "each storage block is free or belongs
-- to one file", and no owner "points at what the store lacks" (refusal 35).
use Rattle.std.specs.Prelude.{ℕ, ◌+◌, ◌/◌, ◌^◌, ◌≤◌, ◌<◌, ◌≡◌, Bool, true, ◌&&◌, List, [], ◌∷◌, length, get_or, drop, eqb, leb}
use Rattle.blocks.specs.FreeMap.{bit_at}
use Rattle.blocks.specs.Owners.{is_free, word_of}

-- the words of a map of n blocks, 64 blocks a word
abbrev pub words_for : ℕ → ℕ
words_for n = (n + 63) / 64

-- no owner is above `files`
unfoldable pub within : ℕ → List ℕ → Bool
within files [] = true
within files (o ∷ os) = leb o files && within files os

-- each word of the map is the word of its 64 blocks
unfoldable pub map_is : List ℕ → List ℕ → Bool
map_is [] os = true
map_is (w ∷ ws) os = eqb w (word_of 64 os) && map_is ws (drop 64 os)

unfoldable pub agrees_test : List ℕ → List ℕ → ℕ → Bool
agrees_test map owner files = eqb (length map) (words_for (length owner)) && within files owner && map_is map owner

-- The facts: the map has the words of its blocks and 64-bit words; the bit of each block is 1 exactly where the block is free, and no
-- bit past the last block is 1 (what is past it counts as owned); each owner is 0 or that of one of the file places.
pub record Agrees (map owner : List ℕ) (files : ℕ) : Type 0 where
  pub words : length map ≡ words_for (length owner)
  pub sized : (i : ℕ) → get_or map i 0 < 2 ^ 64
  pub bits : (b : ℕ) → bit_at map b ≡ is_free (get_or owner b 1)
  pub places : (b : ℕ) → get_or owner b 0 ≤ files
