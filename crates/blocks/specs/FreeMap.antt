-- The map of free blocks: "64-bit words, one bit a block; the number free is the count of its one bits". A bit is 1 where its
-- block is free, and the lowest bit of a word is its first block.
use Rattle.std.specs.Prelude.{ℕ, zero, suc, ◌+◌, ◌-◌, ◌/◌, ◌%◌, ◌^◌, cond, List, [], ◌∷◌, get_or, set, eqb}
use Rattle.std.specs.Int.Count.{ones, count_trailing_zeros}

-- the number of free blocks: the one bits of all words
unfoldable pub free_count : List ℕ → ℕ
free_count [] = 0
free_count (w ∷ ws) = ones w + free_count ws

-- bit k of a word
abbrev pub bit_of : ℕ → ℕ → ℕ
bit_of w k = w / 2 ^ k % 2

-- the bit of block b: bit b % 64 of word b / 64; 0 past the last word
abbrev pub bit_at : List ℕ → ℕ → ℕ
bit_at map b = bit_of (get_or map (b / 64) 0) (b % 64)

-- "trailing zeros find the lowest free block": the lowest block whose bit is 1, or 64 for each word where there is none
unfoldable pub lowest : List ℕ → ℕ
lowest [] = 0
lowest (zero ∷ ws) = 64 + lowest ws
lowest (suc w ∷ ws) = count_trailing_zeros 64 (suc w)

-- the map after block b, which was free, is taken
abbrev pub cleared : List ℕ → ℕ → List ℕ
cleared map b = set map (b / 64) (get_or map (b / 64) 0 - 2 ^ (b % 64))

-- the map after block b is set free; a bit that is 1 already, or past the last word, changes nothing
abbrev pub marked : List ℕ → ℕ → List ℕ
marked map b = cond (eqb (bit_at map b) 0) (set map (b / 64) (get_or map (b / 64) 0 + 2 ^ (b % 64))) map

-- the map after the n lowest free blocks are taken, one after the other
unfoldable pub reserved_map : ℕ → List ℕ → List ℕ
reserved_map zero map = map
reserved_map (suc n) map = reserved_map n (cleared map (lowest map))
