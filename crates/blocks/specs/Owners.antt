-- The owners of the blocks, one entry a block: 0 for a free block, else the file place plus 1. The number of blocks is the
-- number of entries. A file's blocks are all blocks with its owner value, in rising order, so a block is free or one file's.
use Rattle.std.specs.Prelude.{ℕ, zero, suc, ◌+◌, ◌*◌, cond, List, [], ◌∷◌, set, drop, eqb}
use Rattle.blocks.specs.FreeMap.{lowest, cleared, marked}

-- the bit that goes with an owner: 1 for a free block, 0 for a block of a file place
abbrev pub is_free : ℕ → ℕ
is_free zero = 1
is_free (suc place) = 0

-- the number of blocks with owner v
unfoldable pub blocks : ℕ → List ℕ → ℕ
blocks v [] = 0
blocks v (o ∷ os) = cond (eqb o v) 1 0 + blocks v os

-- the number of blocks that some file holds
unfoldable pub held_count : List ℕ → ℕ
held_count [] = 0
held_count (zero ∷ os) = held_count os
held_count (suc place ∷ os) = suc (held_count os)

-- the number of blocks of each of the n owners from v on
unfoldable pub counts_from : ℕ → ℕ → List ℕ → List ℕ
counts_from zero v owner = []
counts_from (suc n) v owner = blocks v owner ∷ counts_from n (suc v) owner

-- the number of free blocks, then of the blocks of each of the 256 file places
abbrev pub counts_of : List ℕ → List ℕ
counts_of owner = counts_from 257 0 owner

-- the lowest block from block `from` on with owner v, or the number of blocks where there is none
unfoldable pub next_of : ℕ → List ℕ → ℕ → ℕ
next_of v [] from = 0
next_of v (o ∷ os) zero = cond (eqb o v) 0 (suc (next_of v os 0))
next_of v (o ∷ os) (suc from) = suc (next_of v os from)

-- the k-th block of owner v, counted from 0, or the number of blocks where it has fewer
unfoldable pub nth : ℕ → List ℕ → ℕ → ℕ
nth v [] k = 0
nth v (o ∷ os) zero = cond (eqb o v) 0 (suc (nth v os 0))
nth v (o ∷ os) (suc k) = suc (nth v os (cond (eqb o v) k (suc k)))

-- the owners after the n lowest free blocks of the map are given to owner v, one after the other; what is past the last block is passed over
unfoldable pub reserved_owner : ℕ → ℕ → List ℕ → List ℕ → List ℕ
reserved_owner v zero map owner = owner
reserved_owner v (suc n) map owner = reserved_owner v n (cleared map (lowest map)) (set owner (lowest map) v)

-- the owners after each block of owner v is set free
unfoldable pub released_owner : ℕ → List ℕ → List ℕ
released_owner v [] = []
released_owner v (o ∷ os) = cond (eqb o v) 0 o ∷ released_owner v os

-- the map after each block of owner v is set free, the owners standing from block b on
unfoldable pub released_map : ℕ → List ℕ → ℕ → List ℕ → List ℕ
released_map v [] b map = map
released_map v (o ∷ os) b map = released_map v os (suc b) (cond (eqb o v) (marked map b) map)

-- the word of up to k blocks: bit i is 1 where block i is there and free
unfoldable pub word_of : ℕ → List ℕ → ℕ
word_of zero os = 0
word_of (suc k) [] = 0
word_of (suc k) (o ∷ os) = is_free o + 2 * word_of k os

-- the map of n words that belongs to the owners, 64 blocks a word
unfoldable pub map_of : ℕ → List ℕ → List ℕ
map_of zero os = []
map_of (suc n) os = word_of 64 os ∷ map_of n (drop 64 os)
