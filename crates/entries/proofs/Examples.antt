-- The entry of the smallest file, in the second block of a small store, by computation. Assumes nothing.
use mathlib.Core.Path.{◌≡◌, refl}
use mathlib.Core.Bool.{true, false}
use mathlib.Core.List.{List, [], ◌∷◌, ◌++◌}
use Prim.Native.Nat.{ℕ}
use lib.ListN.{replicate}
use Rattle.blocks.specs.Contents.{held}
use Rattle.header.specs.Items.{head_of, after, walk, marked, fields_of}
use Rattle.header.specs.Header.{listed, every, count_if, length_in, length_fits, ordered, proper, complete, check_items}
use Rattle.header.specs.Entries.{items_bytes, mandatory, entry_of}
use Rattle.header.proofs.Examples.{smallest}
use Rattle.entries.specs.Entry.{entry_at, reads, read_of}

-- place 4 has the second of two blocks
abbrev disk : List ℕ
disk = replicate 256 7 ++ (smallest ++ replicate 176 0)

abbrev owner : List ℕ
owner = 0 ∷ 5 ∷ []

-- its last two bytes at the front of four that are lent; both forms are the file itself
pub last_two : read_of false disk owner 4 80 78 (9 ∷ 9 ∷ 9 ∷ 9 ∷ []) ≡ reads 80 (0 ∷ 0 ∷ 9 ∷ 9 ∷ [])
unfolding read_of entry_at held smallest entry_of items_bytes mandatory check_items walk head_of after marked fields_of listed every count_if length_in length_fits ordered proper complete
last_two = refl

pub first_three : read_of true disk owner 4 80 0 (9 ∷ 9 ∷ 9 ∷ []) ≡ reads 80 (170 ∷ 85 ∷ 1 ∷ [])
unfolding read_of entry_at held smallest entry_of items_bytes mandatory check_items walk head_of after marked fields_of listed every count_if length_in length_fits ordered proper complete
first_three = refl

-- from a byte past its end on there is nothing to put
pub past_end : read_of true disk owner 4 80 81 (9 ∷ 9 ∷ []) ≡ reads 80 (9 ∷ 9 ∷ [])
unfolding read_of entry_at held smallest entry_of items_bytes mandatory check_items walk head_of after marked fields_of listed every count_if length_in length_fits ordered proper complete
past_end = refl

-- a file cut short, a place without a block and a store without blocks have no entry
pub cut_short : read_of true disk owner 4 79 0 (9 ∷ []) ≡ reads 0 (9 ∷ [])
unfolding read_of entry_at held smallest entry_of items_bytes mandatory check_items walk head_of after marked fields_of listed every count_if length_in length_fits ordered proper complete
cut_short = refl

pub no_block : read_of true disk owner 3 80 0 (9 ∷ []) ≡ reads 0 (9 ∷ [])
unfolding read_of entry_at held smallest entry_of items_bytes mandatory check_items walk head_of after marked fields_of listed every count_if length_in length_fits ordered proper complete
no_block = refl

pub no_store : read_of true disk [] 4 80 0 (9 ∷ []) ≡ reads 0 (9 ∷ [])
unfolding read_of entry_at
no_store = refl
