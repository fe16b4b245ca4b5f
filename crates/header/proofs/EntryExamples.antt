-- Directory entries of two files, by computation. Assumes nothing.
use Rattle.std.proofs.Common.{◌≡◌, ℕ, true, false, List, [], ◌∷◌, ◌++◌, take, refl}
use Rattle.header.specs.Items.{head_of, after, walk, marked, fields_of}
use Rattle.header.specs.Header.{listed, every, count_if, length_in, length_fits, ordered, proper, complete, check_items}
use Rattle.header.specs.Entries.{items_bytes, mandatory, entry_of, running_on}
use Rattle.header.proofs.Examples.{smallest}

-- a file with a DESTINATION ahead of upload_time and an item of an unknown id behind it, and with a body of three bytes
unfoldable pub fuller : List ℕ
fuller =
    170 ∷ 85 ∷ 1 ∷ 0 ∷ 4 ∷ 5 ∷ 0 ∷ 0 ∷ 0 ∷ 2 ∷ 0 ∷ 8 ∷ 48 ∷ 48 ∷ 48 ∷ 48 ∷ 48 ∷ 48 ∷ 48 ∷ 57 ∷ 3 ∷ 0 ∷ 3 ∷ 0 ∷ 0 ∷ 0 ∷ 4 ∷ 0 ∷
    4 ∷ 94 ∷ 0 ∷ 0 ∷ 0 ∷ 5 ∷ 0 ∷ 4 ∷ 0 ∷ 0 ∷ 0 ∷ 0 ∷ 6 ∷ 0 ∷ 4 ∷ 9 ∷ 0 ∷ 0 ∷ 0 ∷ 7 ∷ 0 ∷ 1 ∷ 0 ∷ 8 ∷ 0 ∷ 1 ∷ 0 ∷ 9 ∷
    0 ∷ 2 ∷ 0 ∷ 0 ∷ 10 ∷ 0 ∷ 2 ∷ 0 ∷ 0 ∷ 11 ∷ 0 ∷ 2 ∷ 91 ∷ 0 ∷ 20 ∷ 0 ∷ 2 ∷ 71 ∷ 51 ∷ 18 ∷ 0 ∷ 4 ∷ 9 ∷ 0 ∷ 0 ∷ 0 ∷ 77 ∷ 1 ∷
    3 ∷ 1 ∷ 2 ∷ 3 ∷ 0 ∷ 0 ∷ 0 ∷ 7 ∷ 8 ∷ 9 ∷ []

-- its short form: neither of the two items and nothing of the body
unfoldable pub fuller_short : List ℕ
fuller_short =
    170 ∷ 85 ∷ 1 ∷ 0 ∷ 4 ∷ 5 ∷ 0 ∷ 0 ∷ 0 ∷ 2 ∷ 0 ∷ 8 ∷ 48 ∷ 48 ∷ 48 ∷ 48 ∷ 48 ∷ 48 ∷ 48 ∷ 57 ∷ 3 ∷ 0 ∷ 3 ∷ 0 ∷ 0 ∷ 0 ∷ 4 ∷ 0 ∷
    4 ∷ 94 ∷ 0 ∷ 0 ∷ 0 ∷ 5 ∷ 0 ∷ 4 ∷ 0 ∷ 0 ∷ 0 ∷ 0 ∷ 6 ∷ 0 ∷ 4 ∷ 9 ∷ 0 ∷ 0 ∷ 0 ∷ 7 ∷ 0 ∷ 1 ∷ 0 ∷ 8 ∷ 0 ∷ 1 ∷ 0 ∷ 9 ∷
    0 ∷ 2 ∷ 0 ∷ 0 ∷ 10 ∷ 0 ∷ 2 ∷ 0 ∷ 0 ∷ 11 ∷ 0 ∷ 2 ∷ 91 ∷ 0 ∷ 18 ∷ 0 ∷ 4 ∷ 9 ∷ 0 ∷ 0 ∷ 0 ∷ 0 ∷ 0 ∷ 0 ∷ []

-- the smallest file is its own entry in both forms
pub smallest_long : entry_of true smallest ≡ smallest
unfolding smallest entry_of check_items walk head_of after marked fields_of listed every count_if length_in length_fits ordered proper complete
smallest_long = refl

pub smallest_entry : entry_of false smallest ≡ smallest
unfolding smallest entry_of items_bytes mandatory check_items walk head_of after marked fields_of listed every count_if length_in length_fits ordered proper complete
smallest_entry = refl

pub fuller_long : entry_of true fuller ≡ take 91 fuller
unfolding fuller entry_of check_items walk head_of after marked fields_of listed every count_if length_in length_fits ordered proper complete
fuller_long = refl

pub fuller_short_law : entry_of false fuller ≡ fuller_short
unfolding fuller fuller_short entry_of items_bytes mandatory check_items walk head_of after marked fields_of listed every count_if length_in length_fits ordered proper complete
fuller_short_law = refl

-- what DATA_END refuses has no entry
pub cut_none : entry_of true (take 79 smallest) ≡ []
unfolding smallest entry_of check_items walk head_of after marked fields_of listed every count_if length_in length_fits ordered proper complete
cut_none = refl

-- two entries that run on
pub two_run_on : running_on (entry_of false fuller ∷ entry_of true smallest ∷ []) ≡ fuller_short ++ smallest
unfolding running_on fuller fuller_short smallest entry_of items_bytes mandatory check_items walk head_of after marked fields_of listed every count_if length_in length_fits ordered proper complete
two_run_on = refl
