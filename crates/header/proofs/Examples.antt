-- Example P8 of document 01, and the fields set in its file, by computation. Assumes nothing.
use Rattle.std.proofs.Common.{◌≡◌, ℕ, List, [], ◌∷◌, take, refl}
use Rattle.numbers.specs.Numbers.{number}
use Rattle.numbers.specs.Hex.{hex_digit}
use Rattle.header.specs.Items.{head_of, after, walk, marked, fields_of}
use Rattle.header.specs.Header.{listed, every, count_if, bytes_of, length_in, length_fits, ordered, proper, complete, sum_of, check_items, check_values, verdict, place_from}
use Rattle.header.specs.Fields.{with_fields, with_sum, fields_set}

-- "an 80-byte file with only the mandatory items, sums and sizes right, and no body"
unfoldable pub smallest : List ℕ
smallest =
    170 ∷ 85 ∷ 1 ∷ 0 ∷ 4 ∷ 0 ∷ 0 ∷ 0 ∷ 0 ∷ 2 ∷ 0 ∷ 8 ∷ 0 ∷ 0 ∷ 0 ∷ 0 ∷ 0 ∷ 0 ∷ 0 ∷ 0 ∷ 3 ∷ 0 ∷ 3 ∷ 0 ∷ 0 ∷ 0 ∷ 4 ∷ 0 ∷
    4 ∷ 80 ∷ 0 ∷ 0 ∷ 0 ∷ 5 ∷ 0 ∷ 4 ∷ 0 ∷ 0 ∷ 0 ∷ 0 ∷ 6 ∷ 0 ∷ 4 ∷ 0 ∷ 0 ∷ 0 ∷ 0 ∷ 7 ∷ 0 ∷ 1 ∷ 0 ∷ 8 ∷ 0 ∷ 1 ∷ 0 ∷ 9 ∷
    0 ∷ 2 ∷ 0 ∷ 0 ∷ 10 ∷ 0 ∷ 2 ∷ 26 ∷ 2 ∷ 11 ∷ 0 ∷ 2 ∷ 80 ∷ 0 ∷ 18 ∷ 0 ∷ 4 ∷ 0 ∷ 0 ∷ 0 ∷ 0 ∷ 0 ∷ 0 ∷ 0 ∷ []

-- the same with file number 1, times 1 and the name "00000001"
unfoldable pub smallest_set : List ℕ
smallest_set =
    170 ∷ 85 ∷ 1 ∷ 0 ∷ 4 ∷ 1 ∷ 0 ∷ 0 ∷ 0 ∷ 2 ∷ 0 ∷ 8 ∷ 48 ∷ 48 ∷ 48 ∷ 48 ∷ 48 ∷ 48 ∷ 48 ∷ 49 ∷ 3 ∷ 0 ∷ 3 ∷ 0 ∷ 0 ∷ 0 ∷ 4 ∷ 0 ∷
    4 ∷ 80 ∷ 0 ∷ 0 ∷ 0 ∷ 5 ∷ 0 ∷ 4 ∷ 0 ∷ 0 ∷ 0 ∷ 0 ∷ 6 ∷ 0 ∷ 4 ∷ 1 ∷ 0 ∷ 0 ∷ 0 ∷ 7 ∷ 0 ∷ 1 ∷ 0 ∷ 8 ∷ 0 ∷ 1 ∷ 0 ∷ 9 ∷
    0 ∷ 2 ∷ 0 ∷ 0 ∷ 10 ∷ 0 ∷ 2 ∷ 158 ∷ 3 ∷ 11 ∷ 0 ∷ 2 ∷ 80 ∷ 0 ∷ 18 ∷ 0 ∷ 4 ∷ 1 ∷ 0 ∷ 0 ∷ 0 ∷ 0 ∷ 0 ∷ 0 ∷ []

-- P8: it is accepted; "its first 79 bytes, announced as 79: 14"
pub smallest_accepted : verdict smallest 80 ≡ 0
unfolding smallest verdict check_items check_values walk head_of after marked fields_of listed every count_if bytes_of length_in length_fits ordered proper complete number sum_of
smallest_accepted = refl

pub smallest_cut : verdict (take 79 smallest) 79 ≡ 14
unfolding smallest verdict check_items check_values walk head_of after marked fields_of listed every count_if bytes_of length_in length_fits ordered proper complete number sum_of
smallest_cut = refl

pub smallest_short : verdict smallest 81 ≡ 16
unfolding smallest verdict check_items check_values walk head_of after marked fields_of listed every count_if bytes_of length_in length_fits ordered proper complete number sum_of
smallest_short = refl

-- number 1 at time 1: the sum is then 039e, least significant byte first
pub smallest_set_law : fields_set 1 1 smallest ≡ smallest_set
unfolding smallest_set smallest verdict check_items check_values walk head_of after marked fields_of listed every count_if bytes_of length_in length_fits ordered proper complete number sum_of place_from with_fields with_sum fields_set hex_digit
smallest_set_law = refl

pub set_accepted : verdict smallest_set 80 ≡ 0
unfolding smallest_set smallest verdict check_items check_values walk head_of after marked fields_of listed every count_if bytes_of length_in length_fits ordered proper complete number sum_of
set_accepted = refl
