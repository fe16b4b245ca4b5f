-- The file header and the checks at DATA_END (document 01, "Header at DATA_END"), over the bytes of a file. Assumes nothing.
use Rattle.std.specs.Prelude.{ℕ, ◌+◌, ◌-◌, ◌%◌, Result, Ok, Err, Bool, true, false, cond, leb, List, [], ◌∷◌, length, take, drop, ◌==◌, nat_eq, nat_le, nat_lt}
use Rattle.numbers.specs.Numbers.{number}
use Rattle.header.specs.Items.{Field, head_number, walk, marked, fields_of}
use Rattle.header.specs.declared.items.Head.TheVariants.{Broken}
use Rattle.header.specs.declared.scan.Place.{Place}
use Rattle.header.specs.declared.scan.Header.{Header}

-- ---- the listed items

-- "Lengths: 01 file_number 4, 02 file_name 8, 03 file_ext 3, 04 file_size 4, 05 create_time 4, 06 last_modified_time 4,
-- 07 seu_flag 1, 08 file_type 1, 09 body_checksum 2, 0a header_checksum 2, 0b body_offset 2, 12 (hex) upload_time 4."
unfoldable pub listed : List (ℕ × ℕ)
listed = (1, 4) ∷ (2, 8) ∷ (3, 3) ∷ (4, 4) ∷ (5, 4) ∷ (6, 4) ∷ (7, 1) ∷ (8, 1) ∷ (9, 2) ∷ (10, 2) ∷ (11, 2) ∷ (18, 4) ∷ []

-- the test holds of each
unfoldable pub every : {A : Type 0} → (A → Bool) → List A → Bool
every test [] = true
every test (x ∷ xs) = cond (test x) (every test xs) false

-- how many items have an id that the test accepts
unfoldable pub count_if : (ℕ → Bool) → List Field → ℕ
count_if test [] = 0
count_if test (x ∷ xs) = cond (test x.id) 1 0 + count_if test xs

-- how many items have the id
abbrev pub times : ℕ → List Field → ℕ
times i items = count_if (λ n. nat_eq n i) items

-- the data of the first item with the id
unfoldable pub bytes_of : ℕ → List Field → List ℕ
bytes_of i [] = []
bytes_of i (x ∷ xs) = cond (x.id == i) x.bytes (bytes_of i xs)

-- the length that the table gives for an id; 0 for an id that is not listed
unfoldable pub length_in : List (ℕ × ℕ) → ℕ → ℕ
length_in [] id = 0
length_in (row ∷ rows) id = cond (id == row.0) row.1 (length_in rows id)

abbrev pub listed_length : ℕ → ℕ
listed_length id = length_in listed id

-- not "a wrong listed length"; "Unknown ids are carried", whatever their length
unfoldable pub length_fits : ℕ → ℕ → Bool
length_fits id n = cond (listed_length id == 0) true (n == listed_length id)

abbrev pub fits : Field → Bool
fits x = length_fits x.id (length x.bytes)

-- not "01 to 0b not rising ahead of all others": those from 01 to 0b come first, each above the last one
unfoldable pub ordered : ℕ → List Field → Bool
ordered last [] = true
ordered last (x ∷ xs) = cond (nat_le x.id 11) (cond (nat_lt last x.id) (ordered x.id xs) false) (ordered 11 xs)

-- "a wrong listed length, a listed id twice, or 01 to 0b not rising ahead of all others": none of these
unfoldable pub proper : List Field → Bool
proper items = cond (every fits items) (cond (every (λ row. leb (times row.0 items) 1) listed) (ordered 0 items) false) false

-- "All twelve are mandatory (003)": each is there
unfoldable pub complete : List Field → Bool
complete items = every (λ row. leb 1 (times row.0 items)) listed

-- "14 hex is a destination", of any length
abbrev pub destinations_of : List Field → ℕ
destinations_of items = times 20 items

-- ---- sums and lengths

unfoldable pub sum_of : List ℕ → ℕ
sum_of [] = 0
sum_of (b ∷ bs) = b + sum_of bs

-- the header's bytes: AA 55, the items and the end mark
abbrev pub header_length : List ℕ → ℕ
header_length file = 2 + (walk 0 (drop 2 file)).size

-- "Sums are of bytes, modulo 65,536; the header's takes its own two bytes as zero"
abbrev pub header_sum : List ℕ → ℕ
header_sum file = (sum_of (take (header_length file) file) - sum_of (bytes_of 10 (fields_of file))) % 65536

abbrev pub body_sum : List ℕ → ℕ
body_sum file = sum_of (drop (header_length file) file) % 65536

-- ---- the checks in their order: 0 for accepted, else the number of the refusal

-- "no AA 55, 7; items that run out, id 0 with a length, a wrong listed length, a listed id twice, or 01 to 0b not rising ahead of
-- all others, 14; one missing, 6"
unfoldable pub check_items : List ℕ → ℕ
check_items file =
    cond (marked file)
    (cond (walk 0 (drop 2 file)).whole (cond (proper (fields_of file)) (cond (complete (fields_of file)) 0 6) 14) (head_number Broken))
    7

-- "body_offset not the header's length or file_size not the announced length, 14; header sum, 15; body sum, 16"
unfoldable pub check_values : List ℕ → ℕ → ℕ
check_values file announced =
    cond (number (bytes_of 11 (fields_of file)) == header_length file)
    (cond (number (bytes_of 4 (fields_of file)) == announced)
    (cond (header_sum file == number (bytes_of 10 (fields_of file)))
    (cond (body_sum file == number (bytes_of 9 (fields_of file))) 0 16)
    15)
    14)
    14

-- "Checks in order: fewer bytes than announced, 16;" then the items, then their values
unfoldable pub verdict : List ℕ → ℕ → ℕ
verdict file announced =
    cond (nat_lt (length file) announced) 16 (cond (check_items file == 0) (check_values file announced) (check_items file))

-- ---- what a header says

abbrev pub nowhere : Place
nowhere = record { found = false; at = 0; size = 0 }

-- where the data of the first item with the id begins, and its length, the first item's head being at byte `at`
unfoldable pub place_from : ℕ → ℕ → List Field → Place
place_from i at [] = nowhere
place_from i at (x ∷ xs) =
    cond (x.id == i) (record { found = true; at = at + 3; size = length x.bytes }) (place_from i (at + (3 + length x.bytes)) xs)

abbrev pub place_of : ℕ → List ℕ → Place
place_of i file = place_from i 2 (fields_of file)

-- nothing where the items are refused
abbrev pub refused_with : ℕ → Result Header ℕ
refused_with n = Err n

-- the header's length and sum, how many destinations, and the place of the first item with the wanted id
unfoldable pub header_of : ℕ → List ℕ → Result Header ℕ
header_of want file =
    cond (check_items file == 0)
    (Ok (record
    { size = header_length file; sum = header_sum file; destinations = destinations_of (fields_of file); place = place_of want file }))
    (refused_with (check_items file))
