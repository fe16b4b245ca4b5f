-- The file table: one record for each file place, four words a record, and what is found in it.
-- All but `files`, `words` and `put_table` speak of the list of records and do not know how a record is stored.
use Rattle.std.specs.Prelude.{ℕ, suc, ◌+◌, ◌*◌, ◌/◌, Bool, cond, not, ◌&&◌, List, [], ◌∷◌, map, length, get_or, eqb, ltb, Option, Some, None}
use Rattle.std.proofs.lemmas.List.Edits.{sets}
use Rattle.table.specs.declared.File.{File}
use Rattle.table.specs.declared.Key.{Key}
use Rattle.table.specs.declared.Key.TheVariants.{Number, Time}
use Rattle.table.specs.declared.Kind.{Kind}
use Rattle.table.specs.declared.Kind.TheVariants.{Partial, Complete}

-- ---- records

-- a place with no file: "the number after the last one given, from 1", so 0 is no file's number
abbrev pub no_file : File
no_file = record { number = 0; size = 0; received = 0; time = 0 }

-- the four words of a record
abbrev pub words : File → List ℕ
words f = f.number ∷ f.size ∷ f.received ∷ f.time ∷ []

-- the records of a table, the first four words being the record of place 0; one to three words left at the end are no place
unfoldable pub files : List ℕ → List File
files [] = []
files (number ∷ []) = []
files (number ∷ size ∷ []) = []
files (number ∷ size ∷ received ∷ []) = []
files (number ∷ size ∷ received ∷ time ∷ rest) = record { number = number; size = size; received = received; time = time } ∷ files rest

-- the record at a place, that of no file past the last place
abbrev pub file_at : List File → ℕ → File
file_at fs place = get_or fs place no_file

-- storing a record: 33, "a size or length outside the table", past the last place
abbrev pub put_number : List ℕ → ℕ → ℕ
put_number table place = cond (ltb place (length table / 4)) 0 33

-- the table after a record is stored at a place; past the last place nothing changes
unfoldable pub put_table : List ℕ → ℕ → File → List ℕ
put_table table place f = cond (ltb place (length table / 4)) (sets table (4 * place) (words f)) table

-- ---- files

-- a file: complete with an upload time, which is never 0 ("the last one given plus 1", "the last one starts at 0"), else partial
abbrev pub is_file : File → Bool
is_file f = not (eqb f.number 0)

abbrev pub is_complete : File → Bool
is_complete f = is_file f && not (eqb f.time 0)

abbrev pub is_partial : File → Bool
is_partial f = is_file f && eqb f.time 0

-- the upload time of a complete file, 0 for a partial one and where there is no file
abbrev pub uploaded : File → ℕ
uploaded f = cond (eqb f.number 0) 0 f.time

abbrev pub is_kind : Kind → File → Bool
is_kind Partial f = is_partial f
is_kind Complete f = is_complete f

-- what a file is found by
abbrev pub key_of : Key → File → ℕ
key_of Number f = f.number
key_of Time f = uploaded f

abbrev pub keys : Key → List File → List ℕ
keys key fs = map (key_of key) fs

-- the file number at each place, and the upload time at each place
abbrev pub numbers : List File → List ℕ
numbers fs = keys Number fs

abbrev pub times : List File → List ℕ
times fs = keys Time fs

-- how many records pass a test
unfoldable pub count_of : (File → Bool) → List File → ℕ
count_of test [] = 0
count_of test (f ∷ fs) = cond (test f) 1 0 + count_of test fs

-- ---- finding

-- the lowest place whose value is v, the places being counted from p
unfoldable pub first_from : ℕ → ℕ → List ℕ → Option ℕ
first_from p v [] = None
first_from p v (x ∷ xs) = cond (eqb x v) (Some p) (first_from (suc p) v xs)

abbrev pub first_with : ℕ → List ℕ → Option ℕ
first_with v xs = first_from 0 v xs

-- the place of the file with a number; 0 is no file's number
abbrev pub find_of : List File → ℕ → Option ℕ
find_of fs number = cond (eqb number 0) None (first_with number (numbers fs))

-- the lowest place with no file
abbrev pub free_of : List File → Option ℕ
free_of fs = first_with 0 (numbers fs)

-- the refusal for a place not found: 4 "no such file", 13 "no free file place"
abbrev pub find_number : Option ℕ → ℕ
find_number None = 4
find_number (Some place) = 0

abbrev pub free_number : Option ℕ → ℕ
free_number None = 13
free_number (Some place) = 0
