-- The fields that the server sets in a complete file (document 01, "Header at DATA_END"; file_name by A7 of document 02). Assumes nothing.
use Rattle.std.specs.Prelude.{◌≡◌, ℕ, zero, suc, ◌+◌, ◌-◌, cond, List, [], ◌∷◌, ◌++◌, length, replicate, ◌==◌, nat_lt}
use Rattle.std.proofs.lemmas.List.Edits.{sets}
use Rattle.numbers.specs.Numbers.{two, four}
use Rattle.numbers.specs.Hex.{eight}
use Rattle.header.specs.Items.{Field}
use Rattle.header.specs.Header.{listed_length, header_sum, check_items, place_of}
use Rattle.header.specs.declared.fields.FieldRow.{FieldRow}

-- "On success the server sets four fields: file_number, upload_time, last_modified_time (the same number as upload_time)
-- and header_checksum." A7 makes them five: "set file_name to the upload time in lower-case hexadecimal, eight digits".
-- These are the four that are given; the fifth, header_checksum, is worked out from them.
abbrev pub server_set : ℕ → ℕ → List Field
server_set number time =
    record { id = 1; bytes = four number } ∷ record { id = 2; bytes = eight time } ∷ record { id = 6; bytes = four time }
    ∷ record { id = 18; bytes = four time } ∷ []

-- the file with each row's bytes as the data of the first item with the row's id
unfoldable pub with_fields : List Field → List ℕ → List ℕ
with_fields [] file = file
with_fields (row ∷ rows) file = with_fields rows (sets file (place_of row.id file).at row.bytes)

-- the file with header_checksum as its header's sum
unfoldable pub with_sum : List ℕ → List ℕ
with_sum file = sets file (place_of 10 file).at (two (header_sum file))

-- the fields set; a file whose items DATA_END refuses is left as it is
unfoldable pub fields_set : ℕ → ℕ → List ℕ → List ℕ
fields_set number time file = cond (check_items file == 0) (with_sum (with_fields (server_set number time) file)) file

-- ---- the rows as the code stores them

-- how many bytes the d items after the id `last` take, with their heads
unfoldable pub before : ℕ → ℕ → ℕ
before zero last = 0
before (suc d) last = 3 + listed_length (suc last) + before d (suc last)

-- where the data of a mandatory item begins in a header that DATA_END does not refuse: 01 to 0b come first, and upload_time's data is at byte `upload`
unfoldable pub place_in : ℕ → ℕ → ℕ
place_in upload zero = upload
place_in upload (suc d) = cond (nat_lt d 11) (2 + before d 0 + 3) upload

-- a place, a length, and the bytes, with zeros behind them up to eight
abbrev pub row_of : ℕ → List ℕ → FieldRow
row_of at bytes = record { at = at; size = length bytes; bytes = bytes ++ replicate (8 - length bytes) 0 }

-- row k; past the last one a row of no bytes
unfoldable pub row_at : ℕ → ℕ → List Field → FieldRow
row_at upload k [] = row_of 0 []
row_at upload zero (row ∷ rows) = row_of (place_in upload row.id) row.bytes
row_at upload (suc k) (row ∷ rows) = row_at upload k rows

-- ---- what holds where the rows are stored

-- the items are not refused, and upload_time's data is at byte `upload`
pub record Settable (file : List ℕ) (upload : ℕ) : Type 0 where
  pub items : check_items file ≡ 0
  pub place : upload ≡ (place_of 18 file).at
