-- A file begun, received and discarded (document 01, "Uplink", "Lost link"). Each definition gives the answer and what every lent slice
-- holds afterwards; a refusal leaves all as it was.
use Rattle.std.specs.Prelude.{ℕ, ◌+◌, cond, List, length, eqb, ltb, Option, Some, None, Result, Ok, Err}
use Rattle.blocks.specs.Answers.{reserve_number, reserve_map, reserve_owner, release_number, release_map, release_owner, window_number, write_disk}
use Rattle.table.specs.declared.File.{File}
use Rattle.table.specs.Table.{no_file, files, put_table, free_of, free_number}
use Rattle.table.specs.Given.{next_number, given_number, blocks_for}
use Rattle.files.specs.View.{record_at}

-- ---- a new file

-- the answer, and the map, the owners and the table afterwards
pub record Begins : Type 0 where
  pub answer : Result ℕ ℕ
  pub map : List ℕ
  pub owner : List ℕ
  pub table : List ℕ

abbrev pub begins : Result ℕ ℕ → List ℕ → List ℕ → List ℕ → Begins
begins answer map owner table = record { answer = answer; map = map; owner = owner; table = table }

-- a new file's record: nothing received, no upload time
abbrev pub new_file : ℕ → ℕ → File
new_file number size = record { number = number; size = size; received = 0; time = 0 }

-- "A new file reserves its length divided by 256, rounded up, in blocks"; 13 "fewer free blocks than needed"
unfoldable pub begin_at : ℕ → ℕ → ℕ → List ℕ → List ℕ → List ℕ → Begins
begin_at place number size map owner table =
    cond (eqb (reserve_number map (length owner) place (blocks_for size)) 0)
    (begins (Ok place) (reserve_map map owner place (blocks_for size)) (reserve_owner map owner place (blocks_for size))
    (put_table table place (new_file number size)))
    (begins (Err (reserve_number map (length owner) place (blocks_for size))) map owner table)

-- the lowest free place; 13 ".. or no free file place"
unfoldable pub begin_in : Option ℕ → ℕ → ℕ → List ℕ → List ℕ → List ℕ → Begins
begin_in None number size map owner table = begins (Err (free_number None)) map owner table
begin_in (Some place) number size map owner table = begin_at place number size map owner table

-- 3 "file numbers .. are used up"
unfoldable pub begin_with : Option ℕ → ℕ → List ℕ → List ℕ → List ℕ → Begins
begin_with None size map owner table = begins (Err (given_number None)) map owner table
begin_with (Some number) size map owner table = begin_in (free_of (files table)) number size map owner table

-- ".. and gets the number after the last one given"
abbrev pub begin_of : List ℕ → List ℕ → List ℕ → ℕ → ℕ → Begins
begin_of map owner table last size = begin_with (next_number last) size map owner table

-- document 01's number for an answer: 0 for a file that was begun
abbrev pub begun_number : Result ℕ ℕ → ℕ
begun_number (Err n) = n
begun_number (Ok place) = 0

-- ---- a file's place

-- the first refusal counts
abbrev pub after : ℕ → ℕ → ℕ
after refused next = cond (eqb refused 0) next refused

-- 33, a place that no table of document 01's sizes has; 35, no file there
unfoldable pub place_number : ℕ → File → ℕ
place_number place f = cond (ltb place 256) (cond (eqb f.number 0) 35 0) 33

-- ---- further bytes

-- the number answered, and the disk and the table afterwards
pub record Writes : Type 0 where
  pub answer : ℕ
  pub disk : List ℕ
  pub table : List ℕ

abbrev pub writes : ℕ → List ℕ → List ℕ → Writes
writes answer disk table = record { answer = answer; disk = disk; table = table }

-- n more bytes are received
abbrev pub grown : ℕ → File → File
grown n f = record { number = f.number; size = f.size; received = f.received + n; time = f.time }

-- 16, "A DATA that would pass the announced length is not stored"
unfoldable pub room_number : File → ℕ → ℕ
room_number f n = cond (ltb f.size (f.received + n)) 16 0

unfoldable pub append_number : List ℕ → List ℕ → ℕ → File → List ℕ → ℕ
append_number disk owner place f xs =
    after (after (place_number place f) (room_number f (length xs))) (window_number (length disk) owner place f.received (length xs))

-- the bytes go behind those received
unfoldable pub append_of : List ℕ → List ℕ → List ℕ → ℕ → List ℕ → Writes
append_of disk owner table place xs =
    cond (eqb (append_number disk owner place (record_at table place) xs) 0)
    (writes 0 (write_disk disk owner place (record_at table place).received xs) (put_table table place (grown (length xs) (record_at table place))))
    (writes (append_number disk owner place (record_at table place) xs) disk table)

-- ---- a file discarded

-- the number answered, and the map, the owners and the table afterwards
pub record Frees : Type 0 where
  pub answer : ℕ
  pub map : List ℕ
  pub owner : List ℕ
  pub table : List ℕ

abbrev pub frees : ℕ → List ℕ → List ℕ → List ℕ → Frees
frees answer map owner table = record { answer = answer; map = map; owner = owner; table = table }

unfoldable pub discard_number : List ℕ → List ℕ → ℕ → File → ℕ
discard_number map owner place f = after (place_number place f) (release_number (length map) (length owner) place)

-- "A NAK discards the partial; its blocks are free for the next upload"
unfoldable pub discard_of : List ℕ → List ℕ → List ℕ → ℕ → Frees
discard_of map owner table place =
    cond (eqb (discard_number map owner place (record_at table place)) 0)
    (frees 0 (release_map map owner place) (release_owner map owner place) (put_table table place no_file))
    (frees (discard_number map owner place (record_at table place)) map owner table)
