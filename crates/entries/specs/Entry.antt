-- The directory entry of a file in blocks (A1 of document 02): "What is sent must be the stored header's bytes, or the part of them that the short form
-- names." Assumes nothing.
use Rattle.std.specs.Prelude.{Bool, cond, List, [], ◌++◌, ℕ, length, take, drop}
use Rattle.header.specs.Entries.{entry_of}
use Rattle.stored.specs.Answers.{file_at, sizes_fit}

-- the entry of the file at a place, of which so many bytes are received; none where the sizes are outside the table
unfoldable pub entry_at : Bool → List ℕ → List ℕ → ℕ → ℕ → List ℕ
entry_at long disk owner place received = cond (sizes_fit disk owner place) (entry_of long (file_at disk owner place received)) []

-- an entry's length, and what is lent afterwards
pub record Reads : Type 0 where
  pub size : ℕ
  pub out : List ℕ

abbrev pub reads : ℕ → List ℕ → Reads
reads size out = record { size = size; out = out }

-- bytes at the front of what is lent, as many as it has room for; the rest of it stays
abbrev pub put_front : List ℕ → List ℕ → List ℕ
put_front bytes out = take (length out) bytes ++ drop (length bytes) out

unfoldable pub read_of : Bool → List ℕ → List ℕ → ℕ → ℕ → ℕ → List ℕ → Reads
read_of long disk owner place received skip out =
    reads (length (entry_at long disk owner place received)) (put_front (drop skip (entry_at long disk owner place received)) out)
