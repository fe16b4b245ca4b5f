-- A file of the store as the layers above see it: its record in the table and the bytes received. Place p's blocks have owner p + 1.
use Rattle.std.specs.Prelude.{ℕ, ◌+◌, List}
use Rattle.table.specs.declared.File.{File}
use Rattle.table.specs.Table.{files, file_at}
use Rattle.blocks.specs.Contents.{contents}

-- the record at a place, that of no file past the last place
abbrev pub record_at : List ℕ → ℕ → File
record_at table place = file_at (files table) place

-- the bytes received of the file at a place
abbrev pub bytes_at : List ℕ → List ℕ → List ℕ → ℕ → List ℕ
bytes_at disk owner table place = contents (place + 1) owner disk (record_at table place).received

pub record View : Type 0 where
  pub file : File
  pub bytes : List ℕ

abbrev pub view_at : List ℕ → List ℕ → List ℕ → ℕ → View
view_at disk owner table place = record { file = record_at table place; bytes = bytes_at disk owner table place }
