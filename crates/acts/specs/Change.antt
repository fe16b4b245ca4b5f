-- What one call may do to the files (demand 3): "a call changes no file but its own". A call leaves every file as it was, or begins, continues,
-- completes or discards ONE. Assumes nothing.
use Rattle.std.specs.Prelude.{◌≡◌, List, [], ◌++◌, ℕ, ◌+◌, ◌≤◌, ◌<◌, length}
use Rattle.header.specs.Fields.{fields_set}
use Rattle.header.specs.Header.{verdict}
use Rattle.table.specs.declared.File.{File}
use Rattle.table.specs.Table.{no_file}
use Rattle.files.specs.Uploads.{new_file, grown}
use Rattle.files.specs.Completion.{completed}
use Rattle.files.specs.View.{View}
use Rattle.carry.specs.declared.turn.Last.{Last}
use Rattle.carry.specs.Turn.{last_of}

-- the files by place: the record and the bytes received of each
abbrev pub Files : Type 0
Files = ℕ → View

abbrev pub view : File → List ℕ → View
view f bytes = record { file = f; bytes = bytes }

-- all files but the one at a place are as they were
abbrev pub Others : Files → Files → ℕ → Type 0
Others before after place = (q : ℕ) → (q ≡ place → ⊥) → after q ≡ before q

-- a partial file stands at a place
pub record Partial (f : File) : Type 0 where
  pub number : f.number ≡ 0 → ⊥
  pub time : f.time ≡ 0

pub record Same (last : Last) (before : Files) (last' : Last) (after : Files) : Type 0 where
  pub files : (q : ℕ) → after q ≡ before q
  pub given : last' ≡ last

-- a new file: "gets the number after the last one given"; nothing is received yet
pub record Begins (last : Last) (before : Files) (last' : Last) (after : Files) : Type 0 where
  pub place : ℕ
  pub size : ℕ
  pub free : (before place).file.number ≡ 0
  pub here : after place ≡ view (new_file (last.number + 1) size) []
  pub others : Others before after place
  pub given : last' ≡ last_of (last.number + 1) last.time

-- further bytes of a partial file, within its announced length, behind those received
pub record Receives (last : Last) (before : Files) (last' : Last) (after : Files) : Type 0 where
  pub place : ℕ
  pub more : List ℕ
  pub partial : Partial (before place).file
  pub room : (before place).file.received + length more ≤ (before place).file.size
  pub here : after place ≡ view (grown (length more) (before place).file) ((before place).bytes ++ more)
  pub others : Others before after place
  pub given : last' ≡ last

-- a partial file that passes the checks of DATA_END: "On success the server sets" its fields, five with file_name; its upload time is above the last one given
pub record Completes (last : Last) (before : Files) (last' : Last) (after : Files) : Type 0 where
  pub place : ℕ
  pub time : ℕ
  pub partial : Partial (before place).file
  pub whole : verdict (before place).bytes (before place).file.size ≡ 0
  pub above : last.time < time
  pub here : after place ≡ view (completed time (before place).file) (fields_set (before place).file.number time (before place).bytes)
  pub others : Others before after place
  pub given : last' ≡ last_of last.number time

-- "A NAK discards the partial"
pub record Discards (last : Last) (before : Files) (last' : Last) (after : Files) : Type 0 where
  pub place : ℕ
  pub partial : Partial (before place).file
  pub here : after place ≡ view no_file []
  pub others : Others before after place
  pub given : last' ≡ last

pub data Change (last : Last) (before : Files) (last' : Last) (after : Files) : Type 0 where
  same : Same last before last' after → Change last before last' after
  begins : Begins last before last' after → Change last before last' after
  receives : Receives last before last' after → Change last before last' after
  completes : Completes last before last' after → Change last before last' after
  discards : Discards last before last' after → Change last before last' after
