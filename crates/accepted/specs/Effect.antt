-- What an event means for the files (demand 3): "a call changes no file but its own". m is the state before, m' the one after. Assumes nothing.
use Rattle.std.specs.Prelude.{◌≡◌, List, [], ◌∷◌, ◌++◌, ℕ, ◌+◌, ◌≤◌, ◌<◌, length}
use Rattle.header.specs.Header.{verdict}
use Rattle.table.specs.Given.{blocks_for, most_given}
use Rattle.model.specs.State.{File, file, Model}
use Rattle.model.specs.Files.{changed, without, free}
use Rattle.model.specs.Uplink.{grown, time_at, completed}
use Rattle.steps.specs.Naming.{Partial}
use Rattle.accepted.specs.Events.{Event, nothing, given, added, finished, dropped}

-- ---- the files after it

-- a new file is behind the others; the file of a number has further bytes, or is complete, or is no more; `last` is the last upload time given
unfoldable pub files_by : Event → ℕ → List File → List File
files_by nothing last fs = fs
files_by (given n size) last fs = fs ++ file n size [] 0 ∷ []
files_by (added n bytes) last fs = changed n (grown bytes) fs
files_by (finished n clock) last fs = changed n (completed (time_at clock last)) fs
files_by (dropped n) last fs = without n fs

-- the last number, and the last upload time, given
unfoldable pub number_by : Event → ℕ → ℕ
number_by nothing last = last
number_by (given n size) last = n
number_by (added n bytes) last = last
number_by (finished n clock) last = last
number_by (dropped n) last = last

unfoldable pub time_by : Event → ℕ → ℕ
time_by nothing last = last
time_by (given n size) last = last
time_by (added n bytes) last = last
time_by (finished n clock) last = time_at clock last
time_by (dropped n) last = last

-- ---- what it says of the state before it: the file of the number is there, and partial (crates/steps/specs/Naming.antt), or is yet to come

-- "gets the number after the last one given", and numbers are not used up; there are a place and blocks for it
pub record Gives (n size : ℕ) (m : Model) : Type 0 where
  pub next : n ≡ m.last_number + 1
  pub few : n ≤ most_given
  pub place : length m.files < m.places
  pub room : blocks_for size ≤ free m

-- the further bytes do not pass the announced length
pub record Adds (n : ℕ) (bytes : List ℕ) (m : Model) : Type 0 where
  pub own : Partial n m.files
  pub room : length own.file.bytes + length bytes ≤ own.file.size

-- the file passes the checks of DATA_END
pub record Finishes (n : ℕ) (m : Model) : Type 0 where
  pub own : Partial n m.files
  pub valid : verdict own.file.bytes own.file.size ≡ 0

abbrev pub Meets : Event → Model → Type 0
Meets nothing m = Unit {0}
Meets (given n size) m = Gives n size m
Meets (added n bytes) m = Adds n bytes m
Meets (finished n clock) m = Finishes n m
Meets (dropped n) m = Partial n m.files

pub record Effect (e : Event) (m m' : Model) : Type 0 where
  pub before : Meets e m
  pub files : m'.files ≡ files_by e m.last_time m.files
  pub number : m'.last_number ≡ number_by e m.last_number
  pub time : m'.last_time ≡ time_by e m.last_time
