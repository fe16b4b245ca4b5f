-- What an act leaves of the store and of its session, as the theorems on calls use it.
use mathlib.Core.Path.{◌≡◌}
use lib.ListN.{length}
use Rattle.files.specs.View.{view_at}
use Rattle.files.specs.Sound.{Sound, Sizes}
use Rattle.carry.specs.declared.turn.Last.{Last}
use Rattle.carry.specs.Turn.{Mem, Turned}
use Rattle.acts.specs.Change.{Files, Change}

-- the files of the parts that an act is handed
abbrev pub files_in : Mem → Files
files_in m place = view_at m.disk m.owner m.table place

-- a sound store with its room
pub record Stored (m : Mem) (last : Last) : Type 0 where
  pub sound : Sound m.map m.owner m.table last.number last.time
  pub sizes : Sizes m.disk m.owner

pub record SameLengths (m m' : Mem) : Type 0 where
  pub disk : length m'.disk ≡ length m.disk
  pub map : length m'.map ≡ length m.map
  pub owner : length m'.owner ≡ length m.owner
  pub table : length m'.table ≡ length m.table
  pub selected : length m'.selected ≡ length m.selected

-- what a turn leaves: a sound store of the same lengths, whose files changed in one way
pub record Kept (m : Mem) (last : Last) (t : Turned) : Type 0 where
  pub stored : Stored t.mem t.turn.last
  pub lengths : SameLengths m t.mem
  pub change : Change last (files_in m) t.turn.last (files_in t.mem)
