-- What the sessions name is there, after any steps from an empty store. Assumes nothing.
use Rattle.std.specs.Prelude.{◌≡◌, List, [], ◌∷◌, ℕ}
use Rattle.std.proofs.Math.Option.{some}
use Rattle.calls.specs.Call.{Call}
use Rattle.model.specs.State.{File, file, Uplink, no_upload, receiving, ignoring, Downlink, no_download, sending, ended, aborting, listing}
use Rattle.model.specs.State.{Model, session_at}
use Rattle.model.specs.Files.{find}
use Rattle.model.specs.Step.{step}
use Rattle.steps.specs.Sound.{Sound}

-- there is a partial, or a complete, file of a number
pub record Partial (n : ℕ) (fs : List File) : Type 0 where
  pub file : File
  pub found : find n fs ≡ some file
  pub time : file.time ≡ 0

pub record Complete (n : ℕ) (fs : List File) : Type 0 where
  pub file : File
  pub found : find n fs ≡ some file
  pub time : file.time ≡ 0 → ⊥

-- there are complete files of all these numbers
abbrev pub AllComplete : List File → List ℕ → Type 0
AllComplete fs [] = Unit {0}
AllComplete fs (n ∷ ns) = Complete n fs × AllComplete fs ns

-- what an uplink, and what a downlink, names: a directory all the files of its command, until its DATA_END goes out
abbrev pub UpOk : List File → Uplink → Type 0
UpOk fs no_upload = Unit {0}
UpOk fs (receiving n) = Partial n fs
UpOk fs ignoring = Unit {0}

abbrev pub DownOk : List File → Downlink → Type 0
DownOk fs no_download = Unit {0}
DownOk fs (sending n at) = Complete n fs
DownOk fs (ended n) = Complete n fs
DownOk fs (aborting n) = Complete n fs
DownOk fs (listing long ns at) = AllComplete fs ns

-- an upload is of a partial file that no other session uploads, a download of a complete one, a directory and a selection of complete ones; sessions
-- are counted from 0
pub record Named (m : Model) : Type 0 where
  pub up : (j : ℕ) → UpOk m.files (session_at m j).up
  pub down : (j : ℕ) → DownOk m.files (session_at m j).down
  pub selected : (j : ℕ) → AllComplete m.files (session_at m j).selected
  pub alone : (j k n : ℕ) → (session_at m j).up ≡ receiving n → (session_at m k).up ≡ receiving n → j ≡ k

-- EVERY STEP KEEPS IT
abbrev pub NamedStays : Type 0
NamedStays = (m : Model) → Named m → Sound m → (c : Call) → Named (step m c).after
