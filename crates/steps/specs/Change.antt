-- What one step may do (demand 3: "a call changes no file but its own"): to the files, by number, nothing, or ONE file is begun, grows, is completed or is
-- dropped; to the sessions, nothing but to session i, that of the call, counted from 0. m is the state before, m' the one after. Assumes nothing.
use Rattle.std.specs.Prelude.{◌≡◌, List, [], ◌∷◌, ◌++◌, ℕ, ◌+◌, ◌-◌, ◌≤◌, ◌<◌, length, set}
use Rattle.std.proofs.Math.Option.{some}
use Rattle.calls.specs.Call.{Call}
use Rattle.header.specs.Header.{verdict}
use Rattle.table.specs.Given.{blocks_for}
use Rattle.model.specs.State.{File, file, receiving, Session, Model, model, session_at}
use Rattle.model.specs.Files.{find, changed, without, free}
use Rattle.model.specs.Uplink.{grown, completed}
use Rattle.model.specs.Step.{step}
use Rattle.steps.specs.Parts.{session_in}

-- the last number and time given and the files are these, session i is another one, and all else is as it was
pub record Leaves (m : Model) (i : ℕ) (m' : Model) (number time : ℕ) (files : List File) : Type 0 where
  pub session : Session
  pub after : m' ≡ model m number time files (set m.sessions i session)

-- no file changes
pub record Same (m : Model) (i : ℕ) (m' : Model) : Type 0 where
  pub leaves : Leaves m i m' m.last_number m.last_time m.files

-- "gets the number after the last one given"; there are a place and blocks for it
pub record Begins (m : Model) (i : ℕ) (m' : Model) : Type 0 where
  pub size : ℕ
  pub place : length m.files < m.places
  pub room : blocks_for size ≤ free m
  pub leaves : Leaves m i m' (m.last_number + 1) m.last_time (m.files ++ file (m.last_number + 1) size [] 0 ∷ [])

-- the file that the session is uploading, with number n: further bytes within its announced length; complete, and newer than all; no more
pub record Grows (m : Model) (i : ℕ) (m' : Model) : Type 0 where
  pub n : ℕ
  pub file : File
  pub bytes : List ℕ
  pub own : (session_at m i).up ≡ receiving n
  pub found : find n m.files ≡ some file
  pub room : length file.bytes + length bytes ≤ file.size
  pub leaves : Leaves m i m' m.last_number m.last_time (changed n (grown bytes) m.files)

pub record Completes (m : Model) (i : ℕ) (m' : Model) : Type 0 where
  pub n : ℕ
  pub file : File
  pub t : ℕ
  pub own : (session_at m i).up ≡ receiving n
  pub found : find n m.files ≡ some file
  pub valid : verdict file.bytes file.size ≡ 0
  pub newer : m.last_time < t
  pub leaves : Leaves m i m' m.last_number t (changed n (completed t) m.files)

pub record Drops (m : Model) (i : ℕ) (m' : Model) : Type 0 where
  pub n : ℕ
  pub file : File
  pub own : (session_at m i).up ≡ receiving n
  pub found : find n m.files ≡ some file
  pub leaves : Leaves m i m' m.last_number m.last_time (without n m.files)

pub data Change (m : Model) (i : ℕ) (m' : Model) : Type 0 where
  same : Same m i m' → Change m i m'
  begins : Begins m i m' → Change m i m'
  grows : Grows m i m' → Change m i m'
  completes : Completes m i m' → Change m i m'
  drops : Drops m i m' → Change m i m'

-- EVERY STEP
abbrev pub OneChange : Type 0
OneChange = (m : Model) (c : Call) → Change m (session_in c - 1) (step m c).after

-- "a call changes no file but its own": every other one is found as it was, also where its number is not given yet
abbrev pub OwnFile : Type 0
OwnFile =
    (m : Model) (c : Call) (n : ℕ) → ((session_at m (session_in c - 1)).up ≡ receiving n → ⊥) → n ≤ m.last_number
    → find n (step m c).after.files ≡ find n m.files

-- and no session but its own
abbrev pub OwnSession : Type 0
OwnSession = (m : Model) (c : Call) (j : ℕ) → (j ≡ session_in c - 1 → ⊥) → session_at (step m c).after j ≡ session_at m j
