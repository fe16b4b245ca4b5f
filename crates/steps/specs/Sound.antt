-- What holds of the files after any steps from an empty store (demand 3). Assumes nothing.
use Rattle.std.specs.Prelude.{List, [], ◌∷◌, ℕ, ◌≤◌, ◌<◌}
use Rattle.calls.specs.Call.{Call}
use Rattle.model.specs.State.{File, Model}
use Rattle.model.specs.Files.{reserved}
use Rattle.model.specs.Step.{step}

-- the numbers rise, from above a up to at most b, and no upload time is above t
abbrev pub Numbers : ℕ → ℕ → ℕ → List File → Type 0
Numbers a b t [] = Unit {0}
Numbers a b t (f ∷ fs) = (a < f.number) × (f.number ≤ b) × (f.time ≤ t) × Numbers f.number b t fs

-- "no file number is given twice": they rise, and none is above the last one given; no upload time is above the last one; "blocks held equal the sum
-- over live files of their reserved blocks", which are no more than there are
pub record Sound (m : Model) : Type 0 where
  pub numbers : Numbers 0 m.last_number m.last_time m.files
  pub room : reserved m.files ≤ m.blocks

-- EVERY STEP KEEPS IT
abbrev pub SoundStays : Type 0
SoundStays = (m : Model) (c : Call) → Sound m → Sound (step m c).after
