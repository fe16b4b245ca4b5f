-- Two states that differ in partial files, in other sessions and in the numbers given alone, as one session sees them. Assumes nothing.
use Rattle.std.specs.Prelude.{◌≡◌, cond, List, [], ◌∷◌, ℕ, ◌<◌, eqb, length}
use Rattle.model.specs.State.{File, Model, session_at, Turn, Stepped}
use Rattle.steps.specs.Sound.{Sound}

-- the complete files
unfoldable pub completes : List File → List File
completes [] = []
completes (f ∷ fs) = cond (eqb f.time 0) (completes fs) (f ∷ completes fs)

-- the same complete files, the same MAXSEL, and the same session i
pub record Alike (m m' : Model) (i : ℕ) : Type 0 where
  pub files : completes m'.files ≡ completes m.files
  pub maxsel : m'.maxsel ≡ m.maxsel
  pub session : session_at m' i ≡ session_at m i
  pub there : i < length m.sessions
  pub there' : i < length m'.sessions
  pub sound : Sound m
  pub sound' : Sound m'

pub record AlikeTurn (t t' : Turn) (i : ℕ) : Type 0 where
  pub reply : t'.reply ≡ t.reply
  pub after : Alike t.after t'.after i

pub record AlikeStep (t t' : Stepped) (i : ℕ) : Type 0 where
  pub told : t'.told ≡ t.told
  pub after : Alike t.after t'.after i
