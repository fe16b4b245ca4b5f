-- What calls keep of the sessions beyond what refusal 35 asks: three facts of every state that calls made. None of them is a fact "on blocks,
-- numbers or upload times", and where one is broken nothing points at what the store lacks. Assumes nothing.
use Rattle.std.specs.Prelude.{◌≡◌, true, false, List, ℕ, ◌+◌, ◌≤◌, ◌<◌}
use Rattle.session.specs.declared.state.Session.{Session}
use Rattle.session.specs.declared.state.Uplink.TheVariants as up
use Rattle.table.specs.declared.File.{File}
use Rattle.table.specs.Table.{file_at}
use Rattle.links.specs.Sound.{link}

-- the session is open and uploads the file at the place
pub record Uploads (s : Session) (place : ℕ) : Type 0 where
  pub linked : s.linked ≡ true
  pub offset : ℕ
  pub received : ℕ
  pub receiving : s.up ≡ up.Receiving place offset received

pub record LinksKept (fs : List File) (sessions : ℕ) (links : List Session) : Type 0 where
  -- an upload's offset and the bytes received since are all that its file has
  pub bytes : (i place : ℕ) → i < sessions → (u : Uploads (link links i) place) → u.offset + u.received ≡ (file_at fs place).received
  -- a session beyond those in use is closed
  pub beyond : (i : ℕ) → sessions ≤ i → i < 4 → (link links i).linked ≡ false
  -- no two open sessions upload one file
  pub apart : (i j : ℕ) → i < j → j < 4 → (place : ℕ) → Uploads (link links i) place → Uploads (link links j) place → ⊥
