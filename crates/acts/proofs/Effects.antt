-- What an act does beyond leaving a sound store: whose file it changes, what becomes of the session's upload, how many blocks are free, and the
-- complete files by upload time.
use mathlib.Core.Path.{◌≡◌}
use mathlib.Core.List.{List, [], ◌∷◌, ◌++◌}
use Prim.Native.Nat.{ℕ, ◌+◌, ◌<◌}
use lib.ListN.{length}
use Rattle.blocks.specs.FreeMap.{free_count}
use Rattle.session.specs.declared.state.Session.{Session}
use Rattle.session.specs.declared.state.Uplink.TheVariants as up
use Rattle.table.specs.Table.{files}
use Rattle.table.specs.Given.{blocks_for}
use Rattle.table.specs.Order.{in_order}
use Rattle.carry.specs.declared.turn.Last.{Last}
use Rattle.carry.specs.Turn.{Mem, Turned}
use Rattle.acts.specs.Change.{Files, Change, same, begins, receives, completes, discards}
use Rattle.acts.proofs.Interface.{Kept}
use Rattle.acts.proofs.Asked.{Uploading}

-- an upload of n more bytes
pub record Continues (s s' : Session) (place n : ℕ) : Type 0 where
  pub offset : ℕ
  pub received : ℕ
  pub receiving : s.up ≡ up.Receiving place offset received
  pub onward : s'.up ≡ up.Receiving place offset (received + n)

-- an upload that is over
pub record Ends (s s' : Session) (place : ℕ) : Type 0 where
  pub uploading : Uploading s place
  pub over : (q : ℕ) → Uploading s' q → ⊥

-- "a call changes no file but its own": a new file, or the one that the session uploads. `more` is the packet's information.
abbrev pub Own : Session → Session → List ℕ → {last : Last} {before : Files} {last' : Last} {after : Files} → Change last before last' after → Type 0
Own s s' more (same c) = Unit {0}
Own s s' more (begins c) = s'.up ≡ up.Receiving c.place 0 0
Own s s' more (receives c) = (c.more ≡ more) × Continues s s' c.place (length more)
Own s s' more (completes c) = Ends s s' c.place
Own s s' more (discards c) = Ends s s' c.place

-- the number of free blocks before and after: a new file reserves those of its length, a discarded one gives them back
abbrev pub Free : ℕ → ℕ → {last : Last} {before : Files} {last' : Last} {after : Files} → Change last before last' after → Type 0
Free n n' (same c) = n' ≡ n
Free n n' (begins c) = n' + blocks_for c.size ≡ n
Free n n' (receives c) = n' ≡ n
Free n n' (completes c) = n' ≡ n
Free n n' {before = before} (discards c) = n' ≡ n + blocks_for (before c.place).file.size

-- the places of the complete files with an upload time above `from`, oldest first: only a completed file joins them, as the newest
abbrev pub Order : List ℕ → List ℕ → {last : Last} {before : Files} {last' : Last} {after : Files} → Change last before last' after → Type 0
Order table table' (same c) = (from : ℕ) → in_order from (files table') ≡ in_order from (files table)
Order table table' (begins c) = (from : ℕ) → in_order from (files table') ≡ in_order from (files table)
Order table table' (receives c) = (from : ℕ) → in_order from (files table') ≡ in_order from (files table)
Order table table' (completes c) = (from : ℕ) → from < c.time → in_order from (files table') ≡ in_order from (files table) ++ c.place ∷ []
Order table table' (discards c) = (from : ℕ) → in_order from (files table') ≡ in_order from (files table)

pub record Acted (s : Session) (more : List ℕ) (m : Mem) (last : Last) (t : Turned) : Type 0 where
  pub kept : Kept m last t
  pub own : Own s t.turn.session more kept.change
  pub free : Free (free_count m.map) (free_count t.mem.map) kept.change
  pub order : Order m.table t.mem.table kept.change
