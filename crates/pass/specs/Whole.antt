-- The run of a script program from its own start: a server just made in the program's memory. It meets what EveryRunOf (Run.antt) asks of a start, so what
-- that says holds of it. Assumes nothing.
use Rattle.std.specs.Prelude.{◌≡◌, ℕ, ◌^◌, ◌<◌, true, List, length}
use Rattle.server.specs.State.{Lent}
use Rattle.history.specs.Calls.{Start, legal, made}
use Rattle.pass.specs.declared.Pass.{Pass}
use Rattle.pass.specs.Sheets.{More}
use Rattle.pass.specs.Pass.{Memory, memory, Passing, new_of}
use Rattle.pass.specs.Run.{Played, HasRoom, PrintsBy}

-- "a server of 128 blocks, 32 files, 4 sessions and MAXSEL 50"
abbrev pub start_of : Lent → Start
start_of l = record { blocks = 128; files = 32; sessions = 4; most = 50; lent = l }

-- the memory is as large as EveryRunOf asks
pub record Ready (size : ℕ) (m : Memory) : Type 0 where
  pub legal : legal (start_of m.lent) ≡ true
  pub room : HasRoom size m

-- turns from the server just made
abbrev pub PlayedAll : ℕ → More → Memory → Passing → Type 0
PlayedAll room more m after =
    Played room more (new_of (made (start_of m.lent)).server) (memory (made (start_of m.lent)).lent m.input m.bytes m.text) after

-- the same in memory that the program has to itself: where it stands is all that is left of it
pub record RanInMemory (room : ℕ) (more : More) (r : Pass) : Type 0 where
  pub memory : Memory
  pub ready : Ready room memory
  pub after : Passing
  pub played : PlayedAll room more memory after
  pub pass : after.pass ≡ r

-- a program's own run prints this sheet
abbrev pub OwnRunOf : ℕ → More → (Start → List ℕ → List ℕ) → Type 0
OwnRunOf room more sheet =
    (m : Memory) → Ready room m → (after : Passing) (p : PlayedAll room more m after) → length p.read < 2 ^ 63
    → PrintsBy (sheet (start_of m.lent)) p.read p.wrote after
