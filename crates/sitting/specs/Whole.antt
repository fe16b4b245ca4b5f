-- The run of a program from its own start: a server just made in the program's memory. It meets what EveryRun (crates/runs, specs/Prints.antt) asks of a
-- start, so what EveryRun says holds of it. Assumes nothing.
use Rattle.std.specs.Prelude.{◌≡◌, true}
use Rattle.server.specs.State.{Lent}
use Rattle.history.specs.Calls.{Start, legal, made}
use Rattle.marking.specs.declared.Kind.{Kind}
use Rattle.sitting.specs.Turn.{Memory, memory, State, new_of}
use Rattle.sitting.specs.Run.{Played, HasRoom}

-- "The desk starts from `passday`'s empty store": "a server of 128 blocks, 32 files, 4 sessions and MAXSEL 50"
abbrev pub start_of : Lent → Start
start_of l = record { blocks = 128; files = 32; sessions = 4; most = 50; lent = l }

-- the memory is as large as EveryRun asks
pub record Ready (m : Memory) : Type 0 where
  pub legal : legal (start_of m.lent) ≡ true
  pub room : HasRoom m

-- turns from the server just made
abbrev pub PlayedAll : Kind → Memory → State → Type 0
PlayedAll k m after =
    Played (new_of k (made (start_of m.lent)).server) (memory (made (start_of m.lent)).lent m.input m.bytes m.text) after

-- the same in memory that the program has to itself: nothing is left of it but what was written
pub record Sat (k : Kind) : Type 0 where
  pub memory : Memory
  pub ready : Ready memory
  pub after : State
  pub played : PlayedAll k memory after
