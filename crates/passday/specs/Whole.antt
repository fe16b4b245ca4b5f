-- The run of the program from its own start: a server just made in the program's memory (crates/pass, specs/Whole.antt, with no more words). It meets what
-- EveryRun (Run.antt) asks of a start, so what EveryRun says holds of it. Assumes nothing.
use Rattle.std.specs.Prelude.{◌^◌, ◌<◌, length}
use Rattle.server.specs.State.{Lent}
use Rattle.history.specs.Calls.{Start, made}
use Rattle.pass.specs.declared.Pass.{Pass}
use Rattle.pass.specs.Sheets.{no_more}
use Rattle.pass.specs.Pass.{Memory, memory, Passing, new_of}
use Rattle.pass.specs.Whole as whole
use Rattle.passday.specs.Run.{Played, PrintsSheet}

-- "a server of 128 blocks, 32 files, 4 sessions and MAXSEL 50"
abbrev pub start_of : Lent → Start
start_of l = whole.start_of l

-- the memory is as large as EveryRun asks
abbrev pub Ready : Memory → Type 0
Ready m = whole.Ready 560 m

-- turns from the server just made
abbrev pub PlayedAll : Memory → Passing → Type 0
PlayedAll m after =
    Played (new_of (made (start_of m.lent)).server) (memory (made (start_of m.lent)).lent m.input m.bytes m.text) after

-- the same in memory that the program has to itself: where it stands is all that is left of it
abbrev pub RanInMemory : Pass → Type 0
RanInMemory r = whole.RanInMemory 560 no_more r

-- THE PROGRAM: what its own run writes is the sheet of the script that it read. `run` (src/main.rt) has the contract `PlayedAll`,
-- `run_in_memory` the contract `RanInMemory`.
abbrev pub ProgramPrints : Type 0
ProgramPrints =
    (m : Memory) → Ready m → (after : Passing) (p : PlayedAll m after) → length p.read < 2 ^ 63
    → PrintsSheet (start_of m.lent) p.read p.wrote after
