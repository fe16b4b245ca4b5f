-- A turn of the program: of all script programs (crates/pass, specs/Pass.antt) the one with no more words. Assumes nothing.
use Rattle.std.specs.Prelude.{ℕ, List, Bool, length}
use Rattle.input.specs.Turns as turning
use Rattle.pass.specs.declared.Pass.{Pass}
use Rattle.pass.specs.declared.Stage.{Stage}
use Rattle.pass.specs.declared.Next.{Next}
use Rattle.pass.specs.Sheets.{no_more}
use Rattle.pass.specs.Pass as turn
use Rattle.pass.specs.Pass.{Memory, Passing, passing}

-- what waits is written first where the text, of `size` bytes, has not room for any line that is printed, 560 bytes, and where nothing else is left to be
-- done
abbrev pub writes_first : Stage → ℕ → ℕ → Bool
writes_first s filled size = turn.writes_first 560 s filled size

-- what is due
abbrev pub decide_of : Pass → List ℕ → ℕ → Next
decide_of p input size = turn.decide_of 560 p input size

-- the next line, of n bytes; one that can't be read is the last
abbrev pub begun_of : Pass → ℕ → Memory → Passing
begun_of p n m = turn.begun_of no_more p n m

-- what was read in a turn, and what was written
abbrev pub Turn : Pass → Memory → Next → List ℕ → List ℕ → Passing → Type 0
Turn p m n read wrote after = turn.Turn no_more p m n read wrote after

-- the turn that is due
abbrev pub DueTurn : Passing → List ℕ → List ℕ → Passing → Type 0
DueTurn s read wrote after = Turn s.pass s.memory (decide_of s.pass s.memory.input (length s.memory.text)) read wrote after

-- with what it read and what it wrote
abbrev pub Turned : Pass → Memory → Passing → Type 0
Turned p m after = turning.Turned DueTurn (passing p m) after
