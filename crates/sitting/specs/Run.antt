-- A run of a program: turns, one after the other. It goes on until the program is over. What it writes is said in crates/runs (specs/Prints.antt).
-- Assumes nothing.
use Rattle.std.specs.Prelude.{◌≡◌, ℕ, ◌^◌, ◌<◌, ◌≤◌, Bool, true, List, [], length}
use Rattle.input.specs.Turns as turning
use Rattle.sitting.specs.declared.turn.Sitting.{Sitting}
use Rattle.sitting.specs.Turn.{Memory, State, state, over_of, DueTurn}

abbrev pub is_over : State → Bool
is_over s = over_of s.sitting.stage

-- the turns up to now
abbrev pub Run : Sitting → Memory → ℕ → List ℕ → List ℕ → State → Type 0
Run p m turns read wrote after = turning.Run is_over DueTurn (state p m) turns read wrote after

-- what `play` comes to
abbrev pub Played : Sitting → Memory → State → Type 0
Played p m after = turning.Played is_over DueTurn (state p m) after

-- ---- what a run asks for

-- room for any line: 131,072 bytes and a newline, the bytes of an `rx` line, and all that a turn may put; no slice is longer than a machine has bytes
pub record HasRoom (m : Memory) : Type 0 where
  pub input : 131073 ≤ length m.input
  pub input_most : length m.input < 2 ^ 63
  pub bytes : 65536 ≤ length m.bytes
  pub text : 131700 ≤ length m.text
  pub text_most : length m.text < 2 ^ 63

-- what is still to be read: nothing, where the input has ended
abbrev pub MayFollow : Sitting → List ℕ → Type 0
MayFollow p rest = p.ended ≡ true → rest ≡ []
