-- A run of the program: turns, one after the other, until it is over. What is then written is the output for the input that was read (Output.antt).
-- Assumes nothing.
use Rattle.std.specs.Prelude.{◌≡◌, ℕ, ◌^◌, ◌<◌, ◌≤◌, Bool, true, List, [], ◌++◌, length}
use Rattle.input.specs.Turns.{Front, Run, Played}
use Rattle.equations.specs.declared.progress.Progress.{Progress}
use Rattle.equations.specs.declared.progress.Stage.TheVariants as stage
use Rattle.equations.specs.Turn.{State, state, new_of, over_of, DueTurn}
use Rattle.equations.specs.Output.{output_of}

abbrev pub is_over : State → Bool
is_over s = over_of s.progress.stage

-- what `play` comes to: turns from nothing read and nothing written
abbrev pub PlayedAll : List ℕ → List ℕ → State → Type 0
PlayedAll input text after = Played is_over DueTurn (state new_of input text) after

-- room for a line of 131,072 bytes and its newline, and for any line that is printed; no slice is longer than a machine has bytes
pub record HasRoom (input text : List ℕ) : Type 0 where
  pub lines : 131073 ≤ length input
  pub input_most : length input < 2 ^ 63
  pub line : 4096 ≤ length text
  pub text_most : length text < 2 ^ 63

-- what is still to be read: nothing, where the input has ended
abbrev pub MayFollow : Progress → List ℕ → Type 0
MayFollow p rest = p.ended ≡ true → rest ≡ []

pub record Prints (read wrote : List ℕ) (after : State) : Type 0 where
  -- at any time what was written is the front of the output, whatever is still to be read
  pub front : (rest : List ℕ) → MayFollow after.progress rest → Front wrote (output_of (read ++ rest))
  -- and where the program is done, it is all of it
  pub whole : (rest : List ℕ) → MayFollow after.progress rest → after.progress.stage ≡ stage.Done → wrote ≡ output_of (read ++ rest)

-- for every way in which the input comes in pieces
abbrev pub EveryRun : Type 0
EveryRun =
    (input text : List ℕ) → HasRoom input text
    → (turns : ℕ) (read wrote : List ℕ) (after : State) → Run is_over DueTurn (state new_of input text) turns read wrote after → length read < 2 ^ 63
    → Prints read wrote after

-- the program in memory that it has to itself: where it stands is all that is left of it
pub record RanInMemory (r : Progress) : Type 0 where
  pub input : List ℕ
  pub text : List ℕ
  pub room : HasRoom input text
  pub after : State
  pub played : PlayedAll input text after
  pub progress : after.progress ≡ r

-- THE PROGRAM: what its own run (`run_in_memory`, src/main.rt) writes is the output for the input that it read
abbrev pub ProgramPrints : Type 0
ProgramPrints =
    (r : Progress) (ran : RanInMemory r) → length ran.played.read < 2 ^ 63 → Prints ran.played.read ran.played.wrote ran.after
