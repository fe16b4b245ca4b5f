-- A run of the program: turns, one after the other (document 01, "The script program"). It goes on until the program is over, and what is then written is
-- the sheet of the script that was read (Rattle.script.specs.Sheet). Assumes nothing.
use Rattle.std.specs.Prelude.{◌≡◌, ℕ, ◌^◌, ◌<◌, true, List, length}
use Rattle.history.specs.Calls.{Start, legal, made}
use Rattle.input.specs.Turns as turning
use Rattle.script.specs.Sheet.{sheet_of}
use Rattle.pass.specs.declared.Pass.{Pass}
use Rattle.pass.specs.Pass.{Memory, Passing, passing, new_of}
use Rattle.pass.specs.Run.{is_over}
use Rattle.pass.specs.Run as program
use Rattle.passday.specs.Pass.{DueTurn}

-- the turns up to now
abbrev pub Run : Pass → Memory → ℕ → List ℕ → List ℕ → Passing → Type 0
Run p m turns read wrote after = turning.Run is_over DueTurn (passing p m) turns read wrote after

-- what `play` comes to
abbrev pub Played : Pass → Memory → Passing → Type 0
Played p m after = turning.Played is_over DueTurn (passing p m) after

-- ---- the statement

-- memory with room for any line
abbrev pub HasRoom : Memory → Type 0
HasRoom m = program.HasRoom 560 m

-- at any time what was written is the front of the sheet of what was read, and of any that may still be read; and where the program is done, it is all of it
abbrev pub PrintsSheet : Start → List ℕ → List ℕ → Passing → Type 0
PrintsSheet s read wrote after = program.PrintsBy (sheet_of s) read wrote after

-- THE PROGRAM, for every way in which the input comes in pieces and every server just made
abbrev pub EveryRun : Type 0
EveryRun =
    (s : Start) → legal s ≡ true → (m : Memory) → m.lent ≡ (made s).lent → HasRoom m
    → (turns : ℕ) (read wrote : List ℕ) (after : Passing) → Run (new_of (made s).server) m turns read wrote after → length read < 2 ^ 63
    → PrintsSheet s read wrote after
