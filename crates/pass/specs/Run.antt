-- A run of a script program: turns, one after the other (document 01, "The script program"). It goes on until the program is over, and what is then
-- written is the sheet of the script that was read, with the program's more words (Sheets.antt). Assumes nothing.
use Rattle.std.specs.Prelude.{◌≡◌, ℕ, ◌^◌, ◌<◌, ◌≤◌, Bool, true, List, [], ◌++◌, length}
use Rattle.history.specs.Calls.{Start, legal, made}
use Rattle.input.specs.Turns as turning
use Rattle.input.specs.Turns.{Front}
use Rattle.script.specs.Sheet.{first_line}
use Rattle.pass.specs.declared.Pass.{Pass}
use Rattle.pass.specs.declared.Stage.TheVariants as stage
use Rattle.pass.specs.Sheets.{More, Fair, sheet_by}
use Rattle.pass.specs.Pass.{Memory, Passing, passing, new_of, over_of, DueTurn}

abbrev pub is_over : Passing → Bool
is_over s = over_of s.pass.stage

-- the turns up to now
abbrev pub Run : ℕ → More → Pass → Memory → ℕ → List ℕ → List ℕ → Passing → Type 0
Run room more p m turns read wrote after = turning.Run is_over (DueTurn room more) (passing p m) turns read wrote after

-- what playing on comes to
abbrev pub Played : ℕ → More → Pass → Memory → Passing → Type 0
Played room more p m after = turning.Played is_over (DueTurn room more) (passing p m) after

-- ---- the statement

-- room for any line: 131,072 bytes and a newline, the bytes of an `rx` line, and any line that is printed; no slice is longer than a machine has
-- bytes
pub record HasRoom (room : ℕ) (m : Memory) : Type 0 where
  pub input : 131073 ≤ length m.input
  pub input_most : length m.input < 2 ^ 63
  pub bytes : 65536 ≤ length m.bytes
  pub text : room ≤ length m.text
  pub text_most : length m.text < 2 ^ 63

-- what is still to be read: nothing, where the input has ended
abbrev pub MayFollow : Pass → List ℕ → Type 0
MayFollow p rest = p.ended ≡ true → rest ≡ []

-- the sheet of what was read, and of any that may still be read
pub record PrintsBy (sheet : List ℕ → List ℕ) (read wrote : List ℕ) (after : Passing) : Type 0 where
  -- at any time what was written is the front of the sheet, whatever is still to be read
  pub front : (rest : List ℕ) → MayFollow after.pass rest → Front (first_line ++ wrote) (sheet (read ++ rest))
  -- and where the program is done, it is all of it
  pub whole : (rest : List ℕ) → MayFollow after.pass rest → after.pass.stage ≡ stage.Done → first_line ++ wrote ≡ sheet (read ++ rest)

-- every run of a program, for every way in which the input comes in pieces and every server just made: it prints this sheet
abbrev pub EveryRunOf : ℕ → More → (Start → List ℕ → List ℕ) → Type 0
EveryRunOf room more sheet =
    (s : Start) → legal s ≡ true → (m : Memory) → m.lent ≡ (made s).lent → HasRoom room m
    → (turns : ℕ) (read wrote : List ℕ) (after : Passing) → Run room more (new_of (made s).server) m turns read wrote after → length read < 2 ^ 63
    → PrintsBy (sheet s) read wrote after

-- A PROGRAM with fair words; 560 bytes have room for any line of passday's words
abbrev pub EveryRun : ℕ → More → Type 0
EveryRun room more = EveryRunOf room more (sheet_by more)

abbrev pub EveryProgram : Type 0
EveryProgram = (room : ℕ) (more : More) → 560 ≤ room → Fair room more → EveryRun room more
