-- On a script of passday's words alone `classday` prints what `passday` prints. Assumes nothing.
use Rattle.std.specs.Prelude.{◌≡◌, ℕ, Bool, true, false, cond, not, ◌||◌, List, [], ◌∷◌, ◌==◌}
use Rattle.packet.specs.Names.{bytes_of}
use Rattle.lines.specs.Commands.{command_of, onto}
use Rattle.names.specs.Names.{begins_with}
use Rattle.history.specs.Calls.{Start}
use Rattle.script.specs.Sheet.{sheet_of}
use Rattle.pass.specs.Narrow.{readable_of}
use Rattle.classday.specs.Sheet.{class_sheet_of}

-- the lines of a script, parted by newlines; behind a last newline stands an empty one
unfoldable pub lines_of : List ℕ → List (List ℕ)
lines_of [] = [] ∷ []
lines_of (b ∷ bs) = cond (b == 10) ([] ∷ lines_of bs) (onto b (lines_of bs))

-- a line that begins with one of the words that passday does not know
unfoldable pub has_class_word : List ℕ → Bool
has_class_word line = begins_with (bytes_of "why\t") line || begins_with (bytes_of "why-bytes\t") line

-- passday can read the line, or neither of the two can
unfoldable pub passday_line : List ℕ → Bool
passday_line line = readable_of (command_of line) || not (has_class_word line)

unfoldable pub passday_lines : List (List ℕ) → Bool
passday_lines [] = true
passday_lines (line ∷ lines) = cond (passday_line line) (passday_lines lines) false

abbrev pub SameAsPassday : Type 0
SameAsPassday = (s : Start) (script : List ℕ) → passday_lines (lines_of script) ≡ true → class_sheet_of s script ≡ sheet_of s script
