-- Text put behind what waits to be written. Assumes nothing.
use Rattle.std.specs.Prelude.{ℕ, List, ◌++◌, length, take, drop}
use Rattle.lines.specs.Lines.{Printed, printed, printed_in}
use Rattle.input.specs.Parts.{least_of}

-- what stands before the place stays
abbrev pub behind_at : ℕ → List ℕ → Printed → Printed
behind_at place text p = printed p.size (take place text ++ p.text)

-- a line behind the first `at` bytes of a text; nothing is written where it does not fit
unfoldable pub put_behind : ℕ → List ℕ → List ℕ → Printed
put_behind at line text = behind_at (least_of at (length text)) text (printed_in line (drop (least_of at (length text)) text))
