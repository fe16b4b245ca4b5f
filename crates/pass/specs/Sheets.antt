-- All that a script program prints which may know more words than passday: as Rattle.script.specs.Sheet has it for passday's, with what any other line
-- does. A line that passday can read does what it does there. Assumes nothing.
use Rattle.std.specs.Prelude.{◌≡◌, ℕ, zero, suc, ◌+◌, ◌≤◌, true, List, ◌++◌, length, take, drop}
use Rattle.std.proofs.Math.Option.{Option, none, some}
use Rattle.server.specs.State.{Lent}
use Rattle.history.specs.Calls.{Start, made}
use Rattle.history.specs.Good.{Good}
use Rattle.lines.specs.declared.commands.Command.{Command}
use Rattle.lines.specs.declared.commands.Command.TheVariants as command
use Rattle.lines.specs.Commands.{command_of}
use Rattle.input.specs.Input.{find_of, by_first}
use Rattle.script.specs.declared.Day.{Day}
use Rattle.script.specs.declared.doing.Doing.TheVariants as doing
use Rattle.script.specs.Doing.{rests_of}
use Rattle.script.specs.Day.{day_of}
use Rattle.script.specs.Line.{Ran}
use Rattle.script.specs.Sheet.{first_line, last_line, error_then_last, run_of}

-- what a line of more words does, and what it prints; nothing, where the line can't be read
abbrev pub More : Type 0
More = Day → Lent → List ℕ → Option Ran

-- passday knows no more words
abbrev pub no_more : More
no_more day l line = none

-- by a line's command: one that passday can read is run, and any other is one of more words
unfoldable pub by_reader : Command → Option Ran → Option Ran → Option Ran
by_reader command.Unreadable other own = other
by_reader (command.Time clock) other own = own
by_reader (command.Open session) other own = own
by_reader (command.Drop session) other own = own
by_reader (command.Rx session n) other own = own

abbrev pub does_by : More → Day → Lent → List ℕ → Option Ran
does_by more day l line = by_reader (command_of line) (more day l line) (some (run_of day l line))

-- a line that can't be read ends the script
unfoldable pub goes_on : Option Ran → List ℕ → (Ran → List ℕ) → List ℕ
goes_on none error go = error
goes_on (some r) error go = r.printed ++ go r

-- The lines from one on, which has this number; the first argument but one bounds how many there are. Behind a line stands its newline.
unfoldable pub lines_by : More → ℕ → Day → Lent → ℕ → List ℕ → List ℕ
lines_by more zero day l number script = last_line l
lines_by more (suc k) day l number script =
    by_first (find_of script true) (last_line l) (error_then_last number l)
    (λ n. goes_on (does_by more day l (take n script)) (error_then_last number l)
    (λ r. lines_by more k r.day r.lent (number + 1) (drop (n + 1) script)))

-- THE SHEET of a program with more words: from a server just made, "the clock starts at 0"; there are no more lines than bytes
unfoldable pub sheet_by : More → Start → List ℕ → List ℕ
sheet_by more s script = first_line ++ lines_by more (length script) (day_of (made s).server 0 doing.Rest) (made s).lent 1 script

-- ---- what is asked of more words

-- in a store that calls can make, of a line that can be read: it prints no more than there is room for, leaves such a store, and is done at once
pub record Fair (room : ℕ) (more : More) : Type 0 where
  pub short : (day : Day) (l : Lent) (line : List ℕ) (r : Ran) → length line ≤ 131072 → more day l line ≡ some r → length r.printed ≤ room
  pub good : (day : Day) (l : Lent) (line : List ℕ) (r : Ran) → Good day.server l → more day l line ≡ some r → Good r.day.server r.lent
  pub rests : (day : Day) (l : Lent) (line : List ℕ) (r : Ran) → rests_of day.doing ≡ true → more day l line ≡ some r
      → rests_of r.day.doing ≡ true
