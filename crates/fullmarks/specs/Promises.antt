-- What is promised of the desk (document 02, A13). The theorems are in proofs/. Assumes nothing.
use Rattle.std.specs.Prelude.{◌≡◌, Bool, true, false, cond, List, [], ◌∷◌, ◌++◌, ℕ, zero, suc, ◌+◌, ◌≤◌, length, take, drop}
use Rattle.std.proofs.Math.Option.{Option, none, some}
use Rattle.server.specs.State.{Lent}
use Rattle.history.specs.Calls.{Start, made}
use Rattle.packet.specs.Names.{bytes_of}
use Rattle.lines.specs.declared.commands.Command.{Command}
use Rattle.lines.specs.declared.commands.Command.TheVariants as command
use Rattle.lines.specs.Commands.{fields_of, command_of}
use Rattle.input.specs.declared.Found.{Found}
use Rattle.input.specs.declared.Found.TheVariants as found
use Rattle.input.specs.Input.{find_of}
use Rattle.script.specs.declared.Day.{Day}
use Rattle.script.specs.declared.doing.Doing.TheVariants as doing
use Rattle.script.specs.Day.{day_of}
use Rattle.script.specs.Sheet.{first_line, last_line, run_of, sheet_of}
use Rattle.marking.specs.declared.Kind.{Kind}
use Rattle.marking.specs.declared.Kind.TheVariants as kind
use Rattle.marking.specs.Fields.{script_part}
use Rattle.marking.specs.Desk.{Row, Rows, ended, unreadable, row, row_for, rows_of, is_right, server_fields, row_text, marks_line, refused_line, desk_of, right_sheet_of}

-- ---- parts of the rows

-- the script's fields, each line's with its newline: a script for `passday`
unfoldable pub script_of : Rows → List ℕ
script_of (ended l) = []
script_of (unreadable l) = []
script_of (row r rows) = r.script ++ 10 ∷ script_of rows

-- the script's lines
unfoldable pub scripts_of : Rows → List (List ℕ)
scripts_of (ended l) = []
scripts_of (unreadable l) = []
scripts_of (row r rows) = r.script ∷ scripts_of rows

-- what each line's answer is compared with
unfoldable pub printed_of : Rows → List (List ℕ)
printed_of (ended l) = []
printed_of (unreadable l) = []
printed_of (row r rows) = r.printed ∷ printed_of rows

unfoldable pub store_of : Rows → Lent
store_of (ended l) = l
store_of (unreadable l) = l
store_of (row r rows) = store_of rows

-- the lines of a text one behind the other
unfoldable pub together : List (List ℕ) → List ℕ
together [] = []
together (x ∷ xs) = x ++ together xs

-- what `passday` prints for each of some lines that can be read
unfoldable pub each_from : Day → Lent → List (List ℕ) → List (List ℕ)
each_from day l [] = []
each_from day l (line ∷ lines) = (run_of day l line).printed ∷ each_from (run_of day l line).day (run_of day l line).lent lines

abbrev pub each_of : Start → List (List ℕ) → List (List ℕ)
each_of s lines = each_from (day_of (made s).server 0 doing.Rest) (made s).lent lines

-- how many lines there are, and how many of them are right
unfoldable pub count_rows : Rows → ℕ
count_rows (ended l) = 0
count_rows (unreadable l) = 0
count_rows (row r rows) = suc (count_rows rows)

unfoldable pub count_right : Rows → ℕ
count_right (ended l) = 0
count_right (unreadable l) = 0
count_right (row r rows) = cond (is_right r) (suc (count_right rows)) (count_right rows)

-- no line was refused
unfoldable pub all_read : Rows → Bool
all_read (ended l) = true
all_read (unreadable l) = false
all_read (row r rows) = all_read rows

-- what is printed for the lines alone
unfoldable pub row_texts : Kind → Rows → List ℕ
row_texts k (ended l) = []
row_texts k (unreadable l) = []
row_texts k (row r rows) = row_text k r ++ row_texts k rows

-- ---- the desk and `passday`

-- The desk and `passday` cannot disagree: for the same script lines `passday` prints, line by line, what the desk compares with.
pub record AsPassday (s : Start) (sheet : List ℕ) : Type 0 where
  pub each : printed_of (rows_of kind.Desk s sheet) ≡ each_of s (scripts_of (rows_of kind.Desk s sheet))
  pub whole : sheet_of s (script_of (rows_of kind.Desk s sheet))
      ≡ first_line ++ (together (printed_of (rows_of kind.Desk s sheet)) ++ last_line (store_of (rows_of kind.Desk s sheet)))

-- A wrong line changes nothing of what later lines are compared with: that hangs on the script's fields alone.
abbrev pub AnswersAside : Start → Type 0
AnswersAside s =
    (a b : List ℕ) → scripts_of (rows_of kind.Desk s a) ≡ scripts_of (rows_of kind.Desk s b)
    → printed_of (rows_of kind.Desk s a) ≡ printed_of (rows_of kind.Desk s b)

-- ---- right

-- the fields that stand behind a line's own, each behind its TAB: none, or those behind the first TAB
unfoldable pub fields_behind : List ℕ → List (List ℕ)
fields_behind [] = []
fields_behind (b ∷ bs) = fields_of bs

-- "A line is right exactly when its answer fields equal the server's, in order, none over."
pub record Exactly (r : Row) : Type 0 where
  pub equal : is_right r ≡ true → fields_behind r.answer ≡ fields_behind (server_fields r)
  pub right : fields_behind r.answer ≡ fields_behind (server_fields r) → is_right r ≡ true

-- of any line of an answer sheet, and whatever is printed for it
abbrev pub RightExactly : Type 0
RightExactly = (line printed : List ℕ) → Exactly (row_for kind.Desk line printed)

-- ---- 37

-- the number of the first line that can't be marked: it is "above that buffer", or its "script fields `passday` can't read"; the first number bounds
-- how many lines there are, the second is that of the first line
unfoldable pub stops_in : Found → ℕ → (ℕ → Option ℕ) → Option ℕ
stops_in found.Part number go = none
stops_in (found.Line n) number go = go n
stops_in found.TooLong number go = some number
stops_in found.Nothing number go = none

unfoldable pub stops_on : Command → ℕ → Option ℕ → Option ℕ
stops_on command.Unreadable number more = some number
stops_on (command.Time clock) number more = more
stops_on (command.Open session) number more = more
stops_on (command.Drop session) number more = more
stops_on (command.Rx session n) number more = more

unfoldable pub stops_from : ℕ → ℕ → List ℕ → Option ℕ
stops_from zero number sheet = none
stops_from (suc most) number sheet =
    stops_in (find_of sheet true) number
    (λ n. stops_on (command_of (script_part kind.Desk (take n sheet))) number (stops_from most (number + 1) (drop (n + 1) sheet)))

-- it hangs on the sheet alone
abbrev pub stops_at : List ℕ → Option ℕ
stops_at sheet = stops_from (length sheet) 1 sheet

-- ---- the marks

-- "`right` or `wrong` and the server's fields for each line, then `marks` and the count of right lines"; and 37 exactly where a line can't be marked, "as
-- `refused`, 37 and its number, then `marks` for those before it"
unfoldable pub last_lines : Option ℕ → ℕ → List ℕ
last_lines none right = marks_line right
last_lines (some number) right = refused_line number ++ marks_line right

abbrev pub Marks : Start → Type 0
Marks s =
    (sheet : List ℕ)
    → desk_of s sheet ≡ row_texts kind.Desk (rows_of kind.Desk s sheet) ++ last_lines (stops_at sheet) (count_right (rows_of kind.Desk s sheet))

-- ---- the right sheet

-- each line of it fits the desk's buffer
unfoldable pub Fits : Rows → Type 0
Fits (ended l) = Unit {0}
Fits (unreadable l) = Unit {0}
Fits (row r rows) = (length (r.line ++ server_fields r) ≤ 131072) × Fits rows

-- `right` and the server's fields for each line
unfoldable pub all_right : Rows → List ℕ
all_right (ended l) = []
all_right (unreadable l) = []
all_right (row r rows) = bytes_of "right" ++ (server_fields r ++ 10 ∷ all_right rows)

-- "that sheet, its lines within the desk's lent buffer, gets full marks"
abbrev pub FullMarks : Start → Type 0
FullMarks s =
    (script : List ℕ) → all_read (rows_of kind.Sheet s script) ≡ true → Fits (rows_of kind.Sheet s script)
    → desk_of s (right_sheet_of s script) ≡ all_right (rows_of kind.Sheet s script) ++ marks_line (count_rows (rows_of kind.Sheet s script))
