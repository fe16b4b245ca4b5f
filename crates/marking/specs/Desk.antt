-- The marking desk (document 02, A13): what it prints for an answer sheet, and the right sheet for a script. Both run the script's lines as `passday`
-- does (Rattle.script.specs.Sheet): from a server just made, each line from where the one before left the server. Assumes nothing.
use Rattle.std.specs.Prelude.{ℕ, zero, suc, ◌+◌, Bool, true, cond, List, [], ◌∷◌, ◌++◌, length, take, drop}
use Rattle.packet.specs.Names.{bytes_of}
use Rattle.server.specs.State.{Lent}
use Rattle.history.specs.Calls.{Start, made}
use Rattle.lines.specs.declared.commands.Command.{Command}
use Rattle.lines.specs.declared.commands.Command.TheVariants as command
use Rattle.lines.specs.Commands.{same, command_of}
use Rattle.lines.specs.Text.{decimal_of}
use Rattle.lines.specs.Lines.{error_line}
use Rattle.input.specs.declared.Found.{Found}
use Rattle.input.specs.declared.Found.TheVariants as found
use Rattle.input.specs.Input.{find_of}
use Rattle.script.specs.declared.Day.{Day}
use Rattle.script.specs.declared.doing.Doing.TheVariants as doing
use Rattle.script.specs.Day.{day_of}
use Rattle.script.specs.Line.{Ran}
use Rattle.script.specs.Sheet.{run_of}
use Rattle.marking.specs.declared.Kind.{Kind}
use Rattle.marking.specs.declared.Kind.TheVariants as kind
use Rattle.marking.specs.Fields.{script_part, answer_part, less_session}

-- ---- the lines of a sheet, or of a script

-- a line as it stands, its script's fields, the answer behind them, and what `passday` prints for the script's fields
pub record Row : Type 0 where
  pub line : List ℕ
  pub script : List ℕ
  pub answer : List ℕ
  pub printed : List ℕ

abbrev pub row_for : Kind → List ℕ → List ℕ → Row
row_for k line printed = record { line = line; script = script_part k line; answer = answer_part k line; printed = printed }

-- the lines up to the input's end, or up to one "above that buffer or whose script fields `passday` can't read"; with what is left of the store
pub data Rows : Type 0 where
  ended : Lent → Rows
  unreadable : Lent → Rows
  row : Row → Rows → Rows

-- by what stands first in the input: nothing more, a line of more than 131,072 bytes, counted without its newline, or a line of n bytes
unfoldable pub first_row : Found → Lent → (ℕ → Rows) → Rows
first_row found.Part l go = ended l
first_row (found.Line n) l go = go n
first_row found.TooLong l go = unreadable l
first_row found.Nothing l go = ended l

unfoldable pub read_row : Command → Lent → Rows → Rows
read_row command.Unreadable l rows = unreadable l
read_row (command.Time clock) l rows = rows
read_row (command.Open session) l rows = rows
read_row (command.Drop session) l rows = rows
read_row (command.Rx session n) l rows = rows

-- the server's side of a line, as in `passday`
abbrev pub ran_on : Kind → Day → Lent → List ℕ → Ran
ran_on k day l line = run_of day l (script_part k line)

-- The first number bounds how many lines there are. Behind a line stands its newline. The next line is run from where the server is, whatever the
-- answer of this one was.
unfoldable pub rows_from : Kind → ℕ → Day → Lent → List ℕ → Rows
rows_from k zero day l input = ended l
rows_from k (suc most) day l input =
    first_row (find_of input true) l
    (λ n. read_row (command_of (script_part k (take n input))) l
    (row (row_for k (take n input) (ran_on k day l (take n input)).printed)
    (rows_from k most (ran_on k day l (take n input)).day (ran_on k day l (take n input)).lent (drop (n + 1) input))))

-- "The desk starts from `passday`'s empty store"; there are no more lines than bytes
unfoldable pub rows_of : Kind → Start → List ℕ → Rows
rows_of k s input = rows_from k (length input) (day_of (made s).server 0 doing.Rest) (made s).lent input

-- ---- what is printed for a line

-- "the server's fields"
abbrev pub server_fields : Row → List ℕ
server_fields r = less_session r.printed

-- "A line is right exactly when its answer fields equal the server's, in order, none over."
unfoldable pub is_right : Row → Bool
is_right r = same r.answer (server_fields r)

unfoldable pub verdict_word : Bool → List ℕ
verdict_word right = cond right (bytes_of "right") (bytes_of "wrong")

-- "`right` or `wrong` and the server's fields for each line"; on a right sheet the line as it stands and the server's fields
unfoldable pub row_text : Kind → Row → List ℕ
row_text kind.Desk r = verdict_word (is_right r) ++ (server_fields r ++ 10 ∷ [])
row_text kind.Sheet r = r.line ++ (server_fields r ++ 10 ∷ [])

-- "then `marks` and the count of right lines"; a right sheet has no last line
unfoldable pub marks_line : ℕ → List ℕ
marks_line right = bytes_of "marks" ++ (9 ∷ decimal_of right ++ 10 ∷ [])

unfoldable pub last_text : Kind → ℕ → List ℕ
last_text kind.Desk right = marks_line right
last_text kind.Sheet right = []

-- "37 for a line above that buffer or whose script fields `passday` can't read, as `refused`, 37 and its number"; a script's line that can't be read
-- prints `error` and its number
unfoldable pub refused_line : ℕ → List ℕ
refused_line number = bytes_of "refused" ++ (9 ∷ bytes_of "37" ++ (9 ∷ decimal_of number ++ 10 ∷ []))

unfoldable pub stop_text : Kind → ℕ → List ℕ
stop_text kind.Desk number = refused_line number
stop_text kind.Sheet number = error_line number

-- ---- the whole

-- a right sheet counts nothing
unfoldable pub right_after : Kind → ℕ → Row → ℕ
right_after kind.Desk right r = cond (is_right r) (right + 1) right
right_after kind.Sheet right r = right

-- from a line on that has this number, with so many right ones before it; after a line that is refused "`marks` for those before it"
unfoldable pub print_rows : Kind → ℕ → ℕ → Rows → List ℕ
print_rows k number right (ended l) = last_text k right
print_rows k number right (unreadable l) = stop_text k number ++ last_text k right
print_rows k number right (row r rows) = row_text k r ++ print_rows k (number + 1) (right_after k right r) rows

unfoldable pub output_of : Kind → Start → List ℕ → List ℕ
output_of k s input = print_rows k 1 0 (rows_of k s input)

-- THE DESK
abbrev pub desk_of : Start → List ℕ → List ℕ
desk_of s sheet = output_of kind.Desk s sheet

-- THE RIGHT SHEET: "and also prints the right sheet for a readable script"
abbrev pub right_sheet_of : Start → List ℕ → List ℕ
right_sheet_of s script = output_of kind.Sheet s script
