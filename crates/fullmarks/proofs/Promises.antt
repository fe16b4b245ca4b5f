-- THEOREMS on the desk (specs/Promises.antt): it compares with what `passday` prints, line by line; an answer changes nothing of what later lines are
-- compared with; the marks are the count of right lines. Assumes nothing.
use native.Mathlib.Omega.{arith}
use mathlib.Core.Path.{◌≡◌, refl, sym, ◌∙◌, ap}
use mathlib.Core.Bool.{Bool, true, false, cond}
use mathlib.Core.List.{List, [], ◌∷◌, ◌++◌, append_assoc}
use mathlib.Core.Option.{Option, none, some}
use Prim.Native.Nat.{ℕ, zero, suc, ◌+◌, ◌≤◌, ◌<◌}
use lib.Dec.{eqb, ltb}
use lib.ListN.{length, take, drop, length-append, length-take}
use lib.Seq.{take-append_seam, drop-append-add}
use borrow.Author.Tests.{le-ltb, lt-ltb, ltb-false}
use Rattle.history.specs.Calls.{Start, made}
use Rattle.server.specs.State.{Lent}
use Rattle.lines.specs.declared.commands.Command.{Command}
use Rattle.lines.specs.declared.commands.Command.TheVariants as command
use Rattle.lines.specs.Commands.{command_of}
use Rattle.input.specs.declared.Found.{Found}
use Rattle.input.specs.declared.Found.TheVariants as found
use Rattle.input.specs.Input.{line_length, found_of, find_of, by_first}
use Rattle.script.specs.declared.Day.{Day}
use Rattle.script.specs.declared.doing.Doing.TheVariants as doing
use Rattle.script.specs.Day.{day_of}
use Rattle.script.specs.Line.{Ran}
use Rattle.script.specs.Sheet.{first_line, last_line, error_then_last, run_of, by_command, lines_from, sheet_of}
use Rattle.script.proofs.SheetLaws.{readable, lines_enough}
use Rattle.marking.specs.declared.Kind.{Kind}
use Rattle.marking.specs.declared.Kind.TheVariants as kind
use Rattle.marking.specs.Fields.{script_end, script_part}
use Rattle.marking.specs.Desk.{Row, Rows, ended, unreadable, row, row_for, first_row, read_row, ran_on, rows_from, rows_of, is_right}
use Rattle.marking.specs.Desk.{row_text, marks_line, last_text, refused_line, stop_text, right_after, print_rows, output_of}
use Rattle.fullmarks.specs.Promises.{script_of, scripts_of, printed_of, store_of, together, each_from, each_of, count_right, row_texts}
use Rattle.fullmarks.specs.Promises.{stops_in, stops_on, stops_from, stops_at, last_lines, AsPassday, AnswersAside, Marks}
use Rattle.marking.proofs.FieldLaws.{script_most}
use Rattle.rows.proofs.Shape.{without}

-- ---- a line that is found has no newline, and is found again

line_free : (l : List ℕ) → without 10 (take (line_length l) l) ≡ true
unfolding line_length without
line_free [] = refl
line_free (b ∷ bs) = go (eqb b 10) refl (line_free bs)
  where
    go : (t : Bool) → eqb b 10 ≡ t → without 10 (take (line_length bs) bs) ≡ true → without 10 (take (cond t 0 (suc (line_length bs))) (b ∷ bs)) ≡ true
    go true e h = refl
    go false e h = rw e h

found_size : (n : ℕ) (input : List ℕ) → find_of input true ≡ found.Line n → (line_length input ≡ n) × (line_length input ≤ 131072)
unfolding find_of found_of
found_size n input e = go (ltb 131072 (line_length input)) refl (ltb (line_length input) (length input)) (eqb (line_length input) 0) e
  where
    go : (a : Bool) → ltb 131072 (line_length input) ≡ a → (b c : Bool)
        → cond a found.TooLong (cond b (found.Line (line_length input)) (cond c found.Nothing (found.Line (line_length input)))) ≡ found.Line n
        → (line_length input ≡ n) × (line_length input ≤ 131072)
    go true x b c f = let k : ◌≡◌ {A = ℕ} 0 1 = cc in absurd (omega arith)
    go false x true c f = (cc, ltb-false 131072 (line_length input) x)
    go false x false true f = let k : ◌≡◌ {A = ℕ} 0 1 = cc in absurd (omega arith)
    go false x false false f = (cc, ltb-false 131072 (line_length input) x)

pub record Found1 (line : List ℕ) : Type 0 where
  pub free : without 10 line ≡ true
  pub short : length line ≤ 131072

found_line : (n : ℕ) (input : List ℕ) → find_of input true ≡ found.Line n → Found1 (take n input)
found_line n input e =
    let f = found_size n input e in
    record {
      free = ap (λ (k : ℕ). without 10 (take k input)) (sym f.0) ∙ line_free input;
      short = omega (arith, f.0, f.1, length-take n input);
    }

front_free : (n : ℕ) (l : List ℕ) → without 10 l ≡ true → without 10 (take n l) ≡ true
unfolding without
front_free zero l e = refl
front_free (suc n) [] e = refl
front_free (suc n) (b ∷ bs) e = go (eqb b 10) (λ (x : without 10 bs ≡ true). front_free n bs x) e
  where
    go : (t : Bool) → (without 10 bs ≡ true → without 10 (take n bs) ≡ true) → cond t false (without 10 bs) ≡ true
        → cond t false (without 10 (take n bs)) ≡ true
    go true h x = let z : ◌≡◌ {A = ℕ} 0 1 = cc in absurd (omega arith)
    go false h x = h x

free_length : (l rest : List ℕ) → without 10 l ≡ true → line_length (l ++ 10 ∷ rest) ≡ length l
unfolding without line_length
free_length [] rest e = refl
free_length (b ∷ bs) rest e = go (eqb b 10) (λ (x : without 10 bs ≡ true). free_length bs rest x) e
  where
    go : (t : Bool) → (without 10 bs ≡ true → line_length (bs ++ 10 ∷ rest) ≡ length bs) → cond t false (without 10 bs) ≡ true
        → cond t 0 (suc (line_length (bs ++ 10 ∷ rest))) ≡ suc (length bs)
    go true h x = let z : ◌≡◌ {A = ℕ} 0 1 = cc in absurd (omega arith)
    go false h x = ap suc (h x)

pub found_again : (l rest : List ℕ) → without 10 l ≡ true → length l ≤ 131072 → find_of (l ++ 10 ∷ rest) true ≡ found.Line (length l)
unfolding find_of found_of
found_again l rest e p =
    rw (free_length l rest e, le-ltb 131072 (length l) p, lt-ltb (length l) (length (l ++ 10 ∷ rest)) (omega (arith, length-append l (10 ∷ rest))))

pub behind_again : (l rest : List ℕ) → drop (length l + 1) (l ++ 10 ∷ rest) ≡ rest
behind_again l rest = drop-append-add l (10 ∷ rest) 1

-- ---- an induction over the lines of a sheet

module _ (k : Kind) (P : Day → Lent → Rows → Type 0)
    (at_end : (day : Day) (l : Lent) → P day l (ended l)) (at_stop : (day : Day) (l : Lent) → P day l (unreadable l))
    (at_row : (day : Day) (l : Lent) (line : List ℕ) (rows : Rows) → Found1 line → readable (command_of (script_part k line)) ≡ true
    → P (ran_on k day l line).day (ran_on k day l line).lent rows
    → P day l (row (row_for k line (ran_on k day l line).printed) rows)) where
  by_command_law : (day : Day) (l : Lent) (line : List ℕ) (rows : Rows) (c : Command) → command_of (script_part k line) ≡ c → Found1 line
      → P (ran_on k day l line).day (ran_on k day l line).lent rows
      → P day l (read_row c l (row (row_for k line (ran_on k day l line).printed) rows))
  unfolding read_row readable
  by_command_law day l line rows command.Unreadable e f h = at_stop day l
  by_command_law day l line rows (command.Time clock) e f h = at_row day l line rows f (ap readable e) h
  by_command_law day l line rows (command.Open session) e f h = at_row day l line rows f (ap readable e) h
  by_command_law day l line rows (command.Drop session) e f h = at_row day l line rows f (ap readable e) h
  by_command_law day l line rows (command.Rx session n) e f h = at_row day l line rows f (ap readable e) h

  by_first_law : (day : Day) (l : Lent) (input : List ℕ) (f : Found) → find_of input true ≡ f → (go : ℕ → Rows)
      → ((n : ℕ) → find_of input true ≡ found.Line n → P day l (go n)) → P day l (first_row f l go)
  unfolding first_row
  by_first_law day l input found.Part e go h = at_end day l
  by_first_law day l input (found.Line n) e go h = h n e
  by_first_law day l input found.TooLong e go h = at_stop day l
  by_first_law day l input found.Nothing e go h = at_end day l

  pub rows_all : (most : ℕ) (day : Day) (l : Lent) (input : List ℕ) → P day l (rows_from k most day l input)
  unfolding rows_from
  rows_all zero day l input = at_end day l
  rows_all (suc most) day l input =
      by_first_law day l input (find_of input true) refl _
      (λ n e. by_command_law day l (take n input) _ (command_of (script_part k (take n input))) refl (found_line n input e)
      (rows_all most (ran_on k day l (take n input)).day (ran_on k day l (take n input)).lent (drop (n + 1) input)))

-- ---- the desk and `passday`

-- each line
abbrev Each : Day → Lent → Rows → Type 0
Each day l rows = printed_of rows ≡ each_from day l (scripts_of rows)

each_end : (day : Day) (l : Lent) → Each day l (ended l)
unfolding printed_of scripts_of each_from
each_end day l = refl

each_stop : (day : Day) (l : Lent) → Each day l (unreadable l)
unfolding printed_of scripts_of each_from
each_stop day l = refl

each_row : (day : Day) (l : Lent) (line : List ℕ) (rows : Rows) → Found1 line → readable (command_of (script_part kind.Desk line)) ≡ true
    → Each (ran_on kind.Desk day l line).day (ran_on kind.Desk day l line).lent rows
    → Each day l (row (row_for kind.Desk line (ran_on kind.Desk day l line).printed) rows)
unfolding printed_of scripts_of each_from
each_row day l line rows f c h = ap (λ (r : List (List ℕ)). (ran_on kind.Desk day l line).printed ∷ r) h

-- and the whole
abbrev Whole : Day → Lent → Rows → Type 0
Whole day l rows =
    (number : ℕ) → lines_from (length (script_of rows)) day l number (script_of rows) ≡ together (printed_of rows) ++ last_line (store_of rows)

whole_end : (day : Day) (l : Lent) → Whole day l (ended l)
unfolding script_of printed_of store_of together lines_from
whole_end day l number = refl

whole_stop : (day : Day) (l : Lent) → Whole day l (unreadable l)
unfolding script_of printed_of store_of together lines_from
whole_stop day l number = refl

clash : false ≡ true → ⊥
clash e = let z : ◌≡◌ {A = ℕ} 0 1 = cc in omega arith

goes_on : (c : Command) (error printed : List ℕ) → readable c ≡ true → by_command c error printed ≡ printed
unfolding readable by_command
goes_on command.Unreadable error printed e = absurd (clash e)
goes_on (command.Time clock) error printed e = refl
goes_on (command.Open session) error printed e = refl
goes_on (command.Drop session) error printed e = refl
goes_on (command.Rx session n) error printed e = refl

-- the first line of a script
passday_first : (day : Day) (l : Lent) (number n most : ℕ) (script : List ℕ) → find_of script true ≡ found.Line n
    → lines_from (suc most) day l number script
    ≡ by_command (command_of (take n script)) (error_then_last number l)
    ((run_of day l (take n script)).printed
    ++ lines_from most (run_of day l (take n script)).day (run_of day l (take n script)).lent (number + 1) (drop (n + 1) script))
unfolding lines_from by_first
passday_first day l number n most script e = rw e

module _ (day : Day) (l : Lent) (script rest : List ℕ) (free : without 10 script ≡ true) (short : length script ≤ 131072)
    (c : readable (command_of script) ≡ true) where
  abbrev all : List ℕ
  all = script ++ 10 ∷ rest

  pub passday_line_law : (number : ℕ)
      → lines_from (length all) day l number all
      ≡ (run_of day l script).printed ++ lines_from (length rest) (run_of day l script).day (run_of day l script).lent (number + 1) rest
  passday_line_law number =
      lines_enough (length all) (suc (length all)) day l number all (omega arith) (omega arith)
      ∙ passday_first day l number (length script) (length all) all (found_again script rest free short)
      ∙ ap (λ (x : List ℕ). by_command (command_of x) (error_then_last number l)
      ((run_of day l x).printed ++ lines_from (length all) (run_of day l x).day (run_of day l x).lent (number + 1) (drop (length script + 1) all)))
      (take-append_seam script (10 ∷ rest))
      ∙ goes_on (command_of script) (error_then_last number l) _ c
      ∙ ap (λ (x : List ℕ). (run_of day l script).printed
      ++ lines_from (length all) (run_of day l script).day (run_of day l script).lent (number + 1) x) (behind_again script rest)
      ∙ ap (λ (x : List ℕ). (run_of day l script).printed ++ x)
      (lines_enough (length all) (length rest) (run_of day l script).day (run_of day l script).lent (number + 1) rest
      (omega (arith, length-append script (10 ∷ rest))) (omega arith))

whole_row : (day : Day) (l : Lent) (line : List ℕ) (rows : Rows) → Found1 line → readable (command_of (script_part kind.Desk line)) ≡ true
    → Whole (ran_on kind.Desk day l line).day (ran_on kind.Desk day l line).lent rows
    → Whole day l (row (row_for kind.Desk line (ran_on kind.Desk day l line).printed) rows)
unfolding script_of printed_of store_of together
whole_row day l line rows f c h number =
    passday_line_law day l (script_part kind.Desk line) (script_of rows) (front_free (script_end kind.Desk line) line f.free)
    (omega (arith, f.short, length-take (script_end kind.Desk line) line)) c number
    ∙ ap (λ (x : List ℕ). (ran_on kind.Desk day l line).printed ++ x) (h (number + 1))
    ∙ sym (append_assoc (ran_on kind.Desk day l line).printed (together (printed_of rows)) (last_line (store_of rows)))

-- THEOREM: the desk compares with what `passday` prints
pub as_passday : (s : Start) (sheet : List ℕ) → AsPassday s sheet
unfolding rows_of sheet_of
as_passday s sheet =
    record {
      each = rows_all kind.Desk Each each_end each_stop each_row (length sheet) (day_of (made s).server 0 doing.Rest) (made s).lent sheet;
      whole = ap (λ (x : List ℕ). first_line ++ x)
          (rows_all kind.Desk Whole whole_end whole_stop whole_row (length sheet) (day_of (made s).server 0 doing.Rest) (made s).lent sheet 1);
    }

-- THEOREM: an answer changes nothing of what later lines are compared with
pub answers_aside : (s : Start) → AnswersAside s
answers_aside s a b e = (as_passday s a).each ∙ ap (each_of s) e ∙ sym (as_passday s b).each

-- ---- the marks

-- where the rows stop
unfoldable stop_of : ℕ → Rows → Option ℕ
stop_of number (ended l) = none
stop_of number (unreadable l) = some number
stop_of number (row r rows) = stop_of (number + 1) rows

count_on : (t : Bool) (right more : ℕ) → cond t (right + 1) right + more ≡ right + cond t (suc more) more
count_on true right more = omega arith
count_on false right more = refl

plus_none : (n : ℕ) → n ≡ n + 0
plus_none n = omega arith

marks_from : (number right : ℕ) (rows : Rows)
    → print_rows kind.Desk number right rows ≡ row_texts kind.Desk rows ++ last_lines (stop_of number rows) (right + count_right rows)
unfolding print_rows row_texts count_right last_text stop_text right_after stop_of last_lines
marks_from number right (ended l) = ap marks_line (plus_none right)
marks_from number right (unreadable l) = ap (λ (n : ℕ). refused_line number ++ marks_line n) (plus_none right)
marks_from number right (row r rows) =
    ap (λ (x : List ℕ). row_text kind.Desk r ++ x)
    (marks_from (number + 1) (cond (is_right r) (right + 1) right) rows
    ∙ ap (λ (n : ℕ). row_texts kind.Desk rows ++ last_lines (stop_of (number + 1) rows) n) (count_on (is_right r) right (count_right rows)))
    ∙ sym (append_assoc (row_text kind.Desk r) (row_texts kind.Desk rows)
    (last_lines (stop_of (number + 1) rows) (right + cond (is_right r) (suc (count_right rows)) (count_right rows))))

-- that is the first line that can't be marked
stops_on_law : (c : Command) (l : Lent) (number : ℕ) (r : Row) (rows : Rows) (more : Option ℕ) → stop_of (number + 1) rows ≡ more
    → stop_of number (read_row c l (row r rows)) ≡ stops_on c number more
unfolding read_row stops_on stop_of
stops_on_law command.Unreadable l number r rows more e = refl
stops_on_law (command.Time clock) l number r rows more e = e
stops_on_law (command.Open session) l number r rows more e = e
stops_on_law (command.Drop session) l number r rows more e = e
stops_on_law (command.Rx session n) l number r rows more e = e

stops_in_law : (f : Found) (l : Lent) (number : ℕ) (go : ℕ → Rows) (more : ℕ → Option ℕ) → ((n : ℕ) → stop_of number (go n) ≡ more n)
    → stop_of number (first_row f l go) ≡ stops_in f number more
unfolding first_row stops_in stop_of
stops_in_law found.Part l number go more h = refl
stops_in_law (found.Line n) l number go more h = h n
stops_in_law found.TooLong l number go more h = refl
stops_in_law found.Nothing l number go more h = refl

none_stops : (number : ℕ) (l : Lent) → stop_of number (ended l) ≡ none
unfolding stop_of
none_stops number l = refl

stops_from_law : (most : ℕ) (day : Day) (l : Lent) (number : ℕ) (sheet : List ℕ)
    → stop_of number (rows_from kind.Desk most day l sheet) ≡ stops_from most number sheet
unfolding rows_from stops_from
stops_from_law zero day l number sheet = none_stops number l
stops_from_law (suc most) day l number sheet =
    stops_in_law (find_of sheet true) l number _ _
    (λ n. stops_on_law (command_of (script_part kind.Desk (take n sheet))) l number _ _ _
    (stops_from_law most (ran_on kind.Desk day l (take n sheet)).day (ran_on kind.Desk day l (take n sheet)).lent (number + 1) (drop (n + 1) sheet)))

stops : (s : Start) (sheet : List ℕ) → stop_of 1 (rows_of kind.Desk s sheet) ≡ stops_at sheet
unfolding rows_of
stops s sheet = stops_from_law (length sheet) (day_of (made s).server 0 doing.Rest) (made s).lent 1 sheet

-- THEOREM: the marks are the count of right lines, and 37 is given exactly where a line can't be marked
pub marks : (s : Start) → Marks s
unfolding output_of
marks s sheet =
    marks_from 1 0 (rows_of kind.Desk s sheet)
    ∙ ap (λ (o : Option ℕ). row_texts kind.Desk (rows_of kind.Desk s sheet) ++ last_lines o (0 + count_right (rows_of kind.Desk s sheet))) (stops s sheet)
    ∙ ap (λ (n : ℕ). row_texts kind.Desk (rows_of kind.Desk s sheet) ++ last_lines (stops_at sheet) n) (zero-first (count_right (rows_of kind.Desk s sheet)))
  where
    zero-first : (n : ℕ) → 0 + n ≡ n
    zero-first n = omega arith
