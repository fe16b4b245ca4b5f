-- THEOREM: the right sheet of a readable script, its lines within the desk's buffer, gets full marks (specs/Promises.antt). Assumes nothing.
use Rattle.std.proofs.Common.{Option, None, Some}
use native.Mathlib.Omega.{arith}
use mathlib.Core.Path.{◌≡◌, refl, sym, ◌∙◌, ap}
use mathlib.Core.Bool.{Bool, true, false, cond}
use mathlib.Core.List.{List, [], ◌∷◌, ◌++◌, append_assoc, append-nil}
use Prim.Native.Nat.{ℕ, zero, suc, ◌+◌, ◌≤◌, ◌<◌}
use lib.Dec.{eqb}
use lib.ListN.{length, take, drop, length-append}
use lib.Seq.{take-append_seam, drop-append_seam, take-length}
use Rattle.history.specs.Calls.{Start, made}
use Rattle.packet.specs.Names.{bytes_of}
use Rattle.server.specs.State.{Lent}
use Rattle.lines.specs.declared.commands.Command.TheVariants as command
use Rattle.lines.specs.Commands.{onto, fields_of, same, number_in, command_of_two, command_of_three, command_of_fields, command_of}
use Rattle.lines.specs.Numerals as lines
use Rattle.lines.specs.Numerals.{is_hex}
use Rattle.lines.specs.Reading.{field}
use Rattle.lines.proofs.FieldLaws.{same_equal, same_itself}
use Rattle.script.specs.declared.Day.{Day}
use Rattle.script.specs.declared.doing.Doing.TheVariants as doing
use Rattle.script.specs.Day.{day_of}
use Rattle.script.specs.Line.{Ran}
use Rattle.script.specs.Sheet.{run_of}
use Rattle.script.proofs.SheetLaws.{readable}
use Rattle.marking.specs.declared.Kind.{Kind}
use Rattle.marking.specs.declared.Kind.TheVariants as kind
use Rattle.marking.specs.Fields.{fields_end, is_rx, script_end, script_part, answer_part, less_first, less_session}
use Rattle.marking.specs.Desk.{Row, Rows, ended, unreadable, row, row_for, ran_on, rows_from, rows_of, is_right, server_fields, verdict_word, row_text}
use Rattle.marking.specs.Desk.{marks_line, last_text, stop_text, right_after, print_rows, output_of}
use Rattle.fullmarks.specs.Promises.{count_rows, all_read, Fits, all_right, FullMarks}
use Rattle.rows.proofs.Shape.{without, without_both, less_without, Tabbed, empty, tab, less_tabbed}
use Rattle.rows.proofs.RowLaws.{rows_none, rows_line}
use Rattle.fullmarks.proofs.Promises.{Found1, found_again, behind_again, rows_all}

clash : false ≡ true → ⊥
clash e = let z : ◌≡◌ {A = ℕ} 0 1 = cc in omega arith

-- ---- how many fields a readable line has

unfoldable tabs : List ℕ → ℕ
tabs [] = 0
tabs (b ∷ bs) = cond (eqb b 9) (suc (tabs bs)) (tabs bs)

record Fields (line : List ℕ) : Type 0 where
  others : List (List ℕ)
  are : fields_of line ≡ field line ∷ others
  count : length others ≡ tabs line

fields_tab : (b : ℕ) (bs : List ℕ) → eqb b 9 ≡ true → Fields bs → Fields (b ∷ bs)
unfolding fields_of field tabs
fields_tab b bs e f = record { others = fields_of bs; are = rw e refl; count = rw (e, f.are) (ap suc f.count) }

fields_byte : (b : ℕ) (bs : List ℕ) → eqb b 9 ≡ false → Fields bs → Fields (b ∷ bs)
unfolding fields_of field tabs onto
fields_byte b bs e f = record { others = f.others; are = rw (e, f.are) refl; count = rw e f.count }

fields_none : Fields []
unfolding fields_of field tabs
fields_none = record { others = []; are = refl; count = refl }

fields_are : (line : List ℕ) → Fields line
fields_are [] = fields_none
fields_are (b ∷ bs) = go (eqb b 9) refl (fields_are bs)
  where
    go : (t : Bool) → eqb b 9 ≡ t → Fields bs → Fields (b ∷ bs)
    go true e f = fields_tab b bs e f
    go false e f = fields_byte b bs e f

-- a word that is another is not `rx`
time_other : same (bytes_of "time") (bytes_of "rx") ≡ false
unfolding same bytes_of
time_other = refl

open_other : same (bytes_of "open") (bytes_of "rx") ≡ false
unfolding same bytes_of
open_other = refl

drop_other : same (bytes_of "drop") (bytes_of "rx") ≡ false
unfolding same bytes_of
drop_other = refl

is_other : (name word : List ℕ) → same name word ≡ true → same word (bytes_of "rx") ≡ false → same name (bytes_of "rx") ≡ false
is_other name word e f = ap (λ (x : List ℕ). same x (bytes_of "rx")) (same_equal name word e) ∙ f

two_readable : (name : List ℕ) (n : Option ℕ) → readable (command_of_two name n) ≡ true → same name (bytes_of "rx") ≡ false
unfolding command_of_two readable
two_readable name None e = absurd (clash e)
two_readable name (Some v) e =
    go (same name (bytes_of "time")) refl (same name (bytes_of "open")) refl (same name (bytes_of "drop")) refl e
  where
    go : (a : Bool) → same name (bytes_of "time") ≡ a → (b : Bool) → same name (bytes_of "open") ≡ b → (d : Bool) → same name (bytes_of "drop") ≡ d
        → readable (cond a (command.Time v) (cond b (command.Open v) (cond d (command.Drop v) command.Unreadable))) ≡ true
        → same name (bytes_of "rx") ≡ false
    go true f b g d h e = is_other name (bytes_of "time") f time_other
    go false f true g d h e = is_other name (bytes_of "open") g open_other
    go false f false g true h e = is_other name (bytes_of "drop") h drop_other
    go false f false g false h e = absurd (clash e)

three_readable : (name : List ℕ) (n : Option ℕ) (hex : List ℕ) → readable (command_of_three name n hex) ≡ true → same name (bytes_of "rx") ≡ true
unfolding command_of_three readable
three_readable name None hex e = absurd (clash e)
three_readable name (Some v) hex e = go (same name (bytes_of "rx")) (is_hex hex) e
  where
    go : (a b : Bool) → readable (cond a (cond b (command.Rx v (length (lines.bytes_in hex))) command.Unreadable) command.Unreadable) ≡ true → a ≡ true
    go true b e = refl
    go false b e = absurd (clash e)

readable_fields : (name : List ℕ) (others : List (List ℕ)) → readable (command_of_fields (name ∷ others)) ≡ true
    → length others ≡ cond (same name (bytes_of "rx")) 2 1
unfolding command_of_fields readable
readable_fields name [] e = absurd (clash e)
readable_fields name (f ∷ []) e = sym (ap (λ (t : Bool). cond t 2 1) (two_readable name (number_in f) e))
readable_fields name (f ∷ h ∷ []) e = sym (ap (λ (t : Bool). cond t 2 1) (three_readable name (number_in f) h e))
readable_fields name (f ∷ h ∷ more ∷ rest) e = absurd (clash e)

readable_tabs : (line : List ℕ) → readable (command_of line) ≡ true → tabs line ≡ cond (is_rx line) 2 1
unfolding command_of is_rx
readable_tabs line e =
    let f = fields_are line in
    sym f.count ∙ readable_fields (field line) f.others (ap (λ (x : List (List ℕ)). readable (command_of_fields x)) (sym f.are) ∙ e)

-- ---- the fields of a readable line with an answer behind it

-- the answer begins with its TAB
end_there : (answer : List ℕ) → Tabbed answer → fields_end 0 answer ≡ 0
unfolding fields_end
end_there answer (empty e) = rw e refl
end_there answer (tab rest e) = rw e refl

end_tab : (n b : ℕ) (bs : List ℕ) → eqb b 9 ≡ true → fields_end (suc n) (b ∷ bs) ≡ suc (fields_end n bs)
unfolding fields_end
end_tab n b bs e = rw e refl

end_byte : (n b : ℕ) (bs : List ℕ) → eqb b 9 ≡ false → fields_end n (b ∷ bs) ≡ suc (fields_end n bs)
unfolding fields_end
end_byte zero b bs e = rw e refl
end_byte (suc n) b bs e = rw e refl

ends_line : (line answer : List ℕ) → Tabbed answer → fields_end (tabs line) (line ++ answer) ≡ length line
unfolding tabs
ends_line [] answer t = end_there answer t
ends_line (b ∷ bs) answer t = go (eqb b 9) refl (ends_line bs answer t)
  where
    go : (x : Bool) → eqb b 9 ≡ x → fields_end (tabs bs) (bs ++ answer) ≡ length bs
        → fields_end (cond x (suc (tabs bs)) (tabs bs)) (b ∷ (bs ++ answer)) ≡ suc (length bs)
    go true e h = end_tab (tabs bs) b (bs ++ answer) e ∙ ap suc h
    go false e h = end_byte (tabs bs) b (bs ++ answer) e ∙ ap suc h

-- the first field stays where a TAB ends it
same_first : (line answer : List ℕ) → 0 < tabs line → field (line ++ answer) ≡ field line
unfolding tabs field
same_first [] answer p = absurd (omega (arith, p))
same_first (b ∷ bs) answer p = go (eqb b 9) (λ (q : 0 < tabs bs). same_first bs answer q) p
  where
    go : (x : Bool) → (0 < tabs bs → field (bs ++ answer) ≡ field bs) → 0 < cond x (suc (tabs bs)) (tabs bs)
        → cond x [] (b ∷ field (bs ++ answer)) ≡ cond x [] (b ∷ field bs)
    go true h q = refl
    go false h q = ap (λ (l : List ℕ). b ∷ l) (h q)

some_tab : (t : Bool) (n : ℕ) → n ≡ cond t 2 1 → 0 < n
some_tab true n e = omega (arith, e)
some_tab false n e = omega (arith, e)

module _ (line answer : List ℕ) (c : readable (command_of line) ≡ true) (t : Tabbed answer) where
  same_rx : is_rx (line ++ answer) ≡ is_rx line
  unfolding is_rx
  same_rx = ap (λ (l : List ℕ). same l (bytes_of "rx")) (same_first line answer (some_tab (is_rx line) (tabs line) (readable_tabs line c)))

  script_ends : script_end kind.Desk (line ++ answer) ≡ length line
  unfolding script_end
  script_ends =
      ap (λ (x : Bool). fields_end (cond x 2 1) (line ++ answer)) same_rx
      ∙ ap (λ (n : ℕ). fields_end n (line ++ answer)) (sym (readable_tabs line c)) ∙ ends_line line answer t

  script_is : script_part kind.Desk (line ++ answer) ≡ line
  script_is = ap (λ (n : ℕ). take n (line ++ answer)) script_ends ∙ take-append_seam line answer

  answer_is : answer_part kind.Desk (line ++ answer) ≡ answer
  answer_is = ap (λ (n : ℕ). drop n (line ++ answer)) script_ends ∙ drop-append_seam line answer

-- ---- the sheet from a line on

whole_script : (line : List ℕ) → script_part kind.Sheet line ≡ line
unfolding script_end
whole_script line = take-length line

-- the right sheet's text of readable rows
unfoldable sheet_only : Rows → List ℕ
sheet_only (ended l) = []
sheet_only (unreadable l) = []
sheet_only (row r rows) = r.line ++ server_fields r ++ 10 ∷ sheet_only rows

sheet_only_law : (number right : ℕ) (rows : Rows) → all_read rows ≡ true → print_rows kind.Sheet number right rows ≡ sheet_only rows
unfolding print_rows all_read sheet_only row_text last_text right_after
sheet_only_law number right (ended l) e = refl
sheet_only_law number right (unreadable l) e = absurd (clash e)
sheet_only_law number right (row r rows) e =
    append_assoc r.line (server_fields r ++ 10 ∷ []) (print_rows kind.Sheet (number + 1) right rows)
    ∙ ap (λ (x : List ℕ). r.line ++ x) (append_assoc (server_fields r) (10 ∷ []) (print_rows kind.Sheet (number + 1) right rows))
    ∙ sym (append_assoc r.line (server_fields r) (10 ∷ print_rows kind.Sheet (number + 1) right rows))
    ∙ ap (λ (x : List ℕ). r.line ++ server_fields r ++ 10 ∷ x) (sheet_only_law (number + 1) right rows e)

abbrev Full : Day → Lent → Rows → Type 0
Full day l rows =
    all_read rows ≡ true → Fits rows → (number right : ℕ)
    → print_rows kind.Desk number right (rows_from kind.Desk (length (sheet_only rows)) day l (sheet_only rows))
    ≡ all_right rows ++ marks_line (right + count_rows rows)

full_end : (day : Day) (l : Lent) → Full day l (ended l)
unfolding sheet_only rows_from print_rows all_right count_rows last_text
full_end day l e f number right = ap marks_line (none right)
  where
    none : (n : ℕ) → n ≡ n + 0
    none n = omega arith

full_stop : (day : Day) (l : Lent) → Full day l (unreadable l)
unfolding all_read
full_stop day l e f number right = absurd (clash e)

right_word : verdict_word true ≡ bytes_of "right"
unfolding verdict_word
right_word = refl

desk_row : (number right : ℕ) (r : Row) (rows : Rows) → is_right r ≡ true
    → print_rows kind.Desk number right (row r rows) ≡ bytes_of "right" ++ (server_fields r ++ 10 ∷ print_rows kind.Desk (number + 1) (right + 1) rows)
unfolding print_rows row_text right_after
desk_row number right r rows e =
    rw e
    (ap (λ (x : List ℕ). x ++ (server_fields r ++ 10 ∷ []) ++ print_rows kind.Desk (number + 1) (right + 1) rows) right_word
    ∙ append_assoc (bytes_of "right") (server_fields r ++ 10 ∷ []) (print_rows kind.Desk (number + 1) (right + 1) rows)
    ∙ ap (λ (x : List ℕ). bytes_of "right" ++ x) (append_assoc (server_fields r) (10 ∷ []) (print_rows kind.Desk (number + 1) (right + 1) rows)))

is_right_law : (line script answer printed : List ℕ) → answer ≡ less_session printed
    → is_right (record { line = line; script = script; answer = answer; printed = printed }) ≡ true
unfolding is_right
is_right_law line script answer printed e = ap (λ (x : List ℕ). same x (less_session printed)) e ∙ same_itself (less_session printed)

less_free : (printed : List ℕ) → without 10 (less_session printed) ≡ true
unfolding less_session
less_free printed = less_without false printed

less_begins : (printed : List ℕ) → Tabbed (less_session printed)
unfolding less_session
less_begins printed = less_tabbed printed

full_row : (day : Day) (l : Lent) (line : List ℕ) (rows : Rows) → Found1 line → readable (command_of (script_part kind.Sheet line)) ≡ true
    → Full (ran_on kind.Sheet day l line).day (ran_on kind.Sheet day l line).lent rows
    → Full day l (row (row_for kind.Sheet line (ran_on kind.Sheet day l line).printed) rows)
unfolding sheet_only all_read Fits all_right count_rows
full_row day l line rows found c h e f number right =
    ap (λ (x : Rows). print_rows kind.Desk number right x)
    (rows_line kind.Desk day l (length given) (given ++ 10 ∷ rest) given (found_again given rest free f.0) (take-append_seam given (10 ∷ rest))
    (ap (λ (x : List ℕ). readable (command_of x)) script ∙ plain))
    ∙ desk_row number right (row_for kind.Desk given (ran_on kind.Desk day l given).printed) _
    (is_right_law given (script_part kind.Desk given) (answer_part kind.Desk given) (ran_on kind.Desk day l given).printed
    (answer ∙ ap (λ (x : Ran). less_session x.printed) (sym same-run)))
    ∙ ap (λ (x : Ran). bytes_of "right" ++ (less_session x.printed ++ 10 ∷ print_rows kind.Desk (number + 1) (right + 1)
    (rows_from kind.Desk (length (drop (length given + 1) (given ++ 10 ∷ rest))) x.day x.lent (drop (length given + 1) (given ++ 10 ∷ rest))))) same-run
    ∙ ap (λ (x : List ℕ). bytes_of "right" ++ (server ++ 10 ∷ print_rows kind.Desk (number + 1) (right + 1)
    (rows_from kind.Desk (length x) run.day run.lent x))) (behind_again given rest)
    ∙ ap (λ (x : List ℕ). bytes_of "right" ++ (server ++ 10 ∷ x)) (h e f.1 (number + 1) (right + 1))
    ∙ ap (λ (n : ℕ). bytes_of "right" ++ (server ++ 10 ∷ (all_right rows ++ marks_line n))) (plus right (count_rows rows))
    ∙ ap (λ (x : List ℕ). bytes_of "right" ++ x) (sym (append_assoc server (10 ∷ all_right rows) (marks_line (right + suc (count_rows rows)))))
    ∙ sym (append_assoc (bytes_of "right") (server ++ 10 ∷ all_right rows) (marks_line (right + suc (count_rows rows))))
  where
    plus : (a b : ℕ) → a + 1 + b ≡ a + suc b
    plus a b = omega arith

    run : Ran
    run = ran_on kind.Sheet day l line

    server : List ℕ
    server = less_session run.printed

    given : List ℕ
    given = line ++ server

    rest : List ℕ
    rest = sheet_only rows

    plain : readable (command_of line) ≡ true
    plain = ap (λ (x : List ℕ). readable (command_of x)) (sym (whole_script line)) ∙ c

    free : without 10 given ≡ true
    free = without_both 10 line server found.free (less_free run.printed)

    script : script_part kind.Desk given ≡ line
    script = script_is line server plain (less_begins run.printed)

    answer : answer_part kind.Desk given ≡ server
    answer = answer_is line server plain (less_begins run.printed)

    same-run : ran_on kind.Desk day l given ≡ run
    same-run = ap (λ (x : List ℕ). run_of day l x) (script ∙ sym (whole_script line))

-- THEOREM
pub full_marks : (s : Start) → FullMarks s
unfolding output_of rows_of
full_marks s script e f =
    ap (λ (x : List ℕ). print_rows kind.Desk 1 0 (rows_from kind.Desk (length x) (day_of (made s).server 0 doing.Rest) (made s).lent x))
    (sheet_only_law 1 0 (rows_from kind.Sheet (length script) (day_of (made s).server 0 doing.Rest) (made s).lent script) e)
    ∙ rows_all kind.Sheet Full full_end full_stop full_row (length script) (day_of (made s).server 0 doing.Rest) (made s).lent script e f 1 0
    ∙ ap (λ (n : ℕ). all_right (rows_from kind.Sheet (length script) (day_of (made s).server 0 doing.Rest) (made s).lent script) ++ marks_line n)
    (zero-first (count_rows (rows_from kind.Sheet (length script) (day_of (made s).server 0 doing.Rest) (made s).lent script)))
  where
    zero-first : (n : ℕ) → 0 + n ≡ n
    zero-first n = omega arith
