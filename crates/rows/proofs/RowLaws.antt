-- Laws on what is printed for the lines of a sheet or a script: what is still to be printed, from any point of a line on, and how a step, a line's
-- beginning and its end change it. Assumes nothing.
use native.Mathlib.Omega.{arith}
use mathlib.Core.Path.{◌≡◌, refl, sym, ◌∙◌, ap, fun_ext}
use mathlib.Core.Bool.{Bool, true, false, cond}
use mathlib.Core.List.{List, [], ◌∷◌, ◌++◌, append_assoc, append-nil}
use Prim.Native.Nat.{ℕ, zero, suc, ◌+◌, ◌≤◌, ◌<◌}
use lib.Dec.{eqb}
use lib.ListN.{length, take, drop, length-append, length-drop, length-take, take-append-drop}
use lib.Seq.{take-add, take_all, drop_at, take-append_seam, length-take-le}
use borrow.Author.Tests.{eqb-true, eqb-false}
use Rattle.packet.specs.Names.{bytes_of}
use Rattle.server.specs.State.{Lent}
use Rattle.history.specs.Good.{Good}
use Rattle.lines.specs.declared.commands.Command.{Command}
use Rattle.lines.specs.declared.commands.Command.TheVariants as command
use Rattle.lines.specs.Commands.{same, command_of, rx_bytes}
use Rattle.lines.proofs.FieldLaws.{same_equal, same_itself}
use Rattle.input.specs.declared.Found.TheVariants as found
use Rattle.input.specs.Input.{line_length, found_of, find_of}
use Rattle.script.specs.declared.Day.{Day}
use Rattle.script.specs.Doing.{rests_of, session_of}
use Rattle.script.specs.Day.{begin_of, step_of}
use Rattle.script.specs.Line.{Ran, ran, room}
use Rattle.script.specs.Sheet.{run_of}
use Rattle.script.proofs.Ending.{rested, stepped, line_settled}
use Rattle.script.proofs.Prints.{step_prints}
use Rattle.script.proofs.Agreeing.{Agree, ends_agree}
use Rattle.script.proofs.SheetLaws.{ending, readable}
use Rattle.marking.specs.declared.Kind.{Kind}
use Rattle.marking.specs.declared.Kind.TheVariants as kind
use Rattle.marking.specs.declared.verdict.Verdict.{Verdict}
use Rattle.marking.specs.declared.verdict.Verdict.TheVariants as verdict
use Rattle.marking.specs.Fields as less
use Rattle.marking.specs.Fields.{script_part, answer_part, less_session}
use Rattle.marking.specs.Desk.{Row, Rows, ended, unreadable, row, row_for, first_row, read_row, ran_on, rows_from, is_right, verdict_word, row_text}
use Rattle.marking.specs.Desk.{last_text, stop_text, right_after, print_rows}
use Rattle.marking.specs.Verdict.{agrees_at, tail_of}
use Rattle.marking.specs.Step.{printed_by}
use Rattle.rows.proofs.Shape.{Shape, line_shape, less_line}

-- ---- no more lines than bytes

none_left : (k : Kind) (most : ℕ) (day : Day) (l : Lent) → rows_from k most day l [] ≡ ended l
unfolding rows_from first_row find_of found_of line_length
none_left k zero day l = refl
none_left k (suc most) day l = refl

pub rows_enough : (k : Kind) (i j : ℕ) (day : Day) (l : Lent) (input : List ℕ) → length input ≤ i → length input ≤ j
    → rows_from k i day l input ≡ rows_from k j day l input
unfolding rows_from
rows_enough k zero j day l [] p q = sym (none_left k j day l)
rows_enough k zero j day l (b ∷ bs) p q = absurd (omega (arith, p))
rows_enough k (suc i) zero day l [] p q = none_left k (suc i) day l
rows_enough k (suc i) zero day l (b ∷ bs) p q = absurd (omega (arith, q))
rows_enough k (suc i) (suc j) day l input p q =
    ap (λ (go : ℕ → Rows). first_row (find_of input true) l go)
    (fun_ext λ n. ap (λ (r : Rows). read_row (command_of (script_part k (take n input))) l
    (row (row_for k (take n input) (ran_on k day l (take n input)).printed) r))
    (rows_enough k i j (ran_on k day l (take n input)).day (ran_on k day l (take n input)).lent (drop (n + 1) input)
    (omega (arith, p, length-drop (n + 1) input)) (omega (arith, q, length-drop (n + 1) input))))

-- ---- by what stands first in the input

module _ (k : Kind) (day : Day) (l : Lent) (input : List ℕ) where
  one_more : rows_from k (length input) day l input ≡ rows_from k (suc (length input)) day l input
  one_more = rows_enough k (length input) (suc (length input)) day l input (omega arith) (omega arith)

  first_none : find_of input true ≡ found.Nothing → rows_from k (suc (length input)) day l input ≡ ended l
  unfolding rows_from first_row
  first_none e = rw e

  pub rows_none : find_of input true ≡ found.Nothing → rows_from k (length input) day l input ≡ ended l
  rows_none e = one_more ∙ first_none e

  first_long : find_of input true ≡ found.TooLong → rows_from k (suc (length input)) day l input ≡ unreadable l
  unfolding rows_from first_row
  first_long e = rw e

  pub rows_long : find_of input true ≡ found.TooLong → rows_from k (length input) day l input ≡ unreadable l
  rows_long e = one_more ∙ first_long e

  first_line_law : (n : ℕ) → find_of input true ≡ found.Line n
      → rows_from k (suc (length input)) day l input
      ≡ read_row (command_of (script_part k (take n input))) l
      (row (row_for k (take n input) (ran_on k day l (take n input)).printed)
      (rows_from k (length input) (ran_on k day l (take n input)).day (ran_on k day l (take n input)).lent (drop (n + 1) input)))
  unfolding rows_from first_row
  first_line_law n e = rw e

clash : false ≡ true → ⊥
clash e = let z : ◌≡◌ {A = ℕ} 0 1 = cc in omega arith

read_on : (c : Command) (l : Lent) (rows : Rows) → readable c ≡ true → read_row c l rows ≡ rows
unfolding readable read_row
read_on command.Unreadable l rows e = absurd (clash e)
read_on (command.Time clock) l rows e = refl
read_on (command.Open session) l rows e = refl
read_on (command.Drop session) l rows e = refl
read_on (command.Rx session n) l rows e = refl

read_not : (c : Command) (l : Lent) (rows : Rows) → c ≡ command.Unreadable → read_row c l rows ≡ unreadable l
unfolding read_row
read_not c l rows e = rw e

module _ (k : Kind) (day : Day) (l : Lent) (n : ℕ) (input line : List ℕ) (e : find_of input true ≡ found.Line n) (is : take n input ≡ line) where
  pub rows_refused : command_of (script_part k line) ≡ command.Unreadable → rows_from k (length input) day l input ≡ unreadable l
  rows_refused c =
      one_more k day l input ∙ first_line_law k day l input n e
      ∙ read_not (command_of (script_part k (take n input))) l _ (ap (λ (x : List ℕ). command_of (script_part k x)) is ∙ c)

  pub rows_line : readable (command_of (script_part k line)) ≡ true
      → rows_from k (length input) day l input
      ≡ row (row_for k line (ran_on k day l line).printed)
      (rows_from k (length (drop (n + 1) input)) (ran_on k day l line).day (ran_on k day l line).lent (drop (n + 1) input))
  rows_line c =
      one_more k day l input ∙ first_line_law k day l input n e
      ∙ ap (λ (x : List ℕ). read_row (command_of (script_part k x)) l
      (row (row_for k x (ran_on k day l x).printed) (rows_from k (length input) (ran_on k day l x).day (ran_on k day l x).lent (drop (n + 1) input)))) is
      ∙ read_on (command_of (script_part k line)) l _ c
      ∙ ap (λ (r : Rows). row (row_for k line (ran_on k day l line).printed) r)
      (rows_enough k (length input) (length (drop (n + 1) input)) (ran_on k day l line).day (ran_on k day l line).lent (drop (n + 1) input)
      (omega (arith, length-drop (n + 1) input)) (omega arith))

-- ---- what is still to be printed for a line, of which `more` of the server's fields are to come

unfoldable pub row_rest : Verdict → List ℕ → List ℕ → List ℕ
row_rest verdict.Rest answer more = []
row_rest (verdict.Open matched) answer more =
    verdict_word (same answer (take matched answer ++ more)) ++ (take matched answer ++ more ++ 10 ∷ [])
row_rest verdict.Told answer more = more ++ 10 ∷ []

unfoldable pub right_rest : Verdict → List ℕ → List ℕ → ℕ → ℕ
right_rest verdict.Rest answer more right = right
right_rest (verdict.Open matched) answer more right = cond (same answer (take matched answer ++ more)) (right + 1) right
right_rest verdict.Told answer more right = right

-- what is matched stands in the answer, which is no longer than a line
unfoldable pub Within : Verdict → List ℕ → Type 0
Within verdict.Rest answer = Unit {0}
Within (verdict.Open matched) answer = (matched ≤ length answer) × (length answer ≤ 131072)
Within verdict.Told answer = Unit {0}

-- ---- some of the server's fields

unfoldable pub part_verdict : Verdict → List ℕ → List ℕ → Verdict
part_verdict verdict.Rest answer part = verdict.Rest
part_verdict (verdict.Open matched) answer part = cond (agrees_at matched answer part) (verdict.Open (matched + length part)) verdict.Told
part_verdict verdict.Told answer part = verdict.Told

unfoldable pub part_put : Verdict → List ℕ → List ℕ → List ℕ
part_put verdict.Rest answer part = []
part_put (verdict.Open matched) answer part = cond (agrees_at matched answer part) [] (bytes_of "wrong" ++ (take matched answer ++ part))
part_put verdict.Told answer part = part

record Agrees (matched : ℕ) (answer part : List ℕ) : Type 0 where
  size : matched + length part ≤ length answer
  front : take matched answer ++ part ≡ take (matched + length part) answer

agrees_is : (matched : ℕ) (answer part : List ℕ) → matched ≤ length answer → agrees_at matched answer part ≡ true → Agrees matched answer part
unfolding agrees_at
agrees_is matched answer part m e =
    let f = same_equal part (take (length part) (drop matched answer)) e in
    record {
      size = omega (arith, m, ap (λ (l : List ℕ). length l) f, length-take (length part) (drop matched answer), length-drop matched answer);
      front = ap (λ (l : List ℕ). take matched answer ++ l) f ∙ sym (take-add matched (length part) answer);
    }

differs_is : (matched : ℕ) (answer part more : List ℕ) → matched ≤ length answer → agrees_at matched answer part ≡ false
    → same answer (take matched answer ++ (part ++ more)) ≡ false
unfolding agrees_at
differs_is matched answer part more m e = go (same answer (take matched answer ++ (part ++ more))) refl
  where
    go : (t : Bool) → same answer (take matched answer ++ (part ++ more)) ≡ t → t ≡ false
    go false f = refl
    go true f =
        let g = same_equal answer (take matched answer ++ (part ++ more)) f in
        let h : drop matched answer ≡ part ++ more =
        ap (λ (l : List ℕ). drop matched l) g ∙ drop_at (take matched answer) (part ++ more) matched (length-take-le matched answer m)
        in
        let i : take (length part) (drop matched answer) ≡ part = ap (λ (l : List ℕ). take (length part) l) h ∙ take-append_seam part more in
        absurd (clash (sym e ∙ ap (λ (l : List ℕ). same part l) i ∙ same_itself part))

wrong_is : verdict_word false ≡ bytes_of "wrong"
unfolding verdict_word
wrong_is = refl

module _ (answer part more : List ℕ) where
  pub rest_part : (v : Verdict) → Within v answer → row_rest v answer (part ++ more) ≡ part_put v answer part ++ row_rest (part_verdict v answer part) answer more
  unfolding Within row_rest part_put part_verdict
  rest_part verdict.Rest w = refl
  rest_part verdict.Told w = append_assoc part more (10 ∷ [])
  rest_part (verdict.Open matched) w = go (agrees_at matched answer part) refl
    where
      together : take matched answer ++ (part ++ more) ≡ take matched answer ++ part ++ more
      together = sym (append_assoc (take matched answer) part more)

      go : (t : Bool) → agrees_at matched answer part ≡ t
          → verdict_word (same answer (take matched answer ++ (part ++ more))) ++ (take matched answer ++ (part ++ more) ++ 10 ∷ [])
          ≡ cond t [] (bytes_of "wrong" ++ (take matched answer ++ part))
          ++ row_rest (cond t (verdict.Open (matched + length part)) verdict.Told) answer more
      go true e =
          ap (λ (l : List ℕ). verdict_word (same answer l) ++ (l ++ 10 ∷ []))
          (together ∙ ap (λ (l : List ℕ). l ++ more) (agrees_is matched answer part w.0 e).front)
      go false e =
          ap (λ (b : Bool). verdict_word b ++ (take matched answer ++ (part ++ more) ++ 10 ∷ [])) (differs_is matched answer part more w.0 e)
          ∙ ap (λ (x : List ℕ). x ++ (take matched answer ++ (part ++ more) ++ 10 ∷ [])) wrong_is
          ∙ ap (λ (l : List ℕ). bytes_of "wrong" ++ (l ++ 10 ∷ [])) together
          ∙ ap (λ (l : List ℕ). bytes_of "wrong" ++ l) (append_assoc (take matched answer ++ part) more (10 ∷ []))
          ∙ sym (append_assoc (bytes_of "wrong") (take matched answer ++ part) (more ++ 10 ∷ []))

  pub right_part : (v : Verdict) (right : ℕ) → Within v answer
      → right_rest v answer (part ++ more) right ≡ right_rest (part_verdict v answer part) answer more right
  unfolding Within right_rest part_verdict
  right_part verdict.Rest right w = refl
  right_part verdict.Told right w = refl
  right_part (verdict.Open matched) right w = go (agrees_at matched answer part) refl
    where
      go : (t : Bool) → agrees_at matched answer part ≡ t
          → cond (same answer (take matched answer ++ (part ++ more))) (right + 1) right
          ≡ right_rest (cond t (verdict.Open (matched + length part)) verdict.Told) answer more right
      go true e =
          ap (λ (l : List ℕ). cond (same answer l) (right + 1) right)
          (sym (append_assoc (take matched answer) part more) ∙ ap (λ (l : List ℕ). l ++ more) (agrees_is matched answer part w.0 e).front)
      go false e = ap (λ (b : Bool). cond b (right + 1) right) (differs_is matched answer part more w.0 e)

pub within_part : (answer part : List ℕ) (v : Verdict) → Within v answer → Within (part_verdict v answer part) answer
unfolding Within part_verdict
within_part answer part verdict.Rest w = tt
within_part answer part verdict.Told w = tt
within_part answer part (verdict.Open matched) w = go (agrees_at matched answer part) refl
  where
    go : (t : Bool) → agrees_at matched answer part ≡ t → Within (cond t (verdict.Open (matched + length part)) verdict.Told) answer
    go true e = ((agrees_is matched answer part w.0 e).size, w.1)
    go false e = tt

-- ---- a line's end

unfoldable pub end_put : Verdict → List ℕ → List ℕ
end_put verdict.Rest answer = []
end_put (verdict.Open matched) answer =
    cond (eqb matched (length answer)) (bytes_of "right" ++ (answer ++ 10 ∷ [])) (bytes_of "wrong" ++ (take matched answer ++ 10 ∷ []))
end_put verdict.Told answer = 10 ∷ []

unfoldable pub end_right : Verdict → List ℕ → Bool
end_right verdict.Rest answer = false
end_right (verdict.Open matched) answer = eqb matched (length answer)
end_right verdict.Told answer = false

module _ (matched : ℕ) (answer : List ℕ) (m : matched ≤ length answer) where
  whole_is : matched ≡ length answer → take matched answer ≡ answer
  whole_is e = take_all matched answer (omega (arith, e))

  same_front : same answer (take matched answer) ≡ eqb matched (length answer)
  same_front = go (eqb matched (length answer)) refl
    where
      go : (t : Bool) → eqb matched (length answer) ≡ t → same answer (take matched answer) ≡ t
      go true e = ap (λ (l : List ℕ). same answer l) (whole_is (eqb-true matched (length answer) e)) ∙ same_itself answer
      go false e = differs (same answer (take matched answer)) refl
        where
          differs : (u : Bool) → same answer (take matched answer) ≡ u → u ≡ false
          differs false f = refl
          differs true f =
              absurd (eqb-false matched (length answer) e
              (sym (length-take-le matched answer m) ∙ ap (λ (l : List ℕ). length l) (sym (same_equal answer (take matched answer) f))))

pub rest_end : (v : Verdict) (answer : List ℕ) → Within v answer → row_rest v answer [] ≡ end_put v answer
unfolding Within row_rest end_put verdict_word
rest_end verdict.Rest answer w = refl
rest_end verdict.Told answer w = refl
rest_end (verdict.Open matched) answer w =
    ap (λ (l : List ℕ). verdict_word (same answer l) ++ (l ++ 10 ∷ [])) (append-nil (take matched answer))
    ∙ ap (λ (b : Bool). verdict_word b ++ (take matched answer ++ 10 ∷ [])) (same_front matched answer w.0)
    ∙ go (eqb matched (length answer)) refl
  where
    go : (t : Bool) → eqb matched (length answer) ≡ t
        → verdict_word t ++ (take matched answer ++ 10 ∷ [])
        ≡ cond t (bytes_of "right" ++ (answer ++ 10 ∷ [])) (bytes_of "wrong" ++ (take matched answer ++ 10 ∷ []))
    go true e = ap (λ (l : List ℕ). bytes_of "right" ++ (l ++ 10 ∷ [])) (whole_is matched answer w.0 (eqb-true matched (length answer) e))
    go false e = refl

pub right_end : (v : Verdict) (answer : List ℕ) (right : ℕ) → Within v answer → right_rest v answer [] right ≡ cond (end_right v answer) (right + 1) right
unfolding Within right_rest end_right
right_end verdict.Rest answer right w = refl
right_end verdict.Told answer right w = refl
right_end (verdict.Open matched) answer right w =
    ap (λ (l : List ℕ). cond (same answer l) (right + 1) right) (append-nil (take matched answer))
    ∙ ap (λ (b : Bool). cond b (right + 1) right) (same_front matched answer w.0)

-- ---- what is still to be printed: of the line that is being run, then of the other lines, of which the first has this number

abbrev pub after_line : Kind → Verdict → List ℕ → Ran → ℕ → ℕ → List ℕ → List ℕ
after_line k v answer r number right input =
    row_rest v answer (less_session r.printed)
    ++ print_rows k number (right_rest v answer (less_session r.printed) right) (rows_from k (length input) r.day r.lent input)

unfoldable pub come_in : Kind → Verdict → List ℕ → Day → Lent → List ℕ → ℕ → ℕ → List ℕ → List ℕ
come_in k v answer day l bytes number right input = after_line k v answer (ending day l bytes) number right input

-- the line is at its end
none_printed : less_session [] ≡ []
unfolding less_session less.less_first
none_printed = refl

pub come_end : (k : Kind) (v : Verdict) (answer : List ℕ) (day : Day) (l : Lent) (bytes : List ℕ) (number right : ℕ) (input : List ℕ)
    → rests_of day.doing ≡ true → Within v answer
    → come_in k v answer day l bytes number right input
    ≡ end_put v answer ++ print_rows k number (cond (end_right v answer) (right + 1) right) (rows_from k (length input) day l input)
unfolding come_in
come_end k v answer day l bytes number right input e w =
    ap (λ (r : Ran). after_line k v answer r number right input) (rested (length bytes + 1048580) day l bytes e)
    ∙ ap (λ (p : List ℕ). row_rest v answer p ++ print_rows k number (right_rest v answer p right) (rows_from k (length input) day l input)) none_printed
    ∙ ap (λ (p : List ℕ). p ++ print_rows k number (right_rest v answer [] right) (rows_from k (length input) day l input)) (rest_end v answer w)
    ∙ ap (λ (n : ℕ). end_put v answer ++ print_rows k number n (rows_from k (length input) day l input)) (right_end v answer right w)

-- a step
module _ (day : Day) (l : Lent) (bytes : List ℕ) (g : Good day.server l) (busy : rests_of day.doing ≡ false)
    (q : session_of day.doing < 4294967296) where
  abbrev made : List ℕ
  made = printed_by (step_of day l bytes room)

  abbrev next : Ran
  next = ending (step_of day l bytes room).stepped.day (step_of day l bytes room).lent bytes

  ends_step : ending day l bytes ≡ ran next.day next.lent (made ++ next.printed)
  ends_step = sym (line_settled (suc (length bytes + 1048580)) day l bytes g (omega arith)) ∙ stepped (length bytes + 1048580) day l bytes busy

  pub step_shape : Shape made
  step_shape = rw (step_prints day l bytes room q (omega arith)) (line_shape (session_of day.doing) _ _)

  pub come_step : (k : Kind) (v : Verdict) (answer : List ℕ) (number right : ℕ) (input : List ℕ) → Within v answer
      → come_in k v answer day l bytes number right input
      ≡ part_put v answer (tail_of made)
      ++ come_in k (part_verdict v answer (tail_of made)) answer (step_of day l bytes room).stepped.day (step_of day l bytes room).lent bytes number right input
  unfolding come_in
  come_step k v answer number right input w =
      ap (λ (r : Ran). after_line k v answer r number right input) ends_step
      ∙ ap (λ (p : List ℕ). row_rest v answer p ++ print_rows k number (right_rest v answer p right) after) (less_line made next.printed step_shape)
      ∙ ap (λ (p : List ℕ). p ++ print_rows k number (right_rest v answer (tail_of made ++ more) right) after) (rest_part answer (tail_of made) more v w)
      ∙ ap (λ (n : ℕ). part_put v answer (tail_of made) ++ row_rest then answer more ++ print_rows k number n after) (right_part answer (tail_of made) more v right w)
      ∙ append_assoc (part_put v answer (tail_of made)) (row_rest then answer more) (print_rows k number (right_rest then answer more right) after)
    where
      more : List ℕ
      more = less_session next.printed

      then : Verdict
      then = part_verdict v answer (tail_of made)

      after : Rows
      after = rows_from k (length input) next.day next.lent input

-- ---- a line is begun

unfoldable pub begin_verdict : Kind → Verdict
begin_verdict kind.Desk = verdict.Open 0
begin_verdict kind.Sheet = verdict.Told

unfoldable pub begin_put : Kind → List ℕ → List ℕ
begin_put kind.Desk line = []
begin_put kind.Sheet line = line

pub within_begin : (k : Kind) (answer : List ℕ) → length answer ≤ 131072 → Within (begin_verdict k) answer
unfolding Within begin_verdict
within_begin kind.Desk answer p = (omega arith, p)
within_begin kind.Sheet answer p = tt

row_begins : (k : Kind) (r : Row) (number right : ℕ) (rows : Rows)
    → row_text k r ++ print_rows k number (right_after k right r) rows
    ≡ begin_put k r.line
    ++ (row_rest (begin_verdict k) r.answer (less_session r.printed)
    ++ print_rows k number (right_rest (begin_verdict k) r.answer (less_session r.printed) right) rows)
unfolding row_text right_after begin_put row_rest right_rest begin_verdict is_right
row_begins kind.Desk r number right rows = refl
row_begins kind.Sheet r number right rows =
    append_assoc r.line (less_session r.printed ++ 10 ∷ []) (print_rows kind.Sheet number right rows)

print_row : (k : Kind) (number right : ℕ) (r : Row) (rows : Rows) → print_rows k number right (row r rows) ≡ row_text k r ++ print_rows k (number + 1) (right_after k right r) rows
unfolding print_rows
print_row k number right r rows = refl

module _ (k : Kind) (day : Day) (l : Lent) (number right n : ℕ) (input line bytes : List ℕ) (e : find_of input true ≡ found.Line n)
    (is : take n input ≡ line) (g : Good (begin_of day (command_of (script_part k line))).server l)
    (c : readable (command_of (script_part k line)) ≡ true)
    (w : Agree (begin_of day (command_of (script_part k line))).doing (rx_bytes (script_part k line)) bytes) where
  pub come_begin : print_rows k number right (rows_from k (length input) day l input)
      ≡ begin_put k line
      ++ come_in k (begin_verdict k) (answer_part k line) (begin_of day (command_of (script_part k line))) l bytes (number + 1) right (drop (n + 1) input)
  unfolding come_in
  come_begin =
      ap (λ (r : Rows). print_rows k number right r) (rows_line k day l n input line e is c)
      ∙ print_row k number right (row_for k line (ran_on k day l line).printed) _
      ∙ row_begins k (row_for k line (ran_on k day l line).printed) (number + 1) right _
      ∙ ap (λ (r : Ran). begin_put k line ++ after_line k (begin_verdict k) (answer_part k line) r (number + 1) right (drop (n + 1) input))
      (ends_agree (begin_of day (command_of (script_part k line))) l (rx_bytes (script_part k line)) bytes g w)

-- ---- the end

pub print_ended : (k : Kind) (number right : ℕ) (l : Lent) → print_rows k number right (ended l) ≡ last_text k right
unfolding print_rows
print_ended k number right l = refl

pub print_stopped : (k : Kind) (number right : ℕ) (l : Lent) → print_rows k number right (unreadable l) ≡ stop_text k number ++ last_text k right
unfolding print_rows
print_stopped k number right l = refl
