-- Laws on the sheet: what is still to be printed, from any point of a line on, and how a step, a line's beginning and the script's end change it.
-- Assumes nothing.
use native.Mathlib.Omega.{arith}
use mathlib.Core.Path.{◌≡◌, refl, sym, ◌∙◌, ap, fun_ext}
use mathlib.Core.Bool.{Bool, true, false, cond}
use mathlib.Core.List.{List, [], ◌∷◌, ◌++◌, append_assoc}
use Prim.Native.Nat.{ℕ, zero, suc, ◌+◌, ◌≤◌, ◌<◌}
use lib.Dec.{ltb, leb}
use lib.ListN.{length, take, drop, length-append, length-drop}
use borrow.Author.Tests.{le-ltb, leb-true}
use Rattle.server.specs.State.{Lent}
use Rattle.history.specs.Good.{Good}
use Rattle.lines.specs.declared.commands.Command.{Command}
use Rattle.lines.specs.declared.commands.Command.TheVariants as command
use Rattle.lines.specs.Lines.{printed, printed_in}
use Rattle.lines.specs.Commands.{command_of, rx_bytes}
use Rattle.script.specs.declared.Day.{Day}
use Rattle.input.specs.declared.Found.TheVariants as found
use Rattle.script.specs.Doing.{rests_of, session_of}
use Rattle.input.specs.Input.{line_length, found_of, find_of, by_first}
use Rattle.script.specs.Printing.{show_of}
use Rattle.script.specs.Day.{begin_of, stepping, stepped_to, prints_of, answered_of, turn_of, step_of}
use Rattle.script.specs.Line.{Ran, ran, room, line_of}
use Rattle.script.specs.Sheet.{last_line, error_then_last, run_of, by_command, lines_from}
use Rattle.script.proofs.Written.{written_fits}
use Rattle.script.proofs.Ending.{rested, stepped, line_settled}
use Rattle.script.proofs.Prints.{step_prints}
use Rattle.script.proofs.Agreeing.{Agree, ends_agree}

-- ---- no more lines than bytes

none_left : (k : ℕ) (day : Day) (l : Lent) (number : ℕ) → lines_from k day l number [] ≡ last_line l
unfolding lines_from by_first find_of found_of line_length
none_left zero day l number = refl
none_left (suc k) day l number = refl

pub lines_enough : (j k : ℕ) (day : Day) (l : Lent) (number : ℕ) (script : List ℕ) → length script ≤ j → length script ≤ k
    → lines_from j day l number script ≡ lines_from k day l number script
unfolding lines_from
lines_enough zero k day l number [] p q = sym (none_left k day l number)
lines_enough zero k day l number (b ∷ bs) p q = absurd (omega (arith, p))
lines_enough (suc j) zero day l number [] p q = none_left (suc j) day l number
lines_enough (suc j) zero day l number (b ∷ bs) p q = absurd (omega (arith, q))
lines_enough (suc j) (suc k) day l number script p q =
    ap (λ (go : ℕ → List ℕ). by_first (find_of script true) (last_line l) (error_then_last number l) go)
    (fun_ext λ n. ap (λ (r : List ℕ). by_command (command_of (take n script)) (error_then_last number l) ((run_of day l (take n script)).printed ++ r))
    (lines_enough j k (run_of day l (take n script)).day (run_of day l (take n script)).lent (number + 1) (drop (n + 1) script)
    (omega (arith, p, length-drop (n + 1) script)) (omega (arith, q, length-drop (n + 1) script))))

-- ---- by what stands first in the script

module _ (day : Day) (l : Lent) (number : ℕ) (script : List ℕ) where
  one_more : lines_from (length script) day l number script ≡ lines_from (suc (length script)) day l number script
  one_more = lines_enough (length script) (suc (length script)) day l number script (omega arith) (omega arith)

  first_none : find_of script true ≡ found.Nothing → lines_from (suc (length script)) day l number script ≡ last_line l
  unfolding lines_from by_first
  first_none e = rw e

  pub lines_none : find_of script true ≡ found.Nothing → lines_from (length script) day l number script ≡ last_line l
  lines_none e = one_more ∙ first_none e

  first_long : find_of script true ≡ found.TooLong → lines_from (suc (length script)) day l number script ≡ error_then_last number l
  unfolding lines_from by_first
  first_long e = rw e

  pub lines_long : find_of script true ≡ found.TooLong → lines_from (length script) day l number script ≡ error_then_last number l
  lines_long e = one_more ∙ first_long e

  first_line_law : (n : ℕ) → find_of script true ≡ found.Line n
      → lines_from (suc (length script)) day l number script
      ≡ by_command (command_of (take n script)) (error_then_last number l)
      ((run_of day l (take n script)).printed
      ++ lines_from (length script) (run_of day l (take n script)).day (run_of day l (take n script)).lent (number + 1) (drop (n + 1) script))
  unfolding lines_from by_first
  first_line_law n e = rw e

-- ---- what is still to be printed: by the line that is being run, then by the script's other lines, of which the first has this number

abbrev pub ending : Day → Lent → List ℕ → Ran
ending day l bytes = line_of (length bytes + 1048580) day l bytes

abbrev after : Ran → ℕ → List ℕ → List ℕ
after r number script = r.printed ++ lines_from (length script) r.day r.lent number script

pub to_come : Day → Lent → List ℕ → ℕ → List ℕ → List ℕ
to_come day l bytes number script = after (ending day l bytes) number script

printed_first : (w : List ℕ) (r : Ran) (number : ℕ) (script : List ℕ)
    → after (ran r.day r.lent (w ++ r.printed)) number script ≡ w ++ after r number script
printed_first w r number script = append_assoc w r.printed (lines_from (length script) r.day r.lent number script)

-- where no line is being run
pub come_rests : (day : Day) (l : Lent) (bytes : List ℕ) (number : ℕ) (script : List ℕ) → rests_of day.doing ≡ true
    → to_come day l bytes number script ≡ lines_from (length script) day l number script
unfolding to_come
come_rests day l bytes number script e =
    ap (λ (r : Ran). after r number script) (rested (length bytes + 1048580) day l bytes e)

-- the bytes lent may differ behind those that the line looks at
pub come_agrees : (day : Day) (l : Lent) (a b : List ℕ) (number : ℕ) (script : List ℕ) → Good day.server l → Agree day.doing a b
    → to_come day l a number script ≡ to_come day l b number script
unfolding to_come
come_agrees day l a b number script g w = ap (λ (r : Ran). after r number script) (ends_agree day l a b g w)

-- ---- a step takes what it prints from the front, whatever text is lent for it

room_enough : 560 ≤ length room
room_enough = omega arith

module _ (day : Day) (l : Lent) (bytes text : List ℕ) (p : 560 ≤ length text) where
  same_day : (step_of day l bytes text).stepped.day ≡ (step_of day l bytes room).stepped.day
  unfolding step_of turn_of answered_of prints_of
  same_day = rw (le-ltb (length text) 560 p)

  same_lent : (step_of day l bytes text).lent ≡ (step_of day l bytes room).lent
  unfolding step_of turn_of answered_of prints_of
  same_lent = rw (le-ltb (length text) 560 p)

  same_print : session_of day.doing < 4294967296
      → take (step_of day l bytes text).stepped.written (step_of day l bytes text).text
      ≡ take (step_of day l bytes room).stepped.written (step_of day l bytes room).text
  same_print q = step_prints day l bytes text q p ∙ sym (step_prints day l bytes room q room_enough)

  one_step : (number : ℕ) (script : List ℕ) → Good day.server l → rests_of day.doing ≡ false
      → to_come day l bytes number script
      ≡ take (step_of day l bytes room).stepped.written (step_of day l bytes room).text
      ++ to_come (step_of day l bytes room).stepped.day (step_of day l bytes room).lent bytes number script
  unfolding to_come
  one_step number script g e =
      ap (λ (r : Ran). after r number script)
      (sym (line_settled (suc (length bytes + 1048580)) day l bytes g (omega arith)) ∙ stepped (length bytes + 1048580) day l bytes e)
      ∙ printed_first (take (step_of day l bytes room).stepped.written (step_of day l bytes room).text)
      (ending (step_of day l bytes room).stepped.day (step_of day l bytes room).lent bytes) number script

  pub come_step : (number : ℕ) (script : List ℕ) → Good day.server l → rests_of day.doing ≡ false → session_of day.doing < 4294967296
      → to_come day l bytes number script
      ≡ take (step_of day l bytes text).stepped.written (step_of day l bytes text).text
      ++ to_come (step_of day l bytes text).stepped.day (step_of day l bytes text).lent bytes number script
  come_step number script g e q = rw (same_print q, same_day, same_lent) (one_step number script g e)

-- ---- it leaves as much text as was lent

printed_size : (line text : List ℕ) → length (printed_in line text).text ≡ length text
unfolding printed_in
printed_size line text = go (leb (length line) (length text)) refl
  where
    go : (t : Bool) → leb (length line) (length text) ≡ t
        → length (cond t (printed (length line) (line ++ drop (length line) text)) (printed 0 text)).text ≡ length text
    go true e =
        omega (
          arith,
          leb-true (length line) (length text) e,
          length-append line (drop (length line) text),
          length-drop (length line) text,
        )
    go false e = refl

turn_text : (day : Day) (l : Lent) (bytes text : List ℕ) → length (turn_of day l bytes text).text ≡ length text
unfolding turn_of answered_of prints_of show_of
turn_text day l bytes text = printed_size _ text

pub step_text : (day : Day) (l : Lent) (bytes text : List ℕ) → length (step_of day l bytes text).text ≡ length text
unfolding step_of
step_text day l bytes text = go (ltb (length text) 560)
  where
    go : (t : Bool) → length (cond t (stepping (stepped_to day 0) l text) (turn_of day l bytes text)).text ≡ length text
    go true = refl
    go false = turn_text day l bytes text

pub step_written : (day : Day) (l : Lent) (bytes text : List ℕ) → (step_of day l bytes text).stepped.written ≤ length text
unfolding step_of
step_written day l bytes text = go (ltb (length text) 560)
  where
    go : (t : Bool) → (cond t (stepping (stepped_to day 0) l text) (turn_of day l bytes text)).stepped.written ≤ length text
    go true = omega arith
    go false = written_fits (turn_of day l bytes text) day l bytes text refl

-- ---- a line is begun

-- a command that does not end the script
unfoldable pub readable : Command → Bool
readable command.Unreadable = false
readable (command.Time clock) = true
readable (command.Open session) = true
readable (command.Drop session) = true
readable (command.Rx session n) = true

clash : false ≡ true → ⊥
clash e = let z : ◌≡◌ {A = ℕ} 0 1 = cc in omega arith

by_readable : (c : Command) (error printed : List ℕ) → readable c ≡ true → by_command c error printed ≡ printed
unfolding readable by_command
by_readable command.Unreadable error printed e = absurd (clash e)
by_readable (command.Time clock) error printed e = refl
by_readable (command.Open session) error printed e = refl
by_readable (command.Drop session) error printed e = refl
by_readable (command.Rx session n) error printed e = refl

pub not_readable : (c : Command) → readable c ≡ false → c ≡ command.Unreadable
unfolding readable
not_readable command.Unreadable e = refl
not_readable (command.Time clock) e = absurd (clash (sym e))
not_readable (command.Open session) e = absurd (clash (sym e))
not_readable (command.Drop session) e = absurd (clash (sym e))
not_readable (command.Rx session n) e = absurd (clash (sym e))

by_unreadable : (c : Command) (error printed : List ℕ) → c ≡ command.Unreadable → by_command c error printed ≡ error
unfolding by_command
by_unreadable c error printed e = rw e

module _ (day : Day) (l : Lent) (number n : ℕ) (script : List ℕ) (e : find_of script true ≡ found.Line n) where
  pub lines_unreadable : command_of (take n script) ≡ command.Unreadable → lines_from (length script) day l number script ≡ error_then_last number l
  lines_unreadable c =
      one_more day l number script ∙ first_line_law day l number script n e
      ∙ by_unreadable (command_of (take n script)) (error_then_last number l) _ c

  pub lines_begin : readable (command_of (take n script)) ≡ true
      → lines_from (length script) day l number script
      ≡ to_come (begin_of day (command_of (take n script))) l (rx_bytes (take n script)) (number + 1) (drop (n + 1) script)
  unfolding to_come
  lines_begin c =
      one_more day l number script ∙ first_line_law day l number script n e
      ∙ by_readable (command_of (take n script)) (error_then_last number l) _ c
      ∙ ap (λ (r : List ℕ). (run_of day l (take n script)).printed ++ r)
      (lines_enough (length script) (length (drop (n + 1) script)) (run_of day l (take n script)).day (run_of day l (take n script)).lent (number + 1)
      (drop (n + 1) script) (omega (arith, length-drop (n + 1) script)) (omega arith))

  -- the same by the line, with any bytes lent that begin with the line's
  pub lines_begin_in : (line bytes : List ℕ) → take n script ≡ line → Good (begin_of day (command_of line)).server l → readable (command_of line) ≡ true
      → Agree (begin_of day (command_of line)).doing (rx_bytes line) bytes
      → lines_from (length script) day l number script ≡ to_come (begin_of day (command_of line)) l bytes (number + 1) (drop (n + 1) script)
  lines_begin_in line bytes f g c w =
      lines_begin (ap (λ (k : List ℕ). readable (command_of k)) f ∙ c)
      ∙ ap (λ (k : List ℕ). to_come (begin_of day (command_of k)) l (rx_bytes k) (number + 1) (drop (n + 1) script)) f
      ∙ come_agrees (begin_of day (command_of line)) l (rx_bytes line) bytes (number + 1) (drop (n + 1) script) g w
