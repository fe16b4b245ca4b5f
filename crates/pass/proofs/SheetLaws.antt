-- Laws on the sheet of a program with more words: what is still to be printed, from any point of a line on, and how a step, a line's beginning, a line of
-- more words and the script's end change it. Assumes nothing.
use Rattle.std.proofs.Common.{◌≡◌, ℕ, zero, suc, ◌+◌, ◌<◌, ◌≤◌, true, false, List, [], ◌∷◌, ◌++◌, length, take, drop, sym, refl, ap, ◌∙◌, append_assoc, arith, length-drop, le-ltb}
use mathlib.Core.Path.{fun_ext}
use mathlib.Core.Option.{Option, none, some}
use Rattle.server.specs.State.{Lent}
use Rattle.history.specs.Calls.{Start, made}
use Rattle.history.specs.Good.{Good}
use Rattle.lines.specs.declared.commands.Command.{Command}
use Rattle.lines.specs.declared.commands.Command.TheVariants as command
use Rattle.lines.specs.Commands.{command_of, rx_bytes}
use Rattle.input.specs.declared.Found.TheVariants as found
use Rattle.input.specs.Input.{line_length, found_of, find_of, by_first}
use Rattle.script.specs.declared.Day.{Day}
use Rattle.script.specs.declared.doing.Doing.TheVariants as doing
use Rattle.script.specs.Doing.{rests_of, session_of}
use Rattle.script.specs.Day.{day_of, begin_of, prints_of, answered_of, turn_of, step_of}
use Rattle.script.specs.Line.{Ran, ran, room}
use Rattle.script.specs.Sheet.{first_line, last_line, error_then_last, run_of, by_command, lines_from, sheet_of}
use Rattle.script.proofs.Ending.{rested, stepped, line_settled}
use Rattle.script.proofs.Prints.{step_prints}
use Rattle.script.proofs.Agreeing.{Agree, ends_agree}
use Rattle.script.proofs.SheetLaws.{ending, readable}
use Rattle.pass.specs.Sheets.{More, no_more, by_reader, does_by, goes_on, lines_by, sheet_by}

clash : false ≡ true → ⊥
clash e = let z : ◌≡◌ {A = ℕ} 0 1 = cc in omega arith

by_readable : (c : Command) (other own : Option Ran) → readable c ≡ true → by_reader c other own ≡ own
unfolding readable by_reader
by_readable command.Unreadable other own e = absurd (clash e)
by_readable (command.Time clock) other own e = refl
by_readable (command.Open session) other own e = refl
by_readable (command.Drop session) other own e = refl
by_readable (command.Rx session n) other own e = refl

by_other : (c : Command) (other own : Option Ran) → c ≡ command.Unreadable → by_reader c other own ≡ other
unfolding by_reader
by_other c other own e = rw e

goes_some : (r : Ran) (error : List ℕ) (go : Ran → List ℕ) → goes_on (some r) error go ≡ r.printed ++ go r
unfolding goes_on
goes_some r error go = refl

goes_none : (error : List ℕ) (go : Ran → List ℕ) → goes_on none error go ≡ error
unfolding goes_on
goes_none error go = refl

module _ (more : More) where
  -- ---- no more lines than bytes

  none_left : (k : ℕ) (day : Day) (l : Lent) (number : ℕ) → lines_by more k day l number [] ≡ last_line l
  unfolding lines_by by_first find_of found_of line_length
  none_left zero day l number = refl
  none_left (suc k) day l number = refl

  lines_enough : (j k : ℕ) (day : Day) (l : Lent) (number : ℕ) (script : List ℕ) → length script ≤ j → length script ≤ k
      → lines_by more j day l number script ≡ lines_by more k day l number script
  unfolding lines_by
  lines_enough zero k day l number [] p q = sym (none_left k day l number)
  lines_enough zero k day l number (b ∷ bs) p q = absurd (omega (arith, p))
  lines_enough (suc j) zero day l number [] p q = none_left (suc j) day l number
  lines_enough (suc j) zero day l number (b ∷ bs) p q = absurd (omega (arith, q))
  lines_enough (suc j) (suc k) day l number script p q =
      ap (λ (go : ℕ → List ℕ). by_first (find_of script true) (last_line l) (error_then_last number l) go)
      (fun_ext λ n. ap (λ (go : Ran → List ℕ). goes_on (does_by more day l (take n script)) (error_then_last number l) go)
      (fun_ext λ r. lines_enough j k r.day r.lent (number + 1) (drop (n + 1) script)
      (omega (arith, p, length-drop (n + 1) script)) (omega (arith, q, length-drop (n + 1) script))))

  -- ---- by what stands first in the script

  module _ (day : Day) (l : Lent) (number : ℕ) (script : List ℕ) where
    one_more : lines_by more (length script) day l number script ≡ lines_by more (suc (length script)) day l number script
    one_more = lines_enough (length script) (suc (length script)) day l number script (omega arith) (omega arith)

    first_none : find_of script true ≡ found.Nothing → lines_by more (suc (length script)) day l number script ≡ last_line l
    unfolding lines_by by_first
    first_none e = rw e

    pub lines_none : find_of script true ≡ found.Nothing → lines_by more (length script) day l number script ≡ last_line l
    lines_none e = one_more ∙ first_none e

    first_long : find_of script true ≡ found.TooLong → lines_by more (suc (length script)) day l number script ≡ error_then_last number l
    unfolding lines_by by_first
    first_long e = rw e

    pub lines_long : find_of script true ≡ found.TooLong → lines_by more (length script) day l number script ≡ error_then_last number l
    lines_long e = one_more ∙ first_long e

    first_line_law : (n : ℕ) → find_of script true ≡ found.Line n
        → lines_by more (suc (length script)) day l number script
        ≡ goes_on (does_by more day l (take n script)) (error_then_last number l)
        (λ r. lines_by more (length script) r.day r.lent (number + 1) (drop (n + 1) script))
    unfolding lines_by by_first
    first_line_law n e = rw e

  -- ---- what is still to be printed: by the line that is being run, then by the script's other lines, of which the first has this number

  abbrev after : Ran → ℕ → List ℕ → List ℕ
  after r number script = r.printed ++ lines_by more (length script) r.day r.lent number script

  unfoldable pub to_come : Day → Lent → List ℕ → ℕ → List ℕ → List ℕ
  to_come day l bytes number script = after (ending day l bytes) number script

  printed_first : (w : List ℕ) (r : Ran) (number : ℕ) (script : List ℕ)
      → after (ran r.day r.lent (w ++ r.printed)) number script ≡ w ++ after r number script
  printed_first w r number script = append_assoc w r.printed (lines_by more (length script) r.day r.lent number script)

  -- where no line is being run
  pub come_rests : (day : Day) (l : Lent) (bytes : List ℕ) (number : ℕ) (script : List ℕ) → rests_of day.doing ≡ true
      → to_come day l bytes number script ≡ lines_by more (length script) day l number script
  unfolding to_come
  come_rests day l bytes number script e =
      ap (λ (r : Ran). after r number script) (rested (length bytes + 1048580) day l bytes e)

  -- the bytes lent may differ behind those that the line looks at
  come_agrees : (day : Day) (l : Lent) (a b : List ℕ) (number : ℕ) (script : List ℕ) → Good day.server l → Agree day.doing a b
      → to_come day l a number script ≡ to_come day l b number script
  unfolding to_come
  come_agrees day l a b number script g w = ap (λ (r : Ran). after r number script) (ends_agree day l a b g w)

  -- ---- a step takes what it prints from the front, whatever text is lent for it

  module _ (day : Day) (l : Lent) (bytes text : List ℕ) (p : 560 ≤ length text) where
    same_day : (step_of day l bytes text).stepped.day ≡ (step_of day l bytes room).stepped.day
    unfolding step_of turn_of answered_of prints_of
    same_day = rw (le-ltb (length text) 560 p)

    same_lent : (step_of day l bytes text).lent ≡ (step_of day l bytes room).lent
    unfolding step_of turn_of answered_of prints_of
    same_lent = rw (le-ltb (length text) 560 p)

    same_print : session_of day.doing < 4294967296
        → take (step_of day l bytes text).stepped.written (step_of day l bytes text).text
        ≡ take (step_of day l bytes room).stepped.written (step_of day l bytes room).text
    same_print q = step_prints day l bytes text q p ∙ sym (step_prints day l bytes room q (omega arith))

    one_step : (number : ℕ) (script : List ℕ) → Good day.server l → rests_of day.doing ≡ false
        → to_come day l bytes number script
        ≡ take (step_of day l bytes room).stepped.written (step_of day l bytes room).text
        ++ to_come (step_of day l bytes room).stepped.day (step_of day l bytes room).lent bytes number script
    unfolding to_come
    one_step number script g e =
        ap (λ (r : Ran). after r number script)
        (sym (line_settled (suc (length bytes + 1048580)) day l bytes g (omega arith)) ∙ stepped (length bytes + 1048580) day l bytes e)
        ∙ printed_first (take (step_of day l bytes room).stepped.written (step_of day l bytes room).text)
        (ending (step_of day l bytes room).stepped.day (step_of day l bytes room).lent bytes) number script

    pub come_step : (number : ℕ) (script : List ℕ) → Good day.server l → rests_of day.doing ≡ false → session_of day.doing < 4294967296
        → to_come day l bytes number script
        ≡ take (step_of day l bytes text).stepped.written (step_of day l bytes text).text
        ++ to_come (step_of day l bytes text).stepped.day (step_of day l bytes text).lent bytes number script
    come_step number script g e q = rw (same_print q, same_day, same_lent) (one_step number script g e)

  -- ---- a line is begun

  module _ (day : Day) (l : Lent) (number n : ℕ) (script : List ℕ) (e : find_of script true ≡ found.Line n) where
    by_line : (does : Option Ran) → does_by more day l (take n script) ≡ does
        → lines_by more (length script) day l number script
        ≡ goes_on does (error_then_last number l) (λ r. lines_by more (length script) r.day r.lent (number + 1) (drop (n + 1) script))
    by_line does f =
        one_more day l number script ∙ first_line_law day l number script n e
        ∙ ap (λ (o : Option Ran). goes_on o (error_then_last number l)
        (λ r. lines_by more (length script) r.day r.lent (number + 1) (drop (n + 1) script))) f

    fewer : (r : Ran)
        → lines_by more (length script) r.day r.lent (number + 1) (drop (n + 1) script)
        ≡ lines_by more (length (drop (n + 1) script)) r.day r.lent (number + 1) (drop (n + 1) script)
    fewer r =
        lines_enough (length script) (length (drop (n + 1) script)) r.day r.lent (number + 1) (drop (n + 1) script)
        (omega (arith, length-drop (n + 1) script)) (omega arith)

    by_some : (r : Ran) → does_by more day l (take n script) ≡ some r
        → lines_by more (length script) day l number script ≡ after r (number + 1) (drop (n + 1) script)
    by_some r f = by_line (some r) f ∙ goes_some r (error_then_last number l) _ ∙ ap (λ (x : List ℕ). r.printed ++ x) (fewer r)

    module _ (line : List ℕ) (f : take n script ≡ line) where
      pub lines_unreadable : command_of line ≡ command.Unreadable → more day l line ≡ none
          → lines_by more (length script) day l number script ≡ error_then_last number l
      lines_unreadable c d =
          by_line none (rw f (by_other (command_of line) (more day l line) (some (run_of day l line)) c ∙ d)) ∙ goes_none (error_then_last number l) _

      pub lines_said : command_of line ≡ command.Unreadable → (r : Ran) → more day l line ≡ some r
          → lines_by more (length script) day l number script
          ≡ r.printed ++ lines_by more (length (drop (n + 1) script)) r.day r.lent (number + 1) (drop (n + 1) script)
      lines_said c r d = by_some r (rw f (by_other (command_of line) (more day l line) (some (run_of day l line)) c ∙ d))

      lines_begin : readable (command_of line) ≡ true
          → lines_by more (length script) day l number script
          ≡ to_come (begin_of day (command_of line)) l (rx_bytes line) (number + 1) (drop (n + 1) script)
      unfolding to_come
      lines_begin c = by_some (run_of day l line) (rw f (by_readable (command_of line) (more day l line) (some (run_of day l line)) c))

      -- with any bytes lent that begin with the line's
      pub lines_begin_in : (bytes : List ℕ) → Good (begin_of day (command_of line)).server l → readable (command_of line) ≡ true
          → Agree (begin_of day (command_of line)).doing (rx_bytes line) bytes
          → lines_by more (length script) day l number script ≡ to_come (begin_of day (command_of line)) l bytes (number + 1) (drop (n + 1) script)
      lines_begin_in bytes g c w =
          lines_begin c ∙ come_agrees (begin_of day (command_of line)) l (rx_bytes line) bytes (number + 1) (drop (n + 1) script) g w

-- ---- without more words the sheet is passday's

no_more_line : (c : Command) (error : List ℕ) (r : Ran) (go : Ran → List ℕ) → goes_on (by_reader c none (some r)) error go ≡ by_command c error (r.printed ++ go r)
unfolding goes_on by_reader by_command
no_more_line command.Unreadable error r go = refl
no_more_line (command.Time clock) error r go = refl
no_more_line (command.Open session) error r go = refl
no_more_line (command.Drop session) error r go = refl
no_more_line (command.Rx session n) error r go = refl

no_more_lines : (k : ℕ) (day : Day) (l : Lent) (number : ℕ) (script : List ℕ) → lines_by no_more k day l number script ≡ lines_from k day l number script
unfolding lines_by lines_from
no_more_lines zero day l number script = refl
no_more_lines (suc k) day l number script =
    ap (λ (go : ℕ → List ℕ). by_first (find_of script true) (last_line l) (error_then_last number l) go)
    (fun_ext λ n. no_more_line (command_of (take n script)) (error_then_last number l) (run_of day l (take n script))
    (λ r. lines_by no_more k r.day r.lent (number + 1) (drop (n + 1) script))
    ∙ ap (λ (x : List ℕ). by_command (command_of (take n script)) (error_then_last number l) ((run_of day l (take n script)).printed ++ x))
    (no_more_lines k (run_of day l (take n script)).day (run_of day l (take n script)).lent (number + 1) (drop (n + 1) script)))

pub no_more_law : (s : Start) (script : List ℕ) → sheet_by no_more s script ≡ sheet_of s script
unfolding sheet_by sheet_of
no_more_law s script =
    ap (λ (x : List ℕ). first_line ++ x) (no_more_lines (length script) (day_of (made s).server 0 doing.Rest) (made s).lent 1 script)
