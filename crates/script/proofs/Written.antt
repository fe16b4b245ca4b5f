-- A step prints no more than the text has room for. Assumes nothing.
use native.Mathlib.Omega.{arith}
use mathlib.Core.Path.{◌≡◌, refl}
use mathlib.Core.Bool.{Bool, true, false, cond}
use mathlib.Core.List.{List, [], ◌++◌}
use Prim.Native.Nat.{ℕ, ◌≤◌}
use lib.Dec.{leb}
use lib.ListN.{length, drop, replicate}
use borrow.Author.Tests.{leb-true, le-leb}
use Rattle.session.specs.declared.reply.Answer.{Answer}
use Rattle.server.specs.State.{Lent, Outcome}
use Rattle.lines.specs.Lines.{printed, printed_in}
use Rattle.script.specs.declared.Day.{Day}
use Rattle.script.specs.Doing.{session_of}
use Rattle.script.specs.Calling.{call_of}
use Rattle.script.specs.Printing.{line_for, show_of}
use Rattle.script.specs.Day.{Stepping, prints_of, answered_of, turn_of}

pub printed_fits : (line text : List ℕ) → (printed_in line text).size ≤ length text
unfolding printed_in
printed_fits line text = go (leb (length line) (length text)) refl
  where
    go : (t : Bool) → leb (length line) (length text) ≡ t
        → (cond t (printed (length line) (line ++ drop (length line) text)) (printed 0 text)).size ≤ length text
    go true e = leb-true (length line) (length text) e
    go false e = omega arith

shown_fits : (session : ℕ) (a : Answer) (out text : List ℕ) → (show_of session a out text).size ≤ length text
unfolding show_of
shown_fits session a out text = printed_fits (line_for session a out) text

answered_fits : (day : Day) (size : ℕ) (text : List ℕ) (o : Outcome) → (answered_of day size text o).stepped.written ≤ length text
unfolding answered_of prints_of
answered_fits day size text o = shown_fits (session_of day.doing) o.done.answer o.out text

turn_fits : (day : Day) (l : Lent) (bytes text : List ℕ) → (turn_of day l bytes text).stepped.written ≤ length text
unfolding turn_of
turn_fits day l bytes text =
    answered_fits day (length bytes) text (call_of day.server day.clock day.doing bytes l (replicate 258 0))

-- nothing is printed for an empty line
pub no_line : (text : List ℕ) → printed 0 text ≡ printed_in [] text
unfolding printed_in
no_line text = rw (le-leb 0 (length text) (omega arith))

-- the same of a step that is known to be that turn
pub written_fits : (s : Stepping) (day : Day) (l : Lent) (bytes text : List ℕ) → s ≡ turn_of day l bytes text → s.stepped.written ≤ length text
written_fits s day l bytes text e = rw e (turn_fits day l bytes text)
