-- Laws on what is printed behind a place of a text, and the step that does so (specs/Day.antt). Assumes nothing.
use native.Mathlib.Omega.{arith}
use mathlib.Core.Path.{◌≡◌, refl, sym, ◌∙◌, ap}
use mathlib.Core.Bool.{Bool, true, false, cond}
use mathlib.Core.List.{List, ◌++◌}
use Prim.Native.Nat.{ℕ, ◌-◌, ◌≤◌, ◌<◌}
use lib.Dec.{ltb}
use lib.ListN.{length, take, drop, length-drop, take-append-drop, replicate}
use borrow.Author.Tests.{ltb-false, lt-ltb, le-ltb}
use Rattle.server.specs.declared.Done.{Done}
use Rattle.server.specs.State.{Lent, outcome}
use Rattle.lines.specs.Lines.{printed}
use Rattle.input.specs.Parts.{rest_of}
use Rattle.input.proofs.Places.{end_part, put_end, rest_all}
use Rattle.script.specs.declared.Day.{Day}
use Rattle.script.specs.declared.Stepped.{Stepped}
use Rattle.script.specs.declared.doing.Doing.{Doing}
use Rattle.script.specs.Doing.{session_of, after_of}
use Rattle.script.specs.Printing.{show_of}
use Rattle.script.specs.Calling.{call_of}
use Rattle.script.specs.Day.{day_of, Stepping, stepping, stepped_to, prints_of, answered_of, turn_of, step_of, place_in, behind, step_behind}

rest_behind : (at : ℕ) (text : List ℕ) → length (drop (place_in at text) text) ≡ rest_of at (length text) (length text)
rest_behind at text = length-drop (place_in at text) text ∙ go (ltb at (length text)) refl ∙ sym (rest_all at (length text))
  where
    go : (t : Bool) → ltb at (length text) ≡ t → length text - cond t at (length text) ≡ length text - at
    go true e = refl
    go false e = omega (arith, ltb-false at (length text) e)

-- ---- a step

-- what a function of the part behind a place leaves there
pub put_behind_law : (at from : ℕ) (text part : List ℕ) (r : Stepped) (l : Lent) (s : List ℕ → Stepping) → from ≡ place_in at text
    → stepping r l part ≡ s (take (length text - from) (drop from text))
    → stepping r l (take from text ++ (part ++ drop (length text - from) (drop from text)))
    ≡ behind (place_in at text) text (s (drop (place_in at text) text))
put_behind_law at from text part r l s e f = rw (← e, put_end from text part, ← f ∙ ap s (end_part from text))

module _ (day : Day) (done : Done) (size session written : ℕ) (then : Doing) (out : List ℕ) (for : session ≡ session_of day.doing)
    (goes : then ≡ after_of day.doing done.answer size) (l : Lent) where
  answered : (text part : List ℕ) → printed written part ≡ show_of session done.answer out text
      → stepping (stepped_to (day_of done.server day.clock then) written) l part ≡ answered_of day size text (outcome done l out)
  unfolding answered_of prints_of
  answered text part shown = rw (← for, ← shown, ← goes)

  -- what is concluded from a call
  pub concluded : (at from : ℕ) (text part : List ℕ) → from ≡ place_in at text
      → printed written part ≡ show_of session done.answer out (take (length text - from) (drop from text))
      → stepping (stepped_to (day_of done.server day.clock then) written) l (take from text ++ (part ++ drop (length text - from) (drop from text)))
      ≡ behind (place_in at text) text (answered_of day size (drop (place_in at text) text) (outcome done l out))
  concluded at from text part e shown =
      put_behind_law at from text part (stepped_to (day_of done.server day.clock then) written) l
      (λ (t : List ℕ). answered_of day size t (outcome done l out)) e (answered (take (length text - from) (drop from text)) part shown)

-- with too little room for any line
pub no_step_behind : (at r : ℕ) (day : Day) (l : Lent) (bytes text : List ℕ) → r ≡ rest_of at (length text) (length text) → r < 560
    → stepping (stepped_to day 0) l text ≡ step_behind at day l bytes text
unfolding step_behind step_of
no_step_behind at r day l bytes text e p =
    rw (lt-ltb (length (drop (place_in at text) text)) 560 (omega (arith, rest_behind at text, e)), take-append-drop (place_in at text) text)

-- with room for any line: a call, and what is concluded from it
pub step_behind_law : (at r : ℕ) (day : Day) (l left : Lent) (bytes text after out : List ℕ) (done : Done) (s : Stepped)
    → r ≡ rest_of at (length text) (length text)
    → 560 ≤ r
    → outcome done left out ≡ call_of day.server day.clock day.doing bytes l (replicate 258 0)
    → stepping s left after
    ≡ behind (place_in at text) text (answered_of day (length bytes) (drop (place_in at text) text) (outcome done left out))
    → stepping s left after ≡ step_behind at day l bytes text
unfolding step_behind step_of turn_of
step_behind_law at r day l left bytes text after out done s e p f g =
    rw (le-ltb (length (drop (place_in at text) text)) 560 (omega (arith, rest_behind at text, e)), ← f) g
