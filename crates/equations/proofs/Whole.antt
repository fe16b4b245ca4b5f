-- THE PROGRAM: every run of it, however the input comes in pieces, writes the output for the input that was read (specs/Whole.antt). Assumes nothing.
use Rattle.std.proofs.Common.{◌≡◌, ℕ, ◌+◌, ◌-◌, ◌^◌, ◌<◌, ◌≤◌, Bool, true, false, cond, ltb, List, [], ◌++◌, length, take, sym, refl, ap, ◌∙◌, append-nil, arith, length-append, ltb-false}
use Rattle.input.specs.declared.Found.{Found}
use Rattle.input.specs.declared.Found.TheVariants as found
use Rattle.input.specs.Parts.{rest_of}
use Rattle.input.specs.Input.{find_of}
use Rattle.input.specs.Turns.{Run, begun, turned}
use Rattle.input.proofs.Places.{rest_all}
use Rattle.equations.specs.declared.progress.Progress.{Progress}
use Rattle.equations.specs.declared.progress.Stage.{Stage}
use Rattle.equations.specs.declared.progress.Stage.TheVariants as stage
use Rattle.equations.specs.declared.progress.Next.{Next}
use Rattle.equations.specs.declared.progress.Next.TheVariants as next
use Rattle.equations.specs.Turn.{State, state, new_of, over_of, with_stage, unread, on_found, writes_first, decide_of, put_in, error_put, answered_of}
use Rattle.equations.specs.Turn.{waiting_text, written_stage, flushed_of, kept_of, filled_to}
use Rattle.equations.specs.Turn.{Turn, line, ended, error, written, broken, filled, DueTurn}
use Rattle.equations.specs.Whole.{is_over, HasRoom, EveryRun, ProgramPrints}
use Rattle.equations.proofs.Holding.{Holds, holds_first, holds_written, holds_filled}
use Rattle.equations.proofs.Ending.{Ends, Standing, going, last, over, stands_end, stands_long, breaks_going, breaks_last, flushes_last}
use Rattle.equations.proofs.Ending.{stands_prints}
use Rattle.equations.proofs.Answering.{stands_line}

clash : true ≡ false → ⊥
clash e = let z : ◌≡◌ {A = ℕ} 0 1 = cc in omega arith

flushed_going : (p : Progress) → p.stage ≡ stage.Going → (flushed_of true p).stage ≡ stage.Going
unfolding flushed_of written_stage
flushed_going p e = rw e

going_first : (n size : ℕ) → writes_first stage.Going n size ≡ ltb (rest_of n size size) 4096
unfolding writes_first
going_first n size = refl

last_first : (n size : ℕ) → writes_first stage.Last n size ≡ true
unfolding writes_first
last_first n size = refl

-- what is due for what stands first, by the test whether text waits
abbrev by_found : Found → Bool → Next
by_found found.Part some = cond some next.Flush next.Fill
by_found (found.Line n) some = next.Line n
by_found found.TooLong some = next.Error
by_found found.Nothing some = next.End

by_found_law : (f : Found) (n : ℕ) → on_found f n ≡ by_found f (ltb 0 n)
unfolding on_found
by_found_law found.Part n = refl
by_found_law (found.Line k) n = refl
by_found_law found.TooLong n = refl
by_found_law found.Nothing n = refl

-- ---- a turn, by what is due

module _ (read wrote : List ℕ) where
  quiet : (after : State) → Standing read wrote after → Standing (read ++ []) (wrote ++ []) after
  quiet after st = rw (append-nil read, append-nil wrote) st

  module _ (s : State) where
    by_line : (n : ℕ) (more text : List ℕ) (after : State) → Turn s (next.Line n) more text after
        → Standing read wrote (put_in s (answered_of s.progress n s.input s.text)) → Standing (read ++ more) (wrote ++ text) after
    by_line n more text after (line k) st = quiet _ st

    by_end : (more text : List ℕ) (after : State) → Turn s next.End more text after
        → Standing read wrote (state (with_stage s.progress stage.Last) s.input s.text) → Standing (read ++ more) (wrote ++ text) after
    by_end more text after ended st = quiet _ st

    by_error : (more text : List ℕ) (after : State) → Turn s next.Error more text after
        → Standing read wrote (put_in s (error_put s.progress s.text)) → Standing (read ++ more) (wrote ++ text) after
    by_error more text after error st = quiet _ st

    by_flush : (more text : List ℕ) (after : State) → Turn s next.Flush more text after
        → Standing read (wrote ++ waiting_text s.progress s.text) (state (flushed_of true s.progress) s.input s.text)
        → ((n : ℕ) → Standing read (wrote ++ take n (waiting_text s.progress s.text)) (state (flushed_of false s.progress) s.input s.text))
        → Standing (read ++ more) (wrote ++ text) after
    by_flush more text after written st bad = rw (append-nil read) st
    by_flush more text after (broken n) st bad = rw (append-nil read) (bad n)

    by_fill : (more text : List ℕ) (after : State) → Turn s next.Fill more text after
        → ((n : ℕ) (brought : List ℕ) → kept_of s.progress s.input + length brought ≡ length s.input → n ≤ length brought
        → Standing (read ++ take n brought) wrote (filled_to s n brought))
        → Standing (read ++ more) (wrote ++ text) after
    by_fill more text after (filled n brought fits few) st = rw (append-nil wrote) (st n brought fits few)

-- ---- each of them

module _ (read wrote : List ℕ) (s : State) (h : Holds read wrote s) (g : s.progress.stage ≡ stage.Going) (small : length read < 2 ^ 63) where
  abbrev p : Progress
  p = s.progress

  flushes : Standing read (wrote ++ waiting_text p s.text) (state (flushed_of true p) s.input s.text)
  flushes = going (flushed_going p g) (holds_written read wrote s h)

  fills : find_of (unread p s.input) p.ended ≡ found.Part → (n : ℕ) (brought : List ℕ)
      → kept_of p s.input + length brought ≡ length s.input → n ≤ length brought
      → Standing (read ++ take n brought) wrote (filled_to s n brought)
  fills e n brought fits few = going g (holds_filled read wrote s h e n brought fits few)

  first_is : writes_first p.stage p.filled (length s.text) ≡ ltb (rest_of p.filled (length s.text) (length s.text)) 4096
  first_is = ap (λ (x : Stage). writes_first x p.filled (length s.text)) g ∙ going_first p.filled (length s.text)

  turn_stands : (more text : List ℕ) (after : State) → DueTurn s more text after → Standing (read ++ more) (wrote ++ text) after
  unfolding decide_of
  turn_stands more text after t =
      go (ltb (rest_of p.filled (length s.text) (length s.text)) 4096) refl
      (find_of (unread p s.input) p.ended) refl (ltb 0 p.filled)
      (rw (first_is, by_found_law (find_of (unread p s.input) p.ended) p.filled) at t)
    where
      room : ltb (rest_of p.filled (length s.text) (length s.text)) 4096 ≡ false → 4096 ≤ length s.text - p.filled
      room c =
          omega (
            arith,
            ltb-false (rest_of p.filled (length s.text) (length s.text)) 4096 c,
            rest_all p.filled (length s.text),
          )

      go : (full : Bool) → ltb (rest_of p.filled (length s.text) (length s.text)) 4096 ≡ full
          → (f : Found) → find_of (unread p s.input) p.ended ≡ f → (some : Bool)
          → Turn s (cond full next.Flush (by_found f some)) more text after
          → Standing (read ++ more) (wrote ++ text) after
      go true c f b some t = by_flush read wrote s more text after t flushes (breaks_going read wrote s h)
      go false c found.Part b true t = by_flush read wrote s more text after t flushes (breaks_going read wrote s h)
      go false c found.Part b false t = by_fill read wrote s more text after t (fills b)
      go false c (found.Line n) b some t = by_line read wrote s n more text after t (stands_line read wrote s h small (room c) n b g)
      go false c found.TooLong b some t = by_error read wrote s more text after t (stands_long read wrote s h (room c) small b)
      go false c found.Nothing b some t = by_end read wrote s more text after t (stands_end read wrote s h b)

-- where only writing is left, what waits is written
ends_on : (read wrote : List ℕ) (s : State) → s.progress.stage ≡ stage.Last → Ends read wrote s.progress s.text
    → (more text : List ℕ) (after : State) → DueTurn s more text after → Standing (read ++ more) (wrote ++ text) after
unfolding decide_of
ends_on read wrote s g e more text after t =
    by_flush read wrote s more text after
    (rw (ap (λ (x : Stage). writes_first x s.progress.filled (length s.text)) g ∙ last_first s.progress.filled (length s.text)) at t)
    (flushes_last read wrote s e g)
    (breaks_last read wrote s e)

-- ---- a run

over_clash : (x : Stage) → over_of x ≡ true → over_of x ≡ false → ⊥
over_clash x a b = clash (sym a ∙ b)

on_from : (read wrote more text : List ℕ) (before after : State) → Standing read wrote before → length read < 2 ^ 63
    → is_over before ≡ false → DueTurn before more text after → Standing (read ++ more) (wrote ++ text) after
on_from read wrote more text before after (going g h) small live t = turn_stands read wrote before h g small more text after t
on_from read wrote more text before after (last g e) small live t = ends_on read wrote before g e more text after t
on_from read wrote more text before after (over o w) small live t = absurd (over_clash before.progress.stage o live)

module _ (input text : List ℕ) (r : HasRoom input text) where
  run_stands : (turns : ℕ) (read wrote : List ℕ) (after : State) → Run is_over DueTurn (state new_of input text) turns read wrote after
      → length read < 2 ^ 63 → Standing read wrote after
  run_stands turns read wrote after begun small = going refl (holds_first input text r)
  run_stands turns read wrote after (turned turns0 read0 wrote0 more text0 before next run live t) small =
      on_from read0 wrote0 more text0 before next (run_stands turns0 read0 wrote0 before run less) less live t
    where
      less : length read0 < 2 ^ 63
      less = omega (arith, small, length-append read0 more)

-- THEOREM: every run of the program prints the output
pub every_run : EveryRun
every_run input text r turns read wrote after run small = stands_prints read wrote after (run_stands input text r turns read wrote after run small)

-- THEOREM: so does the program's own run
pub program_prints : ProgramPrints
program_prints r ran small =
    every_run ran.input ran.text ran.room ran.played.turns ran.played.read ran.played.wrote ran.after ran.played.run small
