-- THE PROGRAMS: every run, however the input comes in pieces, writes the output for the input that was read (specs/Run.antt). Assumes nothing.
use native.Mathlib.Omega.{arith}
use mathlib.Core.Path.{◌≡◌, refl, sym, ◌∙◌, ap}
use mathlib.Core.Bool.{Bool, true, false, cond}
use mathlib.Core.List.{List, [], ◌++◌, append-nil}
use Prim.Native.Nat.{ℕ, ◌+◌, ◌-◌, ◌^◌, ◌≤◌, ◌<◌}
use lib.Dec.{ltb}
use lib.ListN.{length, take, length-append}
use borrow.Author.Tests.{ltb-false}
use Rattle.history.specs.Calls.{Start, legal, made}
use Rattle.history.proofs.Made.{made_good}
use Rattle.input.specs.declared.Found.{Found}
use Rattle.input.specs.declared.Found.TheVariants as found
use Rattle.input.specs.Parts.{rest_of}
use Rattle.input.specs.Input.{find_of}
use Rattle.input.specs.Turns.{begun, turned}
use Rattle.input.proofs.Places.{rest_all}
use Rattle.script.specs.Doing.{rests_of}
use Rattle.marking.specs.declared.Kind.{Kind}
use Rattle.marking.specs.declared.verdict.Verdict.{Verdict}
use Rattle.marking.specs.declared.verdict.Verdict.TheVariants as verdict
use Rattle.sitting.specs.declared.turn.Sitting.{Sitting}
use Rattle.sitting.specs.declared.turn.Stage.{Stage}
use Rattle.sitting.specs.declared.turn.Stage.TheVariants as stage
use Rattle.sitting.specs.declared.turn.Next.{Next}
use Rattle.sitting.specs.declared.turn.Next.TheVariants as next
use Rattle.sitting.specs.Turn.{Memory, memory, State, state, new_of, over_of, unread, on_found, writes_first, by_verdict, decide_of, stepped_of, put_in, finish_of}
use Rattle.sitting.specs.Turn.{last_put, error_put, begin_of, begin_in, waiting_text, written_stage, flushed_of, kept_of, filled_to}
use Rattle.sitting.specs.Turn.{Turn, step, finish, line, last, error, written, broken, filled}
use Rattle.sitting.specs.Run.{Run, HasRoom}
use Rattle.sitting.specs.Whole.{start_of}
use Rattle.runs.specs.Prints.{EveryRun, ProgramPrints}
use Rattle.runs.proofs.Holding.{in_row, Holds, holds_first, holds_step, holds_finish, holds_written}
use Rattle.runs.proofs.Ending.{Ends, Standing, going, last as lastly, over, ends_here, stands_long, breaks_going, breaks_last, flushes_last}
use Rattle.runs.proofs.Ending.{stands_prints}
use Rattle.runs.proofs.Reading.{stands_line, holds_filled}

clash : true ≡ false → ⊥
clash e = let z : ◌≡◌ {A = ℕ} 0 1 = cc in omega arith

flushed_going : (p : Sitting) → p.stage ≡ stage.Going → (flushed_of true p).stage ≡ stage.Going
unfolding flushed_of written_stage
flushed_going p e = rw e

stepped_stage : (p : Sitting) (m : Memory) → (stepped_of p m).sitting.stage ≡ p.stage
unfolding stepped_of
stepped_stage p m = refl

finished_stage : (p : Sitting) (input text : List ℕ) → (finish_of p input text).sitting.stage ≡ p.stage
unfolding finish_of
finished_stage p input text = refl

going_first : (n size : ℕ) → writes_first stage.Going n size ≡ ltb (rest_of n size size) 131700
unfolding writes_first
going_first n size = refl

last_first : (n size : ℕ) → writes_first stage.Last n size ≡ true
unfolding writes_first
last_first n size = refl

-- what is due between two lines, by the test whether text waits
abbrev by_found : Found → Bool → Next
by_found found.Part some = cond some next.Flush next.Fill
by_found (found.Line n) some = next.Line n
by_found found.TooLong some = next.Error
by_found found.Nothing some = next.Last

by_found_law : (f : Found) (n : ℕ) → on_found f n ≡ by_found f (ltb 0 n)
unfolding on_found
by_found_law found.Part n = refl
by_found_law (found.Line k) n = refl
by_found_law found.TooLong n = refl
by_found_law found.Nothing n = refl

by_row : (v : Verdict) (between within : Next) → by_verdict v between within ≡ cond (in_row v) within between
unfolding by_verdict in_row
by_row verdict.Rest between within = refl
by_row (verdict.Open matched) between within = refl
by_row verdict.Told between within = refl

-- ---- a turn, by what is due

module _ (k : Kind) (s : Start) (read wrote : List ℕ) where
  quiet : (after : State) → Standing k s read wrote after → Standing k s (read ++ []) (wrote ++ []) after
  quiet after st = rw (append-nil read, append-nil wrote) st

  module _ (p : Sitting) (m : Memory) where
    by_step : (more text : List ℕ) (after : State) → Turn p m next.Step more text after → Standing k s read wrote (stepped_of p m)
        → Standing k s (read ++ more) (wrote ++ text) after
    by_step more text after step st = quiet (stepped_of p m) st

    by_finish : (more text : List ℕ) (after : State) → Turn p m next.Finish more text after
        → Standing k s read wrote (put_in m (finish_of p m.input m.text)) → Standing k s (read ++ more) (wrote ++ text) after
    by_finish more text after finish st = quiet (put_in m (finish_of p m.input m.text)) st

    by_line : (n : ℕ) (more text : List ℕ) (after : State) → Turn p m (next.Line n) more text after
        → Standing k s read wrote (begin_in m (begin_of p n m.input m.bytes m.text)) → Standing k s (read ++ more) (wrote ++ text) after
    by_line n more text after (line j) st = quiet (begin_in m (begin_of p n m.input m.bytes m.text)) st

    by_last : (more text : List ℕ) (after : State) → Turn p m next.Last more text after → Standing k s read wrote (put_in m (last_put p m.text))
        → Standing k s (read ++ more) (wrote ++ text) after
    by_last more text after last st = quiet (put_in m (last_put p m.text)) st

    by_error : (more text : List ℕ) (after : State) → Turn p m next.Error more text after → Standing k s read wrote (put_in m (error_put p m.text))
        → Standing k s (read ++ more) (wrote ++ text) after
    by_error more text after error st = quiet (put_in m (error_put p m.text)) st

    by_flush : (more text : List ℕ) (after : State) → Turn p m next.Flush more text after
        → Standing k s read (wrote ++ waiting_text p m.text) (state (flushed_of true p) m)
        → ((n : ℕ) → Standing k s read (wrote ++ take n (waiting_text p m.text)) (state (flushed_of false p) m))
        → Standing k s (read ++ more) (wrote ++ text) after
    by_flush more text after written st bad = rw (append-nil read) st
    by_flush more text after (broken n) st bad = rw (append-nil read) (bad n)

    by_fill : (more text : List ℕ) (after : State) → Turn p m next.Fill more text after
        → ((n : ℕ) (brought : List ℕ) → kept_of p m.input + length brought ≡ length m.input → n ≤ length brought
        → Standing k s (read ++ take n brought) wrote (filled_to p m n brought))
        → Standing k s (read ++ more) (wrote ++ text) after
    by_fill more text after (filled n brought fits few) st = rw (append-nil wrote) (st n brought fits few)

-- ---- each of them

module _ (k : Kind) (s : Start) (read wrote : List ℕ) (p : Sitting) (m : Memory) (h : Holds k s read wrote p m) (g : p.stage ≡ stage.Going)
    (small : length read < 2 ^ 63) where
  flushes : Standing k s read (wrote ++ waiting_text p m.text) (state (flushed_of true p) m)
  flushes = going (flushed_going p g) (holds_written k s read wrote p m h)

  fills : in_row p.mark.verdict ≡ false → find_of (unread p m.input) p.ended ≡ found.Part → (n : ℕ) (brought : List ℕ)
      → kept_of p m.input + length brought ≡ length m.input → n ≤ length brought
      → Standing k s (read ++ take n brought) wrote (filled_to p m n brought)
  fills row e n brought fits few = going g (holds_filled k s read wrote p m h row e n brought fits few)

  steps : in_row p.mark.verdict ≡ true → rests_of p.day.doing ≡ false → 131700 ≤ length m.text - p.filled
      → Standing k s read wrote (stepped_of p m)
  steps row e big = going (stepped_stage p m ∙ g) (holds_step k s read wrote p m h row big e)

  finishes : in_row p.mark.verdict ≡ true → rests_of p.day.doing ≡ true → 131700 ≤ length m.text - p.filled
      → Standing k s read wrote (put_in m (finish_of p m.input m.text))
  finishes row e big = going (finished_stage p m.input m.text ∙ g) (holds_finish k s read wrote p m h row big small e)

  first_is : writes_first p.stage p.filled (length m.text) ≡ ltb (rest_of p.filled (length m.text) (length m.text)) 131700
  first_is = ap (λ (x : Stage). writes_first x p.filled (length m.text)) g ∙ going_first p.filled (length m.text)

  turn_stands : (more text : List ℕ) (after : State) → Turn p m (decide_of p m.input (length m.text)) more text after
      → Standing k s (read ++ more) (wrote ++ text) after
  unfolding decide_of
  turn_stands more text after t =
      go (ltb (rest_of p.filled (length m.text) (length m.text)) 131700) refl (in_row p.mark.verdict) refl (rests_of p.day.doing) refl
      (find_of (unread p m.input) p.ended) refl (ltb 0 p.filled)
      (rw (
        first_is,
        by_row p.mark.verdict (on_found (find_of (unread p m.input) p.ended) p.filled)
            (cond (rests_of p.day.doing) next.Finish next.Step),
        by_found_law (find_of (unread p m.input) p.ended) p.filled,
      ) at t)
    where
      room : ltb (rest_of p.filled (length m.text) (length m.text)) 131700 ≡ false → 131700 ≤ length m.text - p.filled
      room c =
          omega (
            arith,
            ltb-false (rest_of p.filled (length m.text) (length m.text)) 131700 c,
            rest_all p.filled (length m.text),
          )

      go : (full : Bool) → ltb (rest_of p.filled (length m.text) (length m.text)) 131700 ≡ full
          → (row : Bool) → in_row p.mark.verdict ≡ row → (r : Bool) → rests_of p.day.doing ≡ r
          → (f : Found) → find_of (unread p m.input) p.ended ≡ f → (some : Bool)
          → Turn p m (cond full next.Flush (cond row (cond r next.Finish next.Step) (by_found f some))) more text after
          → Standing k s (read ++ more) (wrote ++ text) after
      go true c row d r a f b some t = by_flush k s read wrote p m more text after t flushes (breaks_going k s read wrote p m h)
      go false c true d true a f b some t = by_finish k s read wrote p m more text after t (finishes d a (room c))
      go false c true d false a f b some t = by_step k s read wrote p m more text after t (steps d a (room c))
      go false c false d r a found.Part b true t = by_flush k s read wrote p m more text after t flushes (breaks_going k s read wrote p m h)
      go false c false d r a found.Part b false t = by_fill k s read wrote p m more text after t (fills d b)
      go false c false d r a (found.Line n) b some t =
          by_line k s read wrote p m n more text after t (stands_line k s read wrote p m h d small n b (room c) g)
      go false c false d r a found.TooLong b some t =
          by_error k s read wrote p m more text after t (stands_long k s read wrote p m h (room c) small d b)
      go false c false d r a found.Nothing b some t = by_last k s read wrote p m more text after t (ends_here k s read wrote p m h (room c) small d b)

-- where only writing is left, what waits is written
ends_on : (k : Kind) (s : Start) (read wrote : List ℕ) (p : Sitting) (m : Memory) → p.stage ≡ stage.Last → Ends k s read wrote p m.text
    → (more text : List ℕ) (after : State) → Turn p m (decide_of p m.input (length m.text)) more text after
    → Standing k s (read ++ more) (wrote ++ text) after
unfolding decide_of
ends_on k s read wrote p m g e more text after t =
    by_flush k s read wrote p m more text after
    (rw (ap (λ (x : Stage). writes_first x p.filled (length m.text)) g ∙ last_first p.filled (length m.text)) at t)
    (flushes_last k s read wrote p m e g)
    (breaks_last k s read wrote p m e)

-- ---- a run

over_clash : (x : Stage) → over_of x ≡ true → over_of x ≡ false → ⊥
over_clash x a b = clash (sym a ∙ b)

on_from : (k : Kind) (s : Start) (read wrote more text : List ℕ) (before after : State) → Standing k s read wrote before → length read < 2 ^ 63
    → over_of before.sitting.stage ≡ false
    → Turn before.sitting before.memory (decide_of before.sitting before.memory.input (length before.memory.text)) more text after
    → Standing k s (read ++ more) (wrote ++ text) after
on_from k s read wrote more text before after (going g h) small live t =
    turn_stands k s read wrote before.sitting before.memory h g small more text after t
on_from k s read wrote more text before after (lastly g e) small live t =
    ends_on k s read wrote before.sitting before.memory g e more text after t
on_from k s read wrote more text before after (over o w) small live t = absurd (over_clash before.sitting.stage o live)

module _ (k : Kind) (s : Start) (ok : legal s ≡ true) (m : Memory) (e : m.lent ≡ (made s).lent) (r : HasRoom m) where
  run_stands : (turns : ℕ) (read wrote : List ℕ) (after : State) → Run (new_of k (made s).server) m turns read wrote after → length read < 2 ^ 63
      → Standing k s read wrote after
  run_stands turns read wrote after begun small = going refl (holds_first k s m e (made_good s ok) r)
  run_stands turns read wrote after (turned turns0 read0 wrote0 more text before next run live t) small =
      on_from k s read0 wrote0 more text before next (run_stands turns0 read0 wrote0 before run less) less live t
    where
      less : length read0 < 2 ^ 63
      less = omega (arith, small, length-append read0 more)

pub every_run : EveryRun
every_run k s ok m e r turns read wrote after run small =
    stands_prints k s read wrote after (run_stands k s ok m e r turns read wrote after run small)

-- THEOREM: so does each program's own run
pub program_prints : ProgramPrints
program_prints k ran small =
    every_run k (start_of m.lent) ran.ready.legal (memory (made (start_of m.lent)).lent m.input m.bytes m.text) refl room
    ran.played.turns ran.played.read ran.played.wrote ran.after ran.played.run small
  where
    m : Memory
    m = ran.memory

    room : HasRoom (memory (made (start_of m.lent)).lent m.input m.bytes m.text)
    room =
        record {
          input = ran.ready.room.input;
          input_most = ran.ready.room.input_most;
          bytes = ran.ready.room.bytes;
          text = ran.ready.room.text;
          text_most = ran.ready.room.text_most;
        }
