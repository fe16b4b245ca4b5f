-- A SCRIPT PROGRAM: every run of it, however the input comes in pieces, writes the sheet of the script that was read (specs/Run.antt). Assumes nothing.
use Rattle.std.proofs.Common.{◌≡◌, ℕ, ◌+◌, ◌-◌, ◌^◌, ◌<◌, ◌≤◌, Bool, true, false, cond, ltb, List, [], ◌++◌, length, take, sym, refl, ap, ◌∙◌, append-nil, arith, length-append, ltb-false}
use mathlib.Core.Option.{none}
use Rattle.history.specs.Calls.{Start, legal, made}
use Rattle.history.proofs.Made.{made_good}
use Rattle.lines.specs.declared.commands.Command.TheVariants as command
use Rattle.input.specs.declared.Found.{Found}
use Rattle.input.specs.declared.Found.TheVariants as found
use Rattle.input.specs.Parts.{rest_of}
use Rattle.script.specs.Doing.{rests_of}
use Rattle.script.specs.Sheet.{Counted}
use Rattle.input.specs.Input.{find_of}
use Rattle.input.specs.Turns.{begun, turned}
use Rattle.input.proofs.Places.{rest_all}
use Rattle.pass.specs.declared.Pass.{Pass}
use Rattle.pass.specs.declared.Stage.{Stage}
use Rattle.pass.specs.declared.Stage.TheVariants as stage
use Rattle.pass.specs.declared.Next.{Next}
use Rattle.pass.specs.declared.Next.TheVariants as next
use Rattle.pass.specs.Pass.{Memory, Passing, passing, new_of, over_of, unread, on_found, writes_first, decide_of, stepped_of, last_of, error_of}
use Rattle.pass.specs.Pass.{read_at, does_at, begun_of, waiting_text, written_stage, flushed_of, kept_of, filled_to}
use Rattle.pass.specs.Pass.{Turn, step, line, last, error, written, broken, filled}
use Rattle.pass.specs.Sheets.{More, Fair}
use Rattle.pass.specs.Run.{Run, HasRoom, EveryProgram}
use Rattle.pass.proofs.Holding.{Holds, holds_first, holds_step, holds_written}
use Rattle.pass.proofs.Ending.{Ends, Standing, going, last as lastly, over, stands_last, stands_long, breaks_going, breaks_last, flushes_last}
use Rattle.pass.proofs.Ending.{stands_prints}
use Rattle.pass.proofs.Reading.{stands_line, holds_filled}

clash : true ≡ false → ⊥
clash e = let z : ◌≡◌ {A = ℕ} 0 1 = cc in omega arith

flushed_going : (p : Pass) → p.stage ≡ stage.Going → (flushed_of true p).stage ≡ stage.Going
unfolding flushed_of written_stage
flushed_going p e = rw e

stepped_stage : (p : Pass) (m : Memory) → (stepped_of p m).pass.stage ≡ p.stage
unfolding stepped_of
stepped_stage p m = refl

going_first : (room n size : ℕ) → writes_first room stage.Going n size ≡ ltb (rest_of n size size) room
unfolding writes_first
going_first room n size = refl

last_first : (room n size : ℕ) → writes_first room stage.Last n size ≡ true
unfolding writes_first
last_first room n size = refl

-- what is due where no line is being run, by the test whether text waits
abbrev by_found : Found → Bool → Next
by_found found.Part some = cond some next.Flush next.Fill
by_found (found.Line n) some = next.Line n
by_found found.TooLong some = next.Error
by_found found.Nothing some = next.Last

by_found_law : (f : Found) (n : ℕ) → on_found f n ≡ by_found f (ltb 0 n)
unfolding on_found
by_found_law found.Part n = refl
by_found_law (found.Line k) n = refl
by_found_law found.TooLong n = refl
by_found_law found.Nothing n = refl

module _ (room : ℕ) (more : More) (enough : 560 ≤ room) (fair : Fair room more) where
  -- ---- a turn, by what is due

  module _ (s : Start) (read wrote : List ℕ) where
    quiet : (after : Passing) → Standing room more s read wrote after → Standing room more s (read ++ []) (wrote ++ []) after
    quiet after st = rw (append-nil read, append-nil wrote) st

    module _ (p : Pass) (m : Memory) where
      by_step : (came text : List ℕ) (after : Passing) → Turn more p m next.Step came text after → Standing room more s read wrote (stepped_of p m)
          → Standing room more s (read ++ came) (wrote ++ text) after
      by_step came text after step st = quiet (stepped_of p m) st

      by_line : (n : ℕ) (came text : List ℕ) (after : Passing) → Turn more p m (next.Line n) came text after
          → (((read_at p n m).command ≡ command.Unreadable → does_at more p n m ≡ none → Counted m.lent.map m.lent.owner)
          → Standing room more s read wrote (begun_of more p n m))
          → Standing room more s (read ++ came) (wrote ++ text) after
      by_line n came text after (line k c) st = quiet (begun_of more p n m) (st c)

      by_last : (came text : List ℕ) (after : Passing) → Turn more p m next.Last came text after
          → (Counted m.lent.map m.lent.owner → Standing room more s read wrote (last_of p m)) → Standing room more s (read ++ came) (wrote ++ text) after
      by_last came text after (last c) st = quiet (last_of p m) (st c)

      by_error : (came text : List ℕ) (after : Passing) → Turn more p m next.Error came text after
          → (Counted m.lent.map m.lent.owner → Standing room more s read wrote (error_of p m)) → Standing room more s (read ++ came) (wrote ++ text) after
      by_error came text after (error c) st = quiet (error_of p m) (st c)

      by_flush : (came text : List ℕ) (after : Passing) → Turn more p m next.Flush came text after
          → Standing room more s read (wrote ++ waiting_text p m.text) (passing (flushed_of true p) m)
          → ((n : ℕ) → Standing room more s read (wrote ++ take n (waiting_text p m.text)) (passing (flushed_of false p) m))
          → Standing room more s (read ++ came) (wrote ++ text) after
      by_flush came text after written st bad = rw (append-nil read) st
      by_flush came text after (broken n) st bad = rw (append-nil read) (bad n)

      by_fill : (came text : List ℕ) (after : Passing) → Turn more p m next.Fill came text after
          → ((n : ℕ) (brought : List ℕ) → kept_of p m.input + length brought ≡ length m.input → n ≤ length brought
          → Standing room more s (read ++ take n brought) wrote (filled_to p m n brought))
          → Standing room more s (read ++ came) (wrote ++ text) after
      by_fill came text after (filled n brought fits few) st = rw (append-nil wrote) (st n brought fits few)

  -- ---- each of them

  module _ (s : Start) (read wrote : List ℕ) (p : Pass) (m : Memory) (h : Holds room more s read wrote p m) (g : p.stage ≡ stage.Going)
      (small : length read < 2 ^ 63) where
    flushes : Standing room more s read (wrote ++ waiting_text p m.text) (passing (flushed_of true p) m)
    flushes = going (flushed_going p g) (holds_written room more s read wrote p m h)

    fills : find_of (unread p m.input) p.ended ≡ found.Part → (n : ℕ) (brought : List ℕ)
        → kept_of p m.input + length brought ≡ length m.input → n ≤ length brought
        → Standing room more s (read ++ take n brought) wrote (filled_to p m n brought)
    fills e n brought fits few = going g (holds_filled room more s read wrote p m h e n brought fits few)

    steps : rests_of p.day.doing ≡ false → 560 ≤ length m.text - p.filled → Standing room more s read wrote (stepped_of p m)
    steps e big = going (stepped_stage p m ∙ g) (holds_step room more s read wrote p m h e big)

    first_is : writes_first room p.stage p.filled (length m.text) ≡ ltb (rest_of p.filled (length m.text) (length m.text)) room
    first_is = ap (λ (x : Stage). writes_first room x p.filled (length m.text)) g ∙ going_first room p.filled (length m.text)

    turn_stands : (came text : List ℕ) (after : Passing) → Turn more p m (decide_of room p m.input (length m.text)) came text after
        → Standing room more s (read ++ came) (wrote ++ text) after
    unfolding decide_of
    turn_stands came text after t =
        go (ltb (rest_of p.filled (length m.text) (length m.text)) room) refl (rests_of p.day.doing) refl
        (find_of (unread p m.input) p.ended) refl (ltb 0 p.filled)
        (rw (first_is, by_found_law (find_of (unread p m.input) p.ended) p.filled) at t)
      where
        free : ltb (rest_of p.filled (length m.text) (length m.text)) room ≡ false → room ≤ length m.text - p.filled
        free c =
            omega (
              arith,
              ltb-false (rest_of p.filled (length m.text) (length m.text)) room c,
              rest_all p.filled (length m.text),
            )

        go : (full : Bool) → ltb (rest_of p.filled (length m.text) (length m.text)) room ≡ full → (r : Bool) → rests_of p.day.doing ≡ r
            → (f : Found) → find_of (unread p m.input) p.ended ≡ f → (some : Bool)
            → Turn more p m (cond full next.Flush (cond r (by_found f some) next.Step)) came text after
            → Standing room more s (read ++ came) (wrote ++ text) after
        go true c r a f b some t = by_flush s read wrote p m came text after t flushes (breaks_going room more s read wrote p m h)
        go false c true a found.Part b true t = by_flush s read wrote p m came text after t flushes (breaks_going room more s read wrote p m h)
        go false c true a found.Part b false t = by_fill s read wrote p m came text after t (fills b)
        go false c true a (found.Line n) b some t =
            by_line s read wrote p m n came text after t (λ k. stands_line room more s read wrote p m h a small n b fair enough (free c) k g)
        go false c true a found.TooLong b some t =
            by_error s read wrote p m came text after t (λ k. stands_long room more s read wrote p m h k (omega (arith, enough, free c)) a b small)
        go false c true a found.Nothing b some t = by_last s read wrote p m came text after t (λ k. stands_last room more s read wrote p m h k (omega (arith, enough, free c)) a b)
        go false c false a f b some t = by_step s read wrote p m came text after t (steps a (omega (arith, enough, free c)))

  -- where only writing is left, what waits is written
  ends_on : (s : Start) (read wrote : List ℕ) (p : Pass) (m : Memory) → p.stage ≡ stage.Last → Ends more s read wrote p m.text
      → (came text : List ℕ) (after : Passing) → Turn more p m (decide_of room p m.input (length m.text)) came text after
      → Standing room more s (read ++ came) (wrote ++ text) after
  unfolding decide_of
  ends_on s read wrote p m g e came text after t =
      by_flush s read wrote p m came text after
      (rw (ap (λ (x : Stage). writes_first room x p.filled (length m.text)) g ∙ last_first room p.filled (length m.text)) at t)
      (flushes_last room more s read wrote p m e g)
      (breaks_last room more s read wrote p m e)

  -- ---- a run

  over_clash : (x : Stage) → over_of x ≡ true → over_of x ≡ false → ⊥
  over_clash x a b = clash (sym a ∙ b)

  on_from : (s : Start) (read wrote came text : List ℕ) (before after : Passing) → Standing room more s read wrote before → length read < 2 ^ 63
      → over_of before.pass.stage ≡ false
      → Turn more before.pass before.memory (decide_of room before.pass before.memory.input (length before.memory.text)) came text after
      → Standing room more s (read ++ came) (wrote ++ text) after
  on_from s read wrote came text before after (going g h) small live t =
      turn_stands s read wrote before.pass before.memory h g small came text after t
  on_from s read wrote came text before after (lastly g e) small live t =
      ends_on s read wrote before.pass before.memory g e came text after t
  on_from s read wrote came text before after (over o w) small live t = absurd (over_clash before.pass.stage o live)

  module _ (s : Start) (ok : legal s ≡ true) (m : Memory) (e : m.lent ≡ (made s).lent) (r : HasRoom room m) where
    run_stands : (turns : ℕ) (read wrote : List ℕ) (after : Passing) → Run room more (new_of (made s).server) m turns read wrote after → length read < 2 ^ 63
        → Standing room more s read wrote after
    run_stands turns read wrote after begun small = going refl (holds_first room more s m e (made_good s ok) r)
    run_stands turns read wrote after (turned turns0 read0 wrote0 came text before next run live t) small =
        on_from s read0 wrote0 came text before next (run_stands turns0 read0 wrote0 before run less) less live t
      where
        less : length read0 < 2 ^ 63
        less = omega (arith, small, length-append read0 came)

-- THEOREM: whatever more words it knows, where they are fair
pub every_program : EveryProgram
every_program room more enough fair s ok m e r turns read wrote after run small =
    stands_prints room more s read wrote after (run_stands room more enough fair s ok m e r turns read wrote after run small)
