-- A turn is the one that is due. Assumes nothing.
use Rattle.std.proofs.Common.{◌≡◌, ℕ, ◌+◌, ◌-◌, ◌<◌, Bool, true, false, List, [], length, take, ap, refl, arith}
use mathlib.Core.Option.{none}
use Rattle.lines.specs.declared.commands.Command.TheVariants as command
use Rattle.input.specs.Turns as turning
use Rattle.input.proofs.Turning.{Playing, playing_on, played_out}
use Rattle.script.specs.Sheet.{Counted}
use Rattle.pass.specs.declared.Pass.{Pass}
use Rattle.pass.specs.declared.Next.{Next}
use Rattle.pass.specs.declared.Next.TheVariants as next
use Rattle.pass.specs.Sheets.{More}
use Rattle.pass.specs.Pass.{Memory, memory, Passing, passing, decide_of, stepped_of, Put, put, put_in, last_put, error_then_last_put, last_of, error_of, read_at, does_at, begun_of, flushed_of}
use Rattle.pass.specs.Pass.{Turn, step, line, last, error, written, broken, filled, over_of, DueTurn, Turned}
use Rattle.pass.specs.Run.{is_over}
use Rattle.pass.specs.Narrow.{Flushed, Filled}

module _ (room : ℕ) (more : More) (p : Pass) (m : Memory) (n : Next) (due : n ≡ decide_of room p m.input (length m.text)) where
  due_turn : (k : Next) (read wrote : List ℕ) (after next : Passing) → n ≡ k → after ≡ next → Turn more p m k read wrote next → Turned room more p m after
  due_turn k read wrote after next e f t = record { read = read; wrote = wrote; turn = rw (← due, e, f) t }

  pub turned_step : (after : Passing) → n ≡ next.Step → after ≡ stepped_of p m → Turned room more p m after
  turned_step after e f = due_turn next.Step [] [] after (stepped_of p m) e f step

  pub turned_line : (after : Passing) (size : ℕ) → n ≡ next.Line size → after ≡ begun_of more p size m
      → ((read_at p size m).command ≡ command.Unreadable → does_at more p size m ≡ none → Counted m.lent.map m.lent.owner) → Turned room more p m after
  turned_line after size e f counted = due_turn (next.Line size) [] [] after (begun_of more p size m) e f (line size counted)

  pub turned_last : (r : Pass) (after : List ℕ) → n ≡ next.Last → put r after ≡ last_put p m.lent.map m.lent.owner m.text
      → Counted m.lent.map m.lent.owner → Turned room more p m (passing r (memory m.lent m.input m.bytes after))
  turned_last r after e f counted = due_turn next.Last [] [] _ (last_of p m) e (ap (λ (w : Put). put_in m w) f) (last counted)

  pub turned_error : (r : Pass) (after : List ℕ) → n ≡ next.Error → put r after ≡ error_then_last_put p m.lent.map m.lent.owner m.text
      → Counted m.lent.map m.lent.owner → Turned room more p m (passing r (memory m.lent m.input m.bytes after))
  turned_error r after e f counted = due_turn next.Error [] [] _ (error_of p m) e (ap (λ (w : Put). put_in m w) f) (error counted)

  pub turned_flush : (r : Pass) → n ≡ next.Flush → Flushed p r → Turned room more p m (passing r m)
  turned_flush r e f = by f.written f.is
    where
      by : (b : Bool) → r ≡ flushed_of b p → Turned room more p m (passing r m)
      by true i = due_turn next.Flush [] _ (passing r m) (passing (flushed_of true p) m) e (rw i) written
      by false i = due_turn next.Flush [] [] (passing r m) (passing (flushed_of false p) m) e (rw i) (broken 0)

  pub turned_fill : (r : Pass) (input : List ℕ) → n ≡ next.Fill → Filled p m.input r input
      → Turned room more p m (passing r (memory m.lent input m.bytes m.text))
  turned_fill r input e f =
      due_turn next.Fill (take f.n f.brought) [] _ _ e (f.is m.lent m.bytes m.text)
      (filled f.n f.brought f.size f.most)

-- ---- turns, one after the other: k of at most 2^64 - 1 were made

module _ (room : ℕ) (more : More) (first before after : Passing) (k : ℕ)
    (playing : Playing is_over (DueTurn room more) first before (18446744073709551615 - k)) (few : k < 18446744073709551615)
    (turned : turning.Turned (DueTurn room more) before after) (over : Bool) (is : over ≡ over_of after.pass.stage) where
  pub playing_more : over ≡ false → Playing is_over (DueTurn room more) first after (18446744073709551615 - (k + 1))
  playing_more e =
      playing_on is_over (DueTurn room more) first before after _ _ playing (omega (arith, few)) turned (rw (← is, e) (omega arith))

  pub played_over : over ≡ true → turning.Played is_over (DueTurn room more) first after
  played_over e =
      played_out is_over (DueTurn room more) first after 0
      (playing_on is_over (DueTurn room more) first before after _ 0 playing (omega (arith, few)) turned (rw (← is, e) refl)) (omega arith)
