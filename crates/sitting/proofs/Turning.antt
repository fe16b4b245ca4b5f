-- A turn of the program is the one that is due: by what `decide` answered and what the part that does it came to. Assumes nothing.
use Rattle.std.proofs.Common.{◌≡◌, ℕ, Bool, true, false, List, [], length, take, ap}
use Rattle.sitting.specs.declared.turn.Sitting.{Sitting}
use Rattle.sitting.specs.declared.turn.Next.{Next}
use Rattle.sitting.specs.declared.turn.Next.TheVariants as next
use Rattle.sitting.specs.Turn.{Memory, memory, State, state, decide_of, stepped_of, Put, put, put_in, finish_of, last_put, error_put, Begins, begins}
use Rattle.sitting.specs.Turn.{begin_of, begin_in, flushed_of, Turn, step, finish, line, last, error, written, broken, filled, Turned}
use Rattle.sitting.specs.Narrow.{Flushed, Filled}

module _ (p : Sitting) (m : Memory) (n : Next) (due : n ≡ decide_of p m.input (length m.text)) where
  due_turn : (k : Next) (read wrote : List ℕ) (after next : State) → n ≡ k → after ≡ next → Turn p m k read wrote next → Turned p m after
  due_turn k read wrote after next e f t = record { read = read; wrote = wrote; turn = rw (← due, e, f) t }

  pub turned_step : (after : State) → n ≡ next.Step → after ≡ stepped_of p m → Turned p m after
  turned_step after e f = due_turn next.Step [] [] after (stepped_of p m) e f step

  pub turned_finish : (r : Sitting) (text : List ℕ) → n ≡ next.Finish → put r text ≡ finish_of p m.input m.text
      → Turned p m (state r (memory m.lent m.input m.bytes text))
  turned_finish r text e f =
      due_turn next.Finish [] [] (put_in m (put r text)) (put_in m (finish_of p m.input m.text)) e (ap (λ (w : Put). put_in m w) f) finish

  pub turned_line : (r : Sitting) (bytes text : List ℕ) (size : ℕ) → n ≡ next.Line size
      → begins r bytes text ≡ begin_of p size m.input m.bytes m.text
      → Turned p m (state r (memory m.lent m.input bytes text))
  turned_line r bytes text size e f =
      due_turn (next.Line size) [] [] (begin_in m (begins r bytes text)) (begin_in m (begin_of p size m.input m.bytes m.text)) e
      (ap (λ (b : Begins). begin_in m b) f) (line size)

  pub turned_last : (r : Sitting) (text : List ℕ) → n ≡ next.Last → put r text ≡ last_put p m.text
      → Turned p m (state r (memory m.lent m.input m.bytes text))
  turned_last r text e f = due_turn next.Last [] [] (put_in m (put r text)) (put_in m (last_put p m.text)) e (ap (λ (w : Put). put_in m w) f) last

  pub turned_error : (r : Sitting) (text : List ℕ) → n ≡ next.Error → put r text ≡ error_put p m.text
      → Turned p m (state r (memory m.lent m.input m.bytes text))
  turned_error r text e f = due_turn next.Error [] [] (put_in m (put r text)) (put_in m (error_put p m.text)) e (ap (λ (w : Put). put_in m w) f) error

  pub turned_flush : (r : Sitting) → n ≡ next.Flush → Flushed p r → Turned p m (state r m)
  turned_flush r e f = by f.written f.is
    where
      by : (b : Bool) → r ≡ flushed_of b p → Turned p m (state r m)
      by true i = due_turn next.Flush [] _ (state r m) (state (flushed_of true p) m) e (rw i) written
      by false i = due_turn next.Flush [] [] (state r m) (state (flushed_of false p) m) e (rw i) (broken 0)

  pub turned_fill : (r : Sitting) (input : List ℕ) → n ≡ next.Fill → Filled p m.input r input
      → Turned p m (state r (memory m.lent input m.bytes m.text))
  turned_fill r input e f =
      due_turn next.Fill (take f.n f.brought) [] _ _ e (f.is m.lent m.bytes m.text)
      (filled f.n f.brought f.size f.most)
