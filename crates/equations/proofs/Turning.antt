-- A turn is the one that is due; what holds before the first. Assumes nothing.
use Rattle.std.proofs.Common.{◌≡◌, ℕ, ◌+◌, ◌-◌, ◌<◌, Bool, true, false, List, [], length, take, refl, ap, arith}
use Rattle.input.specs.Turns.{Turned, Played}
use Rattle.input.proofs.Turning.{Playing, playing_none, playing_on, played_out}
use Rattle.equations.specs.declared.progress.Progress.{Progress}
use Rattle.equations.specs.declared.progress.Stage.TheVariants as stage
use Rattle.equations.specs.declared.progress.Next.{Next}
use Rattle.equations.specs.declared.progress.Next.TheVariants as next
use Rattle.equations.specs.Turn.{State, state, new_of, over_of, Put, put, put_in, with_stage, decide_of, error_put, answered_of, flushed_of, Flushed, Filled}
use Rattle.equations.specs.Turn.{Turn, line, ended, error, written, broken, filled, DueTurn}
use Rattle.equations.specs.Whole.{is_over, HasRoom}

module _ (s : State) (n : Next) (due : n ≡ decide_of s.progress s.input (length s.text)) where
  due_turn : (k : Next) (read wrote : List ℕ) (after next : State) → n ≡ k → after ≡ next → Turn s k read wrote next → Turned DueTurn s after
  due_turn k read wrote after next e f t = record { read = read; wrote = wrote; turn = rw (← due, e, f) t }

  -- after a line was put
  put_turn : (k : Next) (q : Progress) (text : List ℕ) (w : Put) → n ≡ k → put q text ≡ w → Turn s k [] [] (put_in s w)
      → Turned DueTurn s (state q s.input text)
  put_turn k q text w e f t = due_turn k [] [] (state q s.input text) (put_in s w) e (ap (λ (x : Put). put_in s x) f) t

  pub turned_line : (q : Progress) (text : List ℕ) (size : ℕ) → n ≡ next.Line size → put q text ≡ answered_of s.progress size s.input s.text
      → Turned DueTurn s (state q s.input text)
  turned_line q text size e f = put_turn (next.Line size) q text (answered_of s.progress size s.input s.text) e f (line size)

  pub turned_error : (q : Progress) (text : List ℕ) → n ≡ next.Error → put q text ≡ error_put s.progress s.text
      → Turned DueTurn s (state q s.input text)
  turned_error q text e f = put_turn next.Error q text (error_put s.progress s.text) e f error

  pub turned_end : (q : Progress) → n ≡ next.End → q ≡ with_stage s.progress stage.Last → Turned DueTurn s (state q s.input s.text)
  turned_end q e f = due_turn next.End [] [] _ _ e (ap (λ (x : Progress). state x s.input s.text) f) ended

  pub turned_flush : (q : Progress) → n ≡ next.Flush → Flushed s.progress q → Turned DueTurn s (state q s.input s.text)
  turned_flush q e f = by f.written f.is
    where
      by : (b : Bool) → q ≡ flushed_of b s.progress → Turned DueTurn s (state q s.input s.text)
      by true i = due_turn next.Flush [] _ _ _ e (ap (λ (x : Progress). state x s.input s.text) i) written
      by false i = due_turn next.Flush [] [] _ _ e (ap (λ (x : Progress). state x s.input s.text) i) (broken 0)

  pub turned_fill : (q : Progress) (input : List ℕ) → n ≡ next.Fill → Filled s.progress s.input q input
      → Turned DueTurn s (state q input s.text)
  turned_fill q input e f =
      due_turn next.Fill (take f.n f.brought) [] _ _ e (f.is s.text) (filled f.n f.brought f.size f.most)

-- before the first turn
new_going : over_of stage.Going ≡ false
unfolding over_of
new_going = refl

pub playing_first : (p : Progress) (input text : List ℕ) → p ≡ new_of
    → Playing is_over DueTurn (state new_of input text) (state p input text) 18446744073709551615
playing_first p input text e = rw e (playing_none is_over DueTurn (state new_of input text) new_going)

-- turns, one after the other: k of at most 2^64 - 1 were made
module _ (first before after : State) (k : ℕ) (playing : Playing is_over DueTurn first before (18446744073709551615 - k)) (few : k < 18446744073709551615)
    (turned : Turned DueTurn before after) (over : Bool) (is : over ≡ over_of after.progress.stage) where
  pub playing_more : over ≡ false → Playing is_over DueTurn first after (18446744073709551615 - (k + 1))
  playing_more e = playing_on is_over DueTurn first before after _ _ playing (omega (arith, few)) turned (rw (← is, e) (omega arith))

  pub played_over : over ≡ true → Played is_over DueTurn first after
  played_over e =
      played_out is_over DueTurn first after 0
      (playing_on is_over DueTurn first before after _ 0 playing (omega (arith, few)) turned (rw (← is, e) refl)) (omega arith)

-- the sizes of the program's arrays
pub has_room : (input text : List ℕ) → length input ≡ 262144 → length text ≡ 65536 → HasRoom input text
has_room input text e f =
    record { lines = omega (arith, e); input_most = omega (arith, e); line = omega (arith, f); text_most = omega (arith, f) }
