-- The end of a run: the last lines are put behind what waits, and then what was written and what waits is all of the output. Assumes nothing.
use native.Mathlib.Omega.{arith}
use mathlib.Core.Path.{◌≡◌, refl, sym, ◌∙◌, ap}
use mathlib.Core.Bool.{true, false}
use mathlib.Core.List.{List, [], ◌++◌, append_assoc, append-nil}
use Prim.Native.Nat.{ℕ, ◌+◌, ◌-◌, ◌^◌, ◌≤◌, ◌<◌}
use lib.ListN.{length, take}
use Rattle.history.specs.Calls.{Start}
use Rattle.input.specs.declared.Found.TheVariants as found
use Rattle.input.specs.Parts.{wrapped}
use Rattle.input.specs.Input.{find_of}
use Rattle.input.proofs.Finding.{find_long, find_nothing, nothing_found}
use Rattle.input.proofs.Places.{wrapped_same, front_of, front_none}
use Rattle.marking.specs.declared.Kind.{Kind}
use Rattle.marking.specs.Desk.{Rows, print_rows, last_text, stop_text, output_of}
use Rattle.rows.proofs.RowLaws.{rows_none, rows_long, print_ended, print_stopped}
use Rattle.rows.proofs.Forms.{last_most, stop_most}
use Rattle.sitting.specs.declared.turn.Sitting.{Sitting}
use Rattle.sitting.specs.declared.turn.Stage.TheVariants as stage
use Rattle.sitting.specs.Turn.{Memory, State, state, over_of, unread, Put, put_in, last_put, stop_put, error_put, waiting_text, flushed_of, written_stage}
use Rattle.sitting.specs.Run.{MayFollow}
use Rattle.runs.specs.Prints.{Prints}
use Rattle.runs.proofs.Holding.{in_row, between, remaining, Holds, put_waits, put_end, put_size, few_lines, few_right, as_rows}

-- what was written and what waits is all of the output
abbrev pub Ends : Kind → Start → List ℕ → List ℕ → Sitting → List ℕ → Type 0
Ends k s read wrote p text = (rest : List ℕ) → MayFollow p rest → output_of k s (read ++ rest) ≡ wrote ++ waiting_text p text

-- the program goes on and what holds between two turns does; or only writing is left; or it is over and has printed the output
pub data Standing (k : Kind) (s : Start) (read wrote : List ℕ) (after : State) : Type 0 where
  going : after.sitting.stage ≡ stage.Going → Holds k s read wrote after.sitting after.memory → Standing k s read wrote after
  last : after.sitting.stage ≡ stage.Last → Ends k s read wrote after.sitting after.memory.text → Standing k s read wrote after
  over : over_of after.sitting.stage ≡ true → Prints k s read wrote after → Standing k s read wrote after

-- ---- the last lines

last_waits : (p : Sitting) (text : List ℕ) → p.filled ≤ length text → length (last_text p.mark.kind p.mark.right) ≤ length text - p.filled
    → length text < 2 ^ 63
    → waiting_text (last_put p text).sitting (last_put p text).text ≡ waiting_text p text ++ last_text p.mark.kind p.mark.right
unfolding last_put
last_waits p text fits short small = put_waits p.filled (last_text p.mark.kind p.mark.right) text fits short small

last_ended : (p : Sitting) (text : List ℕ) → (last_put p text).sitting.ended ≡ p.ended
unfolding last_put
last_ended p text = refl

last_stage : (p : Sitting) (text : List ℕ) → (last_put p text).sitting.stage ≡ stage.Last
unfolding last_put
last_stage p text = refl

module _ (k : Kind) (s : Start) (read wrote : List ℕ) (p : Sitting) (m : Memory) (h : Holds k s read wrote p m)
    (room : 131700 ≤ length m.text - p.filled) (small : length read < 2 ^ 63) where
  last_short : length (last_text p.mark.kind p.mark.right) ≤ 60
  last_short = last_most p.mark.kind p.mark.right (few_right k s read wrote p m h small)

  number : wrapped (p.lines + 1) ≡ p.lines + 1
  number = wrapped_same (p.lines + 1) (few_lines k s read wrote p m h small)

  stop_short : length (stop_text p.mark.kind (wrapped (p.lines + 1))) ≤ 60
  stop_short = rw number (stop_most p.mark.kind (p.lines + 1) (few_lines k s read wrote p m h small))

  abbrev stop_line : List ℕ
  stop_line = stop_text p.mark.kind (wrapped (p.lines + 1))

  abbrev q : Sitting
  q = (stop_put p m.text).sitting

  stop_size : length (stop_put p m.text).text ≡ length m.text
  stop_size = put_size p.filled stop_line m.text h.filled (omega (arith, room, stop_short)) h.room.text_most

  stop_end : q.filled ≡ p.filled + length stop_line
  stop_end = put_end p.filled stop_line m.text h.filled (omega (arith, room, stop_short)) h.room.text_most

  error_waits : waiting_text (error_put p m.text).sitting (error_put p m.text).text
      ≡ waiting_text p m.text ++ (stop_text p.mark.kind (p.lines + 1) ++ last_text p.mark.kind p.mark.right)
  unfolding error_put
  error_waits =
      last_waits q (stop_put p m.text).text (omega (arith, stop_end, stop_size, h.filled, room, stop_short))
      (omega (arith, stop_end, stop_size, room, stop_short, last_short)) (omega (arith, stop_size, h.room.text_most))
      ∙ ap (λ (x : List ℕ). x ++ last_text p.mark.kind p.mark.right)
      (put_waits p.filled stop_line m.text h.filled (omega (arith, room, stop_short)) h.room.text_most)
      ∙ append_assoc (waiting_text p m.text) stop_line (last_text p.mark.kind p.mark.right)
      ∙ ap (λ (n : ℕ). waiting_text p m.text ++ (stop_text p.mark.kind n ++ last_text p.mark.kind p.mark.right)) number

  error_ended : (error_put p m.text).sitting.ended ≡ p.ended
  unfolding error_put last_put
  error_ended = refl

  error_stage : (error_put p m.text).sitting.stage ≡ stage.Last
  unfolding error_put last_put
  error_stage = refl

  pub stands_last : ((rest : List ℕ) → MayFollow p rest → remaining k p m rest ≡ last_text k p.mark.right)
      → Standing k s read wrote (put_in m (last_put p m.text))
  stands_last only =
      last (last_stage p m.text)
      (λ rest f.
      let g : MayFollow p rest = λ e. f (last_ended p m.text ∙ e) in
      h.output rest g
      ∙ ap (λ (x : List ℕ). wrote ++ x)
      (ap (λ (x : List ℕ). waiting_text p m.text ++ x) (only rest g ∙ ap (λ (j : Kind). last_text j p.mark.right) (sym h.kind))
      ∙ sym (last_waits p m.text h.filled (omega (arith, room, last_short)) h.room.text_most)))

  pub stands_error : ((rest : List ℕ) → MayFollow p rest → remaining k p m rest ≡ stop_text k (p.lines + 1) ++ last_text k p.mark.right)
      → Standing k s read wrote (put_in m (error_put p m.text))
  stands_error only =
      last error_stage
      (λ rest f.
      let g : MayFollow p rest = λ e. f (error_ended ∙ e) in
      h.output rest g
      ∙ ap (λ (x : List ℕ). wrote ++ x)
      (ap (λ (x : List ℕ). waiting_text p m.text ++ x)
      (only rest g ∙ ap (λ (j : Kind). stop_text j (p.lines + 1) ++ last_text j p.mark.right) (sym h.kind))
      ∙ sym error_waits))

  -- ---- where the input has come to its end, and at a line that is too long to be read

  module _ (rest-row : in_row p.mark.verdict ≡ false) where
    pub ends_here : find_of (unread p m.input) p.ended ≡ found.Nothing → Standing k s read wrote (put_in m (last_put p m.text))
    ends_here e =
        let n = find_nothing (unread p m.input) p.ended e in
        stands_last
        (λ rest f. as_rows k s read wrote p m h rest-row rest
        ∙ ap (λ (r : Rows). print_rows k (p.lines + 1) p.mark.right r)
        (rows_none k p.day m.lent (unread p m.input ++ rest) (rw (n.1, f n.0) nothing_found))
        ∙ print_ended k (p.lines + 1) p.mark.right m.lent)

    pub stands_long : find_of (unread p m.input) p.ended ≡ found.TooLong → Standing k s read wrote (put_in m (error_put p m.text))
    stands_long e =
        stands_error
        (λ rest f. as_rows k s read wrote p m h rest-row rest
        ∙ ap (λ (r : Rows). print_rows k (p.lines + 1) p.mark.right r)
        (rows_long k p.day m.lent (unread p m.input ++ rest) (find_long (unread p m.input) rest p.ended e))
        ∙ print_stopped k (p.lines + 1) p.mark.right m.lent)

-- ---- writing

not_done : (p : Sitting) → (flushed_of false p).stage ≡ stage.Done → ⊥
unfolding flushed_of
not_done p e = let z : ◌≡◌ {A = ℕ} 0 1 = cc in omega arith

clash_going : stage.Going ≡ stage.Done → ⊥
clash_going e = let z : ◌≡◌ {A = ℕ} 0 1 = cc in omega arith

clash_last : stage.Last ≡ stage.Done → ⊥
clash_last e = let z : ◌≡◌ {A = ℕ} 0 1 = cc in omega arith

broken_over : (p : Sitting) → over_of (flushed_of false p).stage ≡ true
unfolding over_of flushed_of
broken_over p = refl

flushed_ended : (p : Sitting) → (flushed_of true p).ended ≡ p.ended
unfolding flushed_of
flushed_ended p = refl

broken_ended : (p : Sitting) → (flushed_of false p).ended ≡ p.ended
unfolding flushed_of
broken_ended p = refl

done_over : (p : Sitting) → p.stage ≡ stage.Last → over_of (flushed_of true p).stage ≡ true
unfolding over_of flushed_of written_stage
done_over p e = rw e

module _ (k : Kind) (s : Start) (read wrote : List ℕ) (p : Sitting) (m : Memory) where
  abbrev waits : List ℕ
  waits = waiting_text p m.text

  -- writing failed
  breaks : (more : List ℕ → List ℕ) → ((rest : List ℕ) → MayFollow p rest → output_of k s (read ++ rest) ≡ wrote ++ (waits ++ more rest))
      → (n : ℕ) → Standing k s read (wrote ++ take n waits) (state (flushed_of false p) m)
  breaks more output n =
      over (broken_over p)
      (record {
        front = λ rest f. front_of wrote waits (more rest) (output_of k s (read ++ rest)) n (output rest (λ e. f (broken_ended p ∙ e)));
        whole = λ rest f e. absurd (not_done p e);
      })

  pub breaks_going : Holds k s read wrote p m → (n : ℕ) → Standing k s read (wrote ++ take n waits) (state (flushed_of false p) m)
  breaks_going h n = breaks (λ rest. remaining k p m rest) h.output n

  module _ (e : Ends k s read wrote p m.text) where
    nothing_more : (rest : List ℕ) → MayFollow p rest → output_of k s (read ++ rest) ≡ wrote ++ (waits ++ [])
    nothing_more rest f = rw (append-nil waits) (e rest f)

    pub breaks_last : (n : ℕ) → Standing k s read (wrote ++ take n waits) (state (flushed_of false p) m)
    breaks_last n = breaks (λ rest. []) nothing_more n

    -- all is written
    pub flushes_last : p.stage ≡ stage.Last → Standing k s read (wrote ++ waits) (state (flushed_of true p) m)
    flushes_last g =
        over (done_over p g)
        (record {
          front = λ rest f. record {
            back = [];
            is = append-nil (wrote ++ waits) ∙ sym (e rest (λ x. f (flushed_ended p ∙ x)));
          };
          whole = λ rest f d. sym (e rest (λ x. f (flushed_ended p ∙ x)));
        })

-- ---- a run that stands so prints the output

pub stands_prints : (k : Kind) (s : Start) (read wrote : List ℕ) (after : State) → Standing k s read wrote after → Prints k s read wrote after
stands_prints k s read wrote after (going g h) =
    let p = after.sitting in
    let m = after.memory in
    record {
      front = λ rest f. front_none wrote (waiting_text p m.text) (remaining k p m rest) (output_of k s (read ++ rest)) (h.output rest f);
      whole = λ rest f e. absurd (clash_going (sym g ∙ e));
    }
stands_prints k s read wrote after (last g e) =
    let p = after.sitting in
    let m = after.memory in
    record {
      front = λ rest f. front_none wrote (waiting_text p m.text) [] (output_of k s (read ++ rest)) (nothing_more k s read wrote p m e rest f);
      whole = λ rest f d. absurd (clash_last (sym g ∙ d));
    }
stands_prints k s read wrote after (over o w) = w
