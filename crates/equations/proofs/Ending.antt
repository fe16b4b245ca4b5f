-- The end of a run: all lines are answered, and then what was written and what waits is all of the output. Assumes nothing.
use Rattle.std.proofs.Common.{◌≡◌, ℕ, ◌+◌, ◌-◌, ◌^◌, ◌<◌, ◌≤◌, true, false, List, [], ◌++◌, length, take, sym, refl, ap, ◌∙◌, append-nil, arith}
use Rattle.lines.specs.Lines.{error_line}
use Rattle.lines.proofs.LineLaws.{error_most}
use Rattle.input.specs.declared.Found.TheVariants as found
use Rattle.input.specs.Parts.{wrapped}
use Rattle.input.specs.Input.{find_of}
use Rattle.input.proofs.Finding.{find_long, find_nothing, nothing_found}
use Rattle.input.proofs.Places.{wrapped_same, line_behind, front_of, front_none}
use Rattle.equations.specs.declared.progress.Progress.{Progress}
use Rattle.equations.specs.declared.progress.Stage.TheVariants as stage
use Rattle.equations.specs.Turn.{State, state, over_of, with_stage, unread, put_in, error_put, waiting_text, written_stage, flushed_of}
use Rattle.equations.specs.Output.{output_of}
use Rattle.equations.specs.Whole.{MayFollow, Prints}
use Rattle.equations.proofs.OutputLaws.{lines_none, lines_long}
use Rattle.equations.proofs.Holding.{remaining, Holds, few_lines}

-- what was written and what waits is all of the output
abbrev pub Ends : List ℕ → List ℕ → Progress → List ℕ → Type 0
Ends read wrote p text = (rest : List ℕ) → MayFollow p rest → output_of (read ++ rest) ≡ wrote ++ waiting_text p text

-- the program goes on and what holds between two turns does; or only writing is left; or it is over and has printed the output
pub data Standing (read wrote : List ℕ) (s : State) : Type 0 where
  going : s.progress.stage ≡ stage.Going → Holds read wrote s → Standing read wrote s
  last : s.progress.stage ≡ stage.Last → Ends read wrote s.progress s.text → Standing read wrote s
  over : over_of s.progress.stage ≡ true → Prints read wrote s → Standing read wrote s

module _ (read wrote : List ℕ) (s : State) (h : Holds read wrote s) where
  abbrev p : Progress
  p = s.progress

  -- ---- the input's end

  pub stands_end : find_of (unread p s.input) p.ended ≡ found.Nothing
      → Standing read wrote (state (with_stage p stage.Last) s.input s.text)
  stands_end e =
      let n = find_nothing (unread p s.input) p.ended e in
      last refl
      (λ rest f. h.output rest f
      ∙ ap (λ (x : List ℕ). wrote ++ (waiting_text p s.text ++ x))
      (lines_none (p.lines + 1) (unread p s.input ++ rest) (rw (n.1, f n.0) nothing_found))
      ∙ ap (λ (x : List ℕ). wrote ++ x) (append-nil (waiting_text p s.text)))

  -- ---- a line that can't be read

  module _ (room : 4096 ≤ length s.text - p.filled) (small : length read < 2 ^ 63) where
    number : wrapped (p.lines + 1) ≡ p.lines + 1
    number = wrapped_same (p.lines + 1) (few_lines read wrote s h small)

    error_short : length (error_line (wrapped (p.lines + 1))) ≤ 27
    error_short = rw number (error_most (p.lines + 1) (few_lines read wrote s h small))

    error_waits : waiting_text (error_put p s.text).progress (error_put p s.text).text ≡ waiting_text p s.text ++ error_line (p.lines + 1)
    unfolding error_put
    error_waits =
        (line_behind p.filled (error_line (wrapped (p.lines + 1))) s.text h.filled (omega (arith, room, error_short)) h.room.text_most).waits
        ∙ ap (λ (k : ℕ). waiting_text p s.text ++ error_line k) number

    error_ended : (error_put p s.text).progress.ended ≡ p.ended
    unfolding error_put
    error_ended = refl

    error_stage : (error_put p s.text).progress.stage ≡ stage.Last
    unfolding error_put
    error_stage = refl

    pub stands_error : ((rest : List ℕ) → MayFollow p rest → remaining p s.input rest ≡ error_line (p.lines + 1))
        → Standing read wrote (put_in s (error_put p s.text))
    stands_error only =
        last error_stage
        (λ rest f.
        let g : MayFollow p rest = λ e. f (error_ended ∙ e) in
        h.output rest g
        ∙ ap (λ (x : List ℕ). wrote ++ x) (ap (λ (x : List ℕ). waiting_text p s.text ++ x) (only rest g) ∙ sym error_waits))

    pub stands_long : find_of (unread p s.input) p.ended ≡ found.TooLong → Standing read wrote (put_in s (error_put p s.text))
    stands_long e =
        stands_error
        (λ rest f. lines_long (p.lines + 1) (unread p s.input ++ rest) (find_long (unread p s.input) rest p.ended e))

-- ---- writing

not_done : (p : Progress) → (flushed_of false p).stage ≡ stage.Done → ⊥
unfolding flushed_of
not_done p e = let z : ◌≡◌ {A = ℕ} 0 1 = cc in omega arith

clash_going : stage.Going ≡ stage.Done → ⊥
clash_going e = let z : ◌≡◌ {A = ℕ} 0 1 = cc in omega arith

clash_last : stage.Last ≡ stage.Done → ⊥
clash_last e = let z : ◌≡◌ {A = ℕ} 0 1 = cc in omega arith

broken_over : (p : Progress) → over_of (flushed_of false p).stage ≡ true
unfolding over_of flushed_of
broken_over p = refl

flushed_ended : (p : Progress) → (flushed_of true p).ended ≡ p.ended
unfolding flushed_of
flushed_ended p = refl

broken_ended : (p : Progress) → (flushed_of false p).ended ≡ p.ended
unfolding flushed_of
broken_ended p = refl

done_over : (p : Progress) → p.stage ≡ stage.Last → over_of (flushed_of true p).stage ≡ true
unfolding over_of flushed_of written_stage
done_over p e = rw e

module _ (read wrote : List ℕ) (s : State) where
  abbrev q : Progress
  q = s.progress

  abbrev waits : List ℕ
  waits = waiting_text q s.text

  -- writing failed
  breaks : (more : List ℕ → List ℕ) → ((rest : List ℕ) → MayFollow q rest → output_of (read ++ rest) ≡ wrote ++ (waits ++ more rest))
      → (n : ℕ) → Standing read (wrote ++ take n waits) (state (flushed_of false q) s.input s.text)
  breaks more output n =
      over (broken_over q)
      (record {
        front = λ rest f. front_of wrote waits (more rest) (output_of (read ++ rest)) n (output rest (λ e. f (broken_ended q ∙ e)));
        whole = λ rest f e. absurd (not_done q e);
      })

  pub breaks_going : Holds read wrote s → (n : ℕ) → Standing read (wrote ++ take n waits) (state (flushed_of false q) s.input s.text)
  breaks_going h n = breaks (λ rest. remaining q s.input rest) h.output n

  module _ (e : Ends read wrote q s.text) where
    nothing_more : (rest : List ℕ) → MayFollow q rest → output_of (read ++ rest) ≡ wrote ++ (waits ++ [])
    nothing_more rest f = rw (append-nil waits) (e rest f)

    pub breaks_last : (n : ℕ) → Standing read (wrote ++ take n waits) (state (flushed_of false q) s.input s.text)
    breaks_last n = breaks (λ rest. []) nothing_more n

    -- all is written
    pub flushes_last : q.stage ≡ stage.Last → Standing read (wrote ++ waits) (state (flushed_of true q) s.input s.text)
    flushes_last g =
        over (done_over q g)
        (record {
          front = λ rest f. record {
            back = [];
            is = append-nil (wrote ++ waits) ∙ sym (e rest (λ x. f (flushed_ended q ∙ x)));
          };
          whole = λ rest f d. sym (e rest (λ x. f (flushed_ended q ∙ x)));
        })

-- ---- a run that stands so prints the output

pub stands_prints : (read wrote : List ℕ) (s : State) → Standing read wrote s → Prints read wrote s
stands_prints read wrote s (going g h) =
    record {
      front = λ rest f. front_none wrote (waiting_text s.progress s.text) (remaining s.progress s.input rest) (output_of (read ++ rest))
          (h.output rest f);
      whole = λ rest f e. absurd (clash_going (sym g ∙ e));
    }
stands_prints read wrote s (last g e) =
    record {
      front = λ rest f. front_none wrote (waiting_text s.progress s.text) [] (output_of (read ++ rest)) (nothing_more read wrote s e rest f);
      whole = λ rest f d. absurd (clash_last (sym g ∙ d));
    }
stands_prints read wrote s (over o w) = w
