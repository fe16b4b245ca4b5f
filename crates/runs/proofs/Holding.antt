-- What holds between two turns: what was written, what waits to be written and what is still to come are the output. Each turn keeps it. Assumes nothing.
use native.Mathlib.Omega.{arith}
use mathlib.Core.Path.{◌≡◌, refl, sym, ◌∙◌, ap, subst}
use mathlib.Core.Bool.{Bool, true, false, cond}
use mathlib.Core.List.{List, [], ◌++◌, append_assoc}
use Prim.Native.Nat.{ℕ, ◌+◌, ◌-◌, ◌^◌, ◌≤◌, ◌<◌}
use lib.ListN.{length, take, drop, length-append, length-take}
use Rattle.history.specs.Calls.{Start, made}
use Rattle.history.specs.Good.{Good}
use Rattle.server.specs.State.{Lent}
use Rattle.lines.specs.Lines.{Printed, printed_in}
use Rattle.input.specs.Parts.{least_of, wrapped}
use Rattle.input.proofs.Places.{least_first, wrapped_same, Behind, line_behind}
use Rattle.script.specs.declared.Day.{Day}
use Rattle.script.specs.declared.doing.Doing.TheVariants as doing
use Rattle.script.specs.Doing.{rests_of, session_of}
use Rattle.script.specs.Day.{day_of, step_of}
use Rattle.script.specs.Line.{room}
use Rattle.script.proofs.Agreeing.{good_step, step_session}
use Rattle.script.proofs.SheetLaws.{step_text}
use Rattle.marking.specs.declared.Kind.{Kind}
use Rattle.marking.specs.declared.verdict.Verdict.{Verdict}
use Rattle.marking.specs.declared.verdict.Verdict.TheVariants as verdict
use Rattle.marking.specs.Desk.{rows_from, print_rows, rows_of, output_of}
use Rattle.marking.specs.Put.{put_behind}
use Rattle.marking.specs.Verdict as marking
use Rattle.marking.specs.Verdict.{Judges, tail_of, judged_of, Finishes}
use Rattle.marking.specs.Step.{part_in, printed_by, mark_by, mark_of}
use Rattle.rows.proofs.RowLaws.{Within, part_verdict, part_put, within_part, end_put, end_right, come_in, come_end, come_step}
use Rattle.rows.proofs.Forms.{part_is, finish_is, tail_most, part_most, end_most}
use Rattle.sitting.specs.declared.turn.Mark.{Mark}
use Rattle.sitting.specs.declared.turn.Sitting.{Sitting}
use Rattle.sitting.specs.Turn.{Memory, memory, State, state, new_of, unread, with_more, with_verdict, stepped_to, stepped_of, put_in, right_more}
use Rattle.sitting.specs.Turn.{finished_to, finish_of, waiting_text, flushed_of}
use Rattle.sitting.specs.Run.{HasRoom, MayFollow}

-- ---- the invariant

-- a line is being run
unfoldable pub in_row : Verdict → Bool
in_row verdict.Rest = false
in_row (verdict.Open matched) = true
in_row verdict.Told = true

abbrev pub answer_in : Sitting → Memory → List ℕ
answer_in p m = part_in p.mark.answer m.input

-- what is printed from here on, where `rest` follows what was read
abbrev pub between : Kind → Sitting → Memory → List ℕ → List ℕ
between k p m input = print_rows k (p.lines + 1) p.mark.right (rows_from k (length input) p.day m.lent input)

abbrev pub during : Kind → Sitting → Memory → List ℕ → List ℕ
during k p m input = come_in k p.mark.verdict (answer_in p m) p.day m.lent m.bytes (p.lines + 1) p.mark.right input

abbrev pub remaining : Kind → Sitting → Memory → List ℕ → List ℕ
remaining k p m rest =
    cond (in_row p.mark.verdict) (during k p m (unread p m.input ++ rest)) (between k p m (unread p m.input ++ rest))

-- the line that is being run has no mark yet
abbrev pub counted : Verdict → ℕ
counted v = cond (in_row v) 1 0

pub record Holds (k : Kind) (s : Start) (read wrote : List ℕ) (p : Sitting) (m : Memory) : Type 0 where
  pub kind : p.mark.kind ≡ k
  pub good : Good p.day.server m.lent
  pub room : HasRoom m
  pub from : p.from ≤ p.end
  pub end : p.end ≤ length m.input
  pub filled : p.filled ≤ length m.text
  pub session : session_of p.day.doing < 4294967296
  pub rests : in_row p.mark.verdict ≡ false → rests_of p.day.doing ≡ true
  pub within : Within p.mark.verdict (answer_in p m)
  pub marks : counted p.mark.verdict + p.mark.right ≤ p.lines
  -- the bytes of the lines that were begun; there are no more lines than bytes
  pub passed : List ℕ
  pub is : read ≡ passed ++ unread p m.input
  pub lines : p.lines ≤ length passed
  pub output : (rest : List ℕ) → MayFollow p rest
      → output_of k s (read ++ rest) ≡ wrote ++ (waiting_text p m.text ++ remaining k p m rest)

clash : true ≡ false → ⊥
clash e = let z : ◌≡◌ {A = ℕ} 0 1 = cc in omega arith

-- ---- at the beginning

rest_rests : rests_of doing.Rest ≡ true
unfolding rests_of
rest_rests = refl

rest_session : session_of doing.Rest < 4294967296
unfolding session_of
rest_session = omega arith

none_within : (answer : List ℕ) → Within verdict.Rest answer
unfolding Within
none_within answer = tt

pub holds_first : (k : Kind) (s : Start) (m : Memory) → m.lent ≡ (made s).lent → Good (made s).server (made s).lent → HasRoom m
    → Holds k s [] [] (new_of k (made s).server) m
unfolding output_of rows_of in_row
holds_first k s m e g r =
    record {
      kind = refl;
      good = rw e g;
      room = r;
      from = omega arith;
      end = omega arith;
      filled = omega arith;
      session = rest_session;
      rests = λ x. rest_rests;
      within = none_within (part_in (new_of k (made s).server).mark.answer m.input);
      marks = omega arith;
      passed = [];
      is = refl;
      lines = omega arith;
      output = λ rest f. rw (least_first 0 (length m.text) (omega arith), e) refl;
    }

row_part : (a t : List ℕ) (w : Verdict) → in_row w ≡ true → in_row (part_verdict w a t) ≡ true
unfolding in_row part_verdict
row_part a t verdict.Rest e = e
row_part a t verdict.Told e = e
row_part a t (verdict.Open matched) e = go (marking.agrees_at matched a t)
  where
    go : (b : Bool) → in_row (cond b (verdict.Open (matched + length t)) verdict.Told) ≡ true
    go true = refl
    go false = refl

-- ---- a text put behind what waits

abbrev pub put_text : Sitting → Memory → List ℕ → Printed
put_text p m line = put_behind p.filled line m.text

abbrev pub puts : Sitting → Day → Mark → Lent → Memory → List ℕ → State
puts p day mark l m line =
    state (with_more p day mark (least_of p.filled (length m.text)) (put_text p m line).size p.stage)
    (memory l m.input m.bytes (put_text p m line).text)

module _ (filled : ℕ) (line text : List ℕ) (fits : filled ≤ length text) (short : length line ≤ length text - filled) (small : length text < 2 ^ 63) where
  pub put_waits : take (least_of (wrapped (least_of filled (length text) + (put_behind filled line text).size)) (length (put_behind filled line text).text))
      (put_behind filled line text).text
      ≡ take (least_of filled (length text)) text ++ line
  unfolding put_behind
  put_waits = (line_behind filled line text fits short small).waits

  pub put_end : wrapped (least_of filled (length text) + (put_behind filled line text).size) ≡ filled + length line
  unfolding put_behind
  put_end = (line_behind filled line text fits short small).end

  pub put_size : length (put_behind filled line text).text ≡ length text
  unfolding put_behind
  put_size = (line_behind filled line text fits short small).size

module _ (k : Kind) (s : Start) (read wrote : List ℕ) (p : Sitting) (m : Memory) (h : Holds k s read wrote p m) where
  pub same_room : (line : List ℕ) → length line ≤ length m.text - p.filled → (l : Lent) (bytes : List ℕ) → length bytes ≡ length m.bytes
      → HasRoom (memory l m.input bytes (put_text p m line).text)
  same_room line short l bytes e =
      let size = put_size p.filled line m.text h.filled short h.room.text_most in
      record {
        input = h.room.input;
        input_most = h.room.input_most;
        bytes = omega (arith, h.room.bytes, e);
        text = omega (arith, h.room.text, size);
        text_most = omega (arith, h.room.text_most, size);
      }

  module _ (line : List ℕ) (short : length line ≤ length m.text - p.filled) (day : Day) (mark : Mark) (l : Lent) where
    pub holds_put : mark.kind ≡ k → Good day.server l → session_of day.doing < 4294967296
        → (in_row mark.verdict ≡ false → rests_of day.doing ≡ true)
        → Within mark.verdict (part_in mark.answer m.input)
        → counted mark.verdict + mark.right ≤ p.lines
        → ((rest : List ℕ) → remaining k p m rest ≡ line ++ remaining k (puts p day mark l m line).sitting (puts p day mark l m line).memory rest)
        → Holds k s read wrote (puts p day mark l m line).sitting (puts p day mark l m line).memory
    holds_put ki g se re wi ma on =
        record {
          kind = ki;
          good = g;
          room = same_room line short l m.bytes refl;
          from = h.from;
          end = h.end;
          filled = omega (
            arith,
            put_end p.filled line m.text h.filled short h.room.text_most,
            put_size p.filled line m.text h.filled short h.room.text_most,
            short,
            h.filled,
          );
          session = se;
          rests = re;
          within = wi;
          marks = ma;
          passed = h.passed;
          is = h.is;
          lines = h.lines;
          output = λ rest f. h.output rest f
              ∙ ap (λ (x : List ℕ). wrote ++ (waiting_text p m.text ++ x)) (on rest)
              ∙ ap (λ (x : List ℕ). wrote ++ x)
              (sym (append_assoc (waiting_text p m.text) line (remaining k (puts p day mark l m line).sitting (puts p day mark l m line).memory rest))
              ∙ ap (λ (x : List ℕ). x ++ remaining k (puts p day mark l m line).sitting (puts p day mark l m line).memory rest)
              (sym (put_waits p.filled line m.text h.filled short h.room.text_most)));
        }

  -- ---- a step

  module _ (row : in_row p.mark.verdict ≡ true) (big : 131700 ≤ length m.text - p.filled) where
    abbrev v : Verdict
    v = p.mark.verdict

    abbrev a : List ℕ
    a = answer_in p m

    made_most : length (printed_by (step_of p.day m.lent m.bytes room)) ≤ 560
    made_most =
        omega (
          arith,
          length-take (step_of p.day m.lent m.bytes room).stepped.written (step_of p.day m.lent m.bytes room).text,
          step_text p.day m.lent m.bytes room,
        )

    abbrev tail : List ℕ
    tail = tail_of (printed_by (step_of p.day m.lent m.bytes room))

    tail_short : length tail ≤ 560
    tail_short = omega (arith, made_most, tail_most (printed_by (step_of p.day m.lent m.bytes room)))

    abbrev mark_then : Mark
    mark_then = with_verdict p.mark (part_verdict v a tail)

    abbrev then : State
    then =
        puts p (step_of p.day m.lent m.bytes room).stepped.day mark_then (step_of p.day m.lent m.bytes room).lent m
        (part_put v a tail)

    stepped_is : stepped_of p m ≡ then
    unfolding stepped_of mark_of judged_of
    stepped_is =
        ap (λ (j : Judges). stepped_to p m (mark_by (step_of p.day m.lent m.bytes room) j))
        (part_is v a tail m.text p.filled h.within tail_short)

    row_then : in_row (part_verdict v a tail) ≡ true
    row_then = row_part a tail v row

    on_step : rests_of p.day.doing ≡ false → (rest : List ℕ)
        → remaining k p m rest ≡ part_put v a tail ++ remaining k then.sitting then.memory rest
    on_step busy rest =
        rw (row, row_then)
        (come_step p.day m.lent m.bytes h.good busy h.session k v a (p.lines + 1) p.mark.right
        (unread p m.input ++ rest) h.within)

    pub holds_step : rests_of p.day.doing ≡ false → Holds k s read wrote (stepped_of p m).sitting (stepped_of p m).memory
    holds_step busy =
        rw stepped_is
        (holds_put (part_put v a tail) (omega (arith, big, part_most v a tail h.within tail_short))
        (step_of p.day m.lent m.bytes room).stepped.day mark_then (step_of p.day m.lent m.bytes room).lent h.kind
        (good_step p.day m.lent m.bytes room h.good) (step_session p.day m.lent m.bytes room h.session)
        (λ e. absurd (clash (sym row_then ∙ e)))
        (within_part a tail v h.within)
        (rw row_then (rw row at h.marks))
        (on_step busy))

    -- ---- a line's end

    abbrev mark_done : Mark
    mark_done = right_more p.mark (end_right v a)

    abbrev done : State
    done = puts p p.day mark_done m.lent m (end_put v a)

    finished_is : put_in m (finish_of p m.input m.text) ≡ done
    unfolding finish_of
    finished_is = ap (λ (f : Finishes). put_in m (finished_to p m.text f)) (finish_is v a m.text p.filled)

    few : p.mark.right + 1 ≤ p.lines
    few = flip p.mark.right p.lines (rw row at h.marks)
      where
        flip : (n l : ℕ) → 1 + n ≤ l → n + 1 ≤ l
        flip n l e = omega (arith, e)

    module _ (small : length read < 2 ^ 63) where
      right_same : cond (end_right v a) (wrapped (p.mark.right + 1)) p.mark.right ≡ cond (end_right v a) (p.mark.right + 1) p.mark.right
      right_same =
          ap (λ (n : ℕ). cond (end_right v a) n p.mark.right)
          (wrapped_same (p.mark.right + 1)
          (omega (arith, few, small, h.lines, ap (λ (x : List ℕ). length x) h.is, length-append h.passed (unread p m.input))))

      right_most : cond (end_right v a) (p.mark.right + 1) p.mark.right ≤ p.lines
      right_most = go (end_right v a)
        where
          go : (t : Bool) → cond t (p.mark.right + 1) p.mark.right ≤ p.lines
          go true = few
          go false = omega (arith, few)

      on_finish : rests_of p.day.doing ≡ true → (rest : List ℕ)
          → remaining k p m rest ≡ end_put v a ++ remaining k done.sitting done.memory rest
      unfolding in_row
      on_finish quiet rest =
          rw (row, right_same)
          (come_end k v a p.day m.lent m.bytes (p.lines + 1) p.mark.right (unread p m.input ++ rest) quiet h.within)

      rest_counts : (n : ℕ) → n ≤ p.lines → counted verdict.Rest + n ≤ p.lines
      unfolding in_row
      rest_counts n e = omega (arith, e)

      pub holds_finish : rests_of p.day.doing ≡ true
          → Holds k s read wrote (put_in m (finish_of p m.input m.text)).sitting (put_in m (finish_of p m.input m.text)).memory
      holds_finish quiet =
          subst (λ (st : State). Holds k s read wrote st.sitting st.memory) (sym finished_is)
          (holds_put (end_put v a) (omega (arith, big, end_most v a h.within)) p.day mark_done m.lent h.kind h.good h.session
          (λ e. quiet) (none_within (answer_in p m)) (rw right_same (rest_counts _ right_most)) (on_finish quiet))

  -- ---- writing

  pub holds_written : Holds k s read (wrote ++ waiting_text p m.text) (flushed_of true p) m
  unfolding flushed_of
  holds_written =
      record {
        kind = h.kind;
        good = h.good;
        room = h.room;
        from = h.from;
        end = h.end;
        filled = omega arith;
        session = h.session;
        rests = h.rests;
        within = h.within;
        marks = h.marks;
        passed = h.passed;
        is = h.is;
        lines = h.lines;
        output = λ rest f. h.output rest f ∙ on rest;
      }
    where
      on : (rest : List ℕ)
          → wrote ++ (waiting_text p m.text ++ remaining k p m rest)
          ≡ wrote ++ waiting_text p m.text ++ (take (least_of 0 (length m.text)) m.text ++ remaining k p m rest)
      on rest =
          rw (least_first 0 (length m.text) (omega arith)) (sym (append_assoc wrote (waiting_text p m.text) (remaining k p m rest)))

  pub few_lines : length read < 2 ^ 63 → p.lines + 1 < 2 ^ 64
  few_lines small = omega (arith, small, h.lines, ap (λ (x : List ℕ). length x) h.is, length-append h.passed (unread p m.input))

  pub few_right : length read < 2 ^ 63 → p.mark.right < 2 ^ 64
  few_right small = go (in_row p.mark.verdict) h.marks
    where
      go : (t : Bool) → cond t 1 0 + p.mark.right ≤ p.lines → p.mark.right < 2 ^ 64
      go true e = omega (arith, e, few_lines small)
      go false e = omega (arith, e, few_lines small)

  pub as_rows : in_row p.mark.verdict ≡ false → (rest : List ℕ) → remaining k p m rest ≡ between k p m (unread p m.input ++ rest)
  as_rows e rest = rw e
