-- What holds between two turns of the program: what was written, what waits to be written and what is still to come are the sheet of the script. Each
-- turn keeps it. Assumes nothing.
use Rattle.std.proofs.Common.{◌≡◌, ℕ, ◌+◌, ◌-◌, ◌^◌, ◌<◌, ◌≤◌, true, false, List, [], ◌++◌, length, take, drop, sym, refl, ap, ◌∙◌, append_assoc, arith, length-append, length-drop, length-take-le}
use Rattle.history.specs.Calls.{Start, made}
use Rattle.history.specs.Good.{Good}
use Rattle.input.specs.Parts.{least_of, wrapped}
use Rattle.input.proofs.Places.{least_first, wrapped_same, front_then}
use Rattle.script.specs.declared.doing.Doing.TheVariants as doing
use Rattle.script.specs.Doing.{rests_of, session_of}
use Rattle.script.specs.Day.{day_of, Stepping, step_of, step_behind}
use Rattle.script.specs.Sheet.{first_line}
use Rattle.script.proofs.Agreeing.{good_step, step_session}
use Rattle.script.proofs.SheetLaws.{step_text, step_written}
use Rattle.pass.specs.declared.Pass.{Pass}
use Rattle.pass.specs.Pass.{Memory, memory, Passing, passing, pass_of, new_of, unread, stepped_of, waiting_text, flushed_of}
use Rattle.pass.specs.Sheets.{More, lines_by, sheet_by}
use Rattle.pass.specs.Run.{HasRoom, MayFollow}
use Rattle.pass.proofs.SheetLaws.{to_come, come_rests, come_step}

-- ---- the invariant

-- what is printed from here on, where `rest` follows what was read
abbrev pub remaining : More → Pass → Memory → List ℕ → List ℕ
remaining more p m rest = to_come more p.day m.lent m.bytes (p.lines + 1) (unread p m.input ++ rest)

pub record Holds (size : ℕ) (more : More) (s : Start) (read wrote : List ℕ) (p : Pass) (m : Memory) : Type 0 where
  pub good : Good p.day.server m.lent
  pub room : HasRoom size m
  pub from : p.from ≤ p.end
  pub end : p.end ≤ length m.input
  pub filled : p.filled ≤ length m.text
  pub session : session_of p.day.doing < 4294967296
  -- the bytes of the lines that were begun; there are no more lines than bytes
  pub passed : List ℕ
  pub is : read ≡ passed ++ unread p m.input
  pub lines : p.lines ≤ length passed
  pub sheet : (rest : List ℕ) → MayFollow p rest
      → sheet_by more s (read ++ rest) ≡ first_line ++ (wrote ++ (waiting_text p m.text ++ remaining more p m rest))

-- ---- at the beginning

rest_rests : rests_of doing.Rest ≡ true
unfolding rests_of
rest_rests = refl

rest_session : session_of doing.Rest < 4294967296
unfolding session_of
rest_session = omega arith

pub holds_first : (room : ℕ) (more : More) (s : Start) (m : Memory) → m.lent ≡ (made s).lent → Good (made s).server (made s).lent → HasRoom room m
    → Holds room more s [] [] (new_of (made s).server) m
unfolding sheet_by
holds_first room more s m e g r =
    record {
      good = rw e g;
      room = r;
      from = omega arith;
      end = omega arith;
      filled = omega arith;
      session = rest_session;
      passed = [];
      is = refl;
      lines = omega arith;
      sheet = λ rest f. rw (least_first 0 (length m.text) (omega arith), e)
          (ap (λ (x : List ℕ). first_line ++ x)
          (sym (come_rests more (day_of (made s).server 0 doing.Rest) (made s).lent m.bytes 1 rest rest_rests)));
    }

-- ---- a step

-- after a step, what it printed standing behind `at` bytes
abbrev stepped_at : Pass → Memory → ℕ → Stepping → Passing
stepped_at p m at s =
    passing (pass_of s.stepped.day p.from p.end p.ended p.lines (wrapped (at + s.stepped.written)) p.stage)
    (memory s.lent m.input m.bytes (take at m.text ++ s.text))

module _ (room : ℕ) (more : More) (s : Start) (read wrote : List ℕ) (p : Pass) (m : Memory) (h : Holds room more s read wrote p m) where
  step_at : (at : ℕ) → at ≡ p.filled → rests_of p.day.doing ≡ false → 560 ≤ length m.text - p.filled
      → Holds room more s read wrote (stepped_at p m at (step_of p.day m.lent m.bytes (drop at m.text))).pass
      (stepped_at p m at (step_of p.day m.lent m.bytes (drop at m.text))).memory
  step_at at e busy big =
      record {
        good = good_step p.day m.lent m.bytes (drop at m.text) h.good;
        room = record {
          input = h.room.input;
          input_most = h.room.input_most;
          bytes = h.room.bytes;
          text = omega (arith, h.room.text, size);
          text_most = omega (arith, h.room.text_most, size);
        };
        from = h.from;
        end = h.end;
        filled = omega (arith, size, ends, whole);
        session = step_session p.day m.lent m.bytes (drop at m.text) h.session;
        passed = h.passed;
        is = h.is;
        lines = h.lines;
        sheet = λ rest f. h.sheet rest f ∙ ap (λ (x : List ℕ). first_line ++ (wrote ++ x)) (on rest);
      }
    where
      st : Stepping
      st = step_of p.day m.lent m.bytes (drop at m.text)

      size : length (take at m.text ++ st.text) ≡ length m.text
      size =
          omega (
            arith,
            e,
            h.filled,
            length-append (take at m.text) st.text,
            length-take-le at m.text (omega (arith, e, h.filled)),
            step_text p.day m.lent m.bytes (drop at m.text),
            length-drop at m.text,
          )

      ends : at + st.stepped.written ≤ length m.text
      ends =
          omega (
            arith,
            e,
            h.filled,
            step_written p.day m.lent m.bytes (drop at m.text),
            length-drop at m.text,
          )

      whole : wrapped (at + st.stepped.written) ≡ at + st.stepped.written
      whole = wrapped_same (at + st.stepped.written) (omega (arith, ends, h.room.text_most))

      waits : take (least_of (wrapped (at + st.stepped.written)) (length (take at m.text ++ st.text))) (take at m.text ++ st.text)
          ≡ take at m.text ++ take st.stepped.written st.text
      waits =
          rw (whole, size, least_first (at + st.stepped.written) (length m.text) ends)
          (front_then at st.stepped.written m.text st.text (omega (arith, e, h.filled)))

      on : (rest : List ℕ)
          → waiting_text p m.text ++ remaining more p m rest
          ≡ take (least_of (wrapped (at + st.stepped.written)) (length (take at m.text ++ st.text))) (take at m.text ++ st.text)
          ++ to_come more st.stepped.day st.lent m.bytes (p.lines + 1) (unread p m.input ++ rest)
      on rest =
          rw (
            waits,
            least_first p.filled (length m.text) h.filled,
            ← e,
            come_step more p.day m.lent m.bytes (drop at m.text) (omega (arith, e, big, length-drop at m.text)) (p.lines + 1)
                (unread p m.input ++ rest) h.good busy h.session,
          )
          (sym (append_assoc (take at m.text) (take st.stepped.written st.text)
          (to_come more st.stepped.day st.lent m.bytes (p.lines + 1) (unread p m.input ++ rest))))

  pub holds_step : rests_of p.day.doing ≡ false → 560 ≤ length m.text - p.filled
      → Holds room more s read wrote (stepped_of p m).pass (stepped_of p m).memory
  unfolding stepped_of step_behind
  holds_step busy big = step_at (least_of p.filled (length m.text)) (least_first p.filled (length m.text) h.filled) busy big

  -- ---- writing

  pub holds_written : Holds room more s read (wrote ++ waiting_text p m.text) (flushed_of true p) m
  unfolding flushed_of
  holds_written =
      record {
        good = h.good;
        room = h.room;
        from = h.from;
        end = h.end;
        filled = omega arith;
        session = h.session;
        passed = h.passed;
        is = h.is;
        lines = h.lines;
        sheet = λ rest f. h.sheet rest f ∙ ap (λ (x : List ℕ). first_line ++ x) (on rest);
      }
    where
      on : (rest : List ℕ)
          → wrote ++ (waiting_text p m.text ++ remaining more p m rest)
          ≡ wrote ++ waiting_text p m.text ++ (take (least_of 0 (length m.text)) m.text ++ remaining more p m rest)
      on rest =
          rw (least_first 0 (length m.text) (omega arith)) (sym (append_assoc wrote (waiting_text p m.text) (remaining more p m rest)))

  pub few_lines : length read < 2 ^ 63 → p.lines + 1 < 2 ^ 64
  few_lines small = omega (arith, small, h.lines, ap (λ (x : List ℕ). length x) h.is, length-append h.passed (unread p m.input))

  pub as_lines : rests_of p.day.doing ≡ true → (rest : List ℕ)
      → remaining more p m rest
      ≡ lines_by more (length (unread p m.input ++ rest)) p.day m.lent (p.lines + 1) (unread p m.input ++ rest)
  as_lines rests rest = come_rests more p.day m.lent m.bytes (p.lines + 1) (unread p m.input ++ rest) rests
