-- What holds between two turns of the program: what was written, what waits to be written and what is still to come are the output. Each turn keeps it.
-- Assumes nothing.
use Rattle.std.proofs.Common.{◌≡◌, ℕ, ◌+◌, ◌^◌, ◌<◌, ◌≤◌, true, false, List, [], ◌++◌, length, take, sym, refl, ap, ◌∙◌, append_assoc, arith, length-append}
use Rattle.input.specs.declared.Found.TheVariants as found
use Rattle.input.specs.Parts.{least_of}
use Rattle.input.specs.Input.{find_of}
use Rattle.input.proofs.Finding.{find_part}
use Rattle.input.proofs.Places.{least_first, refilled_size, refilled_part}
use Rattle.equations.specs.declared.progress.Progress.{Progress}
use Rattle.equations.specs.Turn.{State, state, new_of, unread, waiting_text, flushed_of, kept_of, filled_to}
use Rattle.equations.specs.Output.{lines_from, output_of}
use Rattle.equations.specs.Whole.{HasRoom, MayFollow}

-- what is printed from here on, where `rest` follows what was read
abbrev pub remaining : Progress → List ℕ → List ℕ → List ℕ
remaining p input rest = lines_from (length (unread p input ++ rest)) (p.lines + 1) (unread p input ++ rest)

pub record Holds (read wrote : List ℕ) (s : State) : Type 0 where
  pub room : HasRoom s.input s.text
  pub from : s.progress.from ≤ s.progress.end
  pub end : s.progress.end ≤ length s.input
  pub filled : s.progress.filled ≤ length s.text
  -- the bytes of the lines that were answered; there are no more lines than bytes
  pub passed : List ℕ
  pub is : read ≡ passed ++ unread s.progress s.input
  pub lines : s.progress.lines ≤ length passed
  pub output : (rest : List ℕ) → MayFollow s.progress rest
      → output_of (read ++ rest) ≡ wrote ++ (waiting_text s.progress s.text ++ remaining s.progress s.input rest)

pub holds_first : (input text : List ℕ) → HasRoom input text → Holds [] [] (state new_of input text)
unfolding output_of
holds_first input text r =
    record {
      room = r;
      from = omega arith;
      end = omega arith;
      filled = omega arith;
      passed = [];
      is = refl;
      lines = omega arith;
      output = λ rest f. rw (least_first 0 (length text) (omega arith));
    }

module _ (read wrote : List ℕ) (s : State) (h : Holds read wrote s) where
  abbrev p : Progress
  p = s.progress

  pub few_lines : length read < 2 ^ 63 → p.lines + 1 < 2 ^ 64
  few_lines small = omega (arith, small, h.lines, ap (λ (x : List ℕ). length x) h.is, length-append h.passed (unread p s.input))

  -- ---- writing

  pub holds_written : Holds read (wrote ++ waiting_text p s.text) (state (flushed_of true p) s.input s.text)
  unfolding flushed_of
  holds_written =
      record {
        room = h.room;
        from = h.from;
        end = h.end;
        filled = omega arith;
        passed = h.passed;
        is = h.is;
        lines = h.lines;
        output = λ rest f. h.output rest f ∙ on rest;
      }
    where
      on : (rest : List ℕ)
          → wrote ++ (waiting_text p s.text ++ remaining p s.input rest)
          ≡ wrote ++ waiting_text p s.text ++ (take (least_of 0 (length s.text)) s.text ++ remaining p s.input rest)
      on rest =
          rw (least_first 0 (length s.text) (omega arith)) (sym (append_assoc wrote (waiting_text p s.text) (remaining p s.input rest)))

  -- ---- more input

  module _ (e : find_of (unread p s.input) p.ended ≡ found.Part) (n : ℕ) (brought : List ℕ)
      (fits : kept_of p s.input + length brought ≡ length s.input) (few : n ≤ length brought) where
    abbrev u : List ℕ
    u = unread p s.input

    abbrev more : State
    more = filled_to s n brought

    input_size : length more.input ≡ length s.input
    input_size = refilled_size p.from p.end s.input h.end n brought fits

    unread_more : unread more.progress more.input ≡ u ++ take n brought
    unread_more = refilled_part p.from p.end s.input h.end n brought fits

    not_ended : (rest : List ℕ) → MayFollow p rest
    not_ended rest f = let z : false ≡ true = sym (find_part u p.ended e) ∙ f in cc

    on_more : (rest : List ℕ) → remaining p s.input (take n brought ++ rest) ≡ remaining more.progress more.input rest
    on_more rest =
        rw unread_more (ap (λ (x : List ℕ). lines_from (length x) (p.lines + 1) x) (sym (append_assoc u (take n brought) rest)))

    pub holds_filled : Holds (read ++ take n brought) wrote more
    holds_filled =
        record {
          room = record {
            lines = omega (arith, h.room.lines, input_size);
            input_most = omega (arith, h.room.input_most, input_size);
            line = h.room.line;
            text_most = h.room.text_most;
          };
          from = omega arith;
          end = omega (arith, input_size, fits, few);
          filled = h.filled;
          passed = h.passed;
          is = rw unread_more (ap (λ (x : List ℕ). x ++ take n brought) h.is ∙ append_assoc h.passed u (take n brought));
          lines = h.lines;
          output = λ rest f. ap output_of (append_assoc read (take n brought) rest)
              ∙ h.output (take n brought ++ rest) (not_ended (take n brought ++ rest))
              ∙ ap (λ (x : List ℕ). wrote ++ (waiting_text p s.text ++ x)) (on_more rest);
        }
