-- What holds between two turns of the program (Holding.antt) holds after the next line is answered. Assumes nothing.
use Rattle.std.proofs.Common.{◌≡◌, ℕ, ◌+◌, ◌-◌, ◌^◌, ◌<◌, ◌≤◌, List, [], ◌++◌, length, take, drop, sym, refl, ap, ◌∙◌, append_assoc, arith, length-append, take-append-drop, length-take-le}
use mathlib.Core.Option.{Option, none, some}
use lib.Seq.{take-append-le}
use Rattle.lines.specs.Lines.{Printed, printed_in}
use Rattle.input.specs.declared.Found.TheVariants as found
use Rattle.input.specs.Parts.{least_of, wrapped}
use Rattle.input.specs.Input.{find_of}
use Rattle.input.proofs.Finding.{LineFound, find_line}
use Rattle.input.proofs.Places.{least_most, wrapped_same, Behind, line_behind, part_size, some_taken, line_is, behind_line}
use Rattle.replies.specs.Reply.{replied, replies_to}
use Rattle.replies.proofs.Room.{reply_most}
use Rattle.equations.specs.declared.progress.Progress.{Progress}
use Rattle.equations.specs.declared.progress.Stage.TheVariants as stage
use Rattle.equations.specs.Turn.{State, state, unread, Put, put, put_in, with_more, error_put, beyond, behind, on_reply, on_replies, answered_of, waiting_text}
use Rattle.equations.specs.Output.{lines_from}
use Rattle.equations.specs.Whole.{MayFollow}
use Rattle.equations.proofs.OutputLaws.{lines_unreadable, lines_reply}
use Rattle.equations.proofs.Holding.{remaining, Holds, few_lines}
use Rattle.equations.proofs.Ending.{Standing, going, stands_error}

-- ---- the answer, by the line's reply

module _ (p : Progress) (to : ℕ) (text : List ℕ) where
  abbrev at : ℕ
  at = least_of p.filled (length text)

  abbrev by : Option (List ℕ) → Put
  by o = on_replies p to (behind at text (replied o (drop at text)))

  by_none : by none ≡ error_put p text
  unfolding replied on_reply
  by_none = ap (λ (t : List ℕ). error_put p t) (take-append-drop at text)

  by_some : (line : List ℕ) → length (take at text ++ (printed_in line (drop at text)).text) ≡ length text
      → by (some line)
      ≡ put (with_more (beyond p to) at (printed_in line (drop at text)).size p.stage) (take at text ++ (printed_in line (drop at text)).text)
  unfolding replied on_reply
  by_some line e = rw e

module _ (read wrote : List ℕ) (s : State) (h : Holds read wrote s) (small : length read < 2 ^ 63)
    (room : 4096 ≤ length s.text - s.progress.filled) (n : ℕ)
    (e : find_of (unread s.progress s.input) s.progress.ended ≡ found.Line n) where
  abbrev p : Progress
  p = s.progress

  abbrev u : List ℕ
  u = unread p s.input

  abbrev line : List ℕ
  line = take n u

  lf : (rest : List ℕ) → MayFollow p rest → LineFound u rest n
  lf rest f = find_line u rest p.ended n e f

  here : LineFound u [] n
  here = lf [] (λ x. refl)

  within : n ≤ p.end - p.from
  within = omega (arith, here.within, part_size p.from p.end s.input h.end)

  answered_is : answered_of p n s.input s.text ≡ by p (wrapped (p.from + n)) s.text (replies_to line)
  unfolding answered_of
  answered_is =
      ap (λ (l : List ℕ). by p (wrapped (p.from + n)) s.text (replies_to l))
      (line_is p.from p.end n s.input h.end h.room.input_most within h.from)

  -- ---- one that can't be read

  stands_unreadable : replies_to line ≡ none → Standing read wrote (put_in s (error_put p s.text))
  stands_unreadable c =
      stands_error read wrote s h room small
      (λ rest f. lines_unreadable (p.lines + 1) (u ++ rest) n (lf rest f).found line (take-append-le n u rest here.within) c)

  -- ---- one that is answered

  module _ (reply : List ℕ) (c : replies_to line ≡ some reply) where
    abbrev w : Printed
    w = printed_in reply (drop (least_of p.filled (length s.text)) s.text)

    abbrev text : List ℕ
    text = take (least_of p.filled (length s.text)) s.text ++ w.text

    abbrev then : State
    then =
        state (with_more (beyond p (wrapped (p.from + n))) (least_of p.filled (length s.text)) w.size p.stage) s.input text

    short : length reply ≤ 4096
    short = reply_most line reply (omega (arith, here.most, length-take-le n u here.within)) c

    put_behind_law : Behind p.filled reply s.text (least_of p.filled (length s.text)) w
    put_behind_law = line_behind p.filled reply s.text h.filled (omega (arith, room, short)) h.room.text_most

    unread_is : unread then.progress s.input ≡ drop (n + 1) u
    unread_is = behind_line p.from p.end n s.input h.end h.room.input_most within h.from

    lines_is : wrapped (p.lines + 1) ≡ p.lines + 1
    lines_is = wrapped_same (p.lines + 1) (few_lines read wrote s h small)

    on : (rest : List ℕ) → MayFollow p rest
        → waiting_text p s.text ++ remaining p s.input rest
        ≡ waiting_text then.progress text ++ remaining then.progress s.input rest
    on rest f =
        rw (put_behind_law.waits, unread_is, lines_is, ← (lf rest f).behind)
        (ap (λ (x : List ℕ). waiting_text p s.text ++ x)
        (lines_reply (p.lines + 1) (u ++ rest) n (lf rest f).found line (take-append-le n u rest here.within) reply c)
        ∙ sym (append_assoc (waiting_text p s.text) reply
        (lines_from (length (drop (n + 1) (u ++ rest))) (p.lines + 1 + 1) (drop (n + 1) (u ++ rest)))))

    holds_answered : Holds read wrote then
    holds_answered =
        record {
          room = record {
            lines = h.room.lines;
            input_most = h.room.input_most;
            line = omega (arith, h.room.line, put_behind_law.size);
            text_most = omega (arith, h.room.text_most, put_behind_law.size);
          };
          from = least_most (wrapped (wrapped (p.from + n) + 1)) p.end;
          end = h.end;
          filled = omega (arith, put_behind_law.end, put_behind_law.size, h.filled, room, short);
          passed = h.passed ++ take (n + 1) u;
          is = rw unread_is
              (h.is ∙ ap (λ (x : List ℕ). h.passed ++ x) (sym (take-append-drop (n + 1) u))
              ∙ sym (append_assoc h.passed (take (n + 1) u) (drop (n + 1) u)));
          lines = rw lines_is (omega (arith, h.lines, length-append h.passed (take (n + 1) u), some_taken n u here.some));
          output = λ rest f. h.output rest f ∙ ap (λ (x : List ℕ). wrote ++ x) (on rest f);
        }

  pub stands_line : p.stage ≡ stage.Going → Standing read wrote (put_in s (answered_of p n s.input s.text))
  stands_line g = rw answered_is (go (replies_to line) refl)
    where
      go : (o : Option (List ℕ)) → replies_to line ≡ o → Standing read wrote (put_in s (by p (wrapped (p.from + n)) s.text o))
      go none c = rw (by_none p (wrapped (p.from + n)) s.text) (stands_unreadable c)
      go (some reply) c =
          rw (by_some p (wrapped (p.from + n)) s.text reply (put_behind_law reply c).size) (going g (holds_answered reply c))
