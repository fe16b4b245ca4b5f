-- What holds between two turns of the program (Holding.antt) holds after the next line is begun, or done where it is one of more words, and after more
-- input is read. Assumes nothing.
use Rattle.std.proofs.Common.{◌≡◌, ℕ, ◌+◌, ◌-◌, ◌^◌, ◌<◌, ◌≤◌, Bool, true, false, List, [], ◌++◌, length, take, drop, sym, refl, ap, ◌∙◌, append_assoc, arith, length-append, take-append-drop, length-take-le}
use mathlib.Core.Option.{Option, none, some}
use lib.Seq.{take-append-le}
use Rattle.history.specs.Calls.{Start}
use Rattle.history.specs.Good.{Good}
use Rattle.lines.specs.declared.commands.Command.{Command}
use Rattle.lines.specs.declared.commands.Command.TheVariants as command
use Rattle.lines.specs.Commands.{command_of, rx_bytes, read_of}
use Rattle.lines.specs.Lines.{printed_in}
use Rattle.script.specs.declared.doing.Doing.{Doing}
use Rattle.script.specs.declared.doing.Doing.TheVariants as doing
use Rattle.input.specs.declared.Found.TheVariants as found
use Rattle.input.specs.Parts.{bytes_from, least_of, wrapped}
use Rattle.script.specs.Doing.{rests_of, session_of}
use Rattle.input.specs.Input.{find_of}
use Rattle.script.specs.Day.{begin_of}
use Rattle.script.specs.Line.{Ran}
use Rattle.script.specs.Sheet.{first_line, Counted}
use Rattle.script.proofs.Reaching.{begin_server}
use Rattle.script.proofs.Agreeing.{Agree}
use Rattle.script.proofs.Commands.{begin_session, ReadsLine, reads_line}
use Rattle.input.proofs.Finding.{LineFound, find_line, find_part}
use Rattle.input.proofs.Places.{least_most, wrapped_same, part_size, some_taken, line_is, behind_line, line_behind, Behind, refilled_size, refilled_part}
use Rattle.script.proofs.SheetLaws.{readable, not_readable}
use Rattle.pass.specs.declared.Pass.{Pass}
use Rattle.pass.specs.declared.Stage.TheVariants as stage
use Rattle.pass.specs.Pass.{Memory, memory, Passing, passing, unread, error_of, beyond, said_to, said_of, begun_as, read_at, does_at, begun_of, waiting_text}
use Rattle.pass.specs.Pass.{kept_of, filled_to}
use Rattle.pass.specs.Sheets.{More, Fair, sheet_by}
use Rattle.pass.specs.Run.{MayFollow}
use Rattle.pass.proofs.SheetLaws.{to_come, come_rests, lines_unreadable, lines_said, lines_begin_in}
use Rattle.pass.proofs.Holding.{remaining, Holds, few_lines, as_lines}
use Rattle.pass.proofs.Ending.{Standing, going, last, error_stage, ends_error}

clash : false ≡ true → ⊥
clash e = let z : ◌≡◌ {A = ℕ} 0 1 = cc in omega arith

-- ---- the next line

rests_agree : (d : Doing) (a b : List ℕ) → rests_of d ≡ true → Agree d a b
unfolding rests_of Agree
rests_agree doing.Rest a b e = tt
rests_agree (doing.Opening session) a b e = tt
rests_agree (doing.Dropping session) a b e = tt
rests_agree (doing.Hearing session at n) a b e = absurd (clash e)
rests_agree (doing.Pumping session) a b e = tt

rests_session : (d : Doing) → rests_of d ≡ true → session_of d < 4294967296
unfolding rests_of session_of
rests_session doing.Rest e = omega arith
rests_session (doing.Opening session) e = absurd (clash e)
rests_session (doing.Dropping session) e = absurd (clash e)
rests_session (doing.Hearing session at n) e = absurd (clash e)
rests_session (doing.Pumping session) e = absurd (clash e)

begun_on : (does : Option Ran) (p : Pass) (to : ℕ) (c : Command) (m : Memory) → readable c ≡ true → begun_as does p to c m ≡ passing (beyond p to c) m
unfolding readable begun_as
begun_on does p to command.Unreadable m e = absurd (clash e)
begun_on does p to (command.Time clock) m e = refl
begun_on does p to (command.Open session) m e = refl
begun_on does p to (command.Drop session) m e = refl
begun_on does p to (command.Rx session n) m e = refl

begun_said : (does : Option Ran) (p : Pass) (to : ℕ) (c : Command) (m : Memory) → c ≡ command.Unreadable → begun_as does p to c m ≡ said_of does p to m
unfolding begun_as
begun_said does p to c m e = rw e

said_none : (p : Pass) (to : ℕ) (m : Memory) → said_of none p to m ≡ error_of p m
unfolding said_of
said_none p to m = refl

said_some : (r : Ran) (p : Pass) (to : ℕ) (m : Memory)
    → said_of (some r) p to m ≡ said_to r p to m (printed_in r.printed (drop (least_of p.filled (length m.text)) m.text))
unfolding said_of
said_some r p to m = refl

module _ (room : ℕ) (more : More) (s : Start) (read wrote : List ℕ) (p : Pass) (m : Memory) (h : Holds room more s read wrote p m) where
  abbrev u : List ℕ
  u = unread p m.input

  size : length u ≡ p.end - p.from
  size = part_size p.from p.end m.input h.end

  -- ---- a line is begun

  module _ (rests : rests_of p.day.doing ≡ true) (small : length read < 2 ^ 63) (n : ℕ) (e : find_of u p.ended ≡ found.Line n) where
    abbrev line : List ℕ
    line = take n u

    abbrev bytes : List ℕ
    bytes = (read_of line m.bytes).bytes

    lf : (rest : List ℕ) → MayFollow p rest → LineFound u rest n
    lf rest f = find_line u rest p.ended n e f

    here : LineFound u [] n
    here = lf [] (λ x. refl)

    within : n ≤ p.end - p.from
    within = omega (arith, here.within, size)

    is : bytes_from p.from (wrapped (p.from + n)) m.input ≡ line
    is = line_is p.from p.end n m.input h.end h.room.input_most within h.from

    reads : ReadsLine p.day line m.bytes (command_of line) (read_of line m.bytes)
    reads =
        reads_line p.day line m.bytes (omega (arith, here.most, length-take-le n u here.within)) h.room.bytes

    abbrev to : ℕ
    to = wrapped (p.from + n)

    -- the memory after the line is read
    abbrev left : Memory
    left = memory m.lent m.input bytes m.text

    abbrev does : Option Ran
    does = more p.day m.lent line

    begun_is : begun_of more p n m ≡ begun_as does p to (command_of line) left
    unfolding begun_of
    begun_is =
        ap (λ (l : List ℕ). begun_as (more p.day m.lent l) p (wrapped (p.from + n)) (read_of l m.bytes).command
        (memory m.lent m.input (read_of l m.bytes).bytes m.text)) is
        ∙ ap (λ (c : Command). begun_as does p to c left) reads.command

    -- the command of the line that is read in place, and what it does
    read_is : (read_at p n m).command ≡ command_of line
    read_is = ap (λ (l : List ℕ). (read_of l m.bytes).command) is ∙ reads.command

    does_is : does_at more p n m ≡ does
    does_is = ap (λ (l : List ℕ). more p.day m.lent l) is

    unread_is : bytes_from (least_of (wrapped (wrapped (p.from + n) + 1)) p.end) p.end m.input ≡ drop (n + 1) u
    unread_is = behind_line p.from p.end n m.input h.end h.room.input_most within h.from

    lines_is : wrapped (p.lines + 1) ≡ p.lines + 1
    lines_is = wrapped_same (p.lines + 1) (few_lines room more s read wrote p m h small)

    good_begun : Good (begin_of p.day (command_of line)).server m.lent
    good_begun = rw (begin_server p.day (command_of line)) h.good

    on : readable (command_of line) ≡ true → (rest : List ℕ) → MayFollow p rest
        → remaining more p m rest
        ≡ remaining more (beyond p (wrapped (p.from + n)) (command_of line)) (memory m.lent m.input bytes m.text) rest
    on c rest f =
        rw (unread_is, lines_is, ← (lf rest f).behind)
        (as_lines room more s read wrote p m h rests rest
        ∙ lines_begin_in more p.day m.lent (p.lines + 1) n (u ++ rest) (lf rest f).found line (take-append-le n u rest here.within) bytes
        good_begun c
        (reads.agree (rests_agree p.day.doing (rx_bytes line) bytes rests)))

    holds_begun : readable (command_of line) ≡ true
        → Holds room more s read wrote (beyond p (wrapped (p.from + n)) (command_of line)) (memory m.lent m.input bytes m.text)
    holds_begun c =
        record {
          good = good_begun;
          room = record {
            input = h.room.input;
            input_most = h.room.input_most;
            bytes = omega (arith, h.room.bytes, reads.size);
            text = h.room.text;
            text_most = h.room.text_most;
          };
          from = least_most (wrapped (wrapped (p.from + n) + 1)) p.end;
          end = h.end;
          filled = h.filled;
          session = begin_session p.day line h.session;
          passed = h.passed ++ take (n + 1) u;
          is = rw unread_is
              (h.is ∙ ap (λ (x : List ℕ). h.passed ++ x) (sym (take-append-drop (n + 1) u))
              ∙ sym (append_assoc h.passed (take (n + 1) u) (drop (n + 1) u)));
          lines = rw lines_is (omega (arith, h.lines, length-append h.passed (take (n + 1) u), some_taken n u here.some));
          sheet = λ rest f. h.sheet rest f ∙ ap (λ (x : List ℕ). first_line ++ (wrote ++ (waiting_text p m.text ++ x))) (on c rest f);
        }

    -- ---- a line of more words

    module _ (fair : Fair room more) (big : room ≤ length m.text - p.filled) (c : command_of line ≡ command.Unreadable) (r : Ran) (d : does ≡ some r) where
      said : Behind p.filled r.printed m.text (least_of p.filled (length m.text))
          (printed_in r.printed (drop (least_of p.filled (length m.text)) m.text))
      said =
          line_behind p.filled r.printed m.text h.filled
          (omega (arith, big, fair.short p.day m.lent line r (omega (arith, here.most, length-take-le n u here.within)) d)) h.room.text_most

      abbrev told : Passing
      told = said_to r p to left (printed_in r.printed (drop (least_of p.filled (length m.text)) m.text))

      on_said : (rest : List ℕ) → MayFollow p rest → remaining more p m rest ≡ r.printed ++ remaining more told.pass told.memory rest
      on_said rest f =
          rw (unread_is, lines_is, ← (lf rest f).behind)
          (as_lines room more s read wrote p m h rests rest
          ∙ lines_said more p.day m.lent (p.lines + 1) n (u ++ rest) (lf rest f).found line (take-append-le n u rest here.within) c r d
          ∙ ap (λ (x : List ℕ). r.printed ++ x)
          (sym (come_rests more r.day r.lent bytes (p.lines + 1 + 1) (drop (n + 1) (u ++ rest))
          (fair.rests p.day m.lent line r rests d))))

      holds_said : Holds room more s read wrote told.pass told.memory
      holds_said =
          record {
            good = fair.good p.day m.lent line r h.good d;
            room = record {
              input = h.room.input;
              input_most = h.room.input_most;
              bytes = omega (arith, h.room.bytes, reads.size);
              text = omega (arith, h.room.text, said.size);
              text_most = omega (arith, h.room.text_most, said.size);
            };
            from = least_most (wrapped (wrapped (p.from + n) + 1)) p.end;
            end = h.end;
            filled = omega (
              arith,
              said.end,
              said.size,
              h.filled,
              big,
              fair.short p.day m.lent line r (omega (arith, here.most, length-take-le n u here.within)) d,
            );
            session = rests_session r.day.doing (fair.rests p.day m.lent line r rests d);
            passed = h.passed ++ take (n + 1) u;
            is = rw unread_is
                (h.is ∙ ap (λ (x : List ℕ). h.passed ++ x) (sym (take-append-drop (n + 1) u))
                ∙ sym (append_assoc h.passed (take (n + 1) u) (drop (n + 1) u)));
            lines = rw lines_is (omega (arith, h.lines, length-append h.passed (take (n + 1) u), some_taken n u here.some));
            sheet = λ rest f. h.sheet rest f
                ∙ ap (λ (x : List ℕ). first_line ++ (wrote ++ x))
                (ap (λ (x : List ℕ). waiting_text p m.text ++ x) (on_said rest f)
                ∙ sym (append_assoc (waiting_text p m.text) r.printed (remaining more told.pass told.memory rest))
                ∙ ap (λ (x : List ℕ). x ++ remaining more told.pass told.memory rest) (sym said.waits));
          }

    module _ (fair : Fair room more) (enough : 560 ≤ room) (big : room ≤ length m.text - p.filled)
        (counted : (read_at p n m).command ≡ command.Unreadable → does_at more p n m ≡ none → Counted m.lent.map m.lent.owner) where
      stands_unreadable : command_of line ≡ command.Unreadable → does ≡ none → Standing room more s read wrote (error_of p left)
      stands_unreadable c d =
          let k = counted (read_is ∙ c) (does_is ∙ d) in
          last (error_stage room more s read wrote p m h k (omega (arith, enough, big)) small bytes)
          (ends_error room more s read wrote p m h k (omega (arith, enough, big)) small bytes
          (λ rest f. as_lines room more s read wrote p m h rests rest
          ∙ lines_unreadable more p.day m.lent (p.lines + 1) n (u ++ rest) (lf rest f).found line (take-append-le n u rest here.within) c d))

      stands_said : p.stage ≡ stage.Going → command_of line ≡ command.Unreadable → (o : Option Ran) → does ≡ o
          → Standing room more s read wrote (said_of o p to left)
      stands_said g c none d = rw (said_none p to left) (stands_unreadable c d)
      stands_said g c (some r) d = rw (said_some r p to left) (going g (holds_said fair big c r d))

      pub stands_line : p.stage ≡ stage.Going → Standing room more s read wrote (begun_of more p n m)
      stands_line g = rw begun_is (go (readable (command_of line)) refl)
        where
          go : (t : Bool) → readable (command_of line) ≡ t → Standing room more s read wrote (begun_as does p to (command_of line) left)
          go true c = rw (begun_on does p to (command_of line) left c) (going g (holds_begun c))
          go false c =
              let z = not_readable (command_of line) c in
              rw (begun_said does p to (command_of line) left z) (stands_said g z does refl)

  -- ---- more input

  module _ (e : find_of u p.ended ≡ found.Part) (n : ℕ) (brought : List ℕ) (fits : kept_of p m.input + length brought ≡ length m.input)
      (few : n ≤ length brought) where
    input_size : length (filled_to p m n brought).memory.input ≡ length m.input
    input_size = refilled_size p.from p.end m.input h.end n brought fits

    unread_more : unread (filled_to p m n brought).pass (filled_to p m n brought).memory.input ≡ u ++ take n brought
    unread_more = refilled_part p.from p.end m.input h.end n brought fits

    not_ended : (rest : List ℕ) → MayFollow p rest
    not_ended rest f = absurd (clash (sym (find_part u p.ended e) ∙ f))

    on_more : (rest : List ℕ)
        → remaining more p m (take n brought ++ rest) ≡ remaining more (filled_to p m n brought).pass (filled_to p m n brought).memory rest
    on_more rest =
        rw unread_more
        (ap (λ (x : List ℕ). to_come more p.day m.lent m.bytes (p.lines + 1) x) (sym (append_assoc u (take n brought) rest)))

    pub holds_filled : Holds room more s (read ++ take n brought) wrote (filled_to p m n brought).pass (filled_to p m n brought).memory
    holds_filled =
        record {
          good = h.good;
          room = record {
            input = omega (arith, h.room.input, input_size);
            input_most = omega (arith, h.room.input_most, input_size);
            bytes = h.room.bytes;
            text = h.room.text;
            text_most = h.room.text_most;
          };
          from = omega arith;
          end = omega (arith, input_size, fits, few);
          filled = h.filled;
          session = h.session;
          passed = h.passed;
          is = rw unread_more (ap (λ (x : List ℕ). x ++ take n brought) h.is ∙ append_assoc h.passed u (take n brought));
          lines = h.lines;
          sheet = λ rest f. ap (sheet_by more s) (append_assoc read (take n brought) rest)
              ∙ h.sheet (take n brought ++ rest) (not_ended (take n brought ++ rest))
              ∙ ap (λ (x : List ℕ). first_line ++ (wrote ++ (waiting_text p m.text ++ x))) (on_more rest);
        }
