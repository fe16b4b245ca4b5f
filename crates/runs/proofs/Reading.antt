-- What holds between two turns (Holding.antt) holds after the next line is begun, and after more input is read. Assumes nothing.
use native.Mathlib.Omega.{arith}
use mathlib.Core.Path.{◌≡◌, refl, sym, ◌∙◌, ap}
use mathlib.Core.Bool.{Bool, true, false, cond}
use mathlib.Core.List.{List, [], ◌++◌, append_assoc}
use Prim.Native.Nat.{ℕ, ◌+◌, ◌-◌, ◌^◌, ◌≤◌, ◌<◌}
use lib.ListN.{length, take, drop, length-append, length-take, length-drop, take-append-drop}
use lib.Seq.{length-take-le, take-append-le, take-take, drop-drop}
use Rattle.history.specs.Calls.{Start}
use Rattle.history.specs.Good.{Good}
use Rattle.lines.specs.declared.commands.Command.{Command}
use Rattle.lines.specs.declared.commands.Command.TheVariants as command
use Rattle.lines.specs.Commands.{command_of, rx_bytes, read_of}
use Rattle.input.specs.declared.Found.TheVariants as found
use Rattle.input.specs.Parts.{bytes_from, least_of, wrapped}
use Rattle.input.specs.Input.{find_of}
use Rattle.input.proofs.Finding.{LineFound, find_line, find_part}
use Rattle.input.proofs.Places.{least_most, wrapped_same, part_size, some_taken, line_is, behind_line, to_same, drop_take, refilled_size, refilled_part}
use Rattle.script.specs.declared.doing.Doing.{Doing}
use Rattle.script.specs.declared.doing.Doing.TheVariants as doing
use Rattle.script.specs.Doing.{rests_of}
use Rattle.script.specs.Day.{begin_of}
use Rattle.script.proofs.Reaching.{begin_server}
use Rattle.script.proofs.Agreeing.{Agree}
use Rattle.script.proofs.Commands.{begin_session, ReadsLine, reads_line}
use Rattle.script.proofs.SheetLaws.{readable, not_readable}
use Rattle.marking.specs.declared.Kind.{Kind}
use Rattle.marking.specs.declared.Kind.TheVariants as kind
use Rattle.marking.specs.declared.verdict.Verdict.{Verdict}
use Rattle.marking.specs.declared.verdict.Verdict.TheVariants as verdict
use Rattle.marking.specs.Fields.{script_end, script_part, answer_part}
use Rattle.marking.specs.Desk.{Rows, print_rows, output_of}
use Rattle.marking.specs.Verdict as marking
use Rattle.marking.specs.Verdict.{Judges}
use Rattle.marking.specs.Step as marks
use Rattle.marking.specs.Desk as desk
use Rattle.marking.proofs.FieldLaws.{script_most}
use Rattle.rows.proofs.RowLaws.{Within, begin_verdict, begin_put, within_begin, come_begin, rows_refused, print_stopped}
use Rattle.rows.proofs.Forms.{begun_is, begin_most}
use Rattle.sitting.specs.declared.turn.Sitting.{Sitting}
use Rattle.sitting.specs.declared.turn.Stage.{Stage}
use Rattle.sitting.specs.declared.turn.Stage.TheVariants as stage
use Rattle.sitting.specs.Turn.{Memory, memory, State, state, mark_with, part_of, sitting_of, over_of, unread, Put, put_in, last_put, error_put, begun_to, line_begun, begun_as, line_to}
use Rattle.sitting.specs.Turn.{script_to, read_at, begin_to, begin_of as beginsOf, begin_in, waiting_text, kept_of, filled_to}
use Rattle.sitting.specs.Run.{HasRoom, MayFollow}
use Rattle.runs.proofs.Holding.{in_row, counted, remaining, Holds, put_text, put_waits, put_end, put_size, same_room, few_lines, as_rows}
use Rattle.runs.proofs.Ending.{Standing, going, last, over, stands_error}

clash : false ≡ true → ⊥
clash e = let z : ◌≡◌ {A = ℕ} 0 1 = cc in omega arith

-- ---- the next line

rests_agree : (d : Doing) (a b : List ℕ) → rests_of d ≡ true → Agree d a b
unfolding rests_of Agree
rests_agree doing.Rest a b e = tt
rests_agree (doing.Opening session) a b e = tt
rests_agree (doing.Dropping session) a b e = tt
rests_agree (doing.Hearing session at n) a b e = absurd (clash e)
rests_agree (doing.Pumping session) a b e = tt

begun_on : (p : Sitting) (answer to : ℕ) (c : Command) (input text : List ℕ) → readable c ≡ true
    → begun_as p answer to c input text ≡ line_begun p answer to c input text
unfolding readable begun_as
begun_on p answer to command.Unreadable input text e = absurd (clash e)
begun_on p answer to (command.Time clock) input text e = refl
begun_on p answer to (command.Open session) input text e = refl
begun_on p answer to (command.Drop session) input text e = refl
begun_on p answer to (command.Rx session n) input text e = refl

begun_stop : (p : Sitting) (answer to : ℕ) (c : Command) (input text : List ℕ) → c ≡ command.Unreadable → begun_as p answer to c input text ≡ error_put p text
unfolding begun_as
begun_stop p answer to c input text e = rw e

row_begins : (k : Kind) → in_row (begin_verdict k) ≡ true
unfolding in_row begin_verdict
row_begins kind.Desk = refl
row_begins kind.Sheet = refl

error_last : (p : Sitting) (text : List ℕ) → (error_put p text).sitting.stage ≡ stage.Last
unfolding error_put last_put
error_last p text = refl

clash_last : stage.Last ≡ stage.Going → ⊥
clash_last e = let z : ◌≡◌ {A = ℕ} 0 1 = cc in omega arith

clash_over : (x : Stage) → x ≡ stage.Last → over_of x ≡ true → ⊥
unfolding over_of
clash_over x e f = clash (sym (ap over_of e) ∙ f)

-- where only writing is left, the bytes lent for a line's own do not matter
other_bytes : (k : Kind) (s : Start) (read wrote : List ℕ) (m : Memory) (bytes : List ℕ) (w : Put) → w.sitting.stage ≡ stage.Last
    → Standing k s read wrote (put_in m w) → Standing k s read wrote (put_in (memory m.lent m.input bytes m.text) w)
other_bytes k s read wrote m bytes w e (going g h) = absurd (clash_last (sym e ∙ g))
other_bytes k s read wrote m bytes w e (last g x) = last g x
other_bytes k s read wrote m bytes w e (over o x) = absurd (clash_over w.sitting.stage e o)

within_rest : (v : Verdict) (answer : List ℕ) → in_row v ≡ false → Within v answer
unfolding in_row Within
within_rest verdict.Rest answer e = tt
within_rest (verdict.Open matched) answer e = absurd (clash (sym e))
within_rest verdict.Told answer e = tt

-- a part of a line between two places of the input
part_of_law : (from n e : ℕ) (input : List ℕ) → bytes_from (from + e) (from + n) input ≡ drop e (take n (drop from input))
part_of_law from n e input =
    ap (λ (l : List ℕ). take (from + n - (from + e)) l) (sym (drop-drop e from input))
    ∙ ap (λ (j : ℕ). take j (drop e (drop from input))) (less from n e) ∙ drop_take e n (drop from input)
  where
    less : (a b c : ℕ) → a + b - (a + c) ≡ b - c
    less a b c = omega arith

front_of : (from e n : ℕ) (input : List ℕ) → e ≤ n → bytes_from from (from + e) input ≡ take e (take n (drop from input))
front_of from e n input p = ap (λ (j : ℕ). take j (drop from input)) (back from e) ∙ sym (take-take e n (drop from input) p)
  where
    back : (a b : ℕ) → a + b - a ≡ b
    back a b = omega arith

module _ (k : Kind) (s : Start) (read wrote : List ℕ) (p : Sitting) (m : Memory) (h : Holds k s read wrote p m) where
  abbrev u : List ℕ
  u = unread p m.input

  size : length u ≡ p.end - p.from
  size = part_size p.from p.end m.input h.end

  -- ---- a line is begun

  module _ (row : in_row p.mark.verdict ≡ false) (small : length read < 2 ^ 63) (n : ℕ) (e : find_of u p.ended ≡ found.Line n)
      (room : 131700 ≤ length m.text - p.filled) where
    abbrev line : List ℕ
    line = take n u

    lf : (rest : List ℕ) → MayFollow p rest → LineFound u rest n
    lf rest f = find_line u rest p.ended n e f

    here : LineFound u [] n
    here = lf [] (λ x. refl)

    within : n ≤ p.end - p.from
    within = omega (arith, here.within, size)

    line_size : length line ≡ n
    line_size = length-take-le n u here.within

    to_is : line_to p n ≡ p.from + n
    to_is = to_same p.from p.end n m.input h.end h.room.input_most within h.from

    is : bytes_from p.from (line_to p n) m.input ≡ line
    is = line_is p.from p.end n m.input h.end h.room.input_most within h.from

    direct : take n (drop p.from m.input) ≡ line
    direct = sym (take-take n (p.end - p.from) (drop p.from m.input) within)

    -- the script's fields
    abbrev cut : ℕ
    cut = script_end k line

    cut_most : cut ≤ n
    cut_most = omega (arith, script_most k line, line_size)

    cut_is : script_to p n m.input ≡ p.from + cut
    cut_is =
        ap (λ (j : Kind). wrapped (p.from + script_end j (bytes_from p.from (line_to p n) m.input))) h.kind
        ∙ ap (λ (l : List ℕ). wrapped (p.from + script_end k l)) is
        ∙ wrapped_same (p.from + cut) (omega (arith, cut_most, within, h.from, h.end, h.room.input_most))

    abbrev script : List ℕ
    script = script_part k line

    script_is : bytes_from p.from (script_to p n m.input) m.input ≡ script
    script_is =
        ap (λ (j : ℕ). bytes_from p.from j m.input) cut_is
        ∙ front_of p.from cut n m.input cut_most ∙ ap (λ (l : List ℕ). take cut l) direct

    answer_is : bytes_from (script_to p n m.input) (line_to p n) m.input ≡ answer_part k line
    answer_is =
        ap (λ (j : ℕ). bytes_from j (line_to p n) m.input) cut_is ∙ ap (λ (j : ℕ). bytes_from (p.from + cut) j m.input) to_is
        ∙ part_of_law p.from n cut m.input ∙ ap (λ (l : List ℕ). drop cut l) direct

    abbrev bytes : List ℕ
    bytes = (read_of script m.bytes).bytes

    script_short : length script ≤ 131072
    script_short = omega (arith, here.most, line_size, length-take cut line)

    reads : ReadsLine p.day script m.bytes (command_of script) (read_of script m.bytes)
    reads = reads_line p.day script m.bytes script_short h.room.bytes

    abbrev putting : List ℕ
    putting = begin_put k line

    put_short : length putting ≤ length m.text - p.filled
    put_short = omega (arith, room, begin_most k line (omega (arith, here.most, line_size)))

    begins_is : beginsOf p n m.input m.bytes m.text
        ≡ begin_to bytes (begun_as p (script_to p n m.input) (line_to p n) (command_of script) m.input m.text)
    unfolding beginsOf
    begins_is =
        ap (λ (l : List ℕ). begin_to (read_of l m.bytes).bytes
        (begun_as p (script_to p n m.input) (line_to p n) (read_of l m.bytes).command m.input m.text)) script_is
        ∙ ap (λ (c : Command). begin_to bytes (begun_as p (script_to p n m.input) (line_to p n) c m.input m.text)) reads.command

    -- where the line is begun
    abbrev then : State
    then =
        state
        (sitting_of (begin_of p.day (command_of script))
        (mark_with p.mark.kind (begin_verdict k) p.mark.right (part_of (script_to p n m.input) (line_to p n)))
        (least_of (wrapped (line_to p n + 1)) p.end) p.end p.ended (wrapped (p.lines + 1))
        (wrapped (least_of p.filled (length m.text) + (put_text p m putting).size)) p.stage)
        (memory m.lent m.input bytes (put_text p m putting).text)

    line_begun_is : line_begun p (script_to p n m.input) (line_to p n) (command_of script) m.input m.text
        ≡ begun_to p (script_to p n m.input) (line_to p n) (command_of script) m.text
        (marking.judged_to (begin_verdict k) (put_text p m putting))
    unfolding line_begun
    line_begun_is =
        ap (λ (j : Kind). begun_to p (script_to p n m.input) (line_to p n) (command_of script) m.text
        (marking.begun_of j (bytes_from p.from (line_to p n) m.input) p.filled m.text)) h.kind
        ∙ ap (λ (l : List ℕ). begun_to p (script_to p n m.input) (line_to p n) (command_of script) m.text
        (marking.begun_of k l p.filled m.text)) is
        ∙ ap (λ (j : Judges). begun_to p (script_to p n m.input) (line_to p n) (command_of script) m.text j)
        (begun_is k line m.text p.filled)

    unread_is : bytes_from (least_of (wrapped (line_to p n + 1)) p.end) p.end m.input ≡ drop (n + 1) u
    unread_is = behind_line p.from p.end n m.input h.end h.room.input_most within h.from

    lines_is : wrapped (p.lines + 1) ≡ p.lines + 1
    lines_is = wrapped_same (p.lines + 1) (few_lines k s read wrote p m h small)

    good_begun : Good (begin_of p.day (command_of script)).server m.lent
    good_begun = rw (begin_server p.day (command_of script)) h.good

    on : readable (command_of script) ≡ true → (rest : List ℕ) → MayFollow p rest
        → remaining k p m rest ≡ putting ++ remaining k then.sitting then.memory rest
    on c rest f =
        as_rows k s read wrote p m h row rest
        ∙ come_begin k p.day m.lent (p.lines + 1) p.mark.right n (u ++ rest) line bytes (lf rest f).found
        (take-append-le n u rest here.within) good_begun c
        (reads.agree (rests_agree p.day.doing (rx_bytes script) bytes (h.rests row)))
        ∙ sym (rw (row_begins k, unread_is, lines_is, answer_is, ← (lf rest f).behind) refl)

    holds_begun : readable (command_of script) ≡ true → Holds k s read wrote then.sitting then.memory
    holds_begun c =
        record {
          kind = h.kind;
          good = good_begun;
          room = same_room k s read wrote p m h putting put_short m.lent bytes reads.size;
          from = least_most (wrapped (line_to p n + 1)) p.end;
          end = h.end;
          filled = omega (
            arith,
            put_end p.filled putting m.text h.filled put_short h.room.text_most,
            put_size p.filled putting m.text h.filled put_short h.room.text_most,
            put_short,
            h.filled,
          );
          session = begin_session p.day script h.session;
          rests = λ x. absurd (clash (sym x ∙ row_begins k));
          within = rw answer_is (within_begin k (answer_part k line) (omega (arith, here.most, line_size, length-drop cut line)));
          marks = rw (row_begins k, lines_is) (more_lines p.mark.right p.lines (rw row at h.marks));
          passed = h.passed ++ take (n + 1) u;
          is = rw unread_is
              (h.is ∙ ap (λ (x : List ℕ). h.passed ++ x) (sym (take-append-drop (n + 1) u))
              ∙ sym (append_assoc h.passed (take (n + 1) u) (drop (n + 1) u)));
          lines = rw lines_is (omega (arith, h.lines, length-append h.passed (take (n + 1) u), some_taken n u here.some));
          output = λ rest f. h.output rest f
              ∙ ap (λ (x : List ℕ). wrote ++ (waiting_text p m.text ++ x)) (on c rest f)
              ∙ ap (λ (x : List ℕ). wrote ++ x)
              (sym (append_assoc (waiting_text p m.text) putting (remaining k then.sitting then.memory rest))
              ∙ ap (λ (x : List ℕ). x ++ remaining k then.sitting then.memory rest)
              (sym (put_waits p.filled putting m.text h.filled put_short h.room.text_most)));
        }
      where
        more_lines : (r l : ℕ) → 0 + r ≤ l → 1 + r ≤ l + 1
        more_lines r l x = omega (arith, x)

    stands_unreadable : command_of script ≡ command.Unreadable
        → Standing k s read wrote (put_in (memory m.lent m.input bytes m.text) (error_put p m.text))
    stands_unreadable c =
        other_bytes k s read wrote m bytes (error_put p m.text)
        (error_last p m.text)
        (stands_error k s read wrote p m h room small
        (λ rest f. as_rows k s read wrote p m h row rest
        ∙ ap (λ (r : Rows). print_rows k (p.lines + 1) p.mark.right r)
        (rows_refused k p.day m.lent n (u ++ rest) line (lf rest f).found (take-append-le n u rest here.within) c)
        ∙ print_stopped k (p.lines + 1) p.mark.right m.lent))

    pub stands_line : p.stage ≡ stage.Going → Standing k s read wrote (begin_in m (beginsOf p n m.input m.bytes m.text))
    stands_line g = rw begins_is (go (readable (command_of script)) refl)
      where
        go : (t : Bool) → readable (command_of script) ≡ t
            → Standing k s read wrote
            (begin_in m (begin_to bytes (begun_as p (script_to p n m.input) (line_to p n) (command_of script) m.input m.text)))
        go true c =
            rw (begun_on p (script_to p n m.input) (line_to p n) (command_of script) m.input m.text c, line_begun_is) (going g (holds_begun c))
        go false c =
            let z = not_readable (command_of script) c in
            rw (begun_stop p (script_to p n m.input) (line_to p n) (command_of script) m.input m.text z) (stands_unreadable z)

  -- ---- more input

  module _ (row : in_row p.mark.verdict ≡ false) (e : find_of u p.ended ≡ found.Part) (n : ℕ) (brought : List ℕ)
      (fits : kept_of p m.input + length brought ≡ length m.input) (few : n ≤ length brought) where
    input_size : length (filled_to p m n brought).memory.input ≡ length m.input
    input_size = refilled_size p.from p.end m.input h.end n brought fits

    unread_more : unread (filled_to p m n brought).sitting (filled_to p m n brought).memory.input ≡ u ++ take n brought
    unread_more = refilled_part p.from p.end m.input h.end n brought fits

    not_ended : (rest : List ℕ) → MayFollow p rest
    not_ended rest f = absurd (clash (sym (find_part u p.ended e) ∙ f))

    on_more : (rest : List ℕ)
        → remaining k p m (take n brought ++ rest) ≡ remaining k (filled_to p m n brought).sitting (filled_to p m n brought).memory rest
    on_more rest =
        rw (row, unread_more)
        (ap (λ (x : List ℕ). print_rows k (p.lines + 1) p.mark.right (desk.rows_from k (length x) p.day m.lent x))
        (sym (append_assoc u (take n brought) rest)))

    pub holds_filled : Holds k s (read ++ take n brought) wrote (filled_to p m n brought).sitting (filled_to p m n brought).memory
    holds_filled =
        record {
          kind = h.kind;
          good = h.good;
          room = record {
            input = omega (arith, h.room.input, input_size);
            input_most = omega (arith, h.room.input_most, input_size);
            bytes = h.room.bytes;
            text = h.room.text;
            text_most = h.room.text_most;
          };
          from = omega arith;
          end = omega (arith, input_size, fits, few);
          filled = h.filled;
          session = h.session;
          rests = h.rests;
          within = no_row p.mark.verdict row;
          marks = h.marks;
          passed = h.passed;
          is = rw unread_more (ap (λ (x : List ℕ). x ++ take n brought) h.is ∙ append_assoc h.passed u (take n brought));
          lines = h.lines;
          output = λ rest f. ap (output_of k s) (append_assoc read (take n brought) rest)
              ∙ h.output (take n brought ++ rest) (not_ended (take n brought ++ rest))
              ∙ ap (λ (x : List ℕ). wrote ++ (waiting_text p m.text ++ x)) (on_more rest);
        }
      where
        no_row : (v : Verdict) → in_row v ≡ false → Within v (marks.part_in p.mark.answer (filled_to p m n brought).memory.input)
        no_row v x = within_rest v _ x
