-- Laws on the parts of a turn: a step, a line's end, the last lines, a line that is begun, and input that is read. Assumes nothing.
use Rattle.std.proofs.Common.{◌≡◌, ℕ, ◌+◌, ◌-◌, ◌≤◌, true, false, eqb, List, ◌++◌, length, take, drop, sym, refl, ap, ◌∙◌, arith}
use Rattle.server.specs.State.{Lent}
use Rattle.lines.specs.declared.commands.Command.{Command}
use Rattle.lines.specs.declared.commands.Command.TheVariants as command
use Rattle.lines.specs.Commands.{reads, read_of}
use Rattle.lines.specs.Lines.{Printed, printed}
use Rattle.input.specs.Parts.{bytes_from, least_of, wrapped}
use Rattle.input.specs.Input.{shifted, shift_of}
use Rattle.input.proofs.Places.{input_brought}
use Rattle.input.proofs.PartLaws.{bytes_part}
use Rattle.marking.specs.declared.Kind.{Kind}
use Rattle.marking.specs.declared.Marked.{Marked}
use Rattle.marking.specs.declared.verdict.Judged.{Judged}
use Rattle.marking.specs.declared.verdict.Finished.{Finished}
use Rattle.marking.specs.Fields.{script_end}
use Rattle.marking.specs.Desk.{last_text, stop_text}
use Rattle.marking.specs.Put.{put_behind}
use Rattle.marking.specs.Verdict as judging
use Rattle.marking.specs.Verdict.{Judges, judges, Finishes, finishes}
use Rattle.marking.specs.Step.{part_in, Marking, marking, mark_of}
use Rattle.sitting.specs.declared.turn.Sitting.{Sitting}
use Rattle.sitting.specs.declared.turn.Stage.TheVariants as stage
use Rattle.sitting.specs.Turn.{Memory, memory, state, sitting_of, with_more, stepped_by, stepped_to, stepped_of, Put, put, finished_by, finished_to, finish_of}
use Rattle.sitting.specs.Turn.{put_to, last_put, stop_put, error_put, begun_by, begun_to, line_begun, begun_as, line_to, script_to, Begins, begins, begin_to, begin_of}
use Rattle.sitting.specs.Narrow.{readable_of, Filled}

-- ---- a step

pub step_joins : (p r : Sitting) (l left : Lent) (input bytes text after : List ℕ) (s : Marked)
    → marking s left after ≡ mark_of p.day p.mark.verdict l bytes (part_in p.mark.answer input) p.filled text
    → r ≡ stepped_by p s (length text)
    → state r (memory left input bytes after) ≡ stepped_of p (memory l input bytes text)
unfolding stepped_of
step_joins p r l left input bytes text after s e f =
    rw f (ap (λ (k : Marking). stepped_to p (memory l input bytes text) k) e)

-- ---- a line's end

pub finish_joins : (p r : Sitting) (input text after : List ℕ) (start end : ℕ) (f : Finished)
    → end ≡ least_of p.mark.answer.to (length input) → start ≡ least_of p.mark.answer.from end
    → finishes f after ≡ judging.finished_of p.mark.verdict (take (end - start) (drop start input)) p.filled text
    → r ≡ finished_by p f (length text)
    → put r after ≡ finish_of p input text
unfolding finish_of
finish_joins p r input text after start end f e g h i =
    rw i
    (ap (λ (k : Finishes). finished_to p text k)
    (h
    ∙ ap (λ (a : List ℕ). judging.finished_of p.mark.verdict a p.filled text)
    (bytes_part input p.mark.answer.from p.mark.answer.to end start e g)))

-- ---- the last lines

module _ (p r : Sitting) (text after : List ℕ) (at n : ℕ) (e : at ≡ least_of p.filled (length text)) where
  pub last_joins : printed n after ≡ put_behind p.filled (last_text p.mark.kind p.mark.right) text
      → r ≡ with_more p p.day p.mark at n stage.Last
      → put r after ≡ last_put p text
  unfolding last_put
  last_joins f g = rw (g, e) (ap (λ (w : Printed). put_to stage.Last p text w) f)

  pub error_joins : (q : Sitting) (whole : List ℕ) (k : ℕ) → k ≡ wrapped (p.lines + 1)
      → printed n after ≡ put_behind p.filled (stop_text p.mark.kind k) text
      → q ≡ with_more p p.day p.mark at n p.stage
      → put r whole ≡ last_put q after
      → put r whole ≡ error_put p text
  unfolding error_put
  error_joins q whole k h f g i =
      i ∙ ap (λ (w : Put). last_put w.sitting w.text) stop
    where
      stop : put q after ≡ stop_put p text
      stop = rw (g, e, ← h) (ap (λ (w : Printed). put_to p.stage p text w) f)

-- ---- a line that is begun

pub script_at : (k : Kind) (input : List ℕ) (from to start end n r : ℕ) → end ≡ least_of to (length input) → start ≡ least_of from end
    → n ≡ script_end k (take (end - start) (drop start input)) → r ≡ wrapped (from + n)
    → r ≡ wrapped (from + script_end k (bytes_from from to input))
script_at k input from to start end n r e f g h =
    h ∙ ap (λ (j : ℕ). wrapped (from + j)) (g ∙ ap (λ (l : List ℕ). script_end k l) (bytes_part input from to end start e f))

pub begun_joins : (p r : Sitting) (answer to : ℕ) (c : Command) (input text after : List ℕ) (start end : ℕ) (j : Judged)
    → end ≡ least_of to (length input) → start ≡ least_of p.from end
    → judges j after ≡ judging.begun_of p.mark.kind (take (end - start) (drop start input)) p.filled text
    → r ≡ begun_by p answer to c j (length text)
    → put r after ≡ line_begun p answer to c input text
unfolding line_begun
begun_joins p r answer to c input text after start end j e f g h =
    rw h
    (ap (λ (k : Judges). begun_to p answer to c text k)
    (g ∙ ap (λ (l : List ℕ). judging.begun_of p.mark.kind l p.filled text) (bytes_part input p.from to end start e f)))

readable : (p : Sitting) (answer to : ℕ) (c : Command) (input text : List ℕ) → readable_of c ≡ true
    → begun_as p answer to c input text ≡ line_begun p answer to c input text
unfolding readable_of begun_as
readable p answer to command.Unreadable input text e = let z : false ≡ true = e in cc
readable p answer to (command.Time clock) input text e = refl
readable p answer to (command.Open session) input text e = refl
readable p answer to (command.Drop session) input text e = refl
readable p answer to (command.Rx session n) input text e = refl

unreadable : (p : Sitting) (answer to : ℕ) (c : Command) (input text : List ℕ) → readable_of c ≡ false → begun_as p answer to c input text ≡ error_put p text
unfolding readable_of begun_as
unreadable p answer to command.Unreadable input text e = refl
unreadable p answer to (command.Time clock) input text e = let z : true ≡ false = e in cc
unreadable p answer to (command.Open session) input text e = let z : true ≡ false = e in cc
unreadable p answer to (command.Drop session) input text e = let z : true ≡ false = e in cc
unreadable p answer to (command.Rx session n) input text e = let z : true ≡ false = e in cc

module _ (p r : Sitting) (n : ℕ) (input bytes left text after : List ℕ) (to answer : ℕ) (c : Command) (at : to ≡ wrapped (p.from + n))
    (mid : answer ≡ wrapped (p.from + script_end p.mark.kind (bytes_from p.from to input)))
    (read : reads c left ≡ read_of (bytes_from p.from answer input) bytes) where
  begin_as : put r after ≡ begun_as p answer to c input text → begins r left after ≡ begin_of p n input bytes text
  unfolding begin_of
  begin_as e =
      ap (λ (w : Put). begin_to left w) e
      ∙ go (script_to p n input) (mid ∙ ap (λ (j : ℕ). wrapped (p.from + script_end p.mark.kind (bytes_from p.from j input))) at)
    where
      go : (j : ℕ) → answer ≡ j
          → begin_to left (begun_as p answer to c input text)
          ≡ begin_to (read_of (bytes_from p.from j input) bytes).bytes
          (begun_as p j (line_to p n) (read_of (bytes_from p.from j input) bytes).command input text)
      go j f = rw (← f, ← at, ← read)

  pub line_begins : readable_of c ≡ true → put r after ≡ line_begun p answer to c input text → begins r left after ≡ begin_of p n input bytes text
  line_begins e f = begin_as (f ∙ sym (readable p answer to c input text e))

  pub line_refused : readable_of c ≡ false → put r after ≡ error_put p text → begins r left after ≡ begin_of p n input bytes text
  line_refused e f = begin_as (f ∙ sym (unreadable p answer to c input text e))

-- ---- input that is read

pub input_filled : (p : Sitting) (input moved brought whole : List ℕ) (size kept n : ℕ)
    → shifted size moved ≡ shift_of p.from p.end input
    → length moved ≡ length input
    → (kept ≤ length moved) × (kept ≡ least_of size (length moved))
    → length brought ≡ length (take (length moved - kept) (drop kept moved))
    → whole ≡ take kept moved ++ (brought ++ drop (length moved - kept) (drop kept moved))
    → n ≤ length (take (length whole - kept) (drop kept whole))
    → Filled p input (sitting_of p.day p.mark 0 (kept + n) (eqb n 0) p.lines p.filled p.stage) whole
input_filled p input moved brought whole size kept n e f g h i j =
    let b = input_brought p.from p.end input moved brought whole size kept n e f g h i j in
    record { n = n; brought = brought; size = b.size; most = b.most; is = λ l bytes text. rw (b.is, b.front) }
