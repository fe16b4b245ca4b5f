-- Laws on the verdict, as the code comes to it. Assumes nothing.
use Rattle.std.proofs.Common.{◌≡◌, ℕ, ◌+◌, ◌-◌, ◌<◌, ◌≤◌, Bool, true, false, cond, eqb, ltb, List, [], ◌∷◌, ◌++◌, length, take, drop, replicate, sym, refl, ap, ◌∙◌, arith, length-drop, drop_of_length-le, length-take, take_all, ltb-false, ltb-true, eq-eqb, ne_eqb}
use lib.Seq.{drop-length}
use Rattle.packet.specs.Names.{bytes_of}
use Rattle.server.specs.State.{Lent}
use Rattle.lines.specs.Commands.{same}
use Rattle.lines.specs.Lines.{Printed, printed}
use Rattle.lines.proofs.FieldLaws.{same_lengths}
use Rattle.input.specs.Parts.{least_of, wrapped}
use Rattle.input.proofs.PartLaws.{bytes_part}
use Rattle.input.proofs.Places.{least_first, least_second}
use Rattle.script.specs.declared.Day.{Day}
use Rattle.script.specs.declared.Stepped.{Stepped}
use Rattle.script.specs.Day as script
use Rattle.script.specs.Day.{stepping, step_of, step_behind}
use Rattle.script.specs.Line.{room}
use Rattle.marking.specs.declared.Kind.{Kind}
use Rattle.marking.specs.declared.Kind.TheVariants as kind
use Rattle.marking.specs.declared.Marked.{Marked}
use Rattle.marking.specs.declared.Part.{Part}
use Rattle.marking.specs.declared.verdict.Verdict.{Verdict}
use Rattle.marking.specs.declared.verdict.Verdict.TheVariants as verdict
use Rattle.marking.specs.declared.verdict.Judged.{Judged}
use Rattle.marking.specs.declared.verdict.Finished.{Finished}
use Rattle.marking.specs.Fields.{fields_end}
use Rattle.marking.specs.Put.{put_behind}
use Rattle.marking.specs.Verdict.{Judges, judges, judged_to, quietly, agrees_at, open_of, part_of, tail_end, judged_of, begun_of}
use Rattle.marking.specs.Verdict.{Finishes, finishes, finished_to, told_of, finished_of}
use Rattle.marking.specs.Step as step
use Rattle.marking.specs.Step.{part_in, concludes, concluded_of, marking, mark_of}

-- ---- places cut to a list

pub take_least : (n : ℕ) (l : List ℕ) → take (least_of n (length l)) l ≡ take n l
take_least n l = go (ltb n (length l)) refl
  where
    go : (t : Bool) → ltb n (length l) ≡ t → take (cond t n (length l)) l ≡ take n l
    go true e = refl
    go false e = take_all (length l) l (omega arith) ∙ sym (take_all n l (ltb-false n (length l) e))

drop_least : (n : ℕ) (l : List ℕ) → drop (least_of n (length l)) l ≡ drop n l
drop_least n l = go (ltb n (length l)) refl
  where
    go : (t : Bool) → ltb n (length l) ≡ t → drop (cond t n (length l)) l ≡ drop n l
    go true e = refl
    go false e = drop-length l ∙ sym (drop_of_length-le l (ltb-false n (length l) e))

-- ---- some of the server's fields

module _ (at start : ℕ) (answer part : List ℕ) (e : start ≡ least_of at (length answer)) where
  left : length (drop at answer) ≡ length answer - start
  left = ap (λ (l : List ℕ). length l) (sym (drop_least at answer)) ∙ length-drop (least_of at (length answer)) answer ∙ ap (λ (k : ℕ). length answer - k) (sym e)

  pub agrees_short : length answer - start < length part → false ≡ agrees_at at answer part
  unfolding agrees_at
  agrees_short h = sym (same_lengths part (take (length part) (drop at answer)) (λ k. omega (arith, h, k, left, length-take (length part) (drop at answer))))

  pub agrees_part : (r : Bool) → r ≡ same part (take (start + length part - start) (drop start answer)) → r ≡ agrees_at at answer part
  unfolding agrees_at
  agrees_part r f =
      f ∙ ap (λ (k : ℕ). same part (take k (drop start answer))) (back start (length part))
      ∙ ap (λ (l : List ℕ). same part (take (length part) l)) (ap (λ (k : ℕ). drop k answer) e ∙ drop_least at answer)
    where
      back : (a b : ℕ) → a + b - a ≡ b
      back a b = omega arith

module _ (matched at : ℕ) (answer part text : List ℕ) (r : Bool) (e : r ≡ agrees_at matched answer part) where
  pub open_on : (w : ℕ) → r ≡ true → w ≡ wrapped (matched + length part) → quietly (verdict.Open w) text ≡ open_of matched answer part at text
  unfolding open_of
  open_on w f g = rw (← e, f, g)

  pub open_told : (front n : ℕ) (after : List ℕ) → r ≡ false → front ≡ least_of matched (length answer)
      → printed n after ≡ put_behind at (bytes_of "wrong" ++ (take front answer ++ part)) text
      → judged_to verdict.Told (printed n after) ≡ open_of matched answer part at text
  unfolding open_of
  open_told front n after f g h =
      rw (← e, f)
      (ap (λ (p : Printed). judged_to verdict.Told p) h
      ∙ ap (λ (l : List ℕ). judged_to verdict.Told (put_behind at (bytes_of "wrong" ++ (l ++ part)) text)) (ap (λ (k : ℕ). take k answer) g ∙ take_least matched answer))

-- ---- by the verdict

pub part_rest : (v : Verdict) (answer part text : List ℕ) (at : ℕ) → v ≡ verdict.Rest → quietly verdict.Rest text ≡ part_of v answer part at text
unfolding part_of
part_rest v answer part text at e = rw e

pub part_open : (v : Verdict) (answer part text after : List ℕ) (at matched : ℕ) (r : Judged) → v ≡ verdict.Open matched
    → judges r after ≡ open_of matched answer part at text → judges r after ≡ part_of v answer part at text
unfolding part_of
part_open v answer part text after at matched r e f = rw e f

pub part_told : (v : Verdict) (answer part text after : List ℕ) (at n : ℕ) → v ≡ verdict.Told → printed n after ≡ put_behind at part text
    → judged_to verdict.Told (printed n after) ≡ part_of v answer part at text
unfolding part_of
part_told v answer part text after at n e f = rw e (ap (λ (p : Printed). judged_to verdict.Told p) f)

pub line_judged : (v : Verdict) (answer line text after : List ℕ) (at size first end start : ℕ) (r : Judged)
    → size ≡ tail_end (length line) → end ≡ least_of size (length line) → first ≡ fields_end 0 line → start ≡ least_of first end
    → judges r after ≡ part_of v answer (take (end - start) (drop start line)) at text
    → judges r after ≡ judged_of v answer line at text
unfolding judged_of
line_judged v answer line text after at size first end start r e f g h i =
    i
    ∙ ap (λ (l : List ℕ). part_of v answer l at text)
    (bytes_part line first size end start f h ∙ rw (g, e))

-- ---- a line's beginning and its end

pub begun_desk : (k : Kind) (line text : List ℕ) (at : ℕ) → k ≡ kind.Desk → quietly (verdict.Open 0) text ≡ begun_of k line at text
unfolding begun_of
begun_desk k line text at e = rw e

pub begun_sheet : (k : Kind) (line text after : List ℕ) (at n : ℕ) → k ≡ kind.Sheet → printed n after ≡ put_behind at line text
    → judged_to verdict.Told (printed n after) ≡ begun_of k line at text
unfolding begun_of
begun_sheet k line text after at n e f = rw e (ap (λ (p : Printed). judged_to verdict.Told p) f)

module _ (matched at n : ℕ) (answer text after : List ℕ) where
  pub told_right : matched ≡ length answer → printed n after ≡ put_behind at (bytes_of "right" ++ (answer ++ 10 ∷ [])) text
      → finished_to true (printed n after) ≡ told_of matched answer at text
  unfolding told_of
  told_right e f = rw (eq-eqb matched (length answer) e) (ap (λ (p : Printed). finished_to true p) f)

  pub told_wrong : (front : ℕ) → (matched ≡ length answer → ⊥) → front ≡ least_of matched (length answer)
      → printed n after ≡ put_behind at (bytes_of "wrong" ++ (take front answer ++ 10 ∷ [])) text
      → finished_to false (printed n after) ≡ told_of matched answer at text
  unfolding told_of
  told_wrong front ne e f =
      rw (ne_eqb matched (length answer) ne)
      (ap (λ (p : Printed). finished_to false p) f
      ∙ ap (λ (l : List ℕ). finished_to false (put_behind at (bytes_of "wrong" ++ (l ++ 10 ∷ [])) text)) (ap (λ (k : ℕ). take k answer) e ∙ take_least matched answer))

pub finish_rest : (v : Verdict) (answer text : List ℕ) (at : ℕ) → v ≡ verdict.Rest → finished_to false (printed 0 text) ≡ finished_of v answer at text
unfolding finished_of
finish_rest v answer text at e = rw e

pub finish_open : (v : Verdict) (answer text after : List ℕ) (at matched : ℕ) (r : Finished) → v ≡ verdict.Open matched
    → finishes r after ≡ told_of matched answer at text → finishes r after ≡ finished_of v answer at text
unfolding finished_of
finish_open v answer text after at matched r e f = rw e f

pub finish_told : (v : Verdict) (answer text after : List ℕ) (at n : ℕ) → v ≡ verdict.Told → printed n after ≡ put_behind at (10 ∷ []) text
    → finished_to false (printed n after) ≡ finished_of v answer at text
unfolding finished_of
finish_told v answer text after at n e f = rw e (ap (λ (p : Printed). finished_to false p) f)

-- ---- a step

pub concluded : (day : Day) (v : Verdict) (p : Part) (input out text after : List ℕ) (at written size start end : ℕ) (r : Judged)
    → size ≡ least_of written (length out) → end ≡ least_of p.to (length input) → start ≡ least_of p.from end
    → judges r after ≡ judged_of v (take (end - start) (drop start input)) (take size out) at text
    → concluded_of day (judges r after) ≡ concluded_of day (judged_of v (part_in p input) (take written out) at text)
concluded day v p input out text after at written size start end r e g h f =
    ap (λ (j : Judges). concluded_of day j) f
    ∙ ap (λ (l : List ℕ). concluded_of day (judged_of v (take (end - start) (drop start input)) l at text))
    (ap (λ (k : ℕ). take k out) e ∙ take_least written out)
    ∙ ap (λ (a : List ℕ). concluded_of day (judged_of v a (take written out) at text)) (bytes_part input p.from p.to end start g h)

front_step : (day : Day) (l : Lent) (bytes : List ℕ) → step_behind 0 day l bytes room ≡ step_of day l bytes room
unfolding step_behind
front_step day l bytes = refl

pub step_marks : (day : Day) (v : Verdict) (l left : Lent) (bytes answer out text after : List ℕ) (at : ℕ) (s : Stepped) (r : Marked)
    → stepping s left out ≡ step_behind 0 day l bytes (replicate 560 0)
    → concludes r after ≡ concluded_of s.day (judged_of v answer (take s.written out) at text)
    → marking r left after ≡ mark_of day v l bytes answer at text
unfolding mark_of
step_marks day v l left bytes answer out text after at s r e f = go (step_of day l bytes room) (e ∙ front_step day l bytes)
  where
    go : (t : script.Stepping) → stepping s left out ≡ t
        → marking r left after ≡ step.mark_by t (judged_of v answer (take t.stepped.written t.text) at text)
    go t g = rw (← g) (ap (λ (k : step.Concludes). marking k.step left k.text) f)
