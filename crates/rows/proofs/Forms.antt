-- What a step, a line's beginning and its end put is one text behind what waits, and how long it can be. Assumes nothing.
use native.Mathlib.Omega.{arith}
use mathlib.Core.Path.{◌≡◌, refl, sym, ◌∙◌, ap}
use mathlib.Core.Bool.{Bool, true, false, cond}
use mathlib.Core.List.{List, [], ◌∷◌, ◌++◌}
use Prim.Native.Nat.{ℕ, ◌+◌, ◌-◌, ◌≤◌, ◌<◌}
use lib.Dec.{eqb}
use lib.ListN.{length, take, drop, length-append, length-take, length-drop, take-append-drop}
use borrow.Author.Tests.{le-leb}
use Rattle.packet.specs.Names.{bytes_of}
use Rattle.lines.specs.Lines.{Printed, printed, printed_in, error_line}
use Rattle.lines.specs.Text.{decimal_of}
use Rattle.lines.proofs.TextLaws.{digits_most}
use Rattle.lines.proofs.LineLaws.{error_most}
use Rattle.input.specs.Parts.{least_of, wrapped}
use Rattle.input.proofs.Places.{wrapped_same}
use Rattle.marking.specs.declared.Kind.{Kind}
use Rattle.marking.specs.declared.Kind.TheVariants as kind
use Rattle.marking.specs.declared.verdict.Verdict.{Verdict}
use Rattle.marking.specs.declared.verdict.Verdict.TheVariants as verdict
use Rattle.marking.specs.Fields.{fields_end}
use Rattle.marking.specs.Desk.{marks_line, last_text, refused_line, stop_text}
use Rattle.marking.specs.Put.{put_behind}
use Rattle.marking.specs.Verdict.{Judges, judged_to, quietly, agrees_at, open_of, part_of, tail_end, tail_of, begun_of, Finishes, finished_to, told_of, finished_of}
use Rattle.rows.proofs.RowLaws.{Within, part_verdict, part_put, end_put, end_right, begin_verdict, begin_put}

put_nothing : (at : ℕ) (text : List ℕ) → printed 0 text ≡ put_behind at [] text
unfolding put_behind printed_in
put_nothing at text =
    rw (le-leb 0 (length (drop (least_of at (length text)) text)) (omega arith))
    (ap (λ (t : List ℕ). printed 0 t) (sym (take-append-drop (least_of at (length text)) text)))

pub part_is : (v : Verdict) (answer part text : List ℕ) (at : ℕ) → Within v answer → length part ≤ 560
    → part_of v answer part at text ≡ judged_to (part_verdict v answer part) (put_behind at (part_put v answer part) text)
unfolding Within part_of part_verdict part_put open_of
part_is verdict.Rest answer part text at w p = ap (λ (x : Printed). judged_to verdict.Rest x) (put_nothing at text)
part_is verdict.Told answer part text at w p = refl
part_is (verdict.Open matched) answer part text at w p = go (agrees_at matched answer part)
  where
    go : (t : Bool)
        → cond t (quietly (verdict.Open (wrapped (matched + length part))) text)
        (judged_to verdict.Told (put_behind at (bytes_of "wrong" ++ (take matched answer ++ part)) text))
        ≡ judged_to (cond t (verdict.Open (matched + length part)) verdict.Told)
        (put_behind at (cond t [] (bytes_of "wrong" ++ (take matched answer ++ part))) text)
    go true =
        ap (λ (k : ℕ). quietly (verdict.Open k) text) (wrapped_same (matched + length part) (omega (arith, w.0, w.1, p)))
        ∙ ap (λ (x : Printed). judged_to (verdict.Open (matched + length part)) x) (put_nothing at text)
    go false = refl

pub begun_is : (k : Kind) (line text : List ℕ) (at : ℕ) → begun_of k line at text ≡ judged_to (begin_verdict k) (put_behind at (begin_put k line) text)
unfolding begun_of begin_verdict begin_put
begun_is kind.Desk line text at = ap (λ (x : Printed). judged_to (verdict.Open 0) x) (put_nothing at text)
begun_is kind.Sheet line text at = refl

pub finish_is : (v : Verdict) (answer text : List ℕ) (at : ℕ)
    → finished_of v answer at text ≡ finished_to (end_right v answer) (put_behind at (end_put v answer) text)
unfolding finished_of told_of end_right end_put
finish_is verdict.Rest answer text at = ap (λ (x : Printed). finished_to false x) (put_nothing at text)
finish_is verdict.Told answer text at = refl
finish_is (verdict.Open matched) answer text at = go (eqb matched (length answer))
  where
    go : (t : Bool)
        → cond t (finished_to true (put_behind at (bytes_of "right" ++ (answer ++ 10 ∷ [])) text))
        (finished_to false (put_behind at (bytes_of "wrong" ++ (take matched answer ++ 10 ∷ [])) text))
        ≡ finished_to t
        (put_behind at (cond t (bytes_of "right" ++ (answer ++ 10 ∷ [])) (bytes_of "wrong" ++ (take matched answer ++ 10 ∷ []))) text)
    go true = refl
    go false = refl

-- ---- how long

pub tail_most : (line : List ℕ) → length (tail_of line) ≤ length line
tail_most line =
    omega (
      arith,
      length-take (tail_end (length line) - fields_end 0 line) (drop (fields_end 0 line) line),
      length-drop (fields_end 0 line) line,
    )

word_size : (right : Bool) (l : List ℕ) → length (cond right (bytes_of "right") (bytes_of "wrong") ++ l) ≡ 5 + length l
unfolding bytes_of
word_size true l = omega arith
word_size false l = omega arith

pub part_most : (v : Verdict) (answer part : List ℕ) → Within v answer → length part ≤ 560 → length (part_put v answer part) ≤ 131700
unfolding Within part_put
part_most verdict.Rest answer part w p = omega arith
part_most verdict.Told answer part w p = omega (arith, p)
part_most (verdict.Open matched) answer part w p = go (agrees_at matched answer part)
  where
    go : (t : Bool) → length (cond t [] (bytes_of "wrong" ++ (take matched answer ++ part))) ≤ 131700
    go true = omega arith
    go false =
        omega (
          arith,
          w.0,
          w.1,
          p,
          word_size false (take matched answer ++ part),
          length-append (take matched answer) part,
          length-take matched answer,
        )

pub end_most : (v : Verdict) (answer : List ℕ) → Within v answer → length (end_put v answer) ≤ 131700
unfolding Within end_put
end_most verdict.Rest answer w = omega arith
end_most verdict.Told answer w = omega arith
end_most (verdict.Open matched) answer w = go (eqb matched (length answer))
  where
    go : (t : Bool) → length (cond t (bytes_of "right" ++ (answer ++ 10 ∷ [])) (bytes_of "wrong" ++ (take matched answer ++ 10 ∷ []))) ≤ 131700
    go true = omega (arith, w.1, word_size true (answer ++ 10 ∷ []), length-append answer (10 ∷ []))
    go false =
        omega (
          arith,
          w.1,
          word_size false (take matched answer ++ 10 ∷ []),
          length-append (take matched answer) (10 ∷ []),
          length-take matched answer,
        )

pub begin_most : (k : Kind) (line : List ℕ) → length line ≤ 131072 → length (begin_put k line) ≤ 131700
unfolding begin_put
begin_most kind.Desk line p = omega arith
begin_most kind.Sheet line p = omega (arith, p)

pub last_most : (k : Kind) (right : ℕ) → right < 18446744073709551616 → length (last_text k right) ≤ 60
unfolding last_text marks_line bytes_of
last_most kind.Desk right p = omega (arith, digits_most right p, length-append (decimal_of right) (10 ∷ []))
last_most kind.Sheet right p = omega arith

pub stop_most : (k : Kind) (number : ℕ) → number < 18446744073709551616 → length (stop_text k number) ≤ 60
unfolding stop_text refused_line bytes_of
stop_most kind.Desk number p = omega (arith, digits_most number p, length-append (decimal_of number) (10 ∷ []))
stop_most kind.Sheet number p = omega (arith, error_most number p)
