-- Laws on text put behind a place. Assumes nothing.
use Rattle.std.proofs.Common.{◌≡◌, ℕ, suc, ◌+◌, ◌-◌, ◌^◌, ◌<◌, ◌≤◌, Bool, true, false, cond, ltb, List, [], ◌∷◌, ◌++◌, length, take, drop, replicate, sym, refl, ap, ◌∙◌, append_assoc, append-nil, arith, length-append, length-drop, take-append-drop, drop-drop, le-leb}
use lib.Seq.{sets, sets-eq, length-sets, drop-append-add, take-append_seam}
use borrow.Author.Tests.{lt-leb}
use Rattle.numbers.specs.Numbers.{stored_at}
use Rattle.packet.specs.Names.{bytes_of}
use Rattle.lines.specs.Text.{decimal_of}
use Rattle.lines.specs.Lines.{Printed, printed, printed_in, error_line}
use Rattle.lines.proofs.Writing.{joined, printed_none}
use Rattle.lines.proofs.LineLaws.{error_size, error_most}
use Rattle.input.specs.Parts.{least_of}
use Rattle.input.proofs.Places.{least_first, printed_all, drop_take}
use Rattle.marking.specs.declared.Kind.{Kind}
use Rattle.marking.specs.declared.Kind.TheVariants as kind
use Rattle.marking.specs.Desk.{marks_line, last_text, refused_line, stop_text}
use Rattle.marking.specs.Put.{put_behind}

-- ---- pieces one behind the other

stored_fits : (text : List ℕ) (at : ℕ) (xs : List ℕ) → at + length xs ≤ length text → stored_at text at xs ≡ sets text at xs
unfolding stored_at
stored_fits text at xs h = rw (le-leb (at + length xs) (length text) h)

pub pieces_stored : (text a b d one two three : List ℕ) (at middle : ℕ) → at + (length a + (length b + length d)) ≤ length text → middle ≡ at + length a
    → one ≡ stored_at text at a → two ≡ stored_at one middle b → three ≡ stored_at two (middle + length b) d
    → three ≡ sets text at (a ++ (b ++ d))
pieces_stored text a b d one two three at middle fits e f g h =
    h
    ∙ stored_fits two (middle + length b) d (omega (arith, fits, e, size2, size1))
    ∙ ap (λ (t : List ℕ). sets t (middle + length b) d) second
    ∙ joined one middle b d
    ∙ ap (λ (t : List ℕ). sets t middle (b ++ d)) first
    ∙ ap (λ (k : ℕ). sets (sets text at a) k (b ++ d)) e
    ∙ joined text at a (b ++ d)
  where
    first : one ≡ sets text at a
    first = f ∙ stored_fits text at a (omega (arith, fits))

    size1 : length one ≡ length text
    size1 = ap (λ (t : List ℕ). length t) first ∙ length-sets text at a

    second : two ≡ sets one middle b
    second = g ∙ stored_fits one middle b (omega (arith, fits, e, size1))

    size2 : length two ≡ length one
    size2 = ap (λ (t : List ℕ). length t) second ∙ length-sets one middle b

-- ---- behind a place

pub put_none : (at place : ℕ) (line text : List ℕ) → place ≡ least_of at (length text) → length text - place < length line
    → printed 0 text ≡ put_behind at line text
unfolding put_behind
put_none at place line text e h =
    rw (← e)
    (ap (λ (t : List ℕ). printed 0 t) (sym (take-append-drop place text))
    ∙ ap (λ (p : Printed). printed p.size (take place text ++ p.text)) (printed_none line (drop place text) (omega (arith, h, length-drop place text))))

pub put_fits : (at place n : ℕ) (line text after : List ℕ) → place ≡ least_of at (length text) → place + length line ≤ length text
    → n ≡ length line → after ≡ sets text place line → printed n after ≡ put_behind at line text
unfolding put_behind printed_in
put_fits at place n line text after e h m f =
    rw (
      ← e,
      le-leb (length line) (length (drop place text)) (omega (arith, h, length-drop place text)),
      m,
      f,
      sets-eq line text place h,
      drop-drop (length line) place text,
    )
    (ap (λ (t : List ℕ). printed (length line) t) (append_assoc (take place text) line (drop (place + length line) text)))

-- ---- a number behind a word

-- the error line's number, with its newline
number_part : (number : ℕ) → drop 6 (error_line number) ≡ decimal_of number ++ 10 ∷ []
unfolding error_line bytes_of
number_part number = refl

abbrev pub blank : List ℕ
blank = replicate 27 0

pub number_put : (word text line after : List ℕ) (at number size end start n : ℕ) → number < 18446744073709551616
    → printed size line ≡ printed_in (error_line number) blank
    → end ≡ least_of size 27 → start ≡ least_of 6 end
    → printed n after ≡ put_behind at (word ++ (take (end - start) (drop start line) ++ [])) text
    → printed n after ≡ put_behind at (word ++ (decimal_of number ++ 10 ∷ [])) text
number_put word text line after at number size end start n small e f g h =
    h ∙ ap (λ (l : List ℕ). put_behind at (word ++ l) text) (append-nil (take (end - start) (drop start line)) ∙ part)
  where
    e' : printed size line ≡ printed (length (error_line number)) (error_line number ++ drop (length (error_line number)) blank)
    e' = e ∙ printed_all (error_line number) blank (error_most number small)

    size_is : size ≡ length (error_line number)
    size_is = ap (λ (p : Printed). p.size) e'

    line_is : line ≡ error_line number ++ drop (length (error_line number)) blank
    line_is = ap (λ (p : Printed). p.text) e'

    end_is : end ≡ length (error_line number)
    end_is = f ∙ least_first size 27 (omega (arith, size_is, error_most number small)) ∙ size_is

    start_is : start ≡ 6
    start_is = g ∙ least_first 6 end (omega (arith, end_is, error_size number))

    part : take (end - start) (drop start line) ≡ decimal_of number ++ 10 ∷ []
    part =
        rw (start_is, end_is, line_is)
        (drop_take 6 (length (error_line number)) (error_line number ++ drop (length (error_line number)) blank)
        ∙ ap (λ (l : List ℕ). drop 6 l) (take-append_seam (error_line number) (drop (length (error_line number)) blank)) ∙ number_part number)

-- ---- the lines that end the output

pub marks_put : (k : Kind) (right : ℕ) → k ≡ kind.Desk → bytes_of "marks" ++ (9 ∷ []) ++ (decimal_of right ++ 10 ∷ []) ≡ last_text k right
unfolding last_text marks_line bytes_of
marks_put k right e = rw e

pub none_put : (k : Kind) (right : ℕ) → k ≡ kind.Sheet → [] ≡ last_text k right
unfolding last_text
none_put k right e = rw e

pub refused_put : (k : Kind) (number : ℕ) → k ≡ kind.Desk
    → bytes_of "refused" ++ (9 ∷ bytes_of "37" ++ (9 ∷ [])) ++ (decimal_of number ++ 10 ∷ []) ≡ stop_text k number
unfolding stop_text refused_line bytes_of
refused_put k number e = rw e

pub error_put_law : (k : Kind) (number : ℕ) → k ≡ kind.Sheet → bytes_of "error" ++ (9 ∷ []) ++ (decimal_of number ++ 10 ∷ []) ≡ stop_text k number
unfolding stop_text error_line bytes_of
error_put_law k number e = rw e

pub line_put : (at n : ℕ) (line whole text after : List ℕ) → line ≡ whole → printed n after ≡ put_behind at line text
    → printed n after ≡ put_behind at whole text
line_put at n line whole text after e f = f ∙ ap (λ (l : List ℕ). put_behind at l text) e
