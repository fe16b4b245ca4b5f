-- The answers of the two calls, as lines. Assumes nothing.
use Rattle.std.proofs.Common.{Result, Ok, Err}
use mathlib.Core.Path.{◌≡◌, refl, sym, ap, subst, ◌∙◌}
use mathlib.Core.Bool.{Bool, true, false, cond}
use mathlib.Core.List.{List, ◌++◌}
use mathlib.Core.Option.{Option, none, some}
use Prim.Native.Nat.{ℕ, ◌+◌, ◌≤◌, ◌<◌}
use native.Mathlib.Omega.{arith}
use lib.Dec.{leb, ltb}
use lib.ListN.{length, take, drop, replicate, length-replicate}
use lib.Seq.{take_at}
use borrow.Author.Tests.{leb-true}
use Rattle.packet.specs.Names.{bytes_of}
use Rattle.lines.specs.Text.{decimal_of}
use Rattle.lines.proofs.TextLaws.{digits_most_8}
use Rattle.equation.specs.Tree.{Tree, parse}
use Rattle.equation.specs.Newer.{unmarked}
use Rattle.grammar.specs.Formula.{postfix}
use Rattle.grammar.specs.Machine.{Outcome, accepted, refused, outcome_of}
use Rattle.grammar.proofs.Viable.{first_wrong}
use Rattle.paper.specs.Answer as paper
use Rattle.paper.specs.declared.Answer.{Answer}
use Rattle.paper.specs.declared.Answer.TheVariants as answer
use Rattle.paper.proofs.Promised.{promised}
use Rattle.writing.specs.Text.{text_of, nesting}
use Rattle.writing.specs.Places.{formula_of}
use Rattle.back.specs.Answer as back
use Rattle.back.specs.declared.Answer as back-answer
use Rattle.back.specs.declared.Answer.TheVariants as written
use Rattle.replies.specs.Reply.{bytes_line, wrong_line, refused_line, said_of, told_of, told_by, room}
use Rattle.replies.proofs.ReplyLaws.{bytes_size, refused_size, wrong_size, text_size}

-- ---- an equation as on paper

abbrev pub said_for : Result Answer ℕ → List ℕ → List ℕ
said_for (Ok (answer.Bytes n)) now = bytes_line (take n now)
said_for (Ok (answer.Wrong p why)) now = wrong_line p why
said_for (Ok answer.Long) now = refused_line (bytes_of "bytes")
said_for (Err n) now = refused_line (decimal_of n)

abbrev said_by : paper.Answers → List ℕ
said_by a = said_for a.answer a.out

by_outcome : (o : Outcome) → said_by (paper.answered o (replicate 256 0)) ≡ said_of o
unfolding paper.answered paper.delivered said_of
by_outcome (accepted f) = rw (length-replicate {A = ℕ} 256 0) (by (leb (length (postfix f)) 256))
  where
    by : (t : Bool)
        → said_by (cond t
        (cond t (paper.answers (Ok (answer.Bytes (length (postfix f)))) (postfix f ++ drop (length (postfix f)) (replicate 256 0)))
        (paper.answers (Err 33) (replicate 256 0))) (paper.answers (Ok answer.Long) (replicate 256 0)))
        ≡ cond t (bytes_line (postfix f)) (refused_line (bytes_of "bytes"))
    by true = ap bytes_line (take_at (postfix f) (drop (length (postfix f)) (replicate 256 0)) (length (postfix f)) refl)
    by false = refl
by_outcome (refused p why) = refl

module _ (text : List ℕ) (r x : Result Answer ℕ) (now : List ℕ) (e : paper.answers r now ≡ paper.bytes_of text (replicate 256 0)) (z : r ≡ x) where
  pub said_as : said_of (outcome_of text) ≡ said_for x now
  said_as = sym (rw (← z) (ap said_by e ∙ by_outcome (outcome_of text)))

pub bytes_fit : (text : List ℕ) (r : Result Answer ℕ) (n : ℕ) (now : List ℕ) → paper.answers r now ≡ paper.bytes_of text (replicate 256 0) → r ≡ Ok (answer.Bytes n) → n ≤ 256
bytes_fit text r n now e z = let s = promised.sound text (replicate 256 0) n now (sym (rw z at e)) in s.3

said_small : (text : List ℕ) (o : Outcome) → outcome_of text ≡ o → length text < 9223372036854775808 → length (said_of o) ≤ 4096
unfolding said_of bytes_of
said_small text (accepted f) h i = by (leb (length (postfix f)) 256) refl
  where
    by : (t : Bool) → leb (length (postfix f)) 256 ≡ t → length (cond t (bytes_line (postfix f)) (refused_line (bytes_of "bytes"))) ≤ 4096
    by true e = omega (arith, bytes_size (postfix f), leb-true (length (postfix f)) 256 e)
    by false e = omega (arith, refused_size (bytes_of "bytes"))
said_small text (refused p why) h i = omega (arith, wrong_size (p + 1) why (omega (arith, (first_wrong text p why h).within)))

pub said_fits : (text : List ℕ) → length text < 9223372036854775808 → length (said_of (outcome_of text)) ≤ 4096
said_fits text h = said_small text (outcome_of text) refl h

-- ---- an equation in bytes

size_of : Result back-answer.Answer ℕ → ℕ
size_of (Ok (written.Text n)) = n
size_of (Err n) = 0
size_of (Ok written.Mark) = 0
size_of (Ok written.Deeper) = 0
size_of (Ok written.Bytes) = 0

abbrev Fits : List ℕ → back.Answers → Type 0
Fits out a = size_of a.answer ≤ length out

by_cond : (out : List ℕ) (t : Bool) (a b : back.Answers) → Fits out a → (t ≡ false → Fits out b) → Fits out (cond t a b)
by_cond out true a b h i = h
by_cond out false a b h i = i refl

written_fits : (out : List ℕ) (o : Option Tree) (n m : ℕ) → Fits out (back.written_by o n m out)
unfolding back.written_by back.written back.delivered size_of
written_fits out none n m = omega arith
written_fits out (some t) n m =
    by_cond out (ltb m n) _ _ (omega arith)
    (λ a. by_cond out (ltb 16 (nesting (formula_of t))) _ _ (omega arith)
    (λ b. by_cond out (ltb 256 n) _ _ (omega arith) (λ c. by (leb (length (text_of (formula_of t))) (length out)) refl)))
  where
    by : (s : Bool) → leb (length (text_of (formula_of t))) (length out) ≡ s
        → Fits out
        (cond s (back.answers (Ok (written.Text (length (text_of (formula_of t))))) (text_of (formula_of t) ++ drop (length (text_of (formula_of t))) out))
        (back.answers (Err 33) out))
    by true e = leb-true (length (text_of (formula_of t))) (length out) e
    by false e = omega arith

all_fits : (bytes out : List ℕ) → Fits out (back.written_of bytes out)
unfolding back.written_of size_of
all_fits bytes out = by_cond out (ltb 2047 (length bytes)) _ _ (omega arith) (λ e. written_fits out (parse bytes) (length bytes) (length (unmarked bytes)))

pub text_fits : (bytes : List ℕ) (r : Result back-answer.Answer ℕ) (n : ℕ) (now : List ℕ) → back.answers r now ≡ back.written_of bytes (replicate 4000 0) → r
    ≡ Ok (written.Text n) → n ≤ 4000
unfolding size_of
text_fits bytes r n now e z =
    let f : Fits (replicate 4000 0) (back.answers r now) =
    subst (λ (a : back.Answers). Fits (replicate 4000 0) a) (sym e) (all_fits bytes (replicate 4000 0)) in
    let g : n ≤ length (replicate {A = ℕ} 4000 0) = subst (λ (a : Result back-answer.Answer ℕ). size_of a ≤ length (replicate {A = ℕ} 4000 0)) z f in
    omega (arith, g, length-replicate {A = ℕ} 4000 0)

pub told_as : (bytes : List ℕ) (r x : Result back-answer.Answer ℕ) (now : List ℕ) → back.answers r now ≡ back.written_of bytes room → r ≡ x
    → told_by (back.written_of bytes room) ≡ told_of x now
told_as bytes r x now e z = sym (rw (← z) (ap told_by e))

-- the line for it is short
abbrev Small : back.Answers → Type 0
Small a = length (told_by a) ≤ 4096

small_cond : (t : Bool) (a b : back.Answers) → Small a → Small b → Small (cond t a b)
small_cond true a b h i = h
small_cond false a b h i = i

small_text : (text : List ℕ) → length text ≤ 4000 → Small (back.answers (Ok (written.Text (length text))) (text ++ drop (length text) room))
unfolding told_of
small_text text h = rw (take_at text (drop (length text) room) (length text) refl) (omega (arith, text_size text))

small_number : (n : ℕ) → n < 256 → Small (back.answers (Err n) room)
unfolding told_of
small_number n h = omega (arith, refused_size (decimal_of n), digits_most_8 n h)

small_words : Small (back.answers (Ok written.Mark) room) × Small (back.answers (Ok written.Deeper) room) × Small (back.answers (Ok written.Bytes) room)
unfolding told_of refused_line bytes_of
small_words = (omega arith, omega arith, omega arith)

small_delivered : (text : List ℕ) → Small (back.delivered text room)
unfolding back.delivered
small_delivered text = by (leb (length text) (length room)) refl
  where
    by : (t : Bool) → leb (length text) (length room) ≡ t
        → Small (cond t (back.answers (Ok (written.Text (length text))) (text ++ drop (length text) room)) (back.answers (Err 33) room))
    by true e = small_text text (omega (arith, leb-true (length text) (length room) e, length-replicate {A = ℕ} 4000 0))
    by false e = small_number 33 (omega arith)

small_written : (o : Option Tree) (n m : ℕ) → Small (back.written_by o n m room)
unfolding back.written_by back.written
small_written none n m = small_number 8 (omega arith)
small_written (some t) n m =
    small_cond (ltb m n) _ _ small_words.0
    (small_cond (ltb 16 (nesting (formula_of t))) _ _ small_words.1
    (small_cond (ltb 256 n) _ _ small_words.2 (small_delivered (text_of (formula_of t)))))

pub told_fits : (bytes : List ℕ) → length (told_by (back.written_of bytes room)) ≤ 4096
unfolding back.written_of
told_fits bytes =
    small_cond (ltb 2047 (length bytes)) _ _ (small_number 33 (omega arith)) (small_written (parse bytes) (length bytes) (length (unmarked bytes)))
