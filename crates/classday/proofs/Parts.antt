-- Laws on the part of a turn that is the program's own: a line that is answered. Assumes nothing.
use Rattle.std.proofs.Common.{◌≡◌, ℕ, suc, ◌+◌, ◌-◌, ◌*◌, ◌^◌, ◌<◌, ◌≤◌, Bool, true, false, cond, eqb, ltb, List, ◌++◌, length, take, drop, sym, refl, ap, ◌∙◌, arith, take-append-drop, take_all, ltb-false, None, Some}
use Rattle.std.proofs.Common as std
use mathlib.Core.Option.{Option, none, some}
use Rattle.server.specs.State.{Lent}
use Rattle.lines.specs.Lines.{printed, printed_in}
use Rattle.input.specs.Parts.{bytes_from, least_of, wrapped}
use Rattle.input.proofs.PartLaws.{bytes_part}
use Rattle.input.proofs.Places.{end_part, put_end}
use Rattle.script.specs.declared.Day.{Day}
use Rattle.script.specs.Line.{Ran, ran}
use Rattle.replies.specs.Reply.{Replies, replies, replied}
use Rattle.pass.specs.declared.Pass.{Pass}
use Rattle.pass.specs.Pass.{put, memory, passing, passed_over, said_of, error_then_last_put}
use Rattle.pass.proofs.Parts.{none_said, some_said}
use Rattle.classday.specs.Sheet.{only_prints, prints_at, class_words, behind, reply_behind}

-- ---- a part of a list that is cut to it

pub take_least : (n : ℕ) (l : List ℕ) → take (least_of n (length l)) l ≡ take n l
take_least n l = by (ltb n (length l)) refl
  where
    by : (t : Bool) → ltb n (length l) ≡ t → take (cond t n (length l)) l ≡ take n l
    by true e = refl
    by false e = take_all (length l) l (omega arith) ∙ sym (take_all n l (omega (arith, ltb-false n (length l) e)))

pub take_records : (n p r : ℕ) (l : List ℕ) → p ≡ least_of n (length l) → r ≡ least_of (4 * p) (length l) → take r l ≡ take (4 * n) l
take_records n p r l e f = rw f (take_least (4 * p) l) ∙ by (ltb n (length l)) refl e
  where
    by : (t : Bool) → ltb n (length l) ≡ t → p ≡ cond t n (length l) → take (4 * p) l ≡ take (4 * n) l
    by true g h = rw h
    by false g h = take_all (4 * p) l (omega (arith, h)) ∙ sym (take_all (4 * n) l (omega (arith, ltb-false n (length l) g)))

-- ---- a reply behind what waits

pub reply_put : (prints : List ℕ → Option (List ℕ)) (input text part : List ℕ) (from to at stop start place : ℕ) (r : std.Option ℕ)
    → stop ≡ cond (ltb to (length input)) to (length input) → start ≡ cond (ltb from stop) from stop → place ≡ least_of at (length text)
    → replies r part ≡ replied (prints (take (stop - start) (drop start input))) (take (length text - place) (drop place text))
    → replies r (take place text ++ (part ++ drop (length text - place) (drop place text))) ≡ reply_behind at (prints (bytes_from from to input)) text
reply_put prints input text part from to at stop start place r p q e f =
    rw (put_end place text part, ← e)
    (ap (λ (x : Replies). behind place text x)
    (f ∙ ap (λ (l : List ℕ). replied (prints l) (take (length text - place) (drop place text))) (bytes_part input from to stop start p q)
    ∙ ap (λ (t : List ℕ). replied (prints (bytes_from from to input)) t) (end_part place text)))

kind : std.Option ℕ → ℕ
kind None = 0
kind (Some n) = suc n

size_of : std.Option ℕ → ℕ
size_of None = 0
size_of (Some n) = n

-- what a reply says of the line that is printed
record Line (at size : ℕ) (o : Option (List ℕ)) (text now : List ℕ) : Type 0 where
  line : List ℕ
  said : o ≡ some line
  part : List ℕ
  is : printed size part ≡ printed_in line (drop (least_of at (length text)) text)
  left : now ≡ take (least_of at (length text)) text ++ part

module _ (at : ℕ) (text now : List ℕ) where
  none_behind : (o : Option (List ℕ)) → replies None now ≡ reply_behind at o text → (o ≡ none) × (now ≡ text)
  unfolding replied kind
  none_behind none e = (refl, ap (λ (x : Replies). x.text) e ∙ take-append-drop (least_of at (length text)) text)
  none_behind (some line) e = absurd (omega (arith, ap (λ (x : Replies). kind x.reply) e))

  line_behind : (size : ℕ) (o : Option (List ℕ)) → replies (Some size) now ≡ reply_behind at o text → Line at size o text now
  unfolding replied kind size_of
  line_behind size none e = absurd (omega (arith, ap (λ (x : Replies). kind x.reply) e))
  line_behind size (some line) e =
      record {
        line = line;
        said = refl;
        part = (printed_in line (drop (least_of at (length text)) text)).text;
        is = ap (λ (n : ℕ). printed n (printed_in line (drop (least_of at (length text)) text)).text) (ap (λ (x : Replies). size_of x.reply) e);
        left = ap (λ (x : Replies). x.text) e;
      }

-- ---- a line that passday can't read

words_none : (day : Day) (l : Lent) (line : List ℕ) → prints_at day.server l.disk l.owner l.table line ≡ none → class_words day l line ≡ none
unfolding class_words only_prints
words_none day l line e = rw e

words_some : (day : Day) (l : Lent) (line said : List ℕ) → prints_at day.server l.disk l.owner l.table line ≡ some said
    → class_words day l line ≡ some (ran day l said)
unfolding class_words only_prints
words_some day l line said e = rw e

no_some : (o : Option Ran) (r : Ran) → o ≡ some r → o ≡ none → ⊥
no_some o r e f = let z : ◌≡◌ {A = ℕ} 0 1 = cc in omega arith

module _ (p r : Pass) (to : ℕ) (l : Lent) (input bytes text now line : List ℕ) (said : std.Option ℕ)
    (e : replies said now ≡ reply_behind p.filled (prints_at p.day.server l.disk l.owner l.table line) text) where
  pub answered_none : said ≡ None → (after : List ℕ) → put r after ≡ error_then_last_put p l.map l.owner now
      → passing r (memory l input bytes after) ≡ said_of (class_words p.day l line) p to (memory l input bytes text)
  answered_none z after f =
      let n = none_behind p.filled text now (prints_at p.day.server l.disk l.owner l.table line) (rw z at e) in
      none_said p r to l input bytes text (class_words p.day l line) (words_none p.day l line n.0) after (rw n.1 at f)

  pub answered_line : (size : ℕ) → said ≡ Some size
      → r ≡ passed_over p.day p to (wrapped (least_of p.filled (length now) + size)) → length now ≡ length text
      → passing r (memory l input bytes now) ≡ said_of (class_words p.day l line) p to (memory l input bytes text)
  answered_line size z f g =
      let n = line_behind p.filled text now size (prints_at p.day.server l.disk l.owner l.table line) (rw z at e) in
      rw n.left
      (some_said p r to l input bytes text (class_words p.day l line) p.day l n.line n.part size
      (words_some p.day l line n.line n.said) n.is (rw g at f))

  pub line_not_none : (size : ℕ) → said ≡ Some size → class_words p.day l line ≡ none → ⊥
  line_not_none size z f =
      let n = line_behind p.filled text now size (prints_at p.day.server l.disk l.owner l.table line) (rw z at e) in
      no_some (class_words p.day l line) (ran p.day l n.line) (words_some p.day l line n.line n.said) f
