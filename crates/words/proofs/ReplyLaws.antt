-- The replies to lines, by the cases of the code. Assumes nothing.
use Rattle.std.proofs.Common.{None, Some, Result, Ok, Err}
use Rattle.std.proofs.Common as std
use native.Mathlib.Omega.{arith}
use mathlib.Core.Path.{◌≡◌, refl, sym, ◌∙◌, ap}
use mathlib.Core.Bool.{Bool, true, false, cond}
use mathlib.Core.List.{List, ◌++◌}
use mathlib.Core.Option.{none, some}
use Prim.Native.Nat.{ℕ, ◌+◌, ◌≤◌, ◌<◌}
use lib.Dec.{eqb, ltb, leb}
use lib.ListN.{length, take, drop, get_or, replicate, length-append, length-replicate, get_or-eq_default}
use lib.Seq.{take_at}
use borrow.Author.Tests.{eqb-true, ltb-true, ltb-false}
use Rattle.packet.specs.Names.{bytes_of}
use Rattle.lines.specs.Numerals.{decimal_at, is_hex, bytes_in, HexRead, hex_read, hex_in}
use Rattle.lines.specs.Lines.{printed, printed_in}
use Rattle.names.specs.Names.{begins_with}
use Rattle.grammar.specs.Formula.{postfix}
use Rattle.grammar.specs.Machine.{Outcome, accepted, refused, outcome_of}
use Rattle.paper.specs.Answer as paper
use Rattle.paper.specs.declared.Answer.{Answer}
use Rattle.paper.specs.declared.Answer.TheVariants as answer
use Rattle.replies.specs.Reply.{said_of, replies, lined, replied}
use Rattle.replies.proofs.ReplyLaws.{print_line}
use Rattle.why.specs.Answer.{Whys}
use Rattle.words.specs.Pieces.{Pushed}
use Rattle.words.specs.Why.{told_by, why_line, paper_told, hex_told, tabbed, Asking, text_reply, hex_reply, reply_by}

-- ---- an equation as on paper, by the reader's answer

module _ (ask : List ℕ → Whys) where
  abbrev pub paper_for : Outcome → Result Answer ℕ → List ℕ → List ℕ
  paper_for o (Ok (answer.Bytes n)) now = told_by (ask (take n now))
  paper_for o (Ok (answer.Wrong p why)) now = said_of o
  paper_for o (Ok answer.Long) now = said_of o
  paper_for o (Err n) now = said_of o

  abbrev paper_by : Outcome → paper.Answers → List ℕ
  paper_by o a = paper_for o a.answer a.out

  by_outcome : (o : Outcome) → paper_by o (paper.answered o (replicate 256 0)) ≡ paper_told ask o
  unfolding paper.answered paper.delivered paper_told
  by_outcome (accepted f) = rw (length-replicate {A = ℕ} 256 0) (by (leb (length (postfix f)) 256))
    where
      by : (t : Bool)
          → paper_by (accepted f) (cond t
          (cond t (paper.answers (Ok (answer.Bytes (length (postfix f)))) (postfix f ++ drop (length (postfix f)) (replicate 256 0)))
          (paper.answers (Err 33) (replicate 256 0))) (paper.answers (Ok answer.Long) (replicate 256 0)))
          ≡ cond t (told_by (ask (postfix f))) (said_of (accepted f))
      by true = ap (λ (eq : List ℕ). told_by (ask eq)) (take_at (postfix f) (drop (length (postfix f)) (replicate 256 0)) (length (postfix f)) refl)
      by false = refl
  by_outcome (refused p why) = refl

  module _ (text : List ℕ) (r x : Result Answer ℕ) (now : List ℕ) (e : paper.answers r now ≡ paper.bytes_of text (replicate 256 0)) (z : r ≡ x) where
    pub paper_as : paper_told ask (outcome_of text) ≡ paper_for (outcome_of text) x now
    paper_as = sym (rw (← z) (ap (λ (a : paper.Answers). paper_by (outcome_of text) a) e ∙ by_outcome (outcome_of text)))

-- ---- a line in a buffer, printed

pub print_pushed : (buffer line now text : List ℕ) (n : ℕ) → length line ≤ length buffer → Pushed buffer 0 line n now
    → printed_in (take n now) text ≡ printed_in line text
print_pushed buffer line now text n h p = print_line buffer line now text n (omega (arith, p.end)) h p.is

-- ---- a number that a tab follows

some_byte : (line : List ℕ) (k : ℕ) → get_or line k 0 ≡ 9 → k < length line
some_byte line k e = by (ltb k (length line)) refl
  where
    by : (t : Bool) → ltb k (length line) ≡ t → k < length line
    by true f = ltb-true k (length line) f
    by false f = absurd (omega (arith, e, get_or-eq_default line 0 {n = k} (ltb-false k (length line) f)))

place : std.Option (ℕ × ℕ) → ℕ
place None = 0
place (Some (v, next)) = next

pub tab_within : (d : std.Option (ℕ × ℕ)) (line : List ℕ) (v k : ℕ) → tabbed d line ≡ Some (v, k) → k ≤ length line
unfolding tabbed place
tab_within None line v k e = omega (arith, ap place e)
tab_within (Some (w, next)) line v k e = by (eqb (get_or line next 0) 9) refl e
  where
    by : (t : Bool) → eqb (get_or line next 0) 9 ≡ t → cond {A = std.Option (ℕ × ℕ)} t (Some (w, next + 1)) None ≡ Some (v, k) → k ≤ length line
    by true f g = omega (arith, ap place g, some_byte line next (eqb-true (get_or line next 0) 9 f))
    by false f g = omega (arith, ap place g)

-- ---- the replies

module _ (ask : Asking) (line text : List ℕ) (d : std.Option (ℕ × ℕ)) where
  pub text_bad : d ≡ None → replies None text ≡ replied (text_reply ask line d) text
  unfolding text_reply replied
  text_bad e = rw e

  pub text_value : (number at : ℕ) → d ≡ Some (number, at) → (rest later : List ℕ) (r : ℕ) → rest ≡ drop at line
      → printed r later ≡ printed_in (why_line number (paper_told (ask number) (outcome_of rest))) text
      → replies (Some r) later ≡ replied (text_reply ask line d) text
  unfolding text_reply replied
  text_value number at e rest later r f g = rw (e, ← f) (ap lined g)

  pub hex_bad : d ≡ None → replies None text ≡ replied (hex_reply ask line d) text
  unfolding hex_reply replied
  hex_bad e = rw e

  pub hex_value_law : (number at : ℕ) → d ≡ Some (number, at) → (rest later : List ℕ) (r : std.Option ℕ) → rest ≡ drop at line
      → replies r later ≡ replied (hex_told (ask number) number rest) text
      → replies r later ≡ replied (hex_reply ask line d) text
  unfolding hex_reply
  hex_value_law number at e rest later r f g = rw (e, ← f) g

-- ---- hex

kind : std.Option ℕ → ℕ
kind None = 0
kind (Some n) = 1

module _ (ask : List ℕ → Whys) (number : ℕ) (field bytes now : List ℕ) (r : std.Option ℕ) (big : length bytes ≡ 65536)
    (e : hex_read r now ≡ hex_in field bytes) where
  pub record HexIs (n : ℕ) : Type 0 where
    pub line : hex_told ask number field ≡ some (why_line number (told_by (ask (bytes_in field))))
    pub front : take n now ≡ bytes_in field
    pub within : n ≤ length now

  pub field_is : (n : ℕ) → r ≡ Some n → HexIs n
  unfolding hex_in hex_told kind
  field_is n z = by (is_hex field) refl (leb (length (bytes_in field)) (length bytes)) refl e
    where
      by : (s : Bool) → is_hex field ≡ s → (t : Bool) → leb (length (bytes_in field)) (length bytes) ≡ t
          → hex_read r now
          ≡ cond s (cond t (hex_read (Some (length (bytes_in field))) (bytes_in field ++ drop (length (bytes_in field)) bytes)) (hex_read None bytes))
          (hex_read None bytes)
          → HexIs n
      by true x true y w =
          let a : Some n ≡ Some (length (bytes_in field)) = sym z ∙ ap (λ (h : HexRead). h.answer) w in
          let k : n ≡ length (bytes_in field) = cc in
          let o : now ≡ bytes_in field ++ drop (length (bytes_in field)) bytes = ap (λ (h : HexRead). h.left) w in
          record {
            line = rw (x, ← big, y);
            front = rw (o, k) (take_at (bytes_in field) (drop (length (bytes_in field)) bytes) (length (bytes_in field)) refl);
            within = rw o (omega (arith, length-append (bytes_in field) (drop (length (bytes_in field)) bytes)));
          }
      by true x false y w = absurd (omega (arith, ap kind (sym z ∙ ap (λ (h : HexRead). h.answer) w)))
      by false x t y w = absurd (omega (arith, ap kind (sym z ∙ ap (λ (h : HexRead). h.answer) w)))

  field_none : r ≡ None → hex_told ask number field ≡ none
  unfolding hex_in hex_told kind
  field_none z = by (is_hex field) refl (leb (length (bytes_in field)) (length bytes)) refl e
    where
      by : (s : Bool) → is_hex field ≡ s → (t : Bool) → leb (length (bytes_in field)) (length bytes) ≡ t
          → hex_read r now
          ≡ cond s (cond t (hex_read (Some (length (bytes_in field))) (bytes_in field ++ drop (length (bytes_in field)) bytes)) (hex_read None bytes))
          (hex_read None bytes)
          → cond s (cond (leb (length (bytes_in field)) 65536) (some (why_line number (told_by (ask (bytes_in field))))) none) none ≡ none
      by true x true y w = absurd (omega (arith, ap kind (sym z ∙ ap (λ (h : HexRead). h.answer) w)))
      by true x false y w = rw (rw big at y)
      by false x t y w = refl

  module _ (text : List ℕ) where
    pub field_line : (later : List ℕ) (n k : ℕ) → r ≡ Some n → printed k later ≡ printed_in (why_line number (told_by (ask (take n now)))) text
        → replies (Some k) later ≡ replied (hex_told ask number field) text
    unfolding replied
    field_line later n k z f = let h = field_is n z in rw h.line (rw h.front at (ap lined f))

    pub field_bad : r ≡ None → replies None text ≡ replied (hex_told ask number field) text
    unfolding replied
    field_bad z = rw (field_none z)

-- ---- by the word in front

module _ (ask : Asking) (line text later : List ℕ) (r : std.Option ℕ) where
  pub why_first : begins_with (bytes_of "why\t") line ≡ true → replies r later ≡ replied (text_reply ask line (tabbed (decimal_at line 4) line)) text
      → replies r later ≡ replied (reply_by ask line) text
  unfolding reply_by
  why_first h e = rw h e

  pub bytes_first : begins_with (bytes_of "why\t") line ≡ false → begins_with (bytes_of "why-bytes\t") line ≡ true
      → replies r later ≡ replied (hex_reply ask line (tabbed (decimal_at line 10) line)) text
      → replies r later ≡ replied (reply_by ask line) text
  unfolding reply_by
  bytes_first h i e = rw (h, i) e

pub no_word : (ask : Asking) (line text : List ℕ) → begins_with (bytes_of "why\t") line ≡ false → begins_with (bytes_of "why-bytes\t") line ≡ false
    → replies None text ≡ replied (reply_by ask line) text
unfolding reply_by replied
no_word ask line text h i = rw (h, i)
