-- Lines put together of pieces, and what is printed of them. Assumes nothing.
use Rattle.std.proofs.Common.{nat_eq}
use mathlib.Core.Path.{◌≡◌, refl, ap, ◌∙◌}
use mathlib.Core.Bool.{Bool, true, false, cond}
use mathlib.Core.List.{List, [], ◌∷◌, ◌++◌, append_assoc}
use Prim.Native.Nat.{ℕ, ◌+◌, ◌*◌, ◌-◌, ◌≤◌, ◌<◌}
use native.Mathlib.Omega.{arith}
use Rattle.std.proofs.Common.{nat_eq, ◌&&◌}
use Rattle.std.specs.List.{starts_with}
use lib.Dec.{eqb}
use lib.ListN.{length, take, drop, replicate, length-append}
use lib.Seq.{sets, sets-eq, take_at, length-take-le}
use borrow.Author.Tests.{le-leb}
use Rattle.numbers.specs.Numbers.{stored_at}
use Rattle.packet.specs.Names.{bytes_of}
use Rattle.lines.specs.Text.{decimal_of, hex_of}
use Rattle.lines.specs.Lines.{printed, printed_in}
use Rattle.lines.proofs.TextLaws.{hex_length, digits_most}
use Rattle.lines.proofs.Writing.{joined, printed_whole, printed_none}
use Rattle.names.specs.Names.{begins_with}
use Rattle.grammar.specs.declared.Reason.{Reason}
use Rattle.grammar.specs.declared.Reason.TheVariants as reason
use Rattle.replies.specs.Reply.{word_of, bytes_line, wrong_line, refused_line, text_line}
use Rattle.replies.specs.Words.{word_for}
use Rattle.replies.specs.declared.Word.{Word}

-- ---- pieces

pub stored : (out now : List ℕ) (n : ℕ) (piece : List ℕ) → n + length piece ≤ length out → now ≡ stored_at out n piece → now ≡ sets out n piece
unfolding stored_at
stored out now n piece h e = e ∙ rw (le-leb (n + length piece) (length out) h)

module _ (out o1 o2 o3 : List ℕ) (xs ys zs : List ℕ) (a b c : ℕ) (ha : a ≡ 0 + length xs) (e1 : o1 ≡ sets out 0 xs) (hb : b ≡ a + length ys)
    (e2 : o2 ≡ sets o1 a ys)
    (hc : c ≡ b + length zs) (e3 : o3 ≡ sets o2 b zs) where
  two_pieces : o2 ≡ sets out 0 (xs ++ ys)
  two_pieces = e2 ∙ rw (e1, ha) (joined out 0 xs ys)

  both_length : b ≡ 0 + length (xs ++ ys)
  both_length = omega (arith, length-append xs ys)

  pub pieces : o3 ≡ sets out 0 (xs ++ (ys ++ zs))
  pieces = e3 ∙ rw (two_pieces, both_length) (joined out 0 (xs ++ ys) zs) ∙ ap (λ (l : List ℕ). sets out 0 l) (append_assoc xs ys zs)

  pub size : c ≡ length (xs ++ (ys ++ zs))
  size = omega (arith, length-append xs (ys ++ zs), length-append ys zs)

pub five_pieces : (out o1 o2 o3 o4 o5 : List ℕ) (xs ys zs us ws vs : List ℕ) (a b c d e : ℕ) → us ≡ ws → a ≡ 0 + length xs → o1 ≡ sets out 0 xs → b
    ≡ a + length ys → o2 ≡ sets o1 a ys
    → c ≡ b + length zs → o3 ≡ sets o2 b zs → d ≡ c + length us → o4 ≡ sets o3 c us → e ≡ d + length vs → o5 ≡ sets o4 d vs
    → (e ≡ length (xs ++ (ys ++ (zs ++ (ws ++ vs))))) × (o5 ≡ sets out 0 (xs ++ (ys ++ (zs ++ (ws ++ vs)))))
five_pieces out o1 o2 o3 o4 o5 xs ys zs us ws vs a b c d e hu ha e1 hb e2 hc e3 hd e4 he e5 =
    let front : List ℕ = xs ++ (ys ++ zs) in
    let f : o3 ≡ sets out 0 front = pieces out o1 o2 o3 xs ys zs a b c ha e1 hb e2 hc e3 in
    let s : c ≡ length front = size out o1 o2 o3 xs ys zs a b c ha e1 hb e2 hc e3 in
    let t : o5 ≡ sets out 0 (front ++ (us ++ vs)) = pieces out o3 o4 o5 front us vs c d e (omega arith) f hd e4 he e5 in
    let n : e ≡ length (front ++ (us ++ vs)) = size out o3 o4 o5 front us vs c d e (omega arith) f hd e4 he e5 in
    let j : front ++ (us ++ vs) ≡ xs ++ (ys ++ (zs ++ (ws ++ vs))) = rw hu (simp append_assoc) in
    (n ∙ ap length j, t ∙ ap (λ (l : List ℕ). sets out 0 l) j)

-- ---- the printed lines

pub bytes_size : (bytes : List ℕ) → length (bytes_line bytes) ≡ 7 + 2 * length bytes
unfolding bytes_line bytes_of
bytes_size bytes = omega (arith, length-append (hex_of bytes) (10 ∷ []), hex_length bytes)

pub refused_size : (word : List ℕ) → length (refused_line word) ≡ 9 + length word
unfolding refused_line bytes_of
refused_size word = omega (arith, length-append word (10 ∷ []))

pub text_size : (text : List ℕ) → length (text_line text) ≡ 6 + length text
unfolding text_line bytes_of
text_size text = omega (arith, length-append text (10 ∷ []))

pub word_size : (why : Reason) → length (word_of why) ≤ 10
unfolding word_of bytes_of
word_size reason.Item = omega arith
word_size reason.Deeper = omega arith
word_size reason.Operator = omega arith
word_size reason.Order = omega arith
word_size reason.Constant = omega arith
word_size reason.Large = omega arith
word_size reason.Width = omega arith
word_size reason.String = omega arith
word_size reason.Stars = omega arith
word_size reason.Long = omega arith
word_size reason.Connective = omega arith
word_size reason.Bracket = omega arith

pub wrong_size : (place : ℕ) (why : Reason) → place < 18446744073709551616 → length (wrong_line place why) ≤ 40
unfolding wrong_line bytes_of
wrong_size place why h =
    omega (arith, length-append (decimal_of place) (9 ∷ (word_of why ++ (10 ∷ []))), length-append (word_of why) (10 ∷ []), word_size why, digits_most place h)

-- the letters of a word
module _ (why : Reason) (r : Word) (e : r ≡ word_for why) where
  pub word_room : r.size ≤ length r.bytes
  unfolding word_for
  word_room = rw e (omega (arith, length-append (word_of why) (replicate (10 - length (word_of why)) 0)))

  pub word_letters : take r.size r.bytes ≡ word_of why
  unfolding word_for
  word_letters = rw e (take_at (word_of why) (replicate (10 - length (word_of why)) 0) (length (word_of why)) refl)

  pub word_length : r.size ≡ length (word_of why)
  unfolding word_for
  word_length = rw e

-- ---- printing

pub print_none : (buffer text : List ℕ) (n : ℕ) → n ≤ length buffer → length text < n → printed 0 text ≡ printed_in (take n buffer) text
print_none buffer text n h i = printed_none (take n buffer) text (omega (arith, length-take-le n buffer h))

pub print_whole : (buffer text now : List ℕ) (n : ℕ) → n ≤ length buffer → n ≤ length text → now ≡ stored_at text 0 (take n buffer) → printed n now
    ≡ printed_in (take n buffer) text
print_whole buffer text now n h i e =
    let l : length (take n buffer) ≡ n = length-take-le n buffer h in
    let s : now ≡ sets text 0 (take n buffer) = stored text now 0 (take n buffer) (omega arith) e in
    rw s (rw l at (printed_whole (take n buffer) text (omega arith)))

-- a line that stands in a buffer
pub in_buffer : (buffer line : List ℕ) → length line ≤ length buffer → take (length line) (sets buffer 0 line) ≡ line
in_buffer buffer line h = rw (sets-eq line buffer 0 (omega arith)) (take_at line (drop (0 + length line) buffer) (length line) refl)

pub print_line : (buffer line now text : List ℕ) (n : ℕ) → n ≡ length line → length line ≤ length buffer → now ≡ sets buffer 0 line
    → printed_in (take n now) text ≡ printed_in line text
print_line buffer line now text n h i e = rw (e, h) (ap (λ (l : List ℕ). printed_in l text) (in_buffer buffer line i))

-- ---- the word in front of a line

-- the library's test
pub begins_is : (word line : List ℕ) → starts_with nat_eq line word ≡ begins_with word line
unfolding begins_with
begins_is [] line = refl
begins_is (b ∷ word) [] = refl
begins_is (b ∷ word) (c ∷ line) = rw (← begins_is word line) (go (eqb b c) (starts_with nat_eq line word))
  where
    go : (t u : Bool) → (t && u) ≡ cond t u false
    go true u = refl
    go false u = refl
