-- The answer to a line by its word. Assumes nothing.
use Rattle.std.proofs.Common.{None, Some}
use Rattle.std.proofs.Common as std
use mathlib.Core.Path.{◌≡◌, refl, sym, ap, ◌∙◌}
use mathlib.Core.Bool.{Bool, true, false, cond}
use mathlib.Core.List.{List, [], ◌∷◌, ◌++◌}
use mathlib.Core.Option.{none, some}
use Prim.Native.Nat.{ℕ, ◌≤◌, ◌<◌}
use native.Mathlib.Omega.{arith}
use lib.Dec.{leb, eqb}
use lib.ListN.{length, take, drop, length-append}
use lib.Seq.{take_at}
use borrow.Author.Tests.{le-leb}
use Rattle.packet.specs.Names.{bytes_of}
use Rattle.lines.specs.Numerals.{is_hex, bytes_in, HexRead, hex_read, hex_in}
use Rattle.lines.proofs.NumeralLaws.{bytes_count}
use Rattle.lines.specs.Lines.{printed, printed_in}
use Rattle.names.specs.Names.{begins_with}
use Rattle.names.proofs.Tests as tests
use Rattle.grammar.specs.Machine.{outcome_of}
use Rattle.back.specs.Answer.{written_of}
use Rattle.replies.specs.Reply.{said_of, told_by, room, hex_reply, replies_to, replies, lined, replied, reply_of}

-- ---- hex

pub record HexIs (field now : List ℕ) (n : ℕ) : Type 0 where
  pub line : hex_reply field ≡ some (told_by (written_of (bytes_in field) room))
  pub bytes : take n now ≡ bytes_in field
  pub within : n ≤ length now

kind : std.Option ℕ → ℕ
kind None = 0
kind (Some n) = 1

-- with a buffer that has room where one of 65,536 bytes has
module _ (field bytes now : List ℕ) (r : std.Option ℕ) (same : leb (length (bytes_in field)) (length bytes) ≡ leb (length (bytes_in field)) 65536) where
  pub hex_is : (n : ℕ) → hex_read r now ≡ hex_in field bytes → r ≡ Some n → HexIs field now n
  unfolding hex_in hex_reply kind
  hex_is n e z = by (is_hex field) refl (leb (length (bytes_in field)) (length bytes)) refl e
    where
      by : (s : Bool) → is_hex field ≡ s → (t : Bool) → leb (length (bytes_in field)) (length bytes) ≡ t
          → hex_read r now
          ≡ cond s (cond t (hex_read (Some (length (bytes_in field))) (bytes_in field ++ drop (length (bytes_in field)) bytes)) (hex_read None bytes))
          (hex_read None bytes)
          → HexIs field now n
      by true x true y w =
          let a : Some n ≡ Some (length (bytes_in field)) = sym z ∙ ap (λ (h : HexRead). h.answer) w in
          let k : n ≡ length (bytes_in field) = cc in
          let o : now ≡ bytes_in field ++ drop (length (bytes_in field)) bytes = ap (λ (h : HexRead). h.left) w in
          record {
            line = rw (x, ← same, y);
            bytes = rw (o, k) (take_at (bytes_in field) (drop (length (bytes_in field)) bytes) (length (bytes_in field)) refl);
            within = rw o (omega (arith, length-append (bytes_in field) (drop (length (bytes_in field)) bytes)));
          }
      by true x false y w = absurd (omega (arith, ap kind (sym z ∙ ap (λ (h : HexRead). h.answer) w)))
      by false x t y w = absurd (omega (arith, ap kind (sym z ∙ ap (λ (h : HexRead). h.answer) w)))

  pub hex_bad : hex_read r now ≡ hex_in field bytes → r ≡ None → hex_reply field ≡ none
  unfolding hex_in hex_reply kind
  hex_bad e z = by (is_hex field) refl (leb (length (bytes_in field)) (length bytes)) refl e
    where
      by : (s : Bool) → is_hex field ≡ s → (t : Bool) → leb (length (bytes_in field)) (length bytes) ≡ t
          → hex_read r now
          ≡ cond s (cond t (hex_read (Some (length (bytes_in field))) (bytes_in field ++ drop (length (bytes_in field)) bytes)) (hex_read None bytes))
          (hex_read None bytes)
          → cond s (cond (leb (length (bytes_in field)) 65536) (some (told_by (written_of (bytes_in field) room))) none) none ≡ none
      by true x true y w = absurd (omega (arith, ap kind (sym z ∙ ap (λ (h : HexRead). h.answer) w)))
      by true x false y w = rw (sym same ∙ y)
      by false x t y w = refl

-- the two buffers
pub short_room : (field : List ℕ) (size : ℕ) → length field < 4096 → size ≡ 2047
    → leb (length (bytes_in field)) size ≡ leb (length (bytes_in field)) 65536
short_room field size h e =
    rw (
      e,
      le-leb (length (bytes_in field)) 2047 (omega (arith, h, bytes_count field)),
      le-leb (length (bytes_in field)) 65536 (omega (arith, h, bytes_count field)),
    )

pub long_room : (field : List ℕ) (size : ℕ) → size ≡ 65536 → leb (length (bytes_in field)) size ≡ leb (length (bytes_in field)) 65536
long_room field size e = rw e

module _ (field text : List ℕ) where
  pub hex_line : (now later : List ℕ) (n r : ℕ) → HexIs field now n → printed r later ≡ printed_in (told_by (written_of (take n now) room)) text
      → replies (Some r) later ≡ replied (hex_reply field) text
  unfolding replied
  hex_line now later n r h e = rw h.line (rw h.bytes at (ap lined e))

  pub no_hex : hex_reply field ≡ none → replies None text ≡ replied (hex_reply field) text
  unfolding replied
  no_hex h = rw h

-- ---- the word in front

begins_length : (w line : List ℕ) → begins_with w line ≡ true → length w ≤ length line
unfolding begins_with
begins_length [] line h = omega arith
begins_length (b ∷ w) [] h = absurd (tests.clash false h refl)
begins_length (b ∷ w) (c ∷ line) h = omega (arith, begins_length w line (tests.second_true (eqb b c) _ h))

module _ (line text : List ℕ) where
  pub text_first : begins_with (bytes_of "text\t") line ≡ true → (rest later : List ℕ) (r : ℕ) → rest ≡ drop 5 line → printed r later
      ≡ printed_in (said_of (outcome_of rest)) text
      → replies (Some r) later ≡ reply_of line text
  unfolding replies_to replied
  text_first h rest later r e f = rw (h, ← e) (ap lined f)

  pub text_short : begins_with (bytes_of "text\t") line ≡ true → length line < 5 → replies None text ≡ reply_of line text
  unfolding bytes_of
  text_short h i = absurd (omega (arith, begins_length (bytes_of "text\t") line h))

  module _ (no_text : begins_with (bytes_of "text\t") line ≡ false) where
    pub bytes_first : begins_with (bytes_of "bytes\t") line ≡ true → (rest later : List ℕ) (r : std.Option ℕ) → rest ≡ drop 6 line → replies r later
        ≡ replied (hex_reply rest) text
        → replies r later ≡ reply_of line text
    unfolding replies_to
    bytes_first h rest later r e f = rw (no_text, h, ← e) f

    pub bytes_short : begins_with (bytes_of "bytes\t") line ≡ true → length line < 6 → replies None text ≡ reply_of line text
    unfolding bytes_of
    bytes_short h i = absurd (omega (arith, begins_length (bytes_of "bytes\t") line h))

    pub no_word : begins_with (bytes_of "bytes\t") line ≡ false → replies None text ≡ reply_of line text
    unfolding replies_to replied
    no_word h = rw (no_text, h)
