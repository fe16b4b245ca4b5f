-- Pieces of text, one put before the other: what the functions that write relations keep and give. Assumes nothing.
use mathlib.Core.Path.{◌≡◌, refl, sym, ap, ◌∙◌}
use mathlib.Core.Bool.{true}
use mathlib.Core.List.{List, [], ◌∷◌, ◌++◌}
use Prim.Native.Nat.{ℕ, suc, ◌+◌, ◌-◌, ◌/◌, ◌%◌, ◌≤◌, ◌<◌}
use native.Mathlib.Omega.{arith}
use lib.ListN.{length, get_or, take, drop, set, length-append}
use lib.Seq.{sets, set_comm, set_out, drop-cons, drop-length, length-sets}
use Rattle.numbers.specs.Numbers.{number}
use Rattle.numbers.specs.Hex.{hex_digit}
use Rattle.lines.specs.Text.{decimal_of}
use Rattle.lines.proofs.TextLaws.{one_digit, more_digits, digits_more, digits_some}
use Rattle.equation.specs.Relation.{operator_of}
use Rattle.equation.specs.Symbols.{good}
use Rattle.equation.specs.Holds.{Relation, relation_of}
use Rattle.equation.specs.Parsed.{relation_from}
use Rattle.equation.proofs.StepLaws.{relation_id, constant_whole}
use Rattle.names.specs.Rows.{row_of}
use Rattle.names.specs.declared.table.Row.{Row}
use Rattle.grammar.specs.Meaning.{width_of}
use Rattle.grammar.specs.Grammar.{item_text, operator_text, character_text, constant_text}
use Rattle.writing.specs.Text.{item_for, character_for, number_for, constant_for, comparison_for, relation_text}
use Rattle.writing.specs.Places.{quoted, Stands}
use Rattle.writing.proofs.Parts as parts
use Rattle.writing.specs.Pieces.{Piece}

-- ---- pieces

set_sets : (y l : List ℕ) (i a j : ℕ) → i < j → set (sets l j y) i a ≡ sets (set l i a) j y
set_sets [] l i a j h = refl
set_sets (b ∷ y) l i a j h =
    let z : j ≡ i → ⊥ = omega arith in
    set_sets y (set l j b) i a (suc j) (omega arith) ∙ ap (λ (m : List ℕ). sets m (suc j) y) (set_comm l j i b a z)

sets_before : (x y l : List ℕ) (i k : ℕ) → i + length x ≡ k → sets (sets l k y) i x ≡ sets l i (x ++ y)
sets_before [] y l i k h = let z : k ≡ i = omega arith in rw z
sets_before (a ∷ x) y l i k h =
    ap (λ (m : List ℕ). sets m (suc i) x) (set_sets y l i a k (omega arith)) ∙ sets_before x y (set l i a) (suc i) k (omega arith)

pub no_piece : (n : ℕ) (out : List ℕ) → Piece [] n out n out
no_piece n out = record { place = omega arith; bytes = refl }

-- THE LAW: a piece before a piece is their join
pub before : (x y : List ℕ) (n k r : ℕ) (out mid now : List ℕ) → Piece y n out k mid → Piece x k mid r now → Piece (x ++ y) n out r now
before x y n k r out mid now p q =
    record { place = omega (arith, length-append x y, p.place, q.place); bytes = q.bytes ∙ rw p.bytes (sets_before x y out r k q.place) }

pub same_piece : (x y : List ℕ) (n r : ℕ) (out now : List ℕ) → x ≡ y → Piece x n out r now → Piece y n out r now
same_piece x y n r out now e p = rw (← e) p

pub piece_length : (x : List ℕ) (n r : ℕ) (out now : List ℕ) → Piece x n out r now → length now ≡ length out
piece_length x n r out now p = ap length p.bytes ∙ length-sets out r x

-- a place behind the output takes nothing
pub put_out : (b n : ℕ) (out : List ℕ) → 1 ≤ n → length out ≤ n - 1 → Piece (b ∷ []) n out (n - 1) out
put_out b n out h i = record { place = omega arith; bytes = sym (set_out out (n - 1) b i) }

-- ---- bytes, the last one first

pub record Putting (s : List ℕ) (n : ℕ) (start out : List ℕ) (i k : ℕ) : Type 0 where
  pub within : i ≤ length s
  pub room : i ≤ k
  pub piece : Piece (drop i s) n start k out

pub put_start : (s : List ℕ) (n : ℕ) (out : List ℕ) → length s ≤ n → Putting s n out out (length s) n
put_start s n out h = record { within = omega arith; room = h; piece = rw (drop-length s) (no_piece n out) }

from_last : (s : List ℕ) (i : ℕ) → 0 < i → i ≤ length s → drop (i - 1) s ≡ get_or s (i - 1) 0 ∷ drop i s
from_last s i h l =
    let z : suc (i - 1) ≡ i = omega arith in
    drop-cons s (i - 1) 0 (omega arith) ∙ ap (λ (j : ℕ). get_or s (i - 1) 0 ∷ drop j s) z

pub put_next : (s : List ℕ) (n : ℕ) (start out : List ℕ) (i k : ℕ) → Putting s n start out i k → 0 < i → (r : ℕ) (now : List ℕ)
    → Piece (get_or s (i - 1) 0 ∷ []) k out r now → Putting s n start now (i - 1) r
put_next s n start out i k p h r now q =
    record {
      within = omega (arith, p.within);
      room = omega (arith, p.room, q.place);
      piece = rw (from_last s i h p.within) (before (get_or s (i - 1) 0 ∷ []) (drop i s) n k r start out now p.piece q);
    }

pub put_end : (s : List ℕ) (n : ℕ) (start out : List ℕ) (i k : ℕ) → Putting s n start out i k → i ≤ 0 → Piece s n start k out
put_end s n start out i k p h = let z : i ≡ 0 = omega arith in rw z at p.piece

pub hex_piece : (b n k r : ℕ) (out mid now : List ℕ) (low high : ℕ) → low ≡ hex_digit (b % 16) → high ≡ hex_digit (b / 16)
    → Piece (low ∷ []) n out k mid → Piece (high ∷ []) k mid r now → Piece (hex_digit (b / 16) ∷ hex_digit (b % 16) ∷ []) n out r now
hex_piece b n k r out mid now low high hl hh p q = rw (← hl, ← hh) (before (high ∷ []) (low ∷ []) n k r out mid now p q)

-- ---- decimal

module _ (v n : ℕ) (out : List ℕ) where
  pub decimal_one : v < 10 → (r : ℕ) (now : List ℕ) → Piece ((48 + v) ∷ []) n out r now → Piece (decimal_of v) n out r now
  decimal_one h r now p = rw (one_digit v h) p

  pub decimal_some : length (decimal_of v) ≤ n → 1 ≤ n
  decimal_some h = omega (arith, digits_some v)

  module _ (h : 10 ≤ v) (k : ℕ) (mid : List ℕ) (p : Piece ((48 + v % 10) ∷ []) n out k mid) where
    pub decimal_left : length (decimal_of v) ≤ n → length (decimal_of (v / 10)) ≤ k
    decimal_left l = omega (arith, digits_more v (omega arith), p.place)

    pub decimal_more : (r : ℕ) (now : List ℕ) → Piece (decimal_of (v / 10)) k mid r now → Piece (decimal_of v) n out r now
    decimal_more r now q = rw (more_digits v (omega arith)) (before (decimal_of (v / 10)) ((48 + v % 10) ∷ []) n k r out mid now p q)

-- ---- strings

pub record Quoting (s : List ℕ) (n : ℕ) (start out : List ℕ) (i k : ℕ) : Type 0 where
  pub within : i ≤ length s
  pub fits : length (quoted s) ≤ n
  pub piece : Piece (quoted (drop i s)) n start k out

pub quote_start : (s : List ℕ) (n : ℕ) (out : List ℕ) → length (quoted s) ≤ n → Quoting s n out out (length s) n
quote_start s n out h = record { within = omega arith; fits = h; piece = rw (drop-length s, parts.quoted_nil) (no_piece n out) }

module _ (s : List ℕ) (n : ℕ) (start out : List ℕ) (i k : ℕ) (p : Quoting s n start out i k) (h : 0 < i) where
  quoted_last : quoted (drop (i - 1) s) ≡ character_text (character_for (get_or s (i - 1) 0)) ++ quoted (drop i s)
  quoted_last = rw (from_last s i h p.within) (parts.quoted_cons (get_or s (i - 1) 0) (drop i s))

  pub quote_room : length (character_text (character_for (get_or s (i - 1) 0))) ≤ k
  quote_room =
      omega (
        arith,
        p.fits,
        p.piece.place,
        parts.quoted_drop (i - 1) s,
        ap length quoted_last,
        length-append (character_text (character_for (get_or s (i - 1) 0))) (quoted (drop i s)),
      )

  pub quote_next : (r : ℕ) (now : List ℕ) → Piece (character_text (character_for (get_or s (i - 1) 0))) k out r now → Quoting s n start now (i - 1) r
  quote_next r now q =
      record {
        within = omega (arith, p.within);
        fits = p.fits;
        piece = rw quoted_last (before (character_text (character_for (get_or s (i - 1) 0))) (quoted (drop i s)) n k r start out now p.piece q);
      }

pub quote_end : (s : List ℕ) (n : ℕ) (start out : List ℕ) (i k : ℕ) → Quoting s n start out i k → i ≤ 0 → Piece (quoted s) n start k out
quote_end s n start out i k p h = let z : i ≡ 0 = omega arith in rw z at p.piece

-- ---- numbers

-- a number v read from bytes, with width w where t would be taken
module _ (id w v m t : ℕ) (hv : v ≡ m) (ht : t ≡ width_of id v) where
  pub sized_piece : (w ≡ t → ⊥) → (n k j r : ℕ) (out m1 m2 now : List ℕ) → Piece ((48 + w) ∷ []) n out k m1 → Piece (58 ∷ []) k m1 j m2
      → Piece (decimal_of v) j m2 r now
      → Piece (constant_text (number_for id w m)) n out r now
  sized_piece h n k j r out m1 m2 now p q x =
      rw (parts.number_sized id w v m t hv ht h)
      (before (decimal_of v) (58 ∷ (48 + w) ∷ []) n j r out m2 now (before (58 ∷ []) ((48 + w) ∷ []) n k j out m1 m2 p q) x)

-- ---- items

module _ (id : ℕ) (r : Row) (e : r ≡ row_of id) where
  pub coded_piece : id < 65536 → r.size ≡ 0 → (n k j i : ℕ) (out m1 m2 now : List ℕ)
      → Piece (hex_digit (id % 256 / 16) ∷ hex_digit (id % 256 % 16) ∷ []) n out k m1 → Piece (hex_digit (id / 256 / 16) ∷ hex_digit (id / 256 % 16) ∷ []) k m1 j m2
      → Piece (35 ∷ []) j m2 i now
      → Piece (item_text (item_for id)) n out i now
  coded_piece l h n k j i out m1 m2 now p q x =
      rw (parts.item_coded id r e l h)
      (before (35 ∷ []) (hex_digit (id / 256 / 16) ∷ hex_digit (id / 256 % 16) ∷ hex_digit (id % 256 / 16) ∷ hex_digit (id % 256 % 16) ∷ []) n j i out m2 now
      (before (hex_digit (id / 256 / 16) ∷ hex_digit (id / 256 % 16) ∷ []) (hex_digit (id % 256 / 16) ∷ hex_digit (id % 256 % 16) ∷ []) n k j out m1 m2 p q) x)

-- ---- relations

module _ (r : Relation) where
  pub relation_piece : (n k j i h m : ℕ) (out m1 m2 m3 m4 now : List ℕ) → Piece (constant_text (constant_for r)) n out k m1 → Piece (32 ∷ []) k m1 j m2
      → Piece (operator_text (comparison_for (operator_of r.code))) j m2 i m3 → Piece (32 ∷ []) i m3 h m4 → Piece (item_text (item_for r.id)) h m4 m now
      → Piece (relation_text r) n out m now
  relation_piece n k j i h m out m1 m2 m3 m4 now p1 p2 p3 p4 p5 =
      let c = constant_text (constant_for r) in
      let o = operator_text (comparison_for (operator_of r.code)) in
      let q2 = before (32 ∷ []) c n k j out m1 m2 p1 p2 in
      let q3 = before o (32 ∷ c) n j i out m2 m3 q2 p3 in
      let q4 = before (32 ∷ []) (o ++ (32 ∷ c)) n i h out m3 m4 q3 p4 in
      rw (parts.relation_is r) (before (item_text (item_for r.id)) (32 ∷ (o ++ (32 ∷ c))) n h m out m4 now q4 p5)

-- the relation at a place of an equation, as the code reads it
module _ (bytes : List ℕ) (at id n : ℕ) (st : Stands bytes at) (hid : id ≡ number (get_or bytes (at + 1) 0 ∷ get_or bytes (at + 2) 0 ∷ []))
    (room : length (relation_text (relation_from bytes at)) ≤ n) where
  abbrev here : List ℕ
  here = take (at + 4 + get_or bytes (at + 3) 0 - (at + 4)) (drop (at + 4) bytes)

  id_read : id ≡ (relation_from bytes at).id
  id_read = relation_id bytes at (get_or bytes (at + 1) 0) (get_or bytes (at + 2) 0) id refl refl hid

  relation_read : relation_of (get_or bytes at 0) id here ≡ relation_from bytes at
  relation_read = rw (constant_whole bytes at (get_or bytes (at + 3) 0), id_read)

  pub constant_asked : (good (get_or bytes at 0) here ≡ true) × (length (constant_text (constant_for (relation_of (get_or bytes at 0) id here))) ≤ n)
  constant_asked =
      (rw (constant_whole bytes at (get_or bytes (at + 3) 0)) st.good, rw relation_read (omega (arith, room, parts.relation_length (relation_from bytes at))))

  module _ (out : List ℕ) (k : ℕ) (m1 : List ℕ) (p1 : Piece (constant_text (constant_for (relation_of (get_or bytes at 0) id here))) n out k m1) where
    constant_put : Piece (constant_text (constant_for (relation_from bytes at))) n out k m1
    constant_put = rw (← relation_read) p1

    pub blank_asked : 1 ≤ k
    blank_asked = omega (arith, room, parts.relation_length (relation_from bytes at), constant_put.place)

    module _ (j : ℕ) (m2 : List ℕ) (p2 : Piece (32 ∷ []) k m1 j m2) where
      pub operator_asked : length (operator_text (comparison_for (operator_of (get_or bytes at 0)))) ≤ j
      operator_asked = omega (arith, room, parts.relation_length (relation_from bytes at), constant_put.place, p2.place)

      module _ (i : ℕ) (m3 : List ℕ) (p3 : Piece (operator_text (comparison_for (operator_of (get_or bytes at 0)))) j m2 i m3) where
        pub blank_asked_2 : 1 ≤ i
        blank_asked_2 = omega (arith, room, parts.relation_length (relation_from bytes at), constant_put.place, p2.place, p3.place)

        module _ (h : ℕ) (m4 : List ℕ) (p4 : Piece (32 ∷ []) i m3 h m4) where
          pub item_asked : length (item_text (item_for id)) ≤ h
          item_asked = rw id_read (omega (arith, room, parts.relation_length (relation_from bytes at), constant_put.place, p2.place, p3.place, p4.place))

          pub relation_put : (m : ℕ) (now : List ℕ) → Piece (item_text (item_for id)) h m4 m now → Piece (relation_text (relation_from bytes at)) n out m now
          relation_put m now p5 =
              relation_piece (relation_from bytes at) n k j i h m out m1 m2 m3 m4 now constant_put p2 p3 p4
              (same_piece (item_text (item_for id)) (item_text (item_for (relation_from bytes at).id)) h m m4 now (ap (λ (x : ℕ). item_text (item_for x)) id_read) p5)
