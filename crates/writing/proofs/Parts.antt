-- Laws on the parts of the text of a relation, by the tests that code makes of it. Assumes nothing.
use mathlib.Core.Path.{◌≡◌, refl, sym, ap, ◌∙◌}
use mathlib.Core.Bool.{Bool, true, false, cond}
use mathlib.Core.List.{List, [], ◌∷◌, ◌++◌}
use mathlib.Core.Option.{Option, none, some}
use Prim.Native.Nat.{ℕ, zero, suc, ◌+◌, ◌-◌, ◌/◌, ◌%◌, ◌≤◌, ◌<◌}
use native.Mathlib.Omega.{arith}
use lib.Dec.{leb, eqb}
use lib.ListN.{length, get_or, take, drop, length-append, replicate}
use lib.Seq.{take_at, length-take-le}
use borrow.Author.Tests.{lt-ltb, le-ltb, eq-eqb, ne_eqb, eqb-true, eqb-false}
use Rattle.numbers.specs.Numbers.{number}
use Rattle.packet.specs.Names.{bytes_of}
use Rattle.numbers.specs.Hex.{hex_digit}
use Rattle.lines.specs.Text.{decimal_of}
use Rattle.equation.specs.Relation.{kind_of, operator_of, width}
use Rattle.equation.specs.Symbols.{good_number, good}
use Rattle.equation.specs.Holds.{Relation, relation_of}
use Rattle.names.specs.Names.{Named, items, name_in, name_of, usual_width}
use Rattle.names.specs.Kinds.{is_printed}
use Rattle.names.specs.Rows.{row_for, row_in, row_of}
use Rattle.names.specs.declared.table.Row.{Row}
use Rattle.names.proofs.Tests as tests
use Rattle.names.proofs.RowLaws.{row_width}
use Rattle.grammar.specs.Meaning.{least_width, width_of}
use Rattle.grammar.specs.Grammar.{item_text, operator_text, character_text, characters_text, constant_text, written_text}
use Rattle.writing.specs.Text.{item_by, item_for, character_for, number_for, constant_for, comparison_for, relation_text}
use Rattle.writing.specs.Places.{connective_text, opening, closing, quoted}

-- ---- strings

module _ (b : ℕ) where
  pub character_quote : b ≡ 34 → character_text (character_for b) ≡ 92 ∷ 34 ∷ []
  unfolding character_for character_text
  character_quote h = rw h

  pub character_escape : b ≡ 92 → character_text (character_for b) ≡ 92 ∷ 92 ∷ []
  unfolding character_for character_text
  character_escape h = rw h

  pub character_plain : (b ≡ 34 → ⊥) → (b ≡ 92 → ⊥) → is_printed b ≡ true → character_text (character_for b) ≡ b ∷ []
  unfolding character_for character_text
  character_plain h i p = rw (ne_eqb b 34 h, ne_eqb b 92 i, p)

  pub character_coded : (b ≡ 34 → ⊥) → (b ≡ 92 → ⊥) → is_printed b ≡ false → character_text (character_for b)
      ≡ 92 ∷ 120 ∷ hex_digit (b / 16) ∷ hex_digit (b % 16) ∷ []
  unfolding character_for character_text
  character_coded h i p = rw (ne_eqb b 34 h, ne_eqb b 92 i, p)

pub quoted_cons : (b : ℕ) (s : List ℕ) → quoted (b ∷ s) ≡ character_text (character_for b) ++ quoted s
unfolding characters_text
quoted_cons b s = refl

pub quoted_nil : quoted [] ≡ []
unfolding characters_text
quoted_nil = refl

pub quoted_drop : (j : ℕ) (s : List ℕ) → length (quoted (drop j s)) ≤ length (quoted s)
quoted_drop zero s = omega arith
quoted_drop (suc j) [] = omega arith
quoted_drop (suc j) (b ∷ s) = omega (arith, quoted_drop j s, ap length (quoted_cons b s), length-append (character_text (character_for b)) (quoted s))

pub string_is : (s : List ℕ) → length (34 ∷ (quoted s ++ 34 ∷ [])) ≡ 2 + length (quoted s)
string_is s = omega (arith, length-append (quoted s) (34 ∷ []))

-- ---- numbers

-- 1, 2 or 4 bytes
pub four_left : (n : ℕ) → width n ≡ true → (n ≡ 1 → ⊥) → (n ≡ 2 → ⊥) → n ≡ 4
unfolding width
four_left n w h i = eqb-true n 4 (rw (ne_eqb n 1 h, ne_eqb n 2 i) at w)

pub width_small : (n : ℕ) → width n ≡ true → n ≤ 4
unfolding width
width_small n w = by (eqb n 1) refl w
  where
    by2 : (t : Bool) → eqb n 2 ≡ t → cond t true (eqb n 4) ≡ true → n ≤ 4
    by2 true e z = omega (arith, eqb-true n 2 e)
    by2 false e z = omega (arith, eqb-true n 4 z)

    by : (t : Bool) → eqb n 1 ≡ t → cond t true (cond (eqb n 2) true (eqb n 4)) ≡ true → n ≤ 4
    by true e z = omega (arith, eqb-true n 1 e)
    by false e z = by2 (eqb n 2) refl z

pub one_byte : (s : List ℕ) → length s ≡ 1 → get_or s 0 0 ≡ number s
unfolding number
one_byte [] h = absurd (omega arith)
one_byte (a ∷ []) h = omega arith
one_byte (a ∷ b ∷ s) h = absurd (omega arith)

pub two_bytes : (s : List ℕ) → length s ≡ 2 → number (get_or s 0 0 ∷ get_or s 1 0 ∷ []) ≡ number s
two_bytes [] h = absurd (omega arith)
two_bytes (a ∷ []) h = absurd (omega arith)
two_bytes (a ∷ b ∷ []) h = refl
two_bytes (a ∷ b ∷ c ∷ s) h = absurd (omega arith)

pub four_bytes : (s : List ℕ) → length s ≡ 4 → number (get_or s 0 0 ∷ get_or s 1 0 ∷ get_or s 2 0 ∷ get_or s 3 0 ∷ []) ≡ number s
four_bytes [] h = absurd (omega arith)
four_bytes (a ∷ []) h = absurd (omega arith)
four_bytes (a ∷ b ∷ []) h = absurd (omega arith)
four_bytes (a ∷ b ∷ c ∷ []) h = absurd (omega arith)
four_bytes (a ∷ b ∷ c ∷ d ∷ []) h = refl
four_bytes (a ∷ b ∷ c ∷ d ∷ e ∷ s) h = absurd (omega arith)

pub least_one : (v : ℕ) → v < 256 → 1 ≡ least_width v
unfolding least_width
least_one v h = rw (lt-ltb v 256 h)

pub least_two : (v : ℕ) → 256 ≤ v → v < 65536 → 2 ≡ least_width v
unfolding least_width
least_two v h i = rw (le-ltb v 256 h, lt-ltb v 65536 i)

pub least_four : (v : ℕ) → 65536 ≤ v → 4 ≡ least_width v
unfolding least_width
least_four v h = rw (le-ltb v 256 (omega arith), le-ltb v 65536 h)

module _ (row : Row) (least id v : ℕ) (e : row ≡ row_of id) (f : least ≡ least_width v) where
  pub usual : row.width ≡ usual_width id
  usual = ap (λ (r : Row). r.width) e ∙ row_width id

  pub taken_least : row.width < least → least ≡ width_of id v
  taken_least h = omega (arith, usual, f)

  pub taken_usual : least ≤ row.width → row.width ≡ width_of id v
  taken_usual h = omega (arith, usual, f)

-- a number v read from bytes, with width w where t would be taken
module _ (id w v m t : ℕ) (hv : v ≡ m) (ht : t ≡ width_of id v) where
  pub number_plain : w ≡ t → constant_text (number_for id w m) ≡ decimal_of v
  unfolding number_for constant_text
  number_plain h = rw (← hv, eq-eqb w (width_of id v) (h ∙ ht))

  pub number_sized : (w ≡ t → ⊥) → constant_text (number_for id w m) ≡ decimal_of v ++ (58 ∷ (48 + w) ∷ [])
  unfolding number_for constant_text
  number_sized h = rw (← hv, ne_eqb w (width_of id v) (λ z. h (z ∙ sym ht)))

  pub sized_length : (w ≡ t → ⊥) → length (constant_text (number_for id w m)) ≡ length (decimal_of v) + 2
  sized_length h = ap length (number_sized h) ∙ length-append (decimal_of v) (58 ∷ (48 + w) ∷ [])

-- ---- constants

module _ (code id : ℕ) (s : List ℕ) where
  pub constant_string : kind_of code ≡ 3 → constant_text (constant_for (relation_of code id s)) ≡ 34 ∷ (quoted s ++ 34 ∷ [])
  unfolding constant_for constant_text
  constant_string h = rw (eq-eqb (kind_of code) 3 h)

  pub constant_number : (kind_of code ≡ 3 → ⊥) → constant_text (constant_for (relation_of code id s)) ≡ constant_text (number_for id (length s) (number s))
  unfolding constant_for
  constant_number h = rw (ne_eqb (kind_of code) 3 h)

  pub number_wide : (kind_of code ≡ 3 → ⊥) → good code s ≡ true → width (length s) ≡ true
  unfolding good good_number
  number_wide h g = by (eqb (kind_of code) 0) (rw (ne_eqb (kind_of code) 3 h) at g)
    where
      by : (t : Bool) → cond t (good_number (operator_of code) (length s)) false ≡ true → width (length s) ≡ true
      by true z = unfold good_number in tests.second_true (leb (operator_of code) 5) (width (length s)) z
      by false z = absurd (tests.clash false z refl)

-- ---- operators

module _ (n : ℕ) where
  pub operator_0 : n ≡ 0 → 61 ∷ 61 ∷ [] ≡ operator_text (comparison_for n)
  unfolding comparison_for operator_text bytes_of
  operator_0 h = rw h

  pub operator_1 : n ≡ 1 → 62 ∷ [] ≡ operator_text (comparison_for n)
  unfolding comparison_for operator_text bytes_of
  operator_1 h = rw h

  pub operator_2 : n ≡ 2 → 60 ∷ [] ≡ operator_text (comparison_for n)
  unfolding comparison_for operator_text bytes_of
  operator_2 h = rw h

  pub operator_3 : n ≡ 3 → 33 ∷ 61 ∷ [] ≡ operator_text (comparison_for n)
  unfolding comparison_for operator_text bytes_of
  operator_3 h = rw h

  pub operator_4 : n ≡ 4 → 62 ∷ 61 ∷ [] ≡ operator_text (comparison_for n)
  unfolding comparison_for operator_text bytes_of
  operator_4 h = rw h

  pub operator_5 : (n ≡ 0 → ⊥) → (n ≡ 1 → ⊥) → (n ≡ 2 → ⊥) → (n ≡ 3 → ⊥) → (n ≡ 4 → ⊥) → 60 ∷ 61 ∷ [] ≡ operator_text (comparison_for n)
  unfolding comparison_for operator_text bytes_of
  operator_5 a b c d e = rw (ne_eqb n 0 a, ne_eqb n 1 b, ne_eqb n 2 c, ne_eqb n 3 d, ne_eqb n 4 e)

-- ---- items

-- the letters of a row that has a name, and no row has an empty name
record RowIs (id : ℕ) (r : Row) (o : Option (List ℕ)) : Type 0 where
  nameless : r.size ≡ 0 → o ≡ none
  named : (r.size ≡ 0 → ⊥) → o ≡ some (take r.size r.letters)
  within : r.size ≤ length r.letters

all_named : List Named → Bool
all_named [] = true
all_named (x ∷ xs) = cond (eqb (length (bytes_of x.name)) 0) false (all_named xs)

all_named_law : all_named items ≡ true
unfolding all_named items bytes_of
all_named_law = refl

row_is : (xs : List Named) (id : ℕ) → all_named xs ≡ true → RowIs id (row_in xs id) (name_in xs id)
unfolding row_in name_in all_named
row_is [] id h = unfold row_for bytes_of in record { nameless = λ z. refl; named = λ z. absurd (z refl); within = omega arith }
row_is (x ∷ xs) id h = here (row_is xs id) (eqb (length (bytes_of x.name)) 0) refl h
  where
    by : (length (bytes_of x.name) ≡ 0 → ⊥) → RowIs id (row_in xs id) (name_in xs id) → (t : Bool)
        → RowIs id (cond t (row_for x) (row_in xs id)) (cond t (some (bytes_of x.name)) (name_in xs id))
    by n ih true =
        unfold row_for in
        record {
          nameless = λ z. absurd (n z);
          named = λ z. rw (take_at (bytes_of x.name) (replicate (23 - length (bytes_of x.name)) 0) (length (bytes_of x.name)) refl);
          within = omega (arith, length-append (bytes_of x.name) (replicate (23 - length (bytes_of x.name)) 0));
        }
    by n ih false = ih

    here : (all_named xs ≡ true → RowIs id (row_in xs id) (name_in xs id)) → (t : Bool) → eqb (length (bytes_of x.name)) 0 ≡ t → cond t false (all_named xs)
        ≡ true
        → RowIs id (cond (eqb x.id id) (row_for x) (row_in xs id)) (cond (eqb x.id id) (some (bytes_of x.name)) (name_in xs id))
    here ih true e z = absurd (tests.clash false z refl)
    here ih false e z = by (eqb-false (length (bytes_of x.name)) 0 e) (ih z) (eqb x.id id)

module _ (id : ℕ) (r : Row) (e : r ≡ row_of id) where
  the_row : RowIs id r (name_of id)
  the_row = rw e (row_is items id all_named_law)

  pub letters_within : r.size ≤ length r.letters
  letters_within = the_row.within

  pub letters_length : r.size ≡ length (take r.size r.letters)
  letters_length = sym (length-take-le r.size r.letters letters_within)

  pub item_named : (r.size ≡ 0 → ⊥) → take r.size r.letters ≡ item_text (item_for id)
  unfolding item_by item_text
  item_named h = rw (the_row.named h)

  pub item_coded : id < 65536 → r.size ≡ 0
      → item_text (item_for id) ≡ 35 ∷ hex_digit (id / 256 / 16) ∷ hex_digit (id / 256 % 16) ∷ hex_digit (id % 256 / 16) ∷ hex_digit (id % 256 % 16) ∷ []
  unfolding item_by item_text
  item_coded l h =
      let a : id / 4096 % 16 ≡ id / 256 / 16 = omega arith in
      let b : id / 16 % 16 ≡ id % 256 / 16 = omega arith in
      let c : id % 16 ≡ id % 256 % 16 = omega arith in
      rw (the_row.nameless h, a, b, c)

-- ---- relations

module _ (r : Relation) where
  pub relation_is : relation_text r ≡ item_text (item_for r.id)
      ++ (32 ∷ (operator_text (comparison_for (operator_of r.code)) ++ (32 ∷ constant_text (constant_for r))))
  unfolding written_text
  relation_is = refl

  pub relation_length : length (relation_text r)
      ≡ length (item_text (item_for r.id)) + (1 + (length (operator_text (comparison_for (operator_of r.code))) + (1 + length (constant_text (constant_for r)))))
  relation_length =
      rw relation_is
      (omega (
        arith,
        length-append (item_text (item_for r.id)) (32 ∷ (operator_text (comparison_for (operator_of r.code)) ++ (32 ∷ constant_text (constant_for r)))),
        length-append (operator_text (comparison_for (operator_of r.code))) (32 ∷ constant_text (constant_for r)),
      ))

-- ---- connectives and brackets

module _ (p level : ℕ) where
  pub closing_in : p < level → closing p level ≡ 41 ∷ []
  unfolding closing
  closing_in h = rw (lt-ltb p level h)

  pub closing_out : level ≤ p → closing p level ≡ []
  unfolding closing
  closing_out h = rw (le-ltb p level h)

  pub opening_in : p < level → opening p level ≡ 40 ∷ []
  unfolding opening
  opening_in h = rw (lt-ltb p level h)

  pub opening_out : level ≤ p → opening p level ≡ []
  unfolding opening
  opening_out h = rw (le-ltb p level h)

pub connective_and : (p : ℕ) → p ≡ 1 → 32 ∷ 38 ∷ 38 ∷ 32 ∷ [] ≡ connective_text p
unfolding connective_text bytes_of
connective_and p h = rw h

pub connective_or : (p : ℕ) → (p ≡ 1 → ⊥) → 32 ∷ 124 ∷ 124 ∷ 32 ∷ [] ≡ connective_text p
unfolding connective_text bytes_of
connective_or p h = rw (ne_eqb p 1 h)
