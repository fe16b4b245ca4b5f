-- The text of a relation reads back as the relation. Assumes nothing.
use mathlib.Core.Path.{◌≡◌, refl, sym, ap, ◌∙◌}
use mathlib.Core.Bool.{Bool, true, false, cond}
use mathlib.Core.List.{List, [], ◌∷◌, ◌++◌, map}
use mathlib.Core.Option.{Option, none, some}
use Prim.Native.Nat.{ℕ, zero, suc, ◌+◌, ◌-◌, ◌*◌, ◌/◌, ◌%◌, ◌≤◌, ◌<◌}
use native.Mathlib.Omega.{arith}
use lib.Dec.{ltb, leb, eqb}
use lib.ListN.{length, get_or, take}
use borrow.Author.Tests.{ltb-true, ltb-false, leb-true, lt-ltb, le-ltb, lt-leb, le-leb, eqb-true, eq-eqb, ne_eqb}
use Rattle.numbers.specs.Numbers.{number, four}
use Rattle.packet.specs.Names.{bytes_of}
use Rattle.text.specs.Match.{lower}
use Rattle.numbers.specs.Hex.{hex_digit}
use Rattle.numbers.proofs.HexLaws.{digit_half}
use Rattle.lines.specs.Text.{decimal_of}
use Rattle.lines.specs.Numerals.{digit, value_from}
use Rattle.lines.specs.Commands.{same}
use Rattle.lines.proofs.TextLaws.{one_digit, more_digits, digits_some}
use Rattle.lines.proofs.RoundTrip.{hex_digit_back}
use Rattle.equation.specs.Relation.{operator_of, kind_of, width}
use Rattle.equation.specs.Holds.{Relation}
use Rattle.equation.specs.Symbols.{stars_in, good_text, good_number, good}
use Rattle.names.specs.Names.{Named, items, small, id_in, id_named, name_in, name_of}
use Rattle.names.specs.Kinds.{is_blank, is_printed, hex_of, is_hex_digit, every}
use Rattle.grammar.specs.Meaning.{operator_number, is_equality, width_of, is_width, number_relation, text_relation}
use Rattle.grammar.specs.Grammar as grammar
use Rattle.grammar.specs.Grammar.{Stands, good_character, good_characters, character_byte, characters_bytes, Constant, Digits, GoodConstant, meant, relation_of}
use Rattle.grammar.specs.Grammar.{GoodWritten}
use Rattle.grammar.specs.declared.Comparison.{Comparison}
use Rattle.names.proofs.Tests as tests
use Rattle.grammar.proofs.Bytes.{Fit}
use Rattle.writing.specs.Text.{item_by, character_for, number_for, constant_for, comparison_for, written_for}

-- a relation that bytes can say
pub record Whole (r : Relation) : Type 0 where
  pub fit : Fit r
  pub code : r.code < 256
  pub bytes : (k : ℕ) → get_or r.constant k 0 < 256
  pub short : length r.constant ≤ 255

-- ---- items

hex_lower : (n : ℕ) → n < 16 → lower (hex_digit n) ≡ hex_digit n
unfolding lower
hex_lower n h = rw (digit_half n h) (by (ltb n 10) refl)
  where
    by : (t : Bool) → ltb n 10 ≡ t
        → cond (leb 65 (cond t (48 + n) (87 + n))) (cond (leb (cond t (48 + n) (87 + n)) 90) (cond t (48 + n) (87 + n) + 32) (cond t (48 + n) (87 + n)))
        (cond t (48 + n) (87 + n)) ≡ cond t (48 + n) (87 + n)
    by true e = rw (lt-leb 65 (48 + n) (omega (arith, ltb-true n 10 e)))
    by false e = rw (le-leb 65 (87 + n) (omega arith), lt-leb (87 + n) 90 (omega (arith, ltb-false n 10 e)))

hex_back : (n : ℕ) → n < 16 → hex_of (hex_digit n) ≡ n
hex_back n h = rw (hex_lower n h) (hex_digit_back n h)

hex_is : (n : ℕ) → n < 16 → is_hex_digit (hex_digit n) ≡ true
hex_is n h = rw (hex_back n h) (lt-ltb n 16 h)

is_id : Option ℕ → ℕ → Bool
is_id none n = false
is_id (some m) n = eqb m n

is_id_law : (o : Option ℕ) (n : ℕ) → is_id o n ≡ true → o ≡ some n
unfolding is_id
is_id_law none n h = absurd (tests.clash false h refl)
is_id_law (some m) n h = ap some (eqb-true m n h)

-- each name of the table is the name of its id
names_back : List Named → Bool
names_back [] = true
names_back (x ∷ xs) = cond (is_id (id_named (small x)) x.id) (names_back xs) false

names_back_law : names_back items ≡ true
unfolding names_back is_id id_in items small same lower bytes_of
names_back_law = refl

name_back : (xs : List Named) (id : ℕ) (letters : List ℕ) → names_back xs ≡ true → name_in xs id ≡ some letters → id_named (map lower letters) ≡ some id
unfolding names_back name_in
name_back [] id letters a h = let z : ◌≡◌ {A = ℕ} 0 1 = cc in absurd (omega arith)
name_back (x ∷ xs) id letters a h = by (name_back xs id letters (tests.second_true (is_id (id_named (small x)) x.id) _ a)) (eqb x.id id) refl h
  where
    first : id_named (small x) ≡ some x.id
    first = is_id_law (id_named (small x)) x.id (tests.first_true (is_id (id_named (small x)) x.id) _ a)

    by : (name_in xs id ≡ some letters → id_named (map lower letters) ≡ some id)
        → (t : Bool) → eqb x.id id ≡ t → cond t (some (bytes_of x.name)) (name_in xs id) ≡ some letters → id_named (map lower letters) ≡ some id
    by ih true e z =
        let l : letters ≡ bytes_of x.name = cc in
        rw (l, ← eqb-true x.id id e) (unfold small in first)
    by ih false e z = ih z

four_digits : (id : ℕ) → id < 65536 → 16 * (16 * (16 * (id / 4096 % 16) + id / 256 % 16) + id / 16 % 16) + id % 16 ≡ id
four_digits id h =
    let a : id / 4096 % 16 ≡ id / 4096 = omega arith in
    let b : 16 * (id / 4096) + id / 256 % 16 ≡ id / 256 = omega arith in
    let c : 16 * (id / 256) + id / 16 % 16 ≡ id / 16 = omega arith in
    let d : 16 * (id / 16) + id % 16 ≡ id = omega arith in
    rw (a, b, c) d

item_stands : (id : ℕ) → id < 65536 → (o : Option (List ℕ)) → name_of id ≡ o → Stands (item_by o id) id
unfolding item_by Stands every
item_stands id h (some letters) e = name_back items id letters names_back_law e
item_stands id h none e =
    let a : id / 4096 % 16 < 16 = omega arith in
    let b : id / 256 % 16 < 16 = omega arith in
    let c : id / 16 % 16 < 16 = omega arith in
    let d : id % 16 < 16 = omega arith in (
      rw (hex_is (id / 4096 % 16) a, hex_is (id / 256 % 16) b, hex_is (id / 16 % 16) c, hex_is (id % 16) d),
      rw (hex_back (id / 4096 % 16) a, hex_back (id / 256 % 16) b, hex_back (id / 16 % 16) c, hex_back (id % 16) d) (four_digits id h),
    )

-- ---- numbers

record DigitsBack (v : ℕ) (ds : List ℕ) : Type 0 where
  are : every digit ds ≡ true
  value : value_from 0 ds ≡ v

digit_is : (n : ℕ) → n < 10 → digit (48 + n) ≡ true
unfolding digit
digit_is n h = rw (le-ltb (48 + n) 48 (omega arith), lt-ltb (48 + n) 58 (omega arith))

one_back : (n : ℕ) → n < 10 → DigitsBack n ((48 + n) ∷ [])
one_back n h = record { are = tests.every_one digit (48 + n) (digit_is n h); value = unfold value_from in omega arith }

more_back : (n : ℕ) (ds : List ℕ) → DigitsBack (n / 10) ds → DigitsBack n (ds ++ ((48 + n % 10) ∷ []))
more_back n ds b =
    record {
      are = tests.every_append digit ds ((48 + n % 10) ∷ []) b.are (tests.every_one digit (48 + n % 10) (digit_is (n % 10) (omega arith)));
      value = tests.value_snoc 0 ds (48 + n % 10) ∙ rw b.value (omega arith);
    }

decimal_within : (m n : ℕ) → n ≤ m → DigitsBack n (decimal_of n)
decimal_within zero n h = rw (one_digit n (omega arith)) (one_back n (omega arith))
decimal_within (suc m) n h = by (decimal_within m (n / 10) (omega arith)) (ltb n 10) refl
  where
    by : DigitsBack (n / 10) (decimal_of (n / 10)) → (t : Bool) → ltb n 10 ≡ t → DigitsBack n (decimal_of n)
    by ih true e = rw (one_digit n (ltb-true n 10 e)) (one_back n (ltb-true n 10 e))
    by ih false e = let k = ltb-false n 10 e in rw (more_digits n (omega arith)) (more_back n (decimal_of (n / 10)) ih)

decimal_digits : (n : ℕ) → n ≤ 4294967295 → Digits (decimal_of n)
decimal_digits n h =
    let b = decimal_within n n (omega arith) in
    record { some = omega (arith, digits_some n); are = b.are; fits = rw b.value h }

decimal_value : (n : ℕ) → value_from 0 (decimal_of n) ≡ n
decimal_value n = (decimal_within n n (omega arith)).value

-- a number of 1, 2 or 4 bytes
record Numeral (bs : List ℕ) : Type 0 where
  back : take (length bs) (four (number bs)) ≡ bs
  most : number bs ≤ 4294967295
  holds : is_width (48 + length bs) (number bs) ≡ true

numeral : (bs : List ℕ) → width (length bs) ≡ true → ((k : ℕ) → get_or bs k 0 < 256) → Numeral bs
unfolding width number is_width
numeral [] w s = absurd (tests.clash false w refl)
numeral (a ∷ []) w s =
    let p = s 0 in
    let x : (a + 256 * 0) % 256 ≡ a = omega arith in
    record { back = rw x; most = omega arith; holds = lt-ltb (a + 256 * 0) 256 (omega arith) }
numeral (a ∷ b ∷ []) w s =
    let p = s 0 in let q = s 1 in
    let x : (a + 256 * (b + 256 * 0)) % 256 ≡ a = omega arith in
    let y0 : (a + 256 * (b + 256 * 0)) / 256 ≡ b = omega arith in
    let y : b % 256 ≡ b = omega arith in
    record { back = rw (x, y0, y); most = omega arith; holds = lt-ltb (a + 256 * (b + 256 * 0)) 65536 (omega arith) }
numeral (a ∷ b ∷ c ∷ []) w s = absurd (tests.clash false w refl)
numeral (a ∷ b ∷ c ∷ d ∷ []) w s =
    let p = s 0 in let q = s 1 in let r = s 2 in let t = s 3 in
    let x : (a + 256 * (b + 256 * (c + 256 * (d + 256 * 0)))) % 256 ≡ a = omega arith in
    let y0 : (a + 256 * (b + 256 * (c + 256 * (d + 256 * 0)))) / 256 ≡ b + 256 * (c + 256 * d) = omega arith in
    let y : (b + 256 * (c + 256 * d)) % 256 ≡ b = omega arith in
    let z0 : (a + 256 * (b + 256 * (c + 256 * (d + 256 * 0)))) / 65536 ≡ c + 256 * d = omega arith in
    let z : (c + 256 * d) % 256 ≡ c = omega arith in
    let v0 : (a + 256 * (b + 256 * (c + 256 * (d + 256 * 0)))) / 16777216 ≡ d = omega arith in
    let v : d % 256 ≡ d = omega arith in
    record { back = rw (x, y0, y, z0, z, v0, v); most = omega arith; holds = refl }
numeral (a ∷ b ∷ c ∷ d ∷ e ∷ bs) w s = absurd (wide (length bs) w)
  where
    wide : (n : ℕ) → width (suc (suc (suc (suc (suc n))))) ≡ true → ⊥
    wide n h =
        tests.clash (width (suc (suc (suc (suc (suc n)))))) h
        (unfold width in
        rw (
          ne_eqb (suc (suc (suc (suc (suc n))))) 1 (λ z. omega arith),
          ne_eqb (suc (suc (suc (suc (suc n))))) 2 (λ z. omega arith),
          ne_eqb (suc (suc (suc (suc (suc n))))) 4 (λ z. omega arith),
        ))

-- ---- operators

operator_back : (n : ℕ) → n ≤ 5 → operator_number (comparison_for n) ≡ n
unfolding comparison_for operator_number
operator_back zero h = refl
operator_back (suc zero) h = refl
operator_back (suc (suc zero)) h = refl
operator_back (suc (suc (suc zero))) h = refl
operator_back (suc (suc (suc (suc zero)))) h = refl
operator_back (suc (suc (suc (suc (suc zero))))) h = refl
operator_back (suc (suc (suc (suc (suc (suc n)))))) h = absurd (omega arith)

-- ---- strings

record CharacterBack (b : ℕ) : Type 0 where
  is : character_byte (character_for b) ≡ b
  good : good_character (character_for b) ≡ true

character_back : (b : ℕ) → b < 256 → CharacterBack b
unfolding character_for character_byte good_character
character_back b h = by (eqb b 34) refl
  where
    by3 : eqb b 34 ≡ false → eqb b 92 ≡ false → (t : Bool) → is_printed b ≡ t
        → (character_byte (cond t (grammar.plain b) (grammar.coded (hex_digit (b / 16)) (hex_digit (b % 16)))) ≡ b)
        × (good_character (cond t (grammar.plain b) (grammar.coded (hex_digit (b / 16)) (hex_digit (b % 16)))) ≡ true)
    by3 x y true e = (refl, rw (x, y, e))
    by3 x y false e =
        let p : b / 16 < 16 = omega arith in
        let q : b % 16 < 16 = omega arith in
        (rw (hex_back (b / 16) p, hex_back (b % 16) q) (omega arith), rw (hex_is (b / 16) p, hex_is (b % 16) q))

    by2 : eqb b 34 ≡ false → (t : Bool) → eqb b 92 ≡ t
        → (character_byte (cond t (grammar.escaped 92) (cond (is_printed b) (grammar.plain b) (grammar.coded (hex_digit (b / 16)) (hex_digit (b % 16))))) ≡ b)
        × (good_character (cond t (grammar.escaped 92) (cond (is_printed b) (grammar.plain b) (grammar.coded (hex_digit (b / 16)) (hex_digit (b % 16))))) ≡ true)
    by2 x true e = (sym (eqb-true b 92 e), refl)
    by2 x false e = by3 x e (is_printed b) refl

    by : (t : Bool) → eqb b 34 ≡ t → CharacterBack b
    by true e = record { is = rw e (sym (eqb-true b 34 e)); good = rw e }
    by false e = let z = by2 e (eqb b 92) refl in record { is = rw e z.0; good = rw e z.1 }

characters_back : (bs : List ℕ) → ((k : ℕ) → get_or bs k 0 < 256) → (characters_bytes (map character_for bs) ≡ bs) × (good_characters (map character_for bs) ≡ true)
unfolding characters_bytes good_characters
characters_back [] s = (refl, refl)
characters_back (b ∷ bs) s =
    let c = character_back b (s 0) in
    let z = characters_back bs (λ k. s (suc k)) in
    (rw (c.is, z.0), rw (c.good, z.1))

-- ---- relations

record ConstantBack (r : Relation) (c : Comparison) (k : Constant) : Type 0 where
  good : GoodConstant c k
  is : meant r.id c k ≡ r

text_told : (op : ℕ) (bs : List ℕ) → good_text op bs ≡ true
    → (is_equality (comparison_for op) ≡ true) × (operator_number (comparison_for op) ≡ op) × (stars_in bs ≤ 4)
unfolding good_text
text_told op bs h = by (eqb op 0) refl h
  where
    stars : cond (leb (stars_in bs) 4) true false ≡ true → stars_in bs ≤ 4
    stars z = leb-true (stars_in bs) 4 (tests.first_true (leb (stars_in bs) 4) true z)

    by2 : (t : Bool) → eqb op 3 ≡ t → cond t (leb (stars_in bs) 4) false ≡ true
        → (is_equality (comparison_for op) ≡ true) × (operator_number (comparison_for op) ≡ op) × (stars_in bs ≤ 4)
    by2 true e z = rw (eqb-true op 3 e) (unfold comparison_for is_equality operator_number in (refl, refl, leb-true (stars_in bs) 4 z))
    by2 false e z = absurd (tests.clash false z refl)

    by : (t : Bool) → eqb op 0 ≡ t → cond (cond t true (eqb op 3)) (leb (stars_in bs) 4) false ≡ true
        → (is_equality (comparison_for op) ≡ true) × (operator_number (comparison_for op) ≡ op) × (stars_in bs ≤ 4)
    by true e z = rw (eqb-true op 0 e) (unfold comparison_for is_equality operator_number in (refl, refl, leb-true (stars_in bs) 4 z))
    by false e z = by2 (eqb op 3) refl z

number_told : (op n : ℕ) → good_number op n ≡ true → (op ≤ 5) × (width n ≡ true)
unfolding good_number
number_told op n h = (leb-true op 5 (tests.first_true (leb op 5) _ h), tests.second_true (leb op 5) _ h)

module _ (r : Relation) (w : Whole r) where
  text_back : kind_of r.code ≡ 3 → good r.code r.constant ≡ true
      → ConstantBack r (comparison_for (operator_of r.code)) (grammar.string (map character_for r.constant))
  unfolding good GoodConstant meant text_relation
  text_back k g =
      let g' : good_text (operator_of r.code) r.constant ≡ true = rw (eq-eqb (kind_of r.code) 3 k) at g in
      let t = text_told (operator_of r.code) r.constant g' in
      let c = characters_back r.constant w.bytes in
      let n : 131 + 16 * operator_of r.code ≡ r.code = omega (arith, w.code, w.fit.coded) in
      record {
        good = (record { are = c.1; short = rw c.0 w.short; stars = rw c.0 t.2 }, t.0);
        is = rw (t.1, c.0, n);
      }

  numeral_back : kind_of r.code ≡ 0 → good_number (operator_of r.code) (length r.constant) ≡ true
      → ConstantBack r (comparison_for (operator_of r.code)) (number_for r.id (length r.constant) (number r.constant))
  unfolding number_for GoodConstant meant number_relation
  numeral_back k g = by (eqb (length r.constant) (width_of r.id (number r.constant))) refl
    where
      t : (operator_of r.code ≤ 5) × (width (length r.constant) ≡ true)
      t = number_told (operator_of r.code) (length r.constant) g

      n : Numeral r.constant
      n = numeral r.constant t.1 w.bytes

      c : 128 + 16 * operator_number (comparison_for (operator_of r.code)) ≡ r.code
      c = rw (operator_back (operator_of r.code) t.0) (omega (arith, w.code, w.fit.coded))

      v : ℕ
      v = number r.constant

      by : (t : Bool) → eqb (length r.constant) (width_of r.id (number r.constant)) ≡ t
          → ConstantBack r (comparison_for (operator_of r.code))
          (cond t (grammar.number (decimal_of (number r.constant))) (grammar.sized (decimal_of (number r.constant)) (48 + length r.constant)))
      by true e =
          record {
            good = decimal_digits (number r.constant) n.most;
            is = rw (decimal_value (number r.constant), ← eqb-true (length r.constant) (width_of r.id (number r.constant)) e, n.back, c);
          }
      by false e =
          let z : 48 + length r.constant - 48 ≡ length r.constant = omega arith in
          record {
            good = (decimal_digits (number r.constant) n.most, rw (decimal_value (number r.constant)) n.holds);
            is = rw (decimal_value (number r.constant), z, n.back, c);
          }

  constant_back : ConstantBack r (comparison_for (operator_of r.code)) (constant_for r)
  unfolding constant_for good
  constant_back = by (eqb (kind_of r.code) 3) refl (eqb (kind_of r.code) 0) refl w.fit.good
    where
      by : (s : Bool) → eqb (kind_of r.code) 3 ≡ s → (t : Bool) → eqb (kind_of r.code) 0 ≡ t
          → cond s (good_text (operator_of r.code) r.constant) (cond t (good_number (operator_of r.code) (length r.constant)) false) ≡ true
          → ConstantBack r (comparison_for (operator_of r.code))
          (cond s (grammar.string (map character_for r.constant)) (number_for r.id (length r.constant) (number r.constant)))
      by true e t f z = text_back (eqb-true (kind_of r.code) 3 e) w.fit.good
      by false e true f z = numeral_back (eqb-true (kind_of r.code) 0 f) z
      by false e false f z = absurd (tests.clash false z refl)

  pub whole_number : eqb (kind_of r.code) 3 ≡ false → number r.constant ≤ 4294967295
  unfolding good
  whole_number k = by (eqb (kind_of r.code) 0) (rw k at w.fit.good)
    where
      by : (t : Bool) → cond t (good_number (operator_of r.code) (length r.constant)) false ≡ true → number r.constant ≤ 4294967295
      by true z = (numeral r.constant (number_told (operator_of r.code) (length r.constant) z).1 w.bytes).most
      by false z = absurd (tests.clash false z refl)

  -- the laws
  pub relation_good : GoodWritten (written_for r)
  relation_good =
      record {
        stands = item_stands r.id w.fit.id (name_of r.id) refl;
        before = unfold every is_blank in refl;
        behind = unfold every is_blank in refl;
        constant = constant_back.good;
      }

  pub relation_back : relation_of (written_for r) ≡ r
  relation_back = constant_back.is
