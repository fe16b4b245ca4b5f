-- How long a text can be: at most ten bytes for each byte of its equation. Assumes nothing.
use mathlib.Core.Path.{◌≡◌, refl, ap}
use mathlib.Core.Bool.{Bool, true, false, cond}
use mathlib.Core.List.{List, [], ◌∷◌, ◌++◌, map}
use mathlib.Core.Option.{Option, none, some}
use Prim.Native.Nat.{ℕ, ◌+◌, ◌*◌, ◌/◌, ◌%◌, ◌≤◌}
use native.Mathlib.Omega.{arith}
use lib.Dec.{leb, eqb}
use lib.ListN.{length, length-append}
use borrow.Author.Tests.{leb-true}
use Rattle.numbers.specs.Numbers.{number}
use Rattle.packet.specs.Names.{bytes_of}
use Rattle.numbers.specs.Hex.{hex_digit}
use Rattle.lines.specs.Text.{decimal_of}
use Rattle.lines.proofs.TextLaws.{digits_most_32}
use Rattle.equation.specs.Relation.{operator_of, kind_of}
use Rattle.equation.specs.Holds.{Relation}
use Rattle.equation.specs.Newer.{newer_bytes, unmarked}
use Rattle.equation.proofs.Append.{narrowed_length}
use Rattle.names.specs.Names.{Named, items, name_in, name_of}
use Rattle.names.specs.Kinds.{is_printed}
use Rattle.names.proofs.Tests as tests
use Rattle.grammar.specs.Formula.{Formula, relation, both, either, relation_bytes, postfix}
use Rattle.grammar.specs.Meaning.{width_of}
use Rattle.grammar.specs.Grammar as grammar
use Rattle.grammar.specs.Grammar.{item_text, operator_text, character_text, characters_text, constant_text}
use Rattle.grammar.specs.declared.Comparison.{Comparison}
use Rattle.grammar.specs.declared.Comparison.TheVariants.{Equal, Greater, Less, NotEqual, GreaterOrEqual, LessOrEqual}
use Rattle.writing.specs.Text.{item_by, character_for, number_for, constant_for, comparison_for, relation_text, text_of, productText, factorText}
use Rattle.writing.specs.Places.{quoted}
use Rattle.writing.proofs.Relations.{Whole, whole_number}
use Rattle.writing.proofs.Derived.{AllWhole}
use Rattle.writing.proofs.Parts.{relation_length}

-- ---- items

short_names : List Named → Bool
short_names [] = true
short_names (x ∷ xs) = cond (leb (length (bytes_of x.name)) 23) (short_names xs) false

short_names_law : short_names items ≡ true
unfolding short_names items bytes_of
short_names_law = refl

named_short : (xs : List Named) (id : ℕ) (letters : List ℕ) → short_names xs ≡ true → name_in xs id ≡ some letters → length letters ≤ 23
unfolding short_names name_in
named_short [] id letters h e = let z : ◌≡◌ {A = ℕ} 0 1 = cc in absurd (omega arith)
named_short (x ∷ xs) id letters h e = by (named_short xs id letters (tests.second_true (leb (length (bytes_of x.name)) 23) _ h)) (eqb x.id id) e
  where
    by : (name_in xs id ≡ some letters → length letters ≤ 23) → (t : Bool) → cond t (some (bytes_of x.name)) (name_in xs id) ≡ some letters
        → length letters ≤ 23
    by ih true e =
        let z : bytes_of x.name ≡ letters = cc in
        omega (arith, ap length z, leb-true (length (bytes_of x.name)) 23 (tests.first_true (leb (length (bytes_of x.name)) 23) _ h))
    by ih false e = ih e

item_short : (id : ℕ) (o : Option (List ℕ)) → name_of id ≡ o → length (item_text (item_by o id)) ≤ 23
unfolding item_by item_text
item_short id none e = omega arith
item_short id (some letters) e = named_short items id letters short_names_law e

-- ---- operators and constants

operator_short : (c : Comparison) → length (operator_text c) ≤ 2
unfolding operator_text bytes_of
operator_short Equal = omega arith
operator_short Greater = omega arith
operator_short Less = omega arith
operator_short NotEqual = omega arith
operator_short GreaterOrEqual = omega arith
operator_short LessOrEqual = omega arith

character_short : (b : ℕ) → length (character_text (character_for b)) ≤ 4
unfolding character_for character_text
character_short b = by (eqb b 34) (eqb b 92) (is_printed b)
  where
    by : (p q r : Bool)
        → length (character_text
        (cond p (grammar.escaped 34) (cond q (grammar.escaped 92) (cond r (grammar.plain b) (grammar.coded (hex_digit (b / 16)) (hex_digit (b % 16))))))) ≤ 4
    by true q r = unfold character_text in omega arith
    by false true r = unfold character_text in omega arith
    by false false true = unfold character_text in omega arith
    by false false false = unfold character_text in omega arith

quoted_short : (s : List ℕ) → length (quoted s) ≤ 4 * length s
unfolding characters_text
quoted_short [] = omega arith
quoted_short (b ∷ s) = omega (arith, character_short b, quoted_short s, length-append (character_text (character_for b)) (quoted s))

number_short : (id w v : ℕ) → v ≤ 4294967295 → length (constant_text (number_for id w v)) ≤ 12
unfolding number_for constant_text
number_short id w v h = by (eqb w (width_of id v))
  where
    by : (t : Bool) → length (constant_text (cond t (grammar.number (decimal_of v)) (grammar.sized (decimal_of v) (48 + w)))) ≤ 12
    by true = unfold constant_text in omega (arith, digits_most_32 v (omega arith))
    by false = unfold constant_text in omega (arith, digits_most_32 v (omega arith), length-append (decimal_of v) (58 ∷ (48 + w) ∷ []))

constant_short : (r : Relation) → Whole r → length (constant_text (constant_for r)) ≤ 12 + 4 * length r.constant
unfolding constant_for
constant_short r w = by (eqb (kind_of r.code) 3) refl
  where
    by : (t : Bool) → eqb (kind_of r.code) 3 ≡ t
        → length (constant_text (cond t (grammar.string (map character_for r.constant)) (number_for r.id (length r.constant) (number r.constant))))
        ≤ 12 + 4 * length r.constant
    by true e = unfold constant_text in omega (arith, quoted_short r.constant, length-append (quoted r.constant) (34 ∷ []))
    by false e = omega (arith, number_short r.id (length r.constant) (number r.constant) (whole_number r w e))

relation_short : (r : Relation) → Whole r → length (relation_text r) ≤ 40 + 4 * length r.constant
relation_short r w =
    omega (arith, relation_length r, item_short r.id (name_of r.id) refl, operator_short (comparison_for (operator_of r.code)), constant_short r w)

-- ---- formulas

record Short (f : Formula) : Type 0 where
  whole : length (text_of f) ≤ 10 * length (postfix f)
  product : length (productText f) ≤ 10 * length (postfix f)
  factor : length (factorText f) ≤ 10 * length (postfix f)

join_short : (x y m : List ℕ) (p q : ℕ) → length x ≤ 10 * p → length y ≤ 10 * q → length m ≡ 4 → length (x ++ (m ++ y)) ≤ 10 * p + (10 * q + 4)
join_short x y m p q h i j = omega (arith, length-append x (m ++ y), length-append m y)

bracket_length : (x : List ℕ) → length (40 ∷ (x ++ 41 ∷ [])) ≡ 2 + length x
bracket_length x = omega (arith, length-append x (41 ∷ []))

four : (length (bytes_of " && ") ≡ 4) × (length (bytes_of " || ") ≡ 4)
unfolding bytes_of
four = (refl, refl)

short : (f : Formula) → AllWhole f → Short f
unfolding text_of productText factorText postfix relation_bytes AllWhole
short (relation r) w = let z = relation_short r w in record { whole = omega arith; product = omega arith; factor = omega arith }
short (both a b) w =
    let x = short a w.0 in let y = short b w.1 in
    let l : length (postfix a ++ (postfix b ++ 1 ∷ [])) ≡ length (postfix a) + (length (postfix b) + 1) =
    omega (arith, length-append (postfix a) (postfix b ++ 1 ∷ []), length-append (postfix b) (1 ∷ [])) in
    let z = join_short (productText a) (factorText b) (bytes_of " && ") (length (postfix a)) (length (postfix b)) x.product y.factor four.0 in
    let k = bracket_length (productText a ++ (bytes_of " && " ++ factorText b)) in
    record { whole = omega arith; product = omega arith; factor = omega arith }
short (either a b) w =
    let x = short a w.0 in let y = short b w.1 in
    let l : length (postfix a ++ (postfix b ++ 2 ∷ [])) ≡ length (postfix a) + (length (postfix b) + 1) =
    omega (arith, length-append (postfix a) (postfix b ++ 2 ∷ []), length-append (postfix b) (2 ∷ [])) in
    let z = join_short (text_of a) (productText b) (bytes_of " || ") (length (postfix a)) (length (postfix b)) x.whole y.product four.1 in
    let k = bracket_length (text_of a ++ (bytes_of " || " ++ productText b)) in
    record { whole = omega arith; product = omega arith; factor = omega arith }

-- The law: a text has at most ten bytes for each byte of its equation
pub text_short : (f : Formula) → AllWhole f → length (text_of f) ≤ 10 * length (postfix f)
text_short f w = (short f w).whole

-- what stands before an end mark is no longer than the whole
pub unmarked_short : (bytes : List ℕ) → length (unmarked bytes) ≤ length bytes
unmarked_short bytes = omega (arith, narrowed_length bytes 0, length-append (unmarked bytes) (newer_bytes 0 ++ (1 ∷ [])))
