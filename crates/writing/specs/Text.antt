-- The text that is written for a formula (crates/grammar). "Names in capitals where the id has one, else "#" and four small hex digits; one blank on each
-- side of an operator and of && and ||, none elsewhere; numbers in decimal without leading zeros, ":" and the width only where it is not the one that
-- would be taken; strings with '\"', '\\', and '\x' with small hex digits for bytes outside 20h to 7eh; brackets only around an OR under an AND, an AND
-- on the right of an AND, an OR on the right of an OR." Assumes nothing.
use Rattle.std.specs.Prelude.{cond, List, [], ◌∷◌, ◌++◌, map, ℕ, suc, ◌+◌, ◌/◌, ◌%◌, max, eqb, length}
use Rattle.std.proofs.Math.Option.{Option, none, some}
use Rattle.numbers.specs.Numbers.{number}
use Rattle.packet.specs.Names.{bytes_of}
use Rattle.numbers.specs.Hex.{hex_digit}
use Rattle.lines.specs.Text.{decimal_of}
use Rattle.equation.specs.Relation.{operator_of, kind_of}
use Rattle.equation.specs.Holds.{Relation}
use Rattle.names.specs.Names.{name_of}
use Rattle.grammar.specs.Formula.{Formula, relation, both, either}
use Rattle.names.specs.Kinds.{is_printed}
use Rattle.grammar.specs.Meaning.{width_of}
use Rattle.grammar.specs.Grammar as grammar
use Rattle.grammar.specs.Grammar.{Item, Character, Constant, Written, written_text}
use Rattle.grammar.specs.declared.Comparison.{Comparison}
use Rattle.grammar.specs.declared.Comparison.TheVariants.{Equal, Greater, Less, NotEqual, GreaterOrEqual, LessOrEqual}

-- ---- a relation

unfoldable pub item_by : Option (List ℕ) → ℕ → Item
item_by (some letters) id = grammar.name letters
item_by none id = grammar.number (hex_digit (id / 4096 % 16)) (hex_digit (id / 256 % 16)) (hex_digit (id / 16 % 16)) (hex_digit (id % 16))

abbrev pub item_for : ℕ → Item
item_for id = item_by (name_of id) id

-- '"' is 34, '\' is 92
unfoldable pub character_for : ℕ → Character
character_for b =
    cond (eqb b 34) (grammar.escaped 34)
    (cond (eqb b 92) (grammar.escaped 92) (cond (is_printed b) (grammar.plain b) (grammar.coded (hex_digit (b / 16)) (hex_digit (b % 16)))))

-- a number's digits, and its width where it is not the one that would be taken
unfoldable pub number_for : ℕ → ℕ → ℕ → Constant
number_for id width v = cond (eqb width (width_of id v)) (grammar.number (decimal_of v)) (grammar.sized (decimal_of v) (48 + width))

-- kind 3 is text
unfoldable pub constant_for : Relation → Constant
constant_for r =
    cond (eqb (kind_of r.code) 3) (grammar.string (map character_for r.constant))
    (number_for r.id (length r.constant) (number r.constant))

-- the comparison with an operator's number
unfoldable pub comparison_for : ℕ → Comparison
comparison_for n =
    cond (eqb n 0) Equal
    (cond (eqb n 1) Greater (cond (eqb n 2) Less (cond (eqb n 3) NotEqual (cond (eqb n 4) GreaterOrEqual LessOrEqual))))

abbrev pub written_for : Relation → Written
written_for r =
    record {
      item = item_for r.id;
      id = r.id;
      before = 32 ∷ [];
      comparison = comparison_for (operator_of r.code);
      behind = 32 ∷ [];
      constant = constant_for r;
    }

abbrev pub relation_text : Relation → List ℕ
relation_text r = written_text (written_for r)

-- ---- a formula: as a whole, as an operand of AND on its left, and as one on its right. An OR in an OR is written as a whole on its left, and as the
-- left operand of an AND on its right.

abbrev pub bracketed : List ℕ → List ℕ
bracketed text = 40 ∷ (text ++ 41 ∷ [])

unfoldable mutual
  pub text_of : Formula → List ℕ
  text_of (relation r) = relation_text r
  text_of (both a b) = productText a ++ (bytes_of " && " ++ factorText b)
  text_of (either a b) = text_of a ++ (bytes_of " || " ++ productText b)

  pub productText : Formula → List ℕ
  productText (relation r) = relation_text r
  productText (both a b) = productText a ++ (bytes_of " && " ++ factorText b)
  productText (either a b) = bracketed (text_of a ++ (bytes_of " || " ++ productText b))

  pub factorText : Formula → List ℕ
  factorText (relation r) = relation_text r
  factorText (both a b) = bracketed (productText a ++ (bytes_of " && " ++ factorText b))
  factorText (either a b) = bracketed (text_of a ++ (bytes_of " || " ++ productText b))

-- how deep brackets are nested in each
unfoldable mutual
  pub nesting : Formula → ℕ
  nesting (relation r) = 0
  nesting (both a b) = max (productNesting a) (factorNesting b)
  nesting (either a b) = max (nesting a) (productNesting b)

  pub productNesting : Formula → ℕ
  productNesting (relation r) = 0
  productNesting (both a b) = max (productNesting a) (factorNesting b)
  productNesting (either a b) = suc (max (nesting a) (productNesting b))

  pub factorNesting : Formula → ℕ
  factorNesting (relation r) = 0
  factorNesting (both a b) = suc (max (productNesting a) (factorNesting b))
  factorNesting (either a b) = suc (max (nesting a) (productNesting b))
