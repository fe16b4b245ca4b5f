-- What the parts of a relation mean: operators, numbers with their widths, strings. Assumes nothing.
use Rattle.std.specs.Prelude.{Bool, true, false, cond, List, ℕ, ◌+◌, ◌*◌, max, ltb, eqb, take}
use Rattle.numbers.specs.Numbers.{four}
use Rattle.equation.specs.Holds.{Relation, relation_of}
use Rattle.names.specs.Names.{usual_width}
use Rattle.grammar.specs.declared.Comparison.{Comparison}
use Rattle.grammar.specs.declared.Comparison.TheVariants.{Equal, Greater, Less, NotEqual, GreaterOrEqual, LessOrEqual}

-- ---- operators

-- "operators: == 0, > 1, < 2, != 3, >= 4, <= 5"
unfoldable pub operator_number : Comparison → ℕ
operator_number Equal = 0
operator_number Greater = 1
operator_number Less = 2
operator_number NotEqual = 3
operator_number GreaterOrEqual = 4
operator_number LessOrEqual = 5

-- "==" and "!=", the only ones that a string may stand behind
unfoldable pub is_equality : Comparison → Bool
is_equality Equal = true
is_equality Greater = false
is_equality Less = false
is_equality NotEqual = true
is_equality GreaterOrEqual = false
is_equality LessOrEqual = false

-- "<" and ">" with "=" behind them
unfoldable pub or_equal : Comparison → Comparison
or_equal Equal = Equal
or_equal Greater = GreaterOrEqual
or_equal Less = LessOrEqual
or_equal NotEqual = NotEqual
or_equal GreaterOrEqual = GreaterOrEqual
or_equal LessOrEqual = LessOrEqual

-- ---- numbers

-- "the least of 1, 2, 4 that holds the value"
unfoldable pub least_width : ℕ → ℕ
least_width v = cond (ltb v 256) 1 (cond (ltb v 65536) 2 4)

-- "Width of a number without ":": the larger of the item's usual width .. and the least .. that holds the value"
abbrev pub width_of : ℕ → ℕ → ℕ
width_of id v = max (usual_width id) (least_width v)

-- a digit behind ":" is "1", "2" or "4", and "must hold the value", which is at most 4,294,967,295
unfoldable pub is_width : ℕ → ℕ → Bool
is_width b v = cond (eqb b 49) (ltb v 256) (cond (eqb b 50) (ltb v 65536) (eqb b 52))

-- ---- relations

-- "80h + 16 x operator + kind .. kind 0 number, 3 text"; "numbers least significant byte first"
unfoldable pub number_relation : ℕ → Comparison → ℕ → ℕ → Relation
number_relation id c width v = relation_of (128 + 16 * operator_number c) id (take width (four v))

unfoldable pub text_relation : ℕ → Comparison → List ℕ → Relation
text_relation id c bytes = relation_of (131 + 16 * operator_number c) id bytes
