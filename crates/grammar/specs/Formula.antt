-- What a text means: relations joined by AND and OR; its bytes, in postfix order, and its truth on a file. Assumes nothing.
use Rattle.std.specs.Prelude.{Bool, ◌&&◌, ◌||◌, List, [], ◌∷◌, ◌++◌, ℕ, ◌+◌, length}
use Rattle.std.proofs.Math.Option.{Option, none, some}
use Rattle.numbers.specs.Numbers.{two}
use Rattle.header.specs.Items.{Field}
use Rattle.equation.specs.Holds.{Relation, holds}
use Rattle.equation.specs.Symbols.{Symbol, rel, and, or}
use Rattle.equation.specs.Tree.{Tree}
use Rattle.equation.specs.Tree as tree

pub data Formula : Type 0 where
  relation : Relation → Formula
  both either : Formula → Formula → Formula

-- "Bytes of a relation: 80h + 16 x operator + kind, the id in two bytes, the length, the constant"
unfoldable pub relation_bytes : Relation → List ℕ
relation_bytes r = r.code ∷ (two r.id ++ (length r.constant ∷ r.constant))

-- "Then postfix: left, right, 01h for AND, 02h for OR. No end mark."
unfoldable pub postfix : Formula → List ℕ
postfix (relation r) = relation_bytes r
postfix (both a b) = postfix a ++ (postfix b ++ 1 ∷ [])
postfix (either a b) = postfix a ++ (postfix b ++ 2 ∷ [])

-- its relations and connectives in that order
unfoldable pub symbols_of : Formula → List Symbol
symbols_of (relation r) = rel r ∷ []
symbols_of (both a b) = symbols_of a ++ (symbols_of b ++ and ∷ [])
symbols_of (either a b) = symbols_of a ++ (symbols_of b ++ or ∷ [])

-- the truth on the items of a header
unfoldable pub true_on : List Field → Formula → Bool
true_on fields (relation r) = holds r fields
true_on fields (both a b) = true_on fields a && true_on fields b
true_on fields (either a b) = true_on fields a || true_on fields b

-- how many relations there are
unfoldable pub relations_in : Formula → ℕ
relations_in (relation r) = 1
relations_in (both a b) = relations_in a + relations_in b
relations_in (either a b) = relations_in a + relations_in b

-- as a tree of crates/equation, in which relations are numbered from left to right, from k on
unfoldable pub tree_from : ℕ → Formula → Tree
tree_from k (relation r) = tree.leaf k r
tree_from k (both a b) = tree.both (tree_from k a) (tree_from (k + relations_in a) b)
tree_from k (either a b) = tree.either (tree_from k a) (tree_from (k + relations_in a) b)

-- a further operand of what stands before it on the left, if anything does: each connective groups from the left
abbrev pub and_after : Option Formula → Formula → Formula
and_after none f = f
and_after (some a) f = both a f

abbrev pub or_after : Option Formula → Formula → Formula
or_after none f = f
or_after (some a) f = either a f
