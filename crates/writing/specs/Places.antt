-- A formula by its parts: its text at the place where it stands, and its relations in the bytes of an equation. Assumes nothing.
use Rattle.std.specs.Prelude.{◌≡◌, true, cond, List, [], ◌∷◌, map, ℕ, zero, suc, ◌+◌, ◌≤◌, ◌<◌, ltb, eqb, length, get_or}
use Rattle.packet.specs.Names.{bytes_of}
use Rattle.equation.specs.Symbols.{good}
use Rattle.equation.specs.Parsed.{relation_from}
use Rattle.equation.specs.Tree.{Tree}
use Rattle.equation.specs.Tree as tree
use Rattle.grammar.specs.Formula.{Formula, relation, both, either}
use Rattle.grammar.specs.Grammar.{characters_text}
use Rattle.writing.specs.Text.{character_for, text_of, productText, factorText, nesting, productNesting, factorNesting}

-- a tree of crates/equation, without the numbers of its relations
unfoldable pub formula_of : Tree → Formula
formula_of (tree.leaf k r) = relation r
formula_of (tree.both a b) = both (formula_of a) (formula_of b)
formula_of (tree.either a b) = either (formula_of a) (formula_of b)

-- the text of a formula that stands as a whole (0), as a left operand of AND (1) or as a right one (2), and how deep brackets are nested in it
unfoldable pub text_at : ℕ → Formula → List ℕ
text_at zero f = text_of f
text_at (suc zero) f = productText f
text_at (suc (suc k)) f = factorText f

unfoldable pub nesting_at : ℕ → Formula → ℕ
nesting_at zero f = nesting f
nesting_at (suc zero) f = productNesting f
nesting_at (suc (suc k)) f = factorNesting f

-- AND binds as 1, OR as 0: the left operand stands so, the right one binds closer by 1, and brackets are written where the place asks for more
unfoldable pub connective_text : ℕ → List ℕ
connective_text p = cond (eqb p 1) (bytes_of " && ") (bytes_of " || ")

unfoldable pub opening : ℕ → ℕ → List ℕ
opening p level = cond (ltb p level) (40 ∷ []) []

unfoldable pub closing : ℕ → ℕ → List ℕ
closing p level = cond (ltb p level) (41 ∷ []) []

-- bytes of a string's text
abbrev pub quoted : List ℕ → List ℕ
quoted bytes = characters_text (map character_for bytes)

-- ---- in the bytes of an equation

-- a relation of the equation stands whole at a place, and is one that is accepted
pub record Stands (bytes : List ℕ) (at : ℕ) : Type 0 where
  pub within : at + 4 + get_or bytes (at + 3) 0 ≤ length bytes
  pub good : good (get_or bytes at 0) (relation_from bytes at).constant ≡ true

-- the relations that steps name stand whole in the equation
abbrev pub AllStand : List ℕ → List ℕ → Type 0
AllStand bytes steps = (i : ℕ) → i < length steps → get_or steps i 0 < 2048 → Stands bytes (get_or steps i 0)
