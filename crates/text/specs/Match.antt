-- Text with wildcards (document 01, "Equations"): "3 text, ASCII letters lowered on both sides"; "In the constant, `*` is any run, empty too,
-- and `?` any one byte". `*` is 42, `?` is 63, the letters A to Z are 65 to 90. Assumes nothing.
use Rattle.std.specs.Prelude.{Bool, true, false, ◌&&◌, ◌||◌, cond, List, [], ◌∷◌, ℕ, ◌+◌, leb, eqb}

-- a byte, an ASCII letter lowered
unfoldable pub lower : ℕ → ℕ
lower b = cond (leb 65 b) (cond (leb b 90) (b + 32) b) b

-- one byte of the constant, no `*`, against one byte of the item
unfoldable pub fits : ℕ → ℕ → Bool
fits p t = cond (eqb p 63) true (eqb (lower p) (lower t))

-- some tail of the text, the whole and the empty one too, meets m
unfoldable pub any_tail : (List ℕ → Bool) → List ℕ → Bool
any_tail m [] = m []
any_tail m (t ∷ ts) = m (t ∷ ts) || any_tail m ts

-- the first byte fits p, and the rest meets m
unfoldable pub one : ℕ → (List ℕ → Bool) → List ℕ → Bool
one p m [] = false
one p m (t ∷ ts) = fits p t && m ts

-- the constant matches the whole text
unfoldable pub matches : List ℕ → List ℕ → Bool
matches [] [] = true
matches [] (t ∷ ts) = false
matches (p ∷ ps) ts = cond (eqb p 42) (any_tail (matches ps) ts) (one p (matches ps) ts)
