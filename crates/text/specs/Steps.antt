-- What the steps of the match find, for the contracts of its private functions. Assumes nothing.
use Rattle.std.specs.Prelude.{Bool, false, cond, List, [], ◌∷◌, ℕ, suc, eqb, get_or}
use Rattle.text.specs.Match.{fits}

-- a pattern byte is no `*` and fits a text byte
unfoldable pub plain : ℕ → ℕ → Bool
plain p t = cond (eqb p 42) false (fits p t)

-- how many pattern bytes before the first `*` fit the text one to one
unfoldable pub fitting : List ℕ → List ℕ → ℕ
fitting [] ts = 0
fitting (p ∷ ps) [] = 0
fitting (p ∷ ps) (t ∷ ts) = cond (plain p t) (suc (fitting ps ts)) 0

-- a `*` stands at a place
abbrev pub star_at : List ℕ → ℕ → Bool
star_at ps k = eqb (get_or ps k 0) 42
