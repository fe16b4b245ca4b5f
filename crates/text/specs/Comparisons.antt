-- How many comparisons of a pattern byte with a text byte the match makes. One is counted each time that a pattern byte is held against a text
-- byte, also where the pattern byte is `?` or `*`; lowering both bytes belongs to it. Asking whether a `*` stands at a place of the pattern, and
-- comparing places with lengths, looks at no text byte and is none. Assumes nothing.
use Rattle.std.specs.Prelude.{Bool, false, cond, List, [], ◌∷◌, ℕ, suc, ◌+◌, leb, eqb, length, drop}
use Rattle.text.specs.Steps.{plain, fitting, star_at}

-- one run: pattern bytes against text bytes, one to one, up to the first that does not fit, and that one too
unfoldable pub compared : List ℕ → List ℕ → ℕ
compared [] ts = 0
compared (p ∷ ps) [] = 0
compared (p ∷ ps) (t ∷ ts) = suc (cond (plain p t) (compared ps ts) 0)

-- after a run pattern and text are both at their ends
abbrev pub both_end : List ℕ → List ℕ → Bool
both_end ps ts = cond (eqb (fitting ps ts) (length ps)) (eqb (fitting ps ts) (length ts)) false

-- after a `*`: a run at each place of the text, until one meets the next `*`, behind which the count is `rest`, or both ends
unfoldable pub tried : List ℕ → (List ℕ → ℕ) → List ℕ → ℕ
tried ps rest [] = 0
tried ps rest (t ∷ ts) =
    compared ps (t ∷ ts)
    + cond (star_at ps (fitting ps (t ∷ ts))) (rest (drop (fitting ps (t ∷ ts)) (t ∷ ts))) (cond (both_end ps (t ∷ ts)) 0 (tried ps rest ts))

-- behind the first `*` of the pattern
unfoldable pub behind : List ℕ → List ℕ → ℕ
behind [] ts = 0
behind (p ∷ ps) ts = cond (eqb p 42) (tried ps (behind ps) ts) (behind ps ts)

-- the whole match: a run from both starts, and where it meets a `*` what is behind that
unfoldable pub comparisons : List ℕ → List ℕ → ℕ
comparisons ps ts = compared ps ts + cond (star_at ps (fitting ps ts)) (behind ps (drop (fitting ps ts) ts)) 0

-- the count stops at the largest number of its type, 64 bits; theorem `never_stops` (proofs/Counting.antt): not where texts have at most 255 bytes
unfoldable pub up_to64 : ℕ → ℕ
up_to64 n = cond (leb n 18446744073709551615) n 18446744073709551615
