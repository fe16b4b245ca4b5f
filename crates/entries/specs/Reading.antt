-- The steps by which an entry is read from a place's blocks. Assumes nothing.
use Rattle.std.specs.Prelude.{cond, List, [], ◌∷◌, ◌++◌, ℕ, ltb, take, drop, replicate}
use Rattle.blocks.specs.Answers.{read_out}

unfoldable pub least_of : ℕ → ℕ → ℕ
least_of a b = cond (ltb a b) a b

-- n bytes of the place's blocks, from byte `at` on, at the front of what is lent
abbrev pub read_front : List ℕ → List ℕ → ℕ → ℕ → ℕ → List ℕ → List ℕ
read_front disk owner place at n out = read_out disk owner place at (take n out) ++ drop n out

-- the first 70 bytes of the place's blocks, the 7 from byte `at` on, and the end mark
unfoldable pub short_read : List ℕ → List ℕ → ℕ → ℕ → List ℕ
short_read disk owner place at =
    read_out disk owner place 0 (replicate 70 0) ++ (read_out disk owner place at (replicate 7 0) ++ 0 ∷ 0 ∷ 0 ∷ [])
