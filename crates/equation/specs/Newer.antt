-- The condition that asks for newer files, and an equation with that condition added (demand 3: "then again above each page's newest time, with an
-- equation that has room for that condition"). Assumes nothing.
use Rattle.std.specs.Prelude.{List, [], ◌∷◌, ◌++◌, ℕ, zero, suc, ◌+◌}
use Rattle.numbers.specs.Numbers.{four}
use Rattle.equation.specs.Holds.{Relation, relation_of}
use Rattle.equation.specs.Symbols.{token_of}
use Rattle.equation.specs.declared.tokens.Token.{Token}
use Rattle.equation.specs.declared.tokens.Token.TheVariants.{Bad, End, And, Or, Rel}

-- upload_time (12h) greater than t: the relation, and its bytes 90 12 00 04 and t in four bytes
abbrev pub newer : ℕ → Relation
newer t = relation_of 144 18 (four t)

abbrev pub newer_bytes : ℕ → List ℕ
newer_bytes t = 144 ∷ 18 ∷ 0 ∷ 4 ∷ four t

-- what of a token stands before the end mark, k giving the bytes from the token on with so many further ones kept
unfoldable pub before_mark : Token → (ℕ → List ℕ) → List ℕ
before_mark Bad k = []
before_mark End k = []
before_mark And k = k 0
before_mark Or k = k 0
before_mark (Rel c i n) k = k (3 + n)

unfoldable pub unmarked_past : ℕ → List ℕ → List ℕ
unmarked_past n [] = []
unmarked_past zero (c ∷ bs) = before_mark (token_of (c ∷ bs)) (λ n. c ∷ unmarked_past n bs)
unmarked_past (suc n) (c ∷ bs) = c ∷ unmarked_past n bs

-- an accepted equation without its end mark, if it has one
abbrev pub unmarked : List ℕ → List ℕ
unmarked eq = unmarked_past 0 eq

-- the equation AND the condition, in at most nine bytes more
abbrev pub narrowed : List ℕ → ℕ → List ℕ
narrowed eq t = unmarked eq ++ (newer_bytes t ++ (1 ∷ []))
