-- Numbers and bytes as text (document 01, "The script program": "a decimal clock", "Hex is lower-case, read or printed"). Assumes nothing.
use Rattle.std.specs.Prelude.{ℕ, zero, suc, ◌+◌, ◌/◌, ◌%◌, true, false, List, [], ◌∷◌, ◌++◌, nat_lt}
use Rattle.numbers.specs.Hex.{hex_digit}

-- the decimal digits of n in ASCII, in which "0" is 48; n has at most `most` digits more than one
unfoldable pub digits_within : ℕ → ℕ → List ℕ
digits_within zero n = (48 + n) ∷ []
digits_within (suc most) n = elim (nat_lt n 10) [ true ↦ (48 + n) ∷ [] | false ↦ digits_within most (n / 10) ++ ((48 + n % 10) ∷ []) ]

-- without leading zeros, "0" for 0; a number has no more digits than it counts, or one. `elim` above lets a computed example stop at
-- the first digit.
unfoldable pub decimal_of : ℕ → List ℕ
decimal_of n = digits_within n n

-- two digits a byte, the high one first
unfoldable pub hex_of : List ℕ → List ℕ
hex_of [] = []
hex_of (b ∷ bs) = hex_digit (b / 16) ∷ hex_digit (b % 16) ∷ hex_of bs
