-- How the code reads pairs of hex digits (Numerals.antt): the digits are tested one by one, and each pair becomes a number of two bytes and then
-- the byte that it stands for. That this comes to Numerals.antt is proved in proofs/PairLaws.antt. Assumes nothing.
use Rattle.std.specs.Prelude.{ℕ, ◌+◌, ◌*◌, ◌/◌, ◌%◌, Bool, true, false, cond, List, [], ◌∷◌, nat_lt}
use Rattle.lines.specs.Numerals.{hex_value}

-- digits and nothing else
unfoldable pub all_hex : List ℕ → Bool
all_hex [] = true
all_hex (b ∷ bs) = cond (nat_lt (hex_value b) 16) (all_hex bs) false

-- a pair of digits as one number, the first digit in its low byte
unfoldable pub pairs_in : List ℕ → List ℕ
pairs_in [] = []
pairs_in (a ∷ []) = []
pairs_in (a ∷ b ∷ rest) = (a + 256 * b) ∷ pairs_in rest

-- the value of a digit that is one: "a" is 97, 9 more than a multiple of 16 less its value, and the decimal digits are below 64
abbrev pub digit_value : ℕ → ℕ
digit_value b = b % 16 + 9 * (b / 64)

-- the byte of a pair
unfoldable pub pair_byte : ℕ → ℕ
pair_byte w = (16 * digit_value (w % 256) + digit_value (w / 256)) % 256
