-- Kinds of bytes in a text. Assumes nothing.
use Rattle.std.specs.Prelude.{Bool, true, false, cond, List, [], ◌∷◌, ℕ, ltb, leb, eqb}
use Rattle.text.specs.Match.{lower}
use Rattle.lines.specs.Numerals.{hex_value}

-- "A blank is 20h or 09h"
unfoldable pub is_blank : ℕ → Bool
is_blank b = cond (eqb b 32) true (eqb b 9)

-- "a byte 20h to 7eh"
unfoldable pub is_printed : ℕ → Bool
is_printed b = cond (leb 32 b) (leb b 126) false

-- the value of a "hex digit of either case", 16 for any other byte
abbrev pub hex_of : ℕ → ℕ
hex_of b = hex_value (lower b)

abbrev pub is_hex_digit : ℕ → Bool
is_hex_digit b = ltb (hex_of b) 16

-- a test holds of every byte
unfoldable pub every : (ℕ → Bool) → List ℕ → Bool
every test [] = true
every test (b ∷ bs) = cond (test b) (every test bs) false
