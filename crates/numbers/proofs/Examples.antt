-- Eight digits of a few numbers, by computation. Assumes nothing.
use mathlib.Core.Path.{◌≡◌, refl}
use mathlib.Core.List.{[], ◌∷◌, map}
use Rattle.numbers.specs.Hex.{hex_digit, eight}

-- "00000000", "000007d0", "89abcdef", "ffffffff"
pub digits : map eight (0 ∷ 2000 ∷ 2309737967 ∷ 4294967295 ∷ [])
    ≡ (48 ∷ 48 ∷ 48 ∷ 48 ∷ 48 ∷ 48 ∷ 48 ∷ 48 ∷ []) ∷ (48 ∷ 48 ∷ 48 ∷ 48 ∷ 48 ∷ 55 ∷ 100 ∷ 48 ∷ [])
    ∷ (56 ∷ 57 ∷ 97 ∷ 98 ∷ 99 ∷ 100 ∷ 101 ∷ 102 ∷ []) ∷ (102 ∷ 102 ∷ 102 ∷ 102 ∷ 102 ∷ 102 ∷ 102 ∷ 102 ∷ []) ∷ []
unfolding hex_digit
digits = refl
