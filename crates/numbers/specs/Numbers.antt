-- Numbers in bytes (document 01, "Packets": "Numbers are least significant byte first"). Assumes nothing.
use Rattle.std.specs.Prelude.{cond, List, [], ◌∷◌, ℕ, ◌+◌, ◌*◌, ◌/◌, ◌%◌, leb, length, take, drop, Option, Some, None}
use Rattle.std.proofs.lemmas.List.Edits.{sets}

-- the number that bytes stand for
unfoldable pub number : List ℕ → ℕ
number [] = 0
number (b ∷ bs) = b + 256 * number bs

-- a number as two and as four bytes
abbrev pub two : ℕ → List ℕ
two n = n % 256 ∷ n / 256 % 256 ∷ []

abbrev pub four : ℕ → List ℕ
four n = n % 256 ∷ n / 256 % 256 ∷ n / 65536 % 256 ∷ n / 16777216 % 256 ∷ []

-- the number in the `width` bytes of bs from byte `at` on
unfoldable pub number_at : ℕ → List ℕ → ℕ → Option ℕ
number_at width bs at = cond (leb (at + width) (length bs)) (Some (number (take width (drop at bs)))) None

-- document 01's number for a number that was read: 33, "a lent buffer too short", where its bytes are not all there
abbrev pub short_number : Option ℕ → ℕ
short_number None = 33
short_number (Some n) = 0

-- the same number for bytes to be written: they fit where as many could be read; 0 for done
unfoldable pub fits_at : ℕ → List ℕ → ℕ → ℕ
fits_at width bs at = short_number (number_at width bs at)

-- bs with xs in the place of as many bytes from byte `at` on; unchanged where they do not fit
unfoldable pub stored_at : List ℕ → ℕ → List ℕ → List ℕ
stored_at bs at xs = cond (leb (at + length xs) (length bs)) (sets bs at xs) bs
