-- One relation against the bytes of one item (document 01, "Equations"). "The file stands on the left." Assumes nothing.
use Rattle.std.specs.Prelude.{Bool, true, false, not, cond, List, ℕ, ◌/◌, ◌%◌, ltb, leb, eqb, length}
use Rattle.numbers.specs.Numbers.{number}
use Rattle.text.specs.Match.{matches}

-- bits 6 to 4 of a relation's first byte, and bits 3 to 0
abbrev pub operator_of : ℕ → ℕ
operator_of code = code / 16 % 8

abbrev pub kind_of : ℕ → ℕ
kind_of code = code % 16

-- "unsigned number of 1, 2 or 4 bytes"
unfoldable pub width : ℕ → Bool
width n = cond (eqb n 1) true (cond (eqb n 2) true (eqb n 4))

-- "0 equal, 1 greater, 2 less, 3 not equal, 4 greater or equal, 5 less or equal": the file's number a against the constant's b
unfoldable pub compare : ℕ → ℕ → ℕ → Bool
compare operator a b =
    cond (eqb operator 0) (eqb a b)
    (cond (eqb operator 1) (ltb b a)
    (cond (eqb operator 2) (ltb a b)
    (cond (eqb operator 3) (not (eqb a b)) (cond (eqb operator 4) (leb b a) (cond (eqb operator 5) (leb a b) false)))))

-- "Text knows only equal and not equal"
unfoldable pub text_meets : ℕ → List ℕ → List ℕ → Bool
text_meets operator constant item =
    cond (eqb operator 0) (matches constant item) (cond (eqb operator 3) (not (matches constant item)) false)

-- a number's constant and item may differ in width; an item "not 1, 2 or 4 bytes long" meets no number relation (H)
unfoldable pub number_meets : ℕ → List ℕ → List ℕ → Bool
number_meets operator constant item =
    cond (width (length constant)) (cond (width (length item)) (compare operator (number item) (number constant)) false) false

-- "Bits 3 to 0: 0 unsigned number of 1, 2 or 4 bytes; 3 text"; no other kind is met by anything
unfoldable pub meets : ℕ → List ℕ → List ℕ → Bool
meets code constant item =
    cond (eqb (kind_of code) 3) (text_meets (operator_of code) constant item)
    (cond (eqb (kind_of code) 0) (number_meets (operator_of code) constant item) false)
