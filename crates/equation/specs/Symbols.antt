-- The bytes of an equation as symbols, whatever the files (document 01, "Equations"; 001 section 4.1). Assumes nothing.
use Rattle.std.specs.Prelude.{Bool, true, false, cond, List, [], ◌∷◌, ℕ, zero, suc, ◌+◌, ◌*◌, ltb, leb, eqb, length, take, drop}
use Rattle.equation.specs.Relation.{operator_of, kind_of, width}
use Rattle.equation.specs.Holds.{Relation, relation_of}
use Rattle.equation.specs.declared.tokens.Token.{Token}
use Rattle.equation.specs.declared.tokens.Token.TheVariants.{Bad, End, And, Or, Rel}

-- the number of `*` in a constant
unfoldable pub stars_in : List ℕ → ℕ
stars_in [] = 0
stars_in (p ∷ ps) = cond (eqb p 42) (suc (stars_in ps)) (stars_in ps)

-- "Text knows only equal and not equal"; "at most four `*`"
unfoldable pub good_text : ℕ → List ℕ → Bool
good_text operator constant = cond (cond (eqb operator 0) true (eqb operator 3)) (leb (stars_in constant) 4) false

-- six relations on a "number of 1, 2 or 4 bytes"
unfoldable pub good_number : ℕ → ℕ → Bool
good_number operator n = cond (leb operator 5) (width n) false

-- "8 is given exactly when a code, length, relation or number of `*` is not one of these"
unfoldable pub good : ℕ → List ℕ → Bool
good code constant =
    cond (eqb (kind_of code) 3) (good_text (operator_of code) constant)
    (cond (eqb (kind_of code) 0) (good_number (operator_of code) (length constant)) false)

-- "A byte with bit 7 clear is AND or OR, or an end mark, as 001 section 4.1 prints it": 01, 02 and 00; "a byte follows the mark" is bad
unfoldable pub connective_of : ℕ → ℕ → Token
connective_of code left = cond (eqb code 1) And (cond (eqb code 2) Or (cond (eqb code 0) (cond (eqb left 0) End Bad) Bad))

-- a byte with bit 7 set, and the bytes after it: the item's id (2 bytes), its length (1), the constant; "bytes run out" is bad
unfoldable pub relation_at : ℕ → List ℕ → Token
relation_at code [] = Bad
relation_at code (a ∷ []) = Bad
relation_at code (a ∷ b ∷ []) = Bad
relation_at code (a ∷ b ∷ n ∷ bs) =
    cond (leb n (length bs)) (cond (good code (take n bs)) (Rel code (a + 256 * b) n) Bad) Bad

-- what stands at the front of bytes: "The equation ends at the mark or its last byte (H)."
unfoldable pub token_of : List ℕ → Token
token_of [] = End
token_of (c ∷ bs) = cond (ltb c 128) (connective_of c (length bs)) (relation_at c bs)

-- document 01's number for a token: 8, "equation refused", for what is none
abbrev pub token_number : Token → ℕ
token_number Bad = 8
token_number End = 0
token_number And = 0
token_number Or = 0
token_number (Rel c i n) = 0

-- a relation, a connective, or what is none of these
pub data Symbol : Type 0 where
  rel : Relation → Symbol
  and or bad : Symbol

-- what a token gives, with the bytes from it on and the symbols past so many further bytes
unfoldable pub follow : Token → List ℕ → (ℕ → List Symbol) → List Symbol
follow Bad bs k = bad ∷ []
follow End bs k = []
follow And bs k = and ∷ k 0
follow Or bs k = or ∷ k 0
follow (Rel c i n) bs k = rel (relation_of c i (take n (drop 4 bs))) ∷ k (3 + n)

-- past the first bytes, as many as the number says, the symbols; they end at the first bad one
unfoldable pub symbols_past : ℕ → List ℕ → List Symbol
symbols_past n [] = []
symbols_past zero (c ∷ bs) = follow (token_of (c ∷ bs)) (c ∷ bs) (λ n. symbols_past n bs)
symbols_past (suc n) (c ∷ bs) = symbols_past n bs

abbrev pub symbols : List ℕ → List Symbol
symbols bs = symbols_past 0 bs

-- the relations among symbols, in order: the relation of number k is the one at place k, from 0
unfoldable pub relations : List Symbol → List Relation
relations [] = []
relations (rel r ∷ ss) = r ∷ relations ss
relations (and ∷ ss) = relations ss
relations (or ∷ ss) = relations ss
relations (bad ∷ ss) = relations ss
