-- The truth of one relation on the items of a header (document 01, "Equations", with the meaning of document 02, A2: "A relation holds if any item of
-- that id in the header meets it. So a file to A and B is both equal to A and not equal to A."). Assumes nothing.
use Rattle.std.specs.Prelude.{Bool, false, ◌||◌, cond, List, [], ◌∷◌, ℕ, eqb}
use Rattle.header.specs.Items.{Field}
use Rattle.equation.specs.Relation.{meets}

-- "A relation is a byte with bit 7 set, then an item as in a header": the byte, the item's id, the item's bytes
pub record Relation : Type 0 where
  pub code : ℕ
  pub id : ℕ
  pub constant : List ℕ

abbrev pub relation_of : ℕ → ℕ → List ℕ → Relation
relation_of code id constant = record { code = code; id = id; constant = constant }

-- an item has the relation's id and meets it
abbrev pub met_by : Relation → Field → Bool
met_by r x = cond (eqb x.id r.id) (meets r.code r.constant x.bytes) false

-- "A relation holds if any item of that id in the header meets it" (02, A2); "An absent item .. makes the relation false (H)."
unfoldable pub holds : Relation → List Field → Bool
holds r [] = false
holds r (x ∷ xs) = met_by r x || holds r xs

-- the bytes of the items with an id, in order
unfoldable pub bytes_of : ℕ → List Field → List (List ℕ)
bytes_of i [] = []
bytes_of i (x ∷ xs) = cond (eqb x.id i) (x.bytes ∷ bytes_of i xs) (bytes_of i xs)
