-- The marks of an equation's relations while the items of a header are met one by one: the mark of the relation of number k stands at place k.
-- 0 is not met yet, 1 is met. Assumes nothing.
use Rattle.std.specs.Prelude.{Bool, cond, List, [], ◌∷◌, ℕ, eqb, get_or}
use Rattle.header.specs.Items.{Field}
use Rattle.equation.specs.Holds.{Relation, met_by}
use Rattle.equation.specs.Symbols.{symbols, relations}

-- an item of a header, by its id and its bytes
abbrev pub field_of : ℕ → List ℕ → Field
field_of id bytes = record { id = id; bytes = bytes }

-- a mark after an item: an item that does not meet the relation leaves it, so any one that does is enough
unfoldable pub mark_after : Relation → Field → ℕ → ℕ
mark_after r x m = cond (met_by r x) 1 m

-- the marks of relations after an item; relations past the last mark have none
unfoldable pub settled : Field → List Relation → List ℕ → List ℕ
settled x [] ms = ms
settled x (r ∷ rs) [] = []
settled x (r ∷ rs) (m ∷ ms) = mark_after r x m ∷ settled x rs ms

-- the marks after each of several items
unfoldable pub settled_by : List Field → List Relation → List ℕ → List ℕ
settled_by [] rs ms = ms
settled_by (x ∷ xs) rs ms = settled_by xs rs (settled x rs ms)

-- the relations of an equation, in order
abbrev pub relations_of : List ℕ → List Relation
relations_of eq = relations (symbols eq)

-- the relation of number k is true by its mark
abbrev pub marked_true : List ℕ → ℕ → Bool
marked_true ms k = eqb (get_or ms k 0) 1
