-- The table of names as the code has it, and the search of a name at the front of a text. Assumes nothing.
use Rattle.std.specs.Prelude.{cond, List, [], ◌∷◌, ◌++◌, ℕ, suc, ◌-◌, max, eqb, length, get_or, replicate, Result, Ok, Err}
use Rattle.packet.specs.Names.{bytes_of}
use Rattle.text.specs.Match.{lower}
use Rattle.names.specs.Names.{Named, named, items, small}
use Rattle.names.specs.declared.table.Row.{Row}

-- a name in 23 bytes, the length of the longest
abbrev pub in23 : List ℕ → List ℕ
in23 name = name ++ replicate (23 - length name) 0

unfoldable pub row_for : Named → Row
row_for x = record { letters = in23 (bytes_of x.name); size = length (bytes_of x.name); id = x.id; width = x.width }

-- no name, with the width that numbers have where none is usual
abbrev pub nameless : Named
nameless = named "" 0 1

unfoldable pub row_at : ℕ → Row
row_at k = row_for (get_or items k nameless)

-- the row of an id
unfoldable pub row_in : List Named → ℕ → Row
row_in [] id = row_for nameless
row_in (x ∷ xs) id = cond (eqb x.id id) (row_for x) (row_in xs id)

abbrev pub row_of : ℕ → Row
row_of id = row_in items id

-- how many letters of a name, given in small letters, bytes begin with, in either case
unfoldable pub shared : List ℕ → List ℕ → ℕ
shared [] bs = 0
shared (c ∷ cs) [] = 0
shared (c ∷ cs) (b ∷ bs) = cond (eqb (lower b) c) (suc (shared cs bs)) 0

-- the name that bytes begin with, by its id and its length; or how many bytes a name begins with, `most` those of the names before
unfoldable pub found_in : List Named → ℕ → List ℕ → Result (ℕ × ℕ) ℕ
found_in [] most bs = Err most
found_in (x ∷ xs) most bs =
    cond (eqb (shared (small x) bs) (length (small x))) (Ok (x.id, length (small x))) (found_in xs (max most (shared (small x) bs)) bs)

abbrev pub found : List ℕ → Result (ℕ × ℕ) ℕ
found bs = found_in items 0 bs
