-- DIRECTORY ENTRIES (A1 of document 02; document 001, 6.0): "What is sent must be the stored header's bytes, or the part of them that the short form
-- names." Over the bytes of a file. Assumes nothing.
use Rattle.std.specs.Prelude.{ℕ, Bool, cond, List, [], ◌∷◌, ◌++◌, length, take, ◌==◌}
use Rattle.numbers.specs.Numbers.{two}
use Rattle.header.specs.Items.{Field, fields_of}
use Rattle.header.specs.Header.{listed_length, header_length, check_items}

-- an item as it stands in a header: "id (2 bytes), length (1), data"
abbrev pub item_bytes : Field → List ℕ
item_bytes x = two x.id ++ (length x.bytes ∷ x.bytes)

-- items one behind the other
unfoldable pub items_bytes : List Field → List ℕ
items_bytes [] = []
items_bytes (x ∷ xs) = item_bytes x ++ items_bytes xs

-- the mandatory ones, in their order: "All twelve are mandatory (003)", and these are the listed ones
unfoldable pub mandatory : List Field → List Field
mandatory [] = []
mandatory (x ∷ xs) = cond (listed_length x.id == 0) (mandatory xs) (x ∷ mandatory xs)

-- "'Long' directory entries are the complete PACSAT File Header": from AA to the end mark
abbrev pub long_entry : List ℕ → List ℕ
long_entry file = take (header_length file) file

-- "'short' directory entries are only the Mandatory File Header items": AA 55, these items as stored and in the stored order, and the end mark
abbrev pub short_entry : List ℕ → List ℕ
short_entry file = 170 ∷ 85 ∷ (items_bytes (mandatory (fields_of file)) ++ 0 ∷ 0 ∷ 0 ∷ [])

-- a file's entry, long or short; nothing of a file whose items DATA_END refuses, and no complete file is one
unfoldable pub entry_of : Bool → List ℕ → List ℕ
entry_of long file = cond (check_items file == 0) (cond long (long_entry file) (short_entry file)) []

-- entries "running on from header to header"
unfoldable pub running_on : List (List ℕ) → List ℕ
running_on [] = []
running_on (e ∷ es) = e ++ running_on es
