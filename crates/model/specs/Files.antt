-- THE FILES: found by number, their blocks, and which of them a SELECT_CMD selects. Assumes nothing.
use Rattle.std.specs.Prelude.{Bool, true, false, cond, List, [], ◌∷◌, map, ℕ, ◌+◌, ◌-◌, eqb, ltb, take}
use Rattle.std.proofs.Math.Option.{Option, none, some}
use Rattle.header.specs.Items.{fields_of}
use Rattle.equation.specs.Answer.{selects}
use Rattle.table.specs.Given.{blocks_for}
use Rattle.model.specs.State.{File, Uplink, no_upload, receiving, ignoring, Session, Model}

-- the file of a number, if there is one
unfoldable pub find : ℕ → List File → Option File
find n [] = none
find n (f ∷ fs) = cond (eqb f.number n) (some f) (find n fs)

-- the file of a number is changed, or is no more
unfoldable pub changed : ℕ → (File → File) → List File → List File
changed n change [] = []
changed n change (f ∷ fs) = cond (eqb f.number n) (change f) f ∷ changed n change fs

unfoldable pub without : ℕ → List File → List File
without n [] = []
without n (f ∷ fs) = cond (eqb f.number n) (without n fs) (f ∷ without n fs)

-- "A new file reserves its length divided by 256, rounded up, in blocks" (`blocks_for`): those of all files, and the blocks that are free
unfoldable pub reserved : List File → ℕ
reserved [] = 0
reserved (f ∷ fs) = blocks_for f.size + reserved fs

abbrev pub free : Model → ℕ
free m = m.blocks - reserved m.files

-- a session is uploading the file of a number
abbrev pub receives : Uplink → ℕ → Bool
receives no_upload n = false
receives (receiving k) n = eqb k n
receives ignoring n = false

unfoldable pub uploading : List Session → ℕ → Bool
uploading [] n = false
uploading (s ∷ ss) n = cond (receives s.up n) true (uploading ss n)

-- ---- "The selection is the oldest MAXSEL matching complete files by upload time"

-- the complete files on whose headers an equation is true
unfoldable pub matching : List ℕ → List File → List File
matching equation [] = []
matching equation (f ∷ fs) =
    cond (eqb f.time 0) (matching equation fs)
    (cond (selects equation (fields_of f.bytes)) (f ∷ matching equation fs) (matching equation fs))

-- in rising order of upload time: a file is put in behind those that are older
unfoldable pub placed : File → List File → List File
placed f [] = f ∷ []
placed f (g ∷ gs) = cond (ltb g.time f.time) (g ∷ placed f gs) (f ∷ g ∷ gs)

unfoldable pub by_time : List File → List File
by_time [] = []
by_time (f ∷ fs) = placed f (by_time fs)

-- the numbers of the oldest
abbrev pub selection : ℕ → List ℕ → List File → List ℕ
selection maxsel equation files = map (λ f. f.number) (take maxsel (by_time (matching equation files)))
