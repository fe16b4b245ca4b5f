-- The answers of this layer: what the header's and the equation's definitions say of a file's contents, after the local refusals: 33, "a size
-- or length outside the table .. or a lent buffer too short", and 35, "a length .. points at what the store lacks". Assumes nothing.
use Rattle.std.specs.Prelude.{Bool, Result, Err, cond, List, ℕ, ◌+◌, ◌*◌, leb, eqb, length, replicate}
use Rattle.blocks.specs.Owners.{blocks}
use Rattle.blocks.specs.Contents.{contents, stored}
use Rattle.blocks.specs.Answers.{disk_fits}
use Rattle.header.specs.Items.{fields_of}
use Rattle.header.specs.Header.{verdict, check_items, header_of, refused_with}
use Rattle.header.specs.Fields.{fields_set}
use Rattle.header.specs.declared.scan.Header.{Header}
use Rattle.equation.specs.Marks.{settled_by}
use Rattle.equation.specs.Answer.{answer_of}
use Rattle.equation.specs.Parsed.{relations_by, outcome_by}

-- the file at a place, of which so many bytes are received: what the blocks with owner place + 1 hold, in rising order
abbrev pub file_at : List ℕ → List ℕ → ℕ → ℕ → List ℕ
file_at disk owner place received = contents (place + 1) owner disk received

-- "storage blocks of 256 bytes | 1 | 4,096", a disk that has them, "files .. | 1 | 256"
abbrev pub sizes_fit : List ℕ → List ℕ → ℕ → Bool
sizes_fit disk owner place = disk_fits (length disk) (length owner) place

-- the checks of DATA_END
unfoldable pub check_at : List ℕ → List ℕ → ℕ → ℕ → ℕ → ℕ
check_at disk owner place received announced = cond (sizes_fit disk owner place) (verdict (file_at disk owner place received) announced) 33

-- what the header says, with the place of the first item with the wanted id
unfoldable pub header_at : List ℕ → List ℕ → ℕ → ℕ → ℕ → Result Header ℕ
header_at disk owner place received want =
    cond (sizes_fit disk owner place) (header_of want (file_at disk owner place received)) (refused_with 33)

-- the truth of an equation; "information bytes the server accepts" are at most 256
unfoldable pub truth_at : List ℕ → List ℕ → List ℕ → ℕ → ℕ → Result Bool ℕ
truth_at eq disk owner place received =
    cond (leb (length eq) 256) (cond (sizes_fit disk owner place) (answer_of eq (file_at disk owner place received)) (Err 33)) (Err 33)

-- the same by the equation's steps, and with marks for 64 relations: 256 bytes hold no more
unfoldable pub truth_by : List ℕ → List ℕ → List ℕ → List ℕ → ℕ → ℕ → Result Bool ℕ
truth_by eq steps disk owner place received =
    cond (leb (length eq) 256)
    (cond (sizes_fit disk owner place)
    (outcome_by steps (settled_by (fields_of (file_at disk owner place received)) (relations_by eq steps) (replicate 64 0)))
    (Err 33))
    (Err 33)

-- setting the fields: 35 where the place's blocks do not hold so many bytes, then the refusal of the items; 0 for done
unfoldable pub set_number : List ℕ → List ℕ → ℕ → ℕ → ℕ
set_number disk owner place received =
    cond (sizes_fit disk owner place)
    (cond (leb received (256 * blocks (place + 1) owner)) (check_items (file_at disk owner place received)) 35)
    33

-- the file is stored with its fields set, and nothing else changes; a refusal changes nothing
unfoldable pub set_disk : List ℕ → List ℕ → ℕ → ℕ → ℕ → ℕ → List ℕ
set_disk disk owner place received number time =
    cond (eqb (set_number disk owner place received) 0)
    (stored (place + 1) owner disk 0 (fields_set number time (file_at disk owner place received)))
    disk
