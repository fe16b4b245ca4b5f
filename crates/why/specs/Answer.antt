-- What `why` answers, and what it leaves in the numbers lent to it. Refusals in the order of document 02, A5, "8, then 4, then 11", with
-- document 01's 33 for sizes first and for too few numbers lent last. Assumes nothing.
use Rattle.std.specs.Prelude.{Bool, false, ◌&&◌, cond, List, [], ◌++◌, ℕ, ◌*◌, ◌/◌, ltb, leb, eqb, length, drop, Some, None, Result, Ok, Err}
use Rattle.std.proofs.Math.Option.{Option, none, some}
use Rattle.header.specs.Items.{Field, fields_of}
use Rattle.equation.specs.Holds.{holds}
use Rattle.equation.specs.Tree.{Tree, parse, truth_on}
use Rattle.equation.specs.Answer.{selects}
use Rattle.std.specs.Prelude as std
use Rattle.table.specs.Table.{files, uploaded, find_of}
use Rattle.table.specs.Order.{in_order}
use Rattle.files.specs.View.{record_at, bytes_at}
use Rattle.files.specs.Selection.{passing}
use Rattle.why.specs.declared.Explained.{Explained}
use Rattle.why.specs.Reasons.{reasons}

-- the answer, and the lent numbers afterwards
pub record Whys : Type 0 where
  pub answer : Result Explained ℕ
  pub named : List ℕ

abbrev pub whys : Result Explained ℕ → List ℕ → Whys
whys answer named = record { answer = answer; named = named }

-- a refusal tells nothing else
abbrev pub refused_by : ℕ → Result Explained ℕ
refused_by n = Err n

-- 33, "a size or length outside the table": at most 2,047 equation bytes, 1 to 4,096 blocks and a disk that has them, 1 to 256 file places,
-- MAXSEL 1 to 50
unfoldable pub sizes_fit : ℕ → ℕ → ℕ → ℕ → ℕ → Bool
sizes_fit bytes disk blocks words most =
    leb bytes 2047 && (leb 1 blocks && (leb blocks 4096 && (leb (256 * blocks) disk
    && (leb 1 (words / 4) && (leb (words / 4) 256 && (leb 1 most && leb most 50))))))

-- the items of the header of the file at a place
abbrev pub items_at : List ℕ → List ℕ → List ℕ → ℕ → List Field
items_at disk owner table place = fields_of (bytes_at disk owner table place)

-- the upload time of the file at a place, 0 where it is partial
abbrev pub time_at : List ℕ → ℕ → ℕ
time_at table place = uploaded (record_at table place)

-- a file is older than a time, and the equation is true on it
abbrev pub older_test : List ℕ → List ℕ → List ℕ → List ℕ → ℕ → ℕ → Bool
older_test eq disk owner table time place = ltb (time_at table place) time && selects eq (items_at disk owner table place)

-- "how many older files matched": of the complete files, which SELECT goes through in this order
abbrev pub older_of : List ℕ → List ℕ → List ℕ → List ℕ → ℕ → ℕ
older_of eq disk owner table time = length (passing (older_test eq disk owner table time) (in_order 0 (files table)))

-- "If the file matched but fell beyond MAXSEL, it says so, with how many older files matched": `most` or more are older
unfoldable pub told : Bool → ℕ → ℕ → ℕ → Explained
told matched older most count =
    record { matched = matched; beyond = cond matched (leb most older) false; older = cond matched older 0; count = count }

-- the reasons in front of the lent numbers; 33, "a lent buffer too short"
unfoldable pub deliver : Explained → List ℕ → List ℕ → Whys
deliver answer reasons named =
    cond (leb (length reasons) (length named)) (whys (Ok answer) (reasons ++ drop (length reasons) named)) (whys (refused_by 33) named)

-- the reasons of a tree on the items of a header
abbrev pub reasons_on : List Field → Tree → List ℕ
reasons_on fields t = reasons (λ k r. holds r fields) t

-- of the file at a place, which is complete
unfoldable pub file_why : List ℕ → Tree → List ℕ → List ℕ → List ℕ → ℕ → List ℕ → ℕ → Whys
file_why eq t disk owner table most named place =
    deliver
    (told (truth_on (items_at disk owner table place) t) (older_of eq disk owner table (time_at table place)) most
    (length (reasons_on (items_at disk owner table place) t)))
    (reasons_on (items_at disk owner table place) t) named

-- 4, "no such file"; 11, a file that is not complete
unfoldable pub found_why : List ℕ → Tree → List ℕ → List ℕ → List ℕ → ℕ → List ℕ → std.Option ℕ → Whys
found_why eq t disk owner table most named None = whys (refused_by 4) named
found_why eq t disk owner table most named (Some place) =
    cond (eqb (time_at table place) 0) (whys (refused_by 11) named) (file_why eq t disk owner table most named place)

-- 8, "equation refused"
unfoldable pub tree_why : List ℕ → Option Tree → ℕ → List ℕ → List ℕ → List ℕ → ℕ → List ℕ → Whys
tree_why eq none number disk owner table most named = whys (refused_by 8) named
tree_why eq (some t) number disk owner table most named = found_why eq t disk owner table most named (find_of (files table) number)

unfoldable pub why_of : List ℕ → ℕ → List ℕ → List ℕ → List ℕ → ℕ → List ℕ → Whys
why_of eq number disk owner table most named =
    cond (sizes_fit (length eq) (length disk) (length owner) (length table) most) (tree_why eq (parse eq) number disk owner table most named)
    (whys (refused_by 33) named)
