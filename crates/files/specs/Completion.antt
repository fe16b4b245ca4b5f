-- A file checked and completed at DATA_END, and what its header says to a download (document 01, "Header at DATA_END", "Downlink").
use Rattle.std.specs.Prelude.{ℕ, Result, Ok, Err, cond, List, eqb}
use Rattle.header.specs.declared.scan.Header.{Header}
use Rattle.stored.specs.Answers.{check_at, header_at, set_number, set_disk}
use Rattle.table.specs.declared.File.{File}
use Rattle.table.specs.Table.{put_table}
use Rattle.files.specs.View.{record_at}
use Rattle.files.specs.Uploads.{after, place_number, Writes, writes}

-- the number that DATA_END gives for the bytes received and the announced length, 0 for accepted
unfoldable pub check_of : List ℕ → List ℕ → List ℕ → ℕ → ℕ
check_of disk owner table place =
    after (place_number place (record_at table place))
    (check_at disk owner place (record_at table place).received (record_at table place).size)

-- a file that is complete by its upload time
abbrev pub completed : ℕ → File → File
completed time f = record { number = f.number; size = f.size; received = f.received; time = time }

unfoldable pub complete_number : List ℕ → List ℕ → ℕ → File → ℕ
complete_number disk owner place f = after (place_number place f) (set_number disk owner place f.received)

-- "On success the server sets" its fields, five with file_name (crates/header/specs/Fields.antt); the upload time is the record's too
unfoldable pub complete_of : List ℕ → List ℕ → List ℕ → ℕ → ℕ → Writes
complete_of disk owner table place time =
    cond (eqb (complete_number disk owner place (record_at table place)) 0)
    (writes 0 (set_disk disk owner place (record_at table place).received (record_at table place).number time)
    (put_table table place (completed time (record_at table place))))
    (writes (complete_number disk owner place (record_at table place)) disk table)

-- how many destinations a header has, 0 where it is refused
abbrev pub destinations_said : Result Header ℕ → ℕ
destinations_said (Ok header) = header.destinations
destinations_said (Err n) = 0

-- "14 hex is a destination": how many the file has, 0 where its header is refused
unfoldable pub destinations_at : List ℕ → List ℕ → List ℕ → ℕ → ℕ
destinations_at disk owner table place = destinations_said (header_at disk owner place (record_at table place).received 20)
