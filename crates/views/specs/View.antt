-- What a state of the server stands for in the machine of crates/model. Assumes nothing.
use Rattle.std.specs.Prelude.{Bool, true, cond, List, [], ◌∷◌, ◌++◌, map, ℕ, zero, suc, ◌+◌, ◌*◌, ◌-◌, length, take, drop, Some, None}
use Rattle.std.proofs.Math.Option.{Option, none, some}
use Rattle.header.specs.Entries.{running_on}
use Rattle.session.specs.declared.state.Session.{Session}
use Rattle.session.specs.declared.state.Uplink.{Uplink}
use Rattle.session.specs.declared.state.Uplink.TheVariants as up
use Rattle.session.specs.declared.state.Downlink.{Downlink}
use Rattle.session.specs.declared.state.Downlink.TheVariants as down
use Rattle.session.specs.declared.state.Listed.{Listed}
use Rattle.session.specs.declared.state.Listed.TheVariants.{One, Selected}
use Rattle.std.specs.Prelude as std
use Rattle.table.specs.Table.{files, find_of}
use Rattle.files.specs.View.{View}
use Rattle.server.specs.declared.Server.{Server}
use Rattle.server.specs.State.{Lent, link_of, part, table_part}
use Rattle.acts.specs.Change.{Files}
use Rattle.history.specs.Stored.{files_of}
use Rattle.model.specs.State as model
use Rattle.model.specs.State.{File, file, no_upload, receiving, ignoring, no_download, sending, ended, aborting, listing, Model}
use Rattle.model.specs.Downlink.{entry_in}

-- ---- files

-- a file: its record and its bytes, wherever they lie; the file of a number
abbrev pub file_of : View → File
file_of v = file v.file.number v.file.size v.bytes v.file.time

abbrev pub file_in : Files → std.Option ℕ → Option File
file_in F None = none
file_in F (Some place) = some (file_of (F place))

abbrev pub numbered : Server → Lent → ℕ → Option File
numbered sv l n = file_in (files_of sv l) (find_of (files (table_part sv l)) n)

-- those of the numbers 1 to n
unfoldable pub entry : Option File → List File
entry none = []
entry (some f) = f ∷ []

unfoldable pub listed : ℕ → (ℕ → Option File) → List File
listed zero F = []
listed (suc n) F = listed n F ++ entry (F (suc n))

-- ---- sessions

abbrev pub up_of : Files → Uplink → model.Uplink
up_of F up.Idle = no_upload
up_of F (up.Receiving place offset received) = receiving (F place).file.number
up_of F up.Ignoring = ignoring

-- the numbers of the files of a directory: the one at a place, or those of the session's selection from one on up to its place in it
abbrev pub names_of : Files → List ℕ → ℕ → Listed → List ℕ
names_of F selected next (One place) = (F place).file.number ∷ []
names_of F selected next (Selected first) = take (next - first) (drop first selected)

-- how many bytes lie behind: the entries of so many files of these numbers, and so many bytes of the next one's; N has the file of a number
abbrev pub bytes_behind : (ℕ → Option File) → Bool → List ℕ → ℕ → ℕ → ℕ
bytes_behind N long ns files bytes = length (running_on (map (λ n. entry_in long (N n)) (take files ns))) + bytes

abbrev pub down_of : Files → (ℕ → Option File) → List ℕ → ℕ → Downlink → model.Downlink
down_of F N selected next down.Idle = no_download
down_of F N selected next (down.Sending place offset sent) = sending (F place).file.number (offset + sent)
down_of F N selected next (down.Ended place) = ended (F place).file.number
down_of F N selected next (down.Aborting place) = aborting (F place).file.number
down_of F N selected next (down.Listing l long done sent) =
    listing long (names_of F selected next l) (bytes_behind N long (names_of F selected next l) done sent)

-- an open session, with its part of the selections and of the unfinished packets; of a closed one nothing counts
abbrev pub open_from : Files → (ℕ → Option File) → List ℕ → List ℕ → Session → model.Session
open_from F N selected held s =
    record {
      linked = true;
      up = up_of F s.up;
      down = down_of F N selected s.next s.down;
      selected = take s.count selected;
      next = s.next;
      held = take s.held held;
    }

abbrev pub session_from : Files → (ℕ → Option File) → List ℕ → List ℕ → Session → model.Session
session_from F N selected held s = cond s.linked (open_from F N selected held s) model.closed_session

-- session i, counted from 0
abbrev pub session_of : Server → Lent → ℕ → model.Session
session_of sv l i =
    session_from (files_of sv l) (numbered sv l) (part (i * sv.most) sv.most l.selected) (part (i * 258) 258 l.held) (link_of sv i)

unfoldable pub each : ℕ → (ℕ → model.Session) → List model.Session
each zero f = []
each (suc n) f = f 0 ∷ each n (λ i. f (suc i))

-- ---- THE VIEW

abbrev pub view : Server → Lent → Model
view sv l =
    record {
      blocks = sv.blocks;
      places = sv.files;
      maxsel = sv.most;
      last_number = sv.last.number;
      last_time = sv.last.time;
      files = listed sv.last.number (numbered sv l);
      sessions = each sv.sessions (session_of sv l);
    }
