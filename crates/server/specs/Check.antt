-- The local refusals (document 01, "Refusals by number"): "Order: 33, 35, 34, 32 first." Assumes nothing.
use Rattle.std.specs.Prelude.{Bool, true, false, cond, not, List, ℕ, ◌*◌, ◌-◌, eqb, leb, ltb, length, take, Result, Ok, Err}
use Rattle.table.specs.Table.{files}
use Rattle.files.specs.Sound.{sound_test}
use Rattle.links.specs.Sound.{links_sound}
use Rattle.server.specs.declared.Server.{Server}
use Rattle.server.specs.declared.check.Lengths.{Lengths}
use Rattle.server.specs.State.{Lent, link_of, words}

-- how long each slice is that is lent
abbrev pub lengths_of : Lent → Lengths
lengths_of l = record {
  disk = length l.disk;
  map = length l.map;
  owner = length l.owner;
  table = length l.table;
  selected = length l.selected;
  held = length l.held;
}

-- the sizes of the table: 1 to 4,096 blocks, 1 to 256 files, 1 to 4 sessions, MAXSEL 1 to 50
unfoldable pub sizes_fit : ℕ → ℕ → ℕ → ℕ → Bool
sizes_fit blocks files sessions most =
    cond (leb 1 blocks) (cond (leb blocks 4096) (cond (leb 1 files) (cond (leb files 256)
    (cond (leb 1 sessions) (cond (leb sessions 4) (cond (leb 1 most) (leb most 50)
    false) false) false) false) false) false) false

-- "a lent buffer too short"
unfoldable pub room_fits : ℕ → ℕ → ℕ → ℕ → ℕ → ℕ → ℕ → ℕ → ℕ → ℕ → Bool
room_fits blocks files sessions most disk map owner table selected held =
    cond (leb (256 * blocks) disk) (cond (leb (words blocks) map) (cond (leb blocks owner) (cond (leb (4 * files) table)
    (cond (leb (sessions * most) selected) (leb (sessions * 258) held)
    false) false) false) false) false

-- the sizes and the lengths of what is lent
abbrev pub fits_in : Server → ℕ → ℕ → ℕ → ℕ → ℕ → ℕ → Bool
fits_in sv disk map owner table selected held =
    cond (sizes_fit sv.blocks sv.files sv.sessions sv.most)
    (room_fits sv.blocks sv.files sv.sessions sv.most disk map owner table selected held) false

abbrev pub fits : Server → ℕ → List ℕ → List ℕ → List ℕ → List ℕ → List ℕ → Bool
fits sv disk map owner table selected held = fits_in sv disk (length map) (length owner) (length table) (length selected) (length held)

-- "in the state handed in, demand 3's facts on blocks, numbers or upload times are broken, or a length, offset or name points at what the
-- store lacks": none of these
unfoldable pub sound_parts : Server → List ℕ → List ℕ → List ℕ → List ℕ → List ℕ → Bool
sound_parts sv map owner table selected held =
    cond (sound_test (take (words sv.blocks) map) (take sv.blocks owner) (take (4 * sv.files) table) sv.last.number sv.last.time)
    (links_sound (files (take (4 * sv.files) table)) sv.sessions sv.most selected held sv.links) false

-- "34 local: session number out of range, not open, or already open"; `wanted` says which of the two the call wants
unfoldable pub in_state : Bool → Bool → Bool
in_state true linked = linked
in_state false linked = not linked

unfoldable pub session_check : Server → ℕ → Bool → ℕ → Result ℕ ℕ
session_check sv session wanted out =
    cond (eqb session 0) (Err 34)
    (cond (ltb sv.sessions session) (Err 34)
    (cond (in_state wanted (link_of sv (session - 1)).linked)
    (cond (ltb out 258) (Err 32) (Ok (session - 1)))
    (Err 34)))

-- 33, 35, 34, 32; else the session, counted from 0. `sound`: the state is none that 35 refuses. `disk`, `map` and so on are the lengths of what is
-- lent.
unfoldable pub check_by : Bool → Server → ℕ → Bool → ℕ → ℕ → ℕ → ℕ → ℕ → ℕ → ℕ → Result ℕ ℕ
check_by sound sv session wanted out disk map owner table selected held =
    cond (fits_in sv disk map owner table selected held) (cond sound (session_check sv session wanted out) (Err 35)) (Err 33)

abbrev pub check_for : Bool → Server → Lent → ℕ → Bool → ℕ → Result ℕ ℕ
check_for sound sv l session wanted out =
    check_by sound sv session wanted out (length l.disk) (length l.map) (length l.owner) (length l.table) (length l.selected)
    (length l.held)

-- the state as it is handed in is tested
abbrev pub sound_in : Server → Lent → Bool
sound_in sv l = sound_parts sv l.map l.owner l.table l.selected l.held

abbrev pub check_of : Server → Lent → ℕ → Bool → ℕ → Result ℕ ℕ
check_of sv l session wanted out = check_for (sound_in sv l) sv l session wanted out
