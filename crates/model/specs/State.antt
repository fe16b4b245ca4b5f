-- THE SERVER'S STATE in the words of document 01: files by number; sessions, each with an uplink state and a downlink state, a selection and an
-- unfinished packet. No block, no file place, no lent memory. Assumes nothing.
use Rattle.std.specs.Prelude.{Bool, true, false, List, [], ℕ, get_or, set, replicate}
use Rattle.session.specs.declared.reply.Reply.{Reply}
use Rattle.session.specs.declared.reply.Reply.TheVariants as reply
use Rattle.session.specs.Reply.{Told}

-- ---- files

pub record File : Type 0 where
  pub number : ℕ
  pub size : ℕ  -- the announced length
  pub bytes : List ℕ  -- those received
  pub time : ℕ  -- the upload time; 0 for a partial file

abbrev pub file : ℕ → ℕ → List ℕ → ℕ → File
file number size bytes time = record { number = number; size = size; bytes = bytes; time = time }

-- ---- sessions: "Each session carries an uplink state and a downlink state that move separately."

pub data Uplink : Type 0 where
  no_upload : Uplink
  receiving : ℕ → Uplink  -- the file of a number
  ignoring : Uplink  -- "further DATA is ignored until DATA_END"

pub data Downlink : Type 0 where
  no_download : Downlink
  sending : ℕ → ℕ → Downlink  -- the file of a number; the next byte is the one at an offset
  ended : ℕ → Downlink  -- its DATA_END was sent
  aborting : ℕ → Downlink  -- DL_NAK_CMD brought its DATA_END; DL_ABORTED_RESP is due
  -- a directory, long (true) or short, of the files of these numbers; the next byte is the one at an offset in their entries, one behind the other
  listing : Bool → List ℕ → ℕ → Downlink

pub record Session : Type 0 where
  pub linked : Bool  -- whether there is a link
  pub up : Uplink
  pub down : Downlink
  pub selected : List ℕ  -- the selection, as file numbers
  pub next : ℕ  -- the place in it: how many of them lie behind
  pub held : List ℕ  -- the bytes of the unfinished packet

-- after a link lost or closed: "The unfinished packet and the selection are forgotten."
abbrev pub closed_session : Session
closed_session = record { linked = false; up = no_upload; down = no_download; selected = []; next = 0; held = [] }

-- after a login
abbrev pub fresh_session : Session
fresh_session = record { linked = true; up = no_upload; down = no_download; selected = []; next = 0; held = [] }

-- a session with one thing changed: the uplink, the downlink, the selection (none of it lies behind), the place in it, the unfinished packet
abbrev pub with_up : Uplink → Session → Session
with_up u s = record { linked = s.linked; up = u; down = s.down; selected = s.selected; next = s.next; held = s.held }

abbrev pub with_down : Downlink → Session → Session
with_down d s = record { linked = s.linked; up = s.up; down = d; selected = s.selected; next = s.next; held = s.held }

abbrev pub with_selection : List ℕ → Session → Session
with_selection numbers s = record { linked = s.linked; up = s.up; down = s.down; selected = numbers; next = 0; held = s.held }

abbrev pub with_next : ℕ → Session → Session
with_next n s = record { linked = s.linked; up = s.up; down = s.down; selected = s.selected; next = n; held = s.held }

abbrev pub with_held : List ℕ → Session → Session
with_held bytes s = record { linked = s.linked; up = s.up; down = s.down; selected = s.selected; next = s.next; held = bytes }

-- ---- the server

pub record Model : Type 0 where
  pub blocks : ℕ  -- its sizes: storage blocks
  pub places : ℕ  -- file places
  pub maxsel : ℕ  -- MAXSEL
  pub last_number : ℕ  -- the last file number given
  pub last_time : ℕ  -- the last upload time given
  pub files : List File  -- in rising order of number
  pub sessions : List Session

-- "From an empty store": so many blocks, file places and sessions, and MAXSEL
abbrev pub empty : ℕ → ℕ → ℕ → ℕ → Model
empty blocks places sessions maxsel =
    record { blocks = blocks; places = places; maxsel = maxsel; last_number = 0; last_time = 0; files = []; sessions = replicate sessions closed_session }

-- the same sizes; the last number and time, files and sessions anew
abbrev pub model : Model → ℕ → ℕ → List File → List Session → Model
model m n t fs ss = record { blocks = m.blocks; places = m.places; maxsel = m.maxsel; last_number = n; last_time = t; files = fs; sessions = ss }

abbrev pub with_files : Model → List File → Model
with_files m files = model m m.last_number m.last_time files m.sessions

-- Here and in all that follows sessions are counted from 0, and i is one of them; the driver counts them from 1 (Step.antt).
abbrev pub session_at : Model → ℕ → Session
session_at m i = get_or m.sessions i closed_session

abbrev pub with_session : Model → ℕ → Session → Model
with_session m i s = model m m.last_number m.last_time m.files (set m.sessions i s)

-- session i changed
abbrev pub in_session : ℕ → (Session → Session) → Model → Model
in_session i change m = with_session m i (change (session_at m i))

-- ---- what a packet, and what a call, is answered with and leaves

-- `tell` (crates/session/specs/Reply.antt) has each reply's packet, byte by byte
pub record Turn : Type 0 where
  pub reply : Reply
  pub after : Model

abbrev pub turn : Reply → Model → Turn
turn r m = record { reply = r; after = m }

-- the answer and the whole output
pub record Stepped : Type 0 where
  pub told : Told
  pub after : Model

abbrev pub stepped : Told → Model → Stepped
stepped t m = record { told = t; after = m }

-- a link is lost; a packet that is not expected in the session's state closes it, which leaves the same
abbrev pub lost : Model → ℕ → Model
lost m i = with_session m i closed_session

abbrev pub closing : Model → ℕ → Turn
closing m i = turn reply.Closing (lost m i)
