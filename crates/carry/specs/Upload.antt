-- The acts of the uplink (document 01, "Uplink", "Header at DATA_END"). Assumes nothing.
use Rattle.std.specs.Prelude.{cond, List, ℕ, ◌+◌, ◌%◌, eqb, ltb, length, take, Option, Some, None, Result, Ok, Err}
use Rattle.session.specs.declared.state.Session.{Session}
use Rattle.session.specs.declared.state.Uplink.{Uplink}
use Rattle.session.specs.declared.state.Uplink.TheVariants as up
use Rattle.session.specs.declared.reply.Reply.TheVariants.{Nothing, Go, UploadError, Ack, Nak}
use Rattle.session.specs.State.{with_up}
use Rattle.table.specs.Given.{next_number, upload_time, given_number}
use Rattle.files.specs.Uploads as files
use Rattle.files.specs.Completion.{check_of, complete_of}
use Rattle.carry.specs.declared.turn.Last.{Last}
use Rattle.carry.specs.declared.turn.Turn.{Turn}
use Rattle.carry.specs.Turn.{last_of, turn_of, Frees, frees, Writes, writes, Moves, moves}

-- ---- UPLOAD_CMD

-- "UL_GO_RESP gives number and offset"; a refused one uses no number
unfoldable pub begun_turn : Result ℕ ℕ → Session → Last → ℕ → Turn
begun_turn (Err n) s last number = turn_of s last (UploadError (files.begun_number (Err n)))
begun_turn (Ok place) s last number = turn_of (with_up s (up.Receiving place 0 0)) (last_of number last.time) (Go number 0)

unfoldable pub begun_as : ℕ → Session → Last → files.Begins → Frees
begun_as number s last b = frees (begun_turn b.answer s last number) b.map b.owner b.table

-- "UPLOAD new: 1, 3, 13"
unfoldable pub begin_with : Option ℕ → Session → Last → ℕ → List ℕ → List ℕ → List ℕ → Frees
begin_with None s last size map owner table = frees (turn_of s last (UploadError (given_number None))) map owner table
begin_with (Some number) s last size map owner table = begun_as number s last (files.begin_of map owner table last.number size)

abbrev pub begin_turn : Session → Last → ℕ → List ℕ → List ℕ → List ℕ → Frees
begin_turn s last size map owner table = begin_with (next_number last.number) s last size map owner table

-- "a continuation offers that length"
abbrev pub resume_turn : Session → Last → ℕ → ℕ → ℕ → Turn
resume_turn s last place number received = turn_of (with_up s (up.Receiving place received 0)) last (Go number received)

-- ---- DATA

-- the bytes received on this link grow as a 32-bit number does
abbrev pub grown : ℕ → ℕ → ℕ
grown received size = (received + size % 4294967296) % 4294967296

unfoldable pub stored_as : ℕ → Session → Last → ℕ → ℕ → ℕ → Turn
stored_as refused s last place offset received =
    cond (eqb refused 0) (turn_of (with_up s (up.Receiving place offset received)) last Nothing) (turn_of s last (Nak refused))

unfoldable pub appended_as : Session → Last → ℕ → ℕ → ℕ → files.Writes → Writes
appended_as s last place offset received w = writes (stored_as w.answer s last place offset received) w.disk w.table

unfoldable pub store_turn : Session → Last → ℕ → ℕ → ℕ → ℕ → List ℕ → List ℕ → List ℕ → List ℕ → Writes
store_turn s last place offset received size info disk owner table =
    cond (ltb (length info) size) (writes (turn_of s last Nothing) disk table)
    (appended_as s last place offset (grown received size) (files.append_of disk owner table place (take size info)))

-- "the partial is discarded, UL_NAK_RESP 16 goes out, and further DATA is ignored"; "A NAK discards the partial"
unfoldable pub discard_turn : Session → Last → ℕ → Uplink → ℕ → List ℕ → List ℕ → List ℕ → Frees
discard_turn s last place u number map owner table =
    frees (turn_of (with_up s u) last (Nak number)) (files.discard_of map owner table place).map (files.discard_of map owner table place).owner
    (files.discard_of map owner table place).table

-- ---- DATA_END

-- the checks of the header, "then 3"
unfoldable pub timed : Option ℕ → Result ℕ ℕ
timed None = Err (given_number None)
timed (Some time) = Ok time

unfoldable pub judged_at : Last → ℕ → ℕ → List ℕ → List ℕ → List ℕ → Result ℕ ℕ
judged_at last place clock disk owner table =
    cond (eqb (check_of disk owner table place) 0) (timed (upload_time clock last.time)) (Err (check_of disk owner table place))

-- "On success the server sets" its fields, five with file_name
unfoldable pub accepted_as : ℕ → Session → Last → ℕ → Turn
accepted_as refused s last time =
    cond (eqb refused 0) (turn_of (with_up s up.Idle) (last_of last.number time) Ack) (turn_of (with_up s up.Idle) last (Nak refused))

unfoldable pub accept_turn : Session → Last → ℕ → ℕ → List ℕ → List ℕ → List ℕ → Writes
accept_turn s last place time disk owner table =
    writes (accepted_as (complete_of disk owner table place time).answer s last time) (complete_of disk owner table place time).disk
    (complete_of disk owner table place time).table

unfoldable pub with_disk : List ℕ → Frees → Moves
with_disk disk r = moves r.turn disk r.map r.owner r.table

unfoldable pub with_blocks : List ℕ → List ℕ → Writes → Moves
with_blocks map owner r = moves r.turn r.disk map owner r.table

-- "DATA_END gets UL_ACK_RESP or UL_NAK_RESP."
unfoldable pub finish_as : Result ℕ ℕ → Session → Last → ℕ → List ℕ → List ℕ → List ℕ → List ℕ → Moves
finish_as (Err number) s last place disk map owner table = with_disk disk (discard_turn s last place up.Idle number map owner table)
finish_as (Ok time) s last place disk map owner table = with_blocks map owner (accept_turn s last place time disk owner table)

abbrev pub finish_turn : Session → Last → ℕ → ℕ → List ℕ → List ℕ → List ℕ → List ℕ → Moves
finish_turn s last place clock disk map owner table = finish_as (judged_at last place clock disk owner table) s last place disk map owner table
