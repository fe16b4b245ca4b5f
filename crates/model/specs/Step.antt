-- THE MACHINE: what each call of the driver answers and leaves (document 01, "Packets" and "Refusals by number"). `step` at the end is all of it.
-- The refusals 33 and 35 are not here: they concern lent memory, and are "never [given] for a state that calls made". Assumes nothing.
use Rattle.std.specs.Prelude.{Bool, true, false, cond, not, List, [], ◌++◌, ℕ, ◌+◌, ◌-◌, eqb, ltb, length}
use Rattle.std.proofs.Math.Option.{Option, none, some}
use Rattle.calls.specs.Call.{Call, login, receive, request, lose, History, start, ◌▸◌}
use Rattle.packet.specs.Frame.{Event, packet, too_long, announced_in, packet_in}
use Rattle.session.specs.declared.reply.Reply.TheVariants as reply
use Rattle.session.specs.declared.reply.Answer.TheVariants as answer
use Rattle.session.specs.Reply.{told, tell}
use Rattle.model.specs.State.{Uplink, no_upload, receiving, ignoring, Downlink, no_download, sending, ended, aborting, listing}
use Rattle.model.specs.State.{Session, fresh_session, with_held, Model, session_at, with_session, in_session, Turn, Stepped, stepped, lost, closing}
use Rattle.model.specs.Uplink.{on_upload_cmd, on_data, on_data_end}
use Rattle.model.specs.Downlink.{on_download_cmd, on_request, on_dl_ack_cmd, on_dl_nak_cmd, on_dir_cmd, on_select_cmd}

-- ---- a packet

-- what a command gets that is expected only with no upload, or with no download: the first, or where there is one the second
abbrev pub if_no_upload : Uplink → Turn → Turn → Turn
if_no_upload no_upload t e = t
if_no_upload (receiving n) t e = e
if_no_upload ignoring t e = e

abbrev pub if_no_download : Downlink → Turn → Turn → Turn
if_no_download no_download t e = t
if_no_download (sending n offset) t e = e
if_no_download (ended n) t e = e
if_no_download (aborting n) t e = e
if_no_download (listing long ns offset) t e = e

-- By its type; s is session i. "A type 18 to 31, a server's own type, a packet not expected in the session's state, or DATA_END or DL_NAK_CMD with
-- information closes it at the packet's end. The server closes a link in no other case (H)." "Closing beats 1 to 16."
unfoldable pub by_type : Model → ℕ → Session → ℕ → ℕ → List ℕ → Turn
by_type m i s clock kind info =
    cond (eqb kind 0) (on_data s.up m i info)
    (cond (eqb kind 1) (cond (eqb (length info) 0) (on_data_end s.up m i clock) (closing m i))
    (cond (eqb kind 3) (if_no_upload s.up (on_upload_cmd m i info) (closing m i))
    (cond (eqb kind 8) (if_no_download s.down (on_download_cmd m i s info) (closing m i))
    (cond (eqb kind 12) (on_dl_ack_cmd s.down m i info)
    (cond (eqb kind 13) (cond (eqb (length info) 0) (on_dl_nak_cmd s.down m i) (closing m i))
    (cond (eqb kind 14) (if_no_download s.down (on_dir_cmd false m i s info) (closing m i))
    (cond (eqb kind 15) (if_no_download s.down (on_dir_cmd true m i s info) (closing m i))
    (cond (eqb kind 16) (if_no_download s.down (on_select_cmd m i info) (closing m i))
    (closing m i)))))))))

abbrev pub on_packet : Model → ℕ → ℕ → ℕ → List ℕ → Turn
on_packet m i clock kind info = by_type m i (session_at m i) clock kind info

-- ---- the bytes of a link

-- "A receive call takes bytes up to the end of one packet, or all it was lent" and "An announced length above 256 closes the link at its second byte
-- (H)": what the bytes since the last packet end in
unfoldable pub ends_in : List ℕ → Option Event
ends_in bytes =
    cond (ltb (length bytes) 2) none
    (cond (ltb 256 (announced_in bytes)) (some too_long)
    (cond (ltb (length bytes) (2 + announced_in bytes)) none
    (some (packet_in bytes))))

-- "and says how many it took": of those lent, behind those held of the unfinished packet
unfoldable pub on_event : Option Event → Model → ℕ → ℕ → List ℕ → List ℕ → List ℕ → Stepped
on_event none m i clock held input out = stepped (tell reply.Nothing (length input) out) (in_session i (with_held (held ++ input)) m)
on_event (some too_long) m i clock held input out = stepped (tell reply.Closing (2 - length held) out) (lost m i)
on_event (some (packet kind info)) m i clock held input out =
    stepped (tell (on_packet (in_session i (with_held []) m) i clock kind info).reply (2 + length info - length held) out)
    (on_packet (in_session i (with_held []) m) i clock kind info).after

-- ---- the calls (crates/calls/specs/Call.antt)

-- 34 "session number out of range, not open, or already open", then 32 "output shorter than 258 bytes"; 0 where neither. `wanted`: is the session
-- to be open?
unfoldable pub refusal : Model → ℕ → Bool → ℕ → ℕ
refusal m session wanted room =
    cond (eqb session 0) 34
    (cond (ltb (length m.sessions) session) 34
    (cond (cond wanted (session_at m (session - 1)).linked (not (session_at m (session - 1)).linked))
    (cond (ltb room 258) 32 0)
    34))

-- "32 to 35 change nothing, take no byte and write nothing."
unfoldable pub unless : ℕ → Model → List ℕ → Stepped → Stepped
unless number m out s = cond (eqb number 0) s (stepped (told (answer.Refused number) out) m)

-- A lost link is lent no output.
unfoldable pub step : Model → Call → Stepped
step m (login session clock out) =
    unless (refusal m session false (length out)) m out
    (stepped (tell (reply.Login clock) 0 out) (with_session m (session - 1) fresh_session))
step m (receive session clock input out) =
    unless (refusal m session true (length out)) m out
    (on_event (ends_in ((session_at m (session - 1)).held ++ input)) m (session - 1) clock (session_at m (session - 1)).held input out)
step m (request session out) =
    unless (refusal m session true (length out)) m out (on_request (session_at m (session - 1)).down m (session - 1) out)
step m (lose session) =
    unless (refusal m session true 258) m [] (stepped (tell reply.Nothing 0 []) (lost m (session - 1)))

-- the machine after calls
unfoldable pub run : Model → History → Model
run m start = m
run m (h ▸ c) = (step (run m h) c).after
