-- What each call did to the files, told by the packet that it heard and the packet that it sent. Assumes nothing.
use Rattle.std.specs.Prelude.{cond, List, ℕ, eqb, take}
use Rattle.std.proofs.Math.Option.{Option, none, some}
use Rattle.calls.specs.Call.{Call, login, receive, request, lose}
use Rattle.packet.specs.Frame as frame
use Rattle.session.specs.declared.reply.Answer.{Answer}
use Rattle.session.specs.declared.reply.Answer.TheVariants as answer
use Rattle.decide.specs.Words.{word_at}
use Rattle.steps.specs.Parts.{type_of}
use Rattle.accepted.specs.Exchange.{Exchange, session_of, Transcript, blank, ◌▹◌}
use Rattle.accepted.specs.Link.{heard_in}

-- ---- the file that a link uploads

-- UL_GO_RESP (4) gives its number; after UL_ACK_RESP (6), UL_NAK_RESP (7) and a closed link there is none, 0; else it is the one before
unfoldable pub named_by : Answer → List ℕ → ℕ → ℕ
named_by (answer.Quiet taken) out was = was
named_by (answer.Sent taken size) out was =
    cond (eqb (type_of (take size out)) 4) (word_at (take size out) 2)
    (cond (eqb (type_of (take size out)) 6) 0 (cond (eqb (type_of (take size out)) 7) 0 was))
named_by (answer.Closed taken) out was = 0
named_by (answer.Refused r) out was = was

-- a link made, or lost, uploads nothing
unfoldable pub none_by : Answer → ℕ → ℕ
none_by (answer.Quiet taken) was = 0
none_by (answer.Sent taken size) was = 0
none_by (answer.Closed taken) was = 0
none_by (answer.Refused r) was = was

-- by the call, its answer and its output
abbrev pub upload_by : Call → Answer → List ℕ → ℕ → ℕ
upload_by (login session clock out) a output was = none_by a was
upload_by (receive session clock input out) a output was = named_by a output was
upload_by (request session out) a output was = was
upload_by (lose session) a output was = none_by a was

-- the number of the file that session i, counted from 0, is uploading, 0 for none
unfoldable pub upload_of : Transcript → ℕ → ℕ
upload_of blank i = 0
upload_of (t ▹ x) i =
    cond (eqb (session_of x.call) i) (upload_by x.call x.told.answer x.told.out (upload_of t i)) (upload_of t i)

-- ---- events

-- `nothing`: no file is begun, continued, completed or discarded.
-- `given n size`: UL_GO_RESP gave the number n to a new file of this announced length.
-- `added n bytes`: a DATA packet with these bytes was accepted for file n.
-- `finished n clock`: file n got UL_ACK_RESP at this clock reading.
-- `dropped n`: file n got UL_NAK_RESP.
pub data Event : Type 0 where
  nothing : Event
  given : ℕ → ℕ → Event
  added : ℕ → List ℕ → Event
  finished : ℕ → ℕ → Event
  dropped : ℕ → Event

-- DATA (0) of a session that uploads file n, with no packet sent: its information is accepted
unfoldable pub on_quiet : ℕ → Option frame.Event → Event
on_quiet n none = nothing
on_quiet n (some frame.too_long) = nothing
on_quiet n (some (frame.packet kind info)) = cond (eqb kind 0) (cond (eqb n 0) nothing (added n info)) nothing

-- "UPLOAD_CMD has the file number to continue (0 for new) and the total length"; `number` is the one that UL_GO_RESP gives
unfoldable pub on_go : ℕ → Option frame.Event → Event
on_go number none = nothing
on_go number (some frame.too_long) = nothing
on_go number (some (frame.packet kind info)) = cond (eqb (word_at info 0) 0) (given number (word_at info 4)) nothing

-- UL_GO_RESP (4), UL_ACK_RESP (6), UL_NAK_RESP (7); "UL_GO_RESP gives number and offset"
unfoldable pub on_sent : ℕ → Option frame.Event → ℕ → List ℕ → Event
on_sent n heard clock packet =
    cond (eqb (type_of packet) 4) (on_go (word_at packet 2) heard)
    (cond (eqb (type_of packet) 6) (finished n clock)
    (cond (eqb (type_of packet) 7) (dropped n) nothing))

-- by the answer of a receive call and its output
unfoldable pub on_answer : Answer → List ℕ → ℕ → Option frame.Event → ℕ → Event
on_answer (answer.Quiet taken) out n heard clock = on_quiet n heard
on_answer (answer.Sent taken size) out n heard clock = on_sent n heard clock (take size out)
on_answer (answer.Closed taken) out n heard clock = nothing
on_answer (answer.Refused r) out n heard clock = nothing

-- n is the number of the file that the call's session is uploading; only bytes of a link bring files about
abbrev pub event_by : ℕ → Option frame.Event → Call → Answer → List ℕ → Event
event_by n heard (login session clock out) a output = nothing
event_by n heard (receive session clock input out) a output = on_answer a output n heard clock
event_by n heard (request session out) a output = nothing
event_by n heard (lose session) a output = nothing

-- the event of an exchange that follows a transcript
abbrev pub event_in : Transcript → Exchange → Event
event_in t x = event_by (upload_of t (session_of x.call)) (heard_in t x) x.call x.told.answer x.told.out
