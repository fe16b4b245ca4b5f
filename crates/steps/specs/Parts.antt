-- What each call is handed, and the packet that it sends, by one name for all four calls. Assumes nothing.
use Rattle.std.specs.Prelude.{Bool, true, false, List, [], ℕ, length, get_or, take}
use Rattle.calls.specs.Call.{Call, login, receive, request, lose}
use Rattle.packet.specs.Packet.{kind_in}
use Rattle.session.specs.declared.reply.Answer.{Answer}
use Rattle.session.specs.declared.reply.Answer.TheVariants as answer

-- the session that a call is for, as the driver numbers them, from 1
abbrev pub session_in : Call → ℕ
session_in (login session clock out) = session
session_in (receive session clock input out) = session
session_in (request session out) = session
session_in (lose session) = session

-- the bytes of the link
abbrev pub bytes_in : Call → List ℕ
bytes_in (login session clock out) = []
bytes_in (receive session clock input out) = input
bytes_in (request session out) = []
bytes_in (lose session) = []

-- the output; a lost link is lent none
abbrev pub out_in : Call → List ℕ
out_in (login session clock out) = out
out_in (receive session clock input out) = out
out_in (request session out) = out
out_in (lose session) = []

-- whether the session must be open: a login wants it closed
abbrev pub open_in : Call → Bool
open_in (login session clock out) = false
open_in (receive session clock input out) = true
open_in (request session out) = true
open_in (lose session) = true

-- the room that 32 asks for; a lost link needs no output
abbrev pub room_in : Call → ℕ
room_in (login session clock out) = length out
room_in (receive session clock input out) = length out
room_in (request session out) = length out
room_in (lose session) = 258

-- the packet that a call sent, no byte where it sent none
unfoldable pub sent_by : Answer → List ℕ → List ℕ
sent_by (answer.Quiet taken) out = []
sent_by (answer.Sent taken size) out = take size out
sent_by (answer.Closed taken) out = []
sent_by (answer.Refused r) out = []

-- the type of a packet
abbrev pub type_of : List ℕ → ℕ
type_of packet = kind_in (get_or packet 1 0)
