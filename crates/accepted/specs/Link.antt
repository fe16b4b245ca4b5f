-- THE BYTES OF A LINK BEHIND ITS LAST PACKET, told by the bytes that the calls hand in and by how many of them each answer says it took: "A receive call
-- takes bytes up to the end of one packet, or all it was lent, and says how many it took." What the server keeps of an unfinished packet is not looked
-- at. Assumes nothing.
use Rattle.std.specs.Prelude.{cond, List, [], ◌++◌, ℕ, eqb, take}
use Rattle.std.proofs.Math.Option.{Option, none, some}
use Rattle.calls.specs.Call.{Call, login, receive, request, lose}
use Rattle.packet.specs.Frame as frame
use Rattle.session.specs.declared.reply.Answer.{Answer}
use Rattle.session.specs.declared.reply.Answer.TheVariants as answer
use Rattle.model.specs.Step.{ends_in}
use Rattle.accepted.specs.Exchange.{Exchange, session_of, Transcript, blank, ◌▹◌}

-- those that a receive call took
unfoldable pub taken_by : Answer → List ℕ → List ℕ
taken_by (answer.Quiet taken) input = take taken input
taken_by (answer.Sent taken size) input = take taken input
taken_by (answer.Closed taken) input = take taken input
taken_by (answer.Refused r) input = []

-- bytes that end in a packet have nothing behind it; else they are the beginning of one
unfoldable pub behind : Option frame.Event → List ℕ → List ℕ
behind none bytes = bytes
behind (some e) bytes = []

-- after a receive call, `was` being those before it: a closed link begins anew
unfoldable pub received_by : Answer → List ℕ → List ℕ → List ℕ
received_by (answer.Quiet taken) input was = behind (ends_in (was ++ take taken input)) (was ++ take taken input)
received_by (answer.Sent taken size) input was = behind (ends_in (was ++ take taken input)) (was ++ take taken input)
received_by (answer.Closed taken) input was = []
received_by (answer.Refused r) input was = was

-- a link made, or lost, begins anew: "The unfinished packet .. [is] forgotten."
unfoldable pub anew_by : Answer → List ℕ → List ℕ
anew_by (answer.Quiet taken) was = []
anew_by (answer.Sent taken size) was = []
anew_by (answer.Closed taken) was = []
anew_by (answer.Refused r) was = was

-- after a call, by its answer
abbrev pub bytes_by : Call → Answer → List ℕ → List ℕ
bytes_by (login session clock out) a was = anew_by a was
bytes_by (receive session clock input out) a was = received_by a input was
bytes_by (request session out) a was = was
bytes_by (lose session) a was = anew_by a was

-- of session i, counted from 0
unfoldable pub link_bytes : Transcript → ℕ → List ℕ
link_bytes blank i = []
link_bytes (t ▹ x) i = cond (eqb (session_of x.call) i) (bytes_by x.call x.told.answer (link_bytes t i)) (link_bytes t i)

-- what a call hears: what the bytes of its link end in, those that it took included
abbrev pub heard_by : Call → Answer → List ℕ → Option frame.Event
heard_by (login session clock out) a was = none
heard_by (receive session clock input out) a was = ends_in (was ++ taken_by a input)
heard_by (request session out) a was = none
heard_by (lose session) a was = none

abbrev pub heard_in : Transcript → Exchange → Option frame.Event
heard_in t x = heard_by x.call x.told.answer (link_bytes t (session_of x.call))

-- the information of a packet that was heard
abbrev pub info_of : Option frame.Event → List ℕ
info_of none = []
info_of (some frame.too_long) = []
info_of (some (frame.packet kind info)) = info

abbrev pub info_in : Transcript → Exchange → List ℕ
info_in t x = info_of (heard_in t x)
