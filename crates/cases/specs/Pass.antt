-- A pass: calls one after the other, what each says, and the state that they leave. Assumes nothing.
use Rattle.std.specs.Prelude.{List, [], ◌∷◌, ℕ, take, replicate}
use Rattle.session.specs.declared.reply.Answer.{Answer}
use Rattle.session.specs.declared.reply.Answer.TheVariants as answer
use Rattle.session.specs.Reply.{Told}
use Rattle.model.specs.State.{Model, empty}
use Rattle.calls.specs.Call.{Call, login, receive, request, lose}
use Rattle.model.specs.Step.{step}

-- just enough room for a packet
abbrev pub output : List ℕ
output = replicate 258 0

-- the calls of session 1 with such an output: a login, bytes of the link, a request
abbrev pub log_in : ℕ → Call
log_in clock = login 1 clock output

abbrev pub rx : ℕ → List ℕ → Call
rx clock bytes = receive 1 clock bytes output

abbrev pub pump : Call
pump = request 1 output

-- what a call says: nothing, a packet, 0 alone for a closed link, or the number of a local refusal alone
unfoldable pub said : Answer → List ℕ → List ℕ
said (answer.Quiet taken) out = []
said (answer.Sent taken size) out = take size out
said (answer.Closed taken) out = 0 ∷ []
said (answer.Refused n) out = n ∷ []

-- all that was said
unfoldable pub heard : Model → List Call → List (List ℕ)
heard m [] = []
heard m (c ∷ cs) = said (step m c).told.answer (step m c).told.out ∷ heard (step m c).after cs

unfoldable pub left : Model → List Call → Model
left m [] = m
left m (c ∷ cs) = left (step m c).after cs

-- the program's sizes: "128 blocks, 32 files, 4 sessions, MAXSEL 50"; and a server with MAXSEL 1
abbrev pub day : Model
day = empty 128 32 4 50

abbrev pub one : Model
one = empty 128 32 4 1
