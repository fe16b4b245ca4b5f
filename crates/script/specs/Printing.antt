-- The line that is printed for an answer of the server (document 01, "The script program"). Assumes nothing.
use Rattle.std.specs.Prelude.{List, [], ℕ, take}
use Rattle.session.specs.declared.reply.Answer.{Answer}
use Rattle.session.specs.declared.reply.Answer.TheVariants as answer
use Rattle.lines.specs.Lines.{Printed, printed_in, packet_line, closed_line, refused_line}

-- a packet's line has the session, the type and the information; "A link that the server closes prints the session and `closed` .. a local
-- refusal the session, `refused` and its number."
unfoldable pub line_for : ℕ → Answer → List ℕ → List ℕ
line_for session (answer.Quiet taken) out = []
line_for session (answer.Sent taken size) out = packet_line session (take size out)
line_for session (answer.Closed taken) out = closed_line session
line_for session (answer.Refused number) out = refused_line session number

unfoldable pub show_of : ℕ → Answer → List ℕ → List ℕ → Printed
show_of session a out text = printed_in (line_for session a out) text
