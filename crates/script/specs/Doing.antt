-- What a script is doing on a line, and what it does after an answer of the server (document 01, "The script program"). Assumes nothing.
use Rattle.std.specs.Prelude.{Bool, true, false, cond, ℕ, ◌+◌, ltb}
use Rattle.session.specs.declared.reply.Answer.{Answer}
use Rattle.session.specs.declared.reply.Answer.TheVariants as answer
use Rattle.script.specs.declared.doing.Doing.{Doing}
use Rattle.script.specs.declared.doing.Doing.TheVariants as doing
use Rattle.input.specs.Parts.{rest_of}

unfoldable pub rests_of : Doing → Bool
rests_of doing.Rest = true
rests_of (doing.Opening session) = false
rests_of (doing.Dropping session) = false
rests_of (doing.Hearing session at n) = false
rests_of (doing.Pumping session) = false

unfoldable pub session_of : Doing → ℕ
session_of doing.Rest = 0
session_of (doing.Opening session) = session
session_of (doing.Dropping session) = session
session_of (doing.Hearing session at n) = session
session_of (doing.Pumping session) = session

-- a call takes one packet at most, so the line's other bytes follow in further calls; "It pumps downloads dry after each `rx`."
unfoldable pub goes_on : ℕ → ℕ → ℕ → ℕ → ℕ → Doing
goes_on session at n size taken = cond (ltb taken (rest_of at n size)) (doing.Hearing session (at + taken) n) (doing.Pumping session)

-- "A link that the server closes prints the session and `closed`, and the line's other bytes are dropped"; on a refusal, which takes no byte, too
unfoldable pub heard_on : ℕ → ℕ → ℕ → ℕ → Answer → Doing
heard_on session at n size (answer.Quiet taken) = goes_on session at n size taken
heard_on session at n size (answer.Sent taken sent) = goes_on session at n size taken
heard_on session at n size (answer.Closed taken) = doing.Rest
heard_on session at n size (answer.Refused number) = doing.Rest

-- requests go on until one yields no packet
unfoldable pub pumped_on : ℕ → Answer → Doing
pumped_on session (answer.Quiet taken) = doing.Rest
pumped_on session (answer.Sent taken sent) = doing.Pumping session
pumped_on session (answer.Closed taken) = doing.Rest
pumped_on session (answer.Refused number) = doing.Rest

unfoldable pub after_of : Doing → Answer → ℕ → Doing
after_of doing.Rest a size = doing.Rest
after_of (doing.Opening session) a size = doing.Rest
after_of (doing.Dropping session) a size = doing.Rest
after_of (doing.Hearing session at n) a size = heard_on session at n size a
after_of (doing.Pumping session) a size = pumped_on session a
