-- The server's call for what a script is doing (document 01, "The script program"). The script keeps the server and its slices to itself, so these are
-- the calls that do not test 35 again (crates/server, specs/Kept.antt); specs/Reached.antt says that they are the server's own. Assumes nothing.
use Rattle.std.specs.Prelude.{true, cond, List, ℕ, ltb, Option, None, Some}
use Rattle.session.specs.declared.reply.Answer.TheVariants as answer
use Rattle.server.specs.declared.Server.{Server}
use Rattle.server.specs.State.{Lent, lent, Outcome, outcome, done_with}
use Rattle.server.specs.Calls.{Opened, Lost}
use Rattle.server.specs.Calls.{login_by, receive_by, request_by, lose_by}
use Rattle.script.specs.declared.doing.Doing.{Doing}
use Rattle.script.specs.declared.doing.Doing.TheVariants as doing
use Rattle.input.specs.Parts.{bytes_from}

-- "`rx`, session and hex bytes"
unfoldable pub hear_of : Server → ℕ → ℕ → ℕ → ℕ → List ℕ → Lent → List ℕ → Outcome
hear_of sv clock session at n bytes l out = receive_by true sv l out session clock (bytes_from at n bytes)

-- a call that changes the server and the output alone
abbrev pub only_out : Lent → Opened → Outcome
only_out l o = outcome o.done l o.out

-- a call that leaves the store and the output as they are
abbrev pub only_links : Lent → List ℕ → Lost → Outcome
only_links l out o = outcome o.done (lent l.disk l.map l.owner l.table o.selected o.held) out

-- "`open` and a session, `drop` and a session, `rx`, session and hex bytes"; requests follow an `rx`; while resting nothing happens
unfoldable pub call_of : Server → ℕ → Doing → List ℕ → Lent → List ℕ → Outcome
call_of sv clock doing.Rest bytes l out = outcome (done_with sv (answer.Quiet 0)) l out
call_of sv clock (doing.Opening session) bytes l out = only_out l (login_by true sv l out session clock)
call_of sv clock (doing.Dropping session) bytes l out = only_links l out (lose_by true sv l session)
call_of sv clock (doing.Hearing session at n) bytes l out = hear_of sv clock session at n bytes l out
call_of sv clock (doing.Pumping session) bytes l out = only_out l (request_by true sv l out session)

-- ---- the same in two parts: what is handed over, and the calls that hand over nothing

abbrev pub heard_to : ℕ → ℕ → ℕ → Option (ℕ × ℕ × ℕ)
heard_to session at end = Some (session, cond (ltb at end) at end, end)

-- both places are cut to what is lent
unfoldable pub heard_of : Doing → ℕ → Option (ℕ × ℕ × ℕ)
heard_of doing.Rest size = None
heard_of (doing.Opening session) size = None
heard_of (doing.Dropping session) size = None
heard_of (doing.Hearing session at n) size = heard_to session at (cond (ltb n size) n size)
heard_of (doing.Pumping session) size = None

unfoldable pub still_of : Server → ℕ → Doing → Lent → List ℕ → Outcome
still_of sv clock doing.Rest l out = outcome (done_with sv (answer.Quiet 0)) l out
still_of sv clock (doing.Opening session) l out = only_out l (login_by true sv l out session clock)
still_of sv clock (doing.Dropping session) l out = only_links l out (lose_by true sv l session)
still_of sv clock (doing.Hearing session at n) l out = outcome (done_with sv (answer.Quiet 0)) l out
still_of sv clock (doing.Pumping session) l out = only_out l (request_by true sv l out session)
