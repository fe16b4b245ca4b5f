-- The states that a script reaches from a server just made (document 01, "The script program"), and what its steps are there: the server's own calls,
-- with the test of 35. So a script is a history of calls, and what is proved of histories holds of it. Assumes nothing.
use Rattle.std.specs.Prelude.{◌≡◌, true, cond, List, ℕ, ◌≤◌, ◌<◌, ltb, length, take, replicate}
use Rattle.std.proofs.Math.Option.{Option, none, some}
use Rattle.session.specs.declared.reply.Answer.TheVariants as answer
use Rattle.server.specs.declared.Server.{Server}
use Rattle.server.specs.State.{Lent, Outcome}
use Rattle.history.specs.Calls.{Call, login, receive, request, lose, state, Start, legal, made, History, start, ◌▸◌, after}
use Rattle.history.specs.Calls as server
use Rattle.lines.specs.declared.commands.Command.{Command}
use Rattle.script.specs.declared.doing.Doing.{Doing}
use Rattle.script.specs.declared.doing.Doing.TheVariants as doing
use Rattle.script.specs.declared.Day.{Day}
use Rattle.input.specs.Parts.{bytes_from}
use Rattle.script.specs.Doing.{session_of}
use Rattle.script.specs.Calling.{call_of}
use Rattle.script.specs.Printing.{line_for}
use Rattle.script.specs.Day.{day_of, begin_of, step_of}

-- ---- what a program does with a script

-- the script between two calls, and what is lent to them
pub record Script : Type 0 where
  pub day : Day
  pub lent : Lent

abbrev pub script : Day → Lent → Script
script day l = record { day = day; lent = l }

-- A command that was read is begun; or a step is made, with some bytes as the line's and some text lent for what it prints.
pub data Move : Type 0 where
  begins : Command → Move
  steps : List ℕ → List ℕ → Move

-- `ms ▹ m` is all of ms and then m
infixl 20 ◌▹◌
pub data Moves : Type 0 where
  nothing : Moves
  ◌▹◌ : Moves → Move → Moves

unfoldable pub moved : Script → Move → Script
moved r (begins command) = script (begin_of r.day command) r.lent
moved r (steps bytes text) = script (step_of r.day r.lent bytes text).stepped.day (step_of r.day r.lent bytes text).lent

-- a server just made; "the clock starts at 0"
unfoldable pub reached : Start → Moves → Script
reached s nothing = script (day_of (made s).server 0 doing.Rest) (made s).lent
reached s (ms ▹ m) = moved (reached s ms) m

-- ---- the calls of a script

-- the server's own call for what is being done, none while resting; the output lent has room for one packet
unfoldable pub own_call : ℕ → Doing → List ℕ → Option Call
own_call clock doing.Rest bytes = none
own_call clock (doing.Opening session) bytes = some (login session clock (replicate 258 0))
own_call clock (doing.Dropping session) bytes = some (lose session)
own_call clock (doing.Hearing session at n) bytes = some (receive session clock (bytes_from at n bytes) (replicate 258 0))
own_call clock (doing.Pumping session) bytes = some (request session (replicate 258 0))

unfoldable pub further : History → Option Call → History
further h none = h
further h (some c) = h ▸ c

-- the calls that the moves made: one for each step, but for those that rest or are lent too short a text
unfoldable pub calls_at : Script → History → Move → History
calls_at r h (begins command) = h
calls_at r h (steps bytes text) = cond (ltb (length text) 560) h (further h (own_call r.day.clock r.day.doing bytes))

unfoldable pub calls_of : Start → Moves → History
calls_of s nothing = start
calls_of s (ms ▹ m) = calls_at (reached s ms) (calls_of s ms) m

-- ---- the statement

-- the call that a step makes in a script's state
abbrev pub step_call : Script → List ℕ → Outcome
step_call r bytes = call_of r.day.server r.day.clock r.day.doing bytes r.lent (replicate 258 0)

-- a call is the server's own call c: the same answer and server, the same slices, and the same line to print
pub record Own (sv : Server) (l : Lent) (c : Call) (o : Outcome) : Type 0 where
  pub done : o.done ≡ (server.call_of sv l c).done
  pub lent : o.lent ≡ (server.call_of sv l c).lent
  pub line : (session : ℕ) → line_for session o.done.answer o.out ≡ line_for session (server.call_of sv l c).done.answer (server.call_of sv l c).out

pub record MadeByCalls (s : Start) (ms : Moves) : Type 0 where
  -- the state is the one after the calls
  pub state : state (reached s ms).day.server (reached s ms).lent ≡ after s (calls_of s ms)
  -- the next step's call is the server's own, with its test of 35
  pub own : (bytes : List ℕ) (c : Call) → own_call (reached s ms).day.clock (reached s ms).day.doing bytes ≡ some c
      → Own (reached s ms).day.server (reached s ms).lent c (step_call (reached s ms) bytes)
  -- "35 .. never for a state that calls made from the empty store"
  pub never_35 : (bytes : List ℕ) → (step_call (reached s ms) bytes).done.answer ≡ answer.Refused 35 → ⊥
  -- and what a step prints is the line of that answer
  pub prints : (bytes text : List ℕ) → session_of (reached s ms).day.doing < 4294967296 → 560 ≤ length text
      → take (step_of (reached s ms).day (reached s ms).lent bytes text).stepped.written (step_of (reached s ms).day (reached s ms).lent bytes text).text
      ≡ line_for (session_of (reached s ms).day.doing) (step_call (reached s ms) bytes).done.answer (step_call (reached s ms) bytes).out

-- Any commands begun, any steps with any bytes and any text lent, from a server of any sizes of the table.
abbrev pub EveryScript : Type 0
EveryScript = (s : Start) → legal s ≡ true → (ms : Moves) → MadeByCalls s ms
