-- The calls of a driver, and the state after a history of them (demand 3): "From an empty store, after any calls, links lost at any byte and
-- clocks running backwards included". Assumes nothing.
use Rattle.std.specs.Prelude.{Bool, List, [], ℕ, length, Result, Ok, Err}
use Rattle.server.specs.declared.Server.{Server}
use Rattle.server.specs.State.{Lent, lent, Outcome, outcome}
use Rattle.server.specs.Check.{fits}
use Rattle.server.specs.Making.{new_server, Makes, make_of}
use Rattle.server.specs.Calls.{login_of, receive_of, request_of, lose_of}
pub use Rattle.calls.specs.Call.{Call, login, receive, request, lose, History, start, ◌▸◌}

-- ---- a call

-- the server and what is lent to each call
pub record State : Type 0 where
  pub server : Server
  pub lent : Lent

abbrev pub state : Server → Lent → State
state sv l = record { server = sv; lent = l }

-- what a call answers and leaves: the definitions that the contracts of crates/server cite. A call that lends no output has the empty one.
abbrev pub call_of : Server → Lent → Call → Outcome
call_of sv l (login session clock out) = outcome (login_of sv l out session clock).done l (login_of sv l out session clock).out
call_of sv l (receive session clock input out) = receive_of sv l out session clock input
call_of sv l (request session out) = outcome (request_of sv l out session).done l (request_of sv l out session).out
call_of sv l (lose session) =
    outcome (lose_of sv l session).done
    (lent l.disk l.map l.owner l.table (lose_of sv l session).selected (lose_of sv l session).held) []

abbrev pub next : State → Call → State
next s c = state (call_of s.server s.lent c).done.server (call_of s.server s.lent c).lent

-- ---- a history

-- the sizes that a server is made with, and the memory lent, whatever it holds
pub record Start : Type 0 where
  pub blocks : ℕ
  pub files : ℕ
  pub sessions : ℕ
  pub most : ℕ
  pub lent : Lent

-- sizes of document 01's table, and slices that have room for them: making is not refused
abbrev pub legal : Start → Bool
legal s =
    fits (new_server s.blocks s.files s.sessions s.most) (length s.lent.disk) s.lent.map s.lent.owner s.lent.table
    s.lent.selected s.lent.held

abbrev pub making : Start → Makes
making s =
    make_of s.blocks s.files s.sessions s.most (length s.lent.disk) s.lent.map s.lent.owner s.lent.table
    s.lent.selected s.lent.held

-- the server that making answers; where it is refused, the one with these sizes
abbrev pub server_in : Start → Result Server ℕ → Server
server_in s (Ok sv) = sv
server_in s (Err n) = new_server s.blocks s.files s.sessions s.most

-- "From an empty store"
unfoldable pub made : Start → State
made s =
    state (server_in s (making s).made)
    (lent s.lent.disk (making s).lent.map (making s).lent.owner (making s).lent.table (making s).lent.selected
    (making s).lent.held)

-- "after any calls"
unfoldable pub after : Start → History → State
after s start = made s
after s (h ▸ c) = next (after s h) c
