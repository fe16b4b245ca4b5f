-- A driver, such as modem software, that calls the functions of crates/embed on memory that nobody else writes: figmorella_make, and then any calls in
-- any order, each on the words and the slices that the one before left. Its calls are a history of the server's, so what is proved of histories holds
-- of it. Assumes nothing.
use Rattle.std.specs.Prelude.{◌≡◌, true, cond, List, [], ℕ, ◌≤◌, ◌<◌, ltb, length}
use Rattle.blocks.specs.FreeMap.{free_count}
use Rattle.server.specs.State.{Lent, lent, map_part}
use Rattle.server.specs.Making.{emptied}
use Rattle.history.specs.Calls.{Call, login, receive, request, lose, call_of, State, state, Start, legal, History, start, ◌▸◌, after}
use Rattle.steps.specs.Parts.{out_in}
use Rattle.model.specs.State.{Model, empty}
use Rattle.model.specs.Step.{step, run}
use Rattle.views.specs.View.{view}
use Rattle.embed.specs.Words.{server_at, is_state}
use Rattle.embed.specs.Calls.{told, tell_of, Received, received, received_by, receive_by, open_by, request_by, lose_by, Begun, make_by, filled, with_counts, free_by}

-- ---- the driver's memory

-- what it keeps between two calls: the words of the state, and the slices
pub record Memory : Type 0 where
  pub words : List ℕ
  pub lent : Lent

abbrev pub memory : List ℕ → Lent → Memory
memory words l = record { words = words; lent = l }

-- figmorella_make, whatever the words and the slices hold
abbrev pub makes : Start → List ℕ → Begun
makes s words =
    make_by s.blocks s.files s.sessions s.most words (length s.lent.disk)
    (emptied s.lent.map s.lent.owner s.lent.table s.lent.selected s.lent.held)

unfoldable pub made : Start → List ℕ → Memory
made s words =
    memory (makes s words).state
    (lent s.lent.disk (makes s words).lent.map (makes s words).lent.owner (makes s words).lent.table (makes s words).lent.selected
    (makes s words).lent.held)

-- ---- its calls

-- figmorella_open, _receive, _request or _lose, with any arguments and any output lent; and what is lent for the counts, also too short
pub record Asked : Type 0 where
  pub call : Call
  pub counts : List ℕ

abbrev pub asked : Call → List ℕ → Asked
asked c counts = record { call = c; counts = counts }

-- what the function answers and leaves; slices that it does not write stay, and figmorella_lose has no output
unfoldable pub call_by : List ℕ → Lent → Call → List ℕ → Received
call_by words l (login session clock out) counts =
    received (open_by words counts l out session clock).told l (open_by words counts l out session clock).out
call_by words l (receive session clock input out) counts = receive_by words counts l out session clock input
call_by words l (request session out) counts = received (request_by words counts l out session).told l (request_by words counts l out session).out
call_by words l (lose session) counts =
    received (lose_by words counts l session).told
    (lent l.disk l.map l.owner l.table (lose_by words counts l session).selected (lose_by words counts l session).held) []

abbrev pub answered : Memory → Asked → Received
answered m a = call_by m.words m.lent a.call a.counts

-- `cs ▹ a` is all of cs and then a
infixl 20 ◌▹◌
pub data Calls : Type 0 where
  nothing : Calls
  ◌▹◌ : Calls → Asked → Calls

-- the memory after them: nobody else writes it
unfoldable pub reached : Start → List ℕ → Calls → Memory
reached s words nothing = made s words
reached s words (cs ▹ a) = memory (answered (reached s words cs) a).told.state (answered (reached s words cs) a).lent

-- "the 32-bit clock": upload times are made of the clock of a receive call, whose type has 32 bits
abbrev pub Clocked : Call → Type 0
Clocked (login session clock out) = Unit {0}
Clocked (receive session clock input out) = clock < 4294967296
Clocked (request session out) = Unit {0}
Clocked (lose session) = Unit {0}

abbrev pub Clocks : Calls → Type 0
Clocks nothing = Unit {0}
Clocks (cs ▹ a) = Clocks cs × Clocked a.call

-- ---- the history that they are

-- "33 local: .. a lent buffer too short": a call without room for its two counts is refused before the server is asked
unfoldable pub further : History → Asked → History
further h a = cond (ltb (length a.counts) 2) h (h ▸ a.call)

unfoldable pub calls_of : Calls → History
calls_of nothing = start
calls_of (cs ▹ a) = further (calls_of cs) a

-- ---- the statement

-- of memory m, and the server's state t
pub record StandsFor (m : Memory) (t : State) : Type 0 where
  -- the words are a state, with room for it, and they and the slices are the server's
  pub words : is_state m.words ≡ true
  pub room : 54 ≤ length m.words
  pub is : state (server_at m.words) m.lent ≡ t
  -- the next call with room for its counts is the server's own call: the number, the counts, the output, the words and the slices
  pub own : (a : Asked) → 2 ≤ length a.counts → answered m a ≡ received_by m.words a.counts (call_of t.server t.lent a.call)
  -- one without changes nothing
  pub short : (a : Asked) → length a.counts < 2 → answered m a ≡ received (told 33 m.words a.counts) m.lent (out_in a.call)
  -- "35 .. never for a state that calls made from the empty store"; 33 for the counts alone
  pub never_35 : (a : Asked) → (answered m a).told.code ≡ 35 → ⊥
  pub only_counts : (a : Asked) → (answered m a).told.code ≡ 33 → length a.counts < 2
  -- figmorella_free, at any time: "the number free is the count of its one bits"
  pub free : (counts : List ℕ) → 2 ≤ length counts
      → free_by m.words m.lent.map counts ≡ filled 0 (with_counts (free_count (map_part t.server t.lent)) t.server.blocks counts)

-- THE STATEMENT. Once figmorella_make has answered 0, after any calls the memory is the state after the history of those that had room for their counts.
abbrev pub EveryDriver : Type 0
EveryDriver =
    (s : Start) (words : List ℕ) → (makes s words).code ≡ 0 → (cs : Calls) → Clocks cs → StandsFor (reached s words cs) (after s (calls_of cs))

-- figmorella_make answers 0 where the sizes are those of the table and what is lent has room for them
abbrev pub EveryMake : Type 0
EveryMake = (s : Start) (words : List ℕ) → legal s ≡ true → 54 ≤ length words → (makes s words).code ≡ 0

-- ---- the machine

-- of memory m, and the machine's state k
pub record Plays (m : Memory) (k : Model) : Type 0 where
  pub view : view (server_at m.words) m.lent ≡ k
  -- the next call with room for its counts answers what the machine does
  pub code : (a : Asked) → 2 ≤ length a.counts
      → (answered m a).told.code ≡ (tell_of (step k a.call).told.answer (server_at m.words) m.words a.counts).code
  pub counts : (a : Asked) → 2 ≤ length a.counts
      → (answered m a).told.counts ≡ (tell_of (step k a.call).told.answer (server_at m.words) m.words a.counts).counts
  pub out : (a : Asked) → 2 ≤ length a.counts → (answered m a).out ≡ (step k a.call).told.out

abbrev pub DriverPlays : Type 0
DriverPlays =
    (s : Start) (words : List ℕ) → (makes s words).code ≡ 0 → (cs : Calls) → Clocks cs
    → Plays (reached s words cs) (run (empty s.blocks s.files s.sessions s.most) (calls_of cs))
