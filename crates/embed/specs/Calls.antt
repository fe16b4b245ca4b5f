-- The calls for programs in other languages. Each is the server's call on the state that the words are read as; the answer is a number, and the
-- words and the counts are written only where the call is not refused. Assumes nothing.
use Rattle.std.specs.Prelude.{Bool, false, cond, List, [], ◌∷◌, ◌++◌, ℕ, ◌+◌, ◌*◌, eqb, leb, ltb, length, take, drop, ⊤, Result, Ok, Err}
use Rattle.session.specs.declared.reply.Answer.{Answer}
use Rattle.session.specs.declared.reply.Answer.TheVariants as answer
use Rattle.blocks.specs.FreeMap.{free_count}
use Rattle.server.specs.declared.Server.{Server}
use Rattle.server.specs.declared.Done.{Done}
use Rattle.server.specs.State.{Lent, lent, Outcome, words}
use Rattle.server.specs.Check.{sizes_fit, fits}
use Rattle.server.specs.Making.{Emptied, Makes, make_of}
use Rattle.server.specs.Calls.{receive_of, Opened, login_of, request_of, Lost, lose_of}
use Rattle.embed.specs.Words.{encode_of, server_at, ready_of}

-- ---- the answer as a number: 0 quiet, 1 a packet is in the output, 2 closed, else the number of a local refusal

-- the number, the words and the counts afterwards
pub record Told : Type 0 where
  pub code : ℕ
  pub state : List ℕ
  pub counts : List ℕ

abbrev pub told : ℕ → List ℕ → List ℕ → Told
told code state counts = record { code = code; state = state; counts = counts }

-- the bytes taken, and the bytes of the packet
abbrev pub with_counts : ℕ → ℕ → List ℕ → List ℕ
with_counts taken size counts = taken ∷ size ∷ drop 2 counts

-- "32 to 35 change nothing, take no byte and write nothing."
unfoldable pub tell_of : Answer → Server → List ℕ → List ℕ → Told
tell_of (answer.Quiet taken) sv state counts = told 0 (encode_of sv state) (with_counts taken 0 counts)
tell_of (answer.Sent taken size) sv state counts = told 1 (encode_of sv state) (with_counts taken size counts)
tell_of (answer.Closed taken) sv state counts = told 2 (encode_of sv state) (with_counts taken 0 counts)
tell_of (answer.Refused n) sv state counts = told n state counts

abbrev pub done_of : Done → List ℕ → List ℕ → Told
done_of d state counts = tell_of d.answer d.server state counts

-- ---- whether a call comes to the server

-- the sizes and the lengths of what is lent to each call
abbrev pub fits_at : List ℕ → Lent → Bool
fits_at state l = fits (server_at state) (length l.disk) l.map l.owner l.table l.selected l.held

abbrev pub ready_for : List ℕ → List ℕ → Lent → Result ⊤ ℕ
ready_for state counts l = ready_of (fits_at state l) state (length counts)

-- ---- receive

-- all that a call leaves
pub record Received : Type 0 where
  pub told : Told
  pub lent : Lent
  pub out : List ℕ

abbrev pub received : Told → Lent → List ℕ → Received
received t l out = record { told = t; lent = l; out = out }

abbrev pub received_by : List ℕ → List ℕ → Outcome → Received
received_by state counts o = received (done_of o.done state counts) o.lent o.out

unfoldable pub on_receive : Result ⊤ ℕ → List ℕ → List ℕ → Lent → List ℕ → ℕ → ℕ → List ℕ → Received
on_receive (Err n) state counts l out session clock input = received (told n state counts) l out
on_receive (Ok done) state counts l out session clock input = received_by state counts (receive_of (server_at state) l out session clock input)

unfoldable pub receive_by : List ℕ → List ℕ → Lent → List ℕ → ℕ → ℕ → List ℕ → Received
receive_by state counts l out session clock input =
    on_receive (ready_for state counts l) state counts l out session clock input

-- ---- open and request

-- what a call leaves that writes the state, the counts and the output alone
pub record Sent : Type 0 where
  pub told : Told
  pub out : List ℕ

abbrev pub sent : Told → List ℕ → Sent
sent t out = record { told = t; out = out }

abbrev pub sent_by : List ℕ → List ℕ → Opened → Sent
sent_by state counts o = sent (done_of o.done state counts) o.out

unfoldable pub on_open : Result ⊤ ℕ → List ℕ → List ℕ → Lent → List ℕ → ℕ → ℕ → Sent
on_open (Err n) state counts l out session clock = sent (told n state counts) out
on_open (Ok done) state counts l out session clock = sent_by state counts (login_of (server_at state) l out session clock)

unfoldable pub open_by : List ℕ → List ℕ → Lent → List ℕ → ℕ → ℕ → Sent
open_by state counts l out session clock = on_open (ready_for state counts l) state counts l out session clock

unfoldable pub on_request : Result ⊤ ℕ → List ℕ → List ℕ → Lent → List ℕ → ℕ → Sent
on_request (Err n) state counts l out session = sent (told n state counts) out
on_request (Ok done) state counts l out session = sent_by state counts (request_of (server_at state) l out session)

unfoldable pub request_by : List ℕ → List ℕ → Lent → List ℕ → ℕ → Sent
request_by state counts l out session = on_request (ready_for state counts l) state counts l out session

-- ---- lose

-- what losing a link leaves
pub record Gone : Type 0 where
  pub told : Told
  pub selected : List ℕ
  pub held : List ℕ

abbrev pub gone : Told → List ℕ → List ℕ → Gone
gone t selected held = record { told = t; selected = selected; held = held }

abbrev pub gone_by : List ℕ → List ℕ → Lost → Gone
gone_by state counts o = gone (done_of o.done state counts) o.selected o.held

unfoldable pub on_lose : Result ⊤ ℕ → List ℕ → List ℕ → Lent → ℕ → Gone
on_lose (Err n) state counts l session = gone (told n state counts) l.selected l.held
on_lose (Ok done) state counts l session = gone_by state counts (lose_of (server_at state) l session)

unfoldable pub lose_by : List ℕ → List ℕ → Lent → ℕ → Gone
lose_by state counts l session = on_lose (ready_for state counts l) state counts l session

-- ---- make

-- the number, the words and the empty store
pub record Begun : Type 0 where
  pub code : ℕ
  pub state : List ℕ
  pub lent : Emptied

abbrev pub begun : ℕ → List ℕ → Emptied → Begun
begun code state l = record { code = code; state = state; lent = l }

-- the words are written only where the server is made
unfoldable pub keep_of : Result Server ℕ → List ℕ → List ℕ
keep_of (Ok sv) state = encode_of sv state
keep_of (Err n) state = state

-- the number of what making answers: 0 for a server
abbrev pub code_of : Result Server ℕ → ℕ
code_of (Ok sv) = 0
code_of (Err n) = n

abbrev pub begun_by : List ℕ → Makes → Begun
begun_by state m = begun (code_of m.made) (keep_of m.made state) m.lent

-- "33 local: .. a lent buffer too short"; `disk` is the storage's length
unfoldable pub make_by : ℕ → ℕ → ℕ → ℕ → List ℕ → ℕ → Emptied → Begun
make_by blocks files sessions most state disk l =
    cond (ltb (length state) 54) (begun 33 state l)
    (begun_by state (make_of blocks files sessions most disk l.map l.owner l.table l.selected l.held))

-- ---- memory

-- a number, and a lent slice of numbers afterwards
pub record Filled : Type 0 where
  pub code : ℕ
  pub filled : List ℕ

abbrev pub filled : ℕ → List ℕ → Filled
filled code l = record { code = code; filled = l }

-- the lengths of the state, the disk, the map, the owners, the table, the selections and the unfinished packets
abbrev pub lengths_for : ℕ → ℕ → ℕ → ℕ → List ℕ
lengths_for blocks files sessions most =
    54 ∷ 256 * blocks ∷ words blocks ∷ blocks ∷ 4 * files ∷ sessions * most ∷ sessions * 258 ∷ []

unfoldable pub memory_by : ℕ → ℕ → ℕ → ℕ → List ℕ → Filled
memory_by blocks files sessions most need =
    cond (ltb (length need) 7) (filled 33 need)
    (cond (sizes_fit blocks files sessions most) (filled 0 (lengths_for blocks files sessions most ++ drop 7 need)) (filled 33 need))

-- ---- free blocks

-- the sizes, and the length of the map, which is all that is lent besides the words and the counts
unfoldable pub map_fits : Server → ℕ → Bool
map_fits sv map = cond (sizes_fit sv.blocks sv.files sv.sessions sv.most) (leb (words sv.blocks) map) false

-- "the number free is the count of its one bits", beside the number of all blocks
abbrev pub free_in : Server → List ℕ → List ℕ → List ℕ
free_in sv map counts = with_counts (free_count (take (words sv.blocks) map)) sv.blocks counts

unfoldable pub on_free : Result ⊤ ℕ → List ℕ → List ℕ → List ℕ → Filled
on_free (Err n) state map counts = filled n counts
on_free (Ok done) state map counts = filled 0 (free_in (server_at state) map counts)

unfoldable pub free_by : List ℕ → List ℕ → List ℕ → Filled
free_by state map counts = on_free (ready_of (map_fits (server_at state) (length map)) state (length counts)) state map counts
