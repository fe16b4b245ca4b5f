-- THE CLIENT'S SELECT IN ANY PIECES: "First, the server must hear the command, however the radio link chops the bytes." The bytes of SELECT_CMD come in
-- any number of calls, each with any of them, and the call that brings the last of them asks for the page. Assumes nothing.
use Rattle.std.specs.Prelude.{◌≡◌, Bool, true, false, cond, List, [], ◌∷◌, ◌++◌, ℕ, ◌+◌, ◌-◌, ◌≤◌, eqb, leb, length}
use Rattle.packet.specs.Packet.{packet_of}
use Rattle.equation.specs.Newer.{unmarked, narrowed}
use Rattle.equation.specs.Answer.{validity_of}
use Rattle.calls.specs.Call.{Call, login, receive, request, lose}
use Rattle.model.specs.State.{Model, empty, session_at}
use Rattle.steps.specs.Parts.{session_in, bytes_in}
use Rattle.paging.specs.Client.{Idle, Answers}
use Rattle.paging.specs.Paging.{Client, waits, asks, paged_by, state_of, Allowed, Clocks}

-- ---- the pieces

-- a call that hands over bytes, with room for any packet
unfoldable pub is_piece : Call → Bool
is_piece (login session clock out) = false
is_piece (receive session clock input out) = leb 258 (length out)
is_piece (request session out) = false
is_piece (lose session) = false

-- each call for this session is such a call; others may come between, of any kind
unfoldable pub pieces_only : ℕ → List Call → Bool
pieces_only session [] = true
pieces_only session (c ∷ cs) = cond (cond (eqb (session_in c) session) (is_piece c) true) (pieces_only session cs) false

-- the bytes that this session is handed
unfoldable pub handed : ℕ → List Call → List ℕ
handed session [] = []
handed session (c ∷ cs) = cond (eqb (session_in c) session) (bytes_in c) [] ++ handed session cs

-- the client waits while calls are made
unfoldable pub waits_for : Client → List Call → Client
waits_for c [] = c
waits_for c (call ∷ calls) = waits_for (waits c call) calls

-- The bytes of the client's next SELECT_CMD come to a session in pieces, and the last of them in one more call.
pub record Pieces (m : Model) (eq : List ℕ) (c : Client) (session : ℕ) (calls : List Call) (last out : List ℕ) : Type 0 where
  -- the session is open, its downlink idle, and it has no unfinished packet
  pub idle : Idle (state_of m eq c) session
  pub nothing_held : (session_at (state_of m eq c) (session - 1)).held ≡ []
  -- each call for it hands over bytes, the last one at least one byte
  pub only : pieces_only session calls ≡ true
  pub room : 258 ≤ length out
  pub a_byte : last ≡ [] → ⊥
  -- together these are the packet's
  pub bytes : handed session calls ++ last ≡ packet_of 16 (narrowed eq (paged_by m eq c).newest)

-- ---- the statement

-- the client may ask with the last piece, and is answered
pub record AsksWith (m : Model) (eq : List ℕ) (c : Client) (session clock : ℕ) (calls : List Call) (last out : List ℕ) : Type 0 where
  pub allowed : Allowed m eq (asks (waits_for c calls) session clock last out)
  pub answered : Answers (state_of m eq (waits_for c calls)) eq (paged_by m eq c).newest session clock last out

-- "with an equation that has room for that condition": without an end mark it and nine bytes more are at most 256
abbrev pub InPieces : Type 0
InPieces =
    (blocks places sessions maxsel : ℕ) (eq : List ℕ) → validity_of eq ≡ 0 → length (unmarked eq) + 9 ≤ 256
    → (c : Client)
    → Allowed (empty blocks places sessions maxsel) eq c
    → (session clock : ℕ) (calls : List Call) (last out : List ℕ)
    → Pieces (empty blocks places sessions maxsel) eq c session calls last out
    → Clocks (paged_by (empty blocks places sessions maxsel) eq (waits_for c calls)).history
    → AsksWith (empty blocks places sessions maxsel) eq c session clock calls last out
