-- The cut theorem for a driver (demand 2): "First, the server must hear the command, however the radio link chops the bytes." A driver lends the
-- bytes of a link piece by piece and calls until each piece is used up; the pieces do not matter. Assumes nothing.
use Rattle.std.specs.Prelude.{◌≡◌, true, ℕ, zero, suc, ◌≤◌, length, drop}
use mathlib.Core.List.{List, [], ◌∷◌, ◌++◌, flatten}
use Rattle.session.specs.declared.reply.Answer.{Answer}
use Rattle.session.specs.declared.reply.Answer.TheVariants as answer
use Rattle.history.specs.Calls.{receive, call_of, State, next, Start, legal, History, after}
use Rattle.promises.specs.Cut.{Seen, seen_of}

-- what the bytes came to: the state, and what the links saw
pub record Fed : Type 0 where
  pub state : State
  pub seen : List Seen

abbrev pub fed : State → List Seen → Fed
fed st k = record { state = st; seen = k }

-- seen before the rest
abbrev pub and_then : List Seen → Fed → Fed
and_then k f = fed f.state (k ++ f.seen)

-- the driver goes on with the bytes that were not taken; it stops where the link is closed or the call is refused
unfoldable pub onward : Answer → State → (ℕ → Fed) → Fed
onward (answer.Quiet taken) st go = go taken
onward (answer.Sent taken size) st go = go taken
onward (answer.Closed taken) st go = fed st []
onward (answer.Refused n) st go = fed st []

-- calls at one clock until no byte is left; the first number bounds how many
unfoldable pub feed : ℕ → State → ℕ → ℕ → List ℕ → List ℕ → Fed
feed zero st session clock out bytes = fed st []
feed (suc k) st session clock out [] = fed st []
feed (suc k) st session clock out (b ∷ bs) =
    and_then (seen_of (receive session clock (b ∷ bs) out) (call_of st.server st.lent (receive session clock (b ∷ bs) out)))
    (onward (call_of st.server st.lent (receive session clock (b ∷ bs) out)).done.answer (next st (receive session clock (b ∷ bs) out))
    (λ taken. feed k (next st (receive session clock (b ∷ bs) out)) session clock out (drop taken (b ∷ bs))))

-- one piece: as many calls as it has bytes are enough, since each takes one at least
abbrev pub feed_all : State → ℕ → ℕ → List ℕ → List ℕ → Fed
feed_all st session clock out bytes = feed (length bytes) st session clock out bytes

abbrev pub EnoughCalls : Type 0
EnoughCalls =
    (st : State) (session clock : ℕ) (out bytes : List ℕ)
    (k : ℕ) → length bytes ≤ k → feed k st session clock out bytes ≡ feed_all st session clock out bytes

-- the pieces, one after the other
unfoldable pub feed_pieces : State → ℕ → ℕ → List ℕ → List (List ℕ) → Fed
feed_pieces st session clock out [] = fed st []
feed_pieces st session clock out (p ∷ ps) =
    and_then (feed_all st session clock out p).seen (feed_pieces (feed_all st session clock out p).state session clock out ps)

-- THE DEMAND, for one link: the same bytes in other pieces give the same state and the same packets
abbrev pub PiecesElsewhere : Type 0
PiecesElsewhere =
    (s : Start) → legal s ≡ true → (h : History) (session clock : ℕ) (out : List ℕ) → 258 ≤ length out
    → (ps qs : List (List ℕ)) → flatten ps ≡ flatten qs
    → feed_pieces (after s h) session clock out ps ≡ feed_pieces (after s h) session clock out qs
