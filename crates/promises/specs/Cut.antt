-- The cut theorem (demand 2): "Cutting elsewhere the bytes that a link takes, with each packet and closing byte at the same clock and in the same
-- place among the other calls, changes no packet sent and no state after it." Assumes nothing.
use Rattle.std.specs.Prelude.{◌≡◌, Bool, true, false, cond, List, [], ◌∷◌, ◌++◌, ℕ, ◌-◌, ◌≤◌, eqb, length, take}
use Rattle.std.proofs.Math.Option.{Option, none, some}
use Rattle.packet.specs.Frame.{Event}
use Rattle.session.specs.declared.reply.Answer.{Answer}
use Rattle.session.specs.declared.reply.Answer.TheVariants as answer
use Rattle.server.specs.State.{Outcome}
use Rattle.history.specs.Calls.{Call, receive, call_of, Start, legal, History, start, ◌▸◌, after}
use Rattle.promises.specs.Parts.{session_in}
use Rattle.promises.specs.Closing.{event_at}

-- ---- what the links see of a history

-- a packet sent to a session, byte by byte, or its link closed
pub data Seen : Type 0 where
  sent : ℕ → List ℕ → Seen
  closed : ℕ → Seen

-- "changes no packet sent": an answer that sends has the packet's length, and the packet stands in front of the output
unfoldable pub seen_in : ℕ → Answer → List ℕ → List Seen
seen_in session (answer.Quiet taken) out = []
seen_in session (answer.Sent taken size) out = sent session (take size out) ∷ []
seen_in session (answer.Closed taken) out = closed session ∷ []
seen_in session (answer.Refused n) out = []

abbrev pub seen_of : Call → Outcome → List Seen
seen_of c o = seen_in (session_in c) o.done.answer o.out

-- all of a history, in order
unfoldable pub seen : Start → History → List Seen
seen s start = []
seen s (h ▸ c) = seen s h ++ seen_of c (call_of (after s h).server (after s h).lent c)

-- ---- cutting elsewhere

-- what bytes end in, for the session of that number, in the state after a history: nothing where they complete no packet and announce none that is
-- too long
abbrev pub ends_in : Start → History → ℕ → List ℕ → Option Event
ends_in s h session bytes = event_at (after s h).server (after s h).lent (session - 1) bytes

-- Two histories that differ only in where the links' bytes are cut. Each packet's last byte stays in the call that has it, so its clock, its output
-- and its place among the other calls stay.
pub data Recut (s : Start) : History → History → Type 0 where
  same : (h : History) → Recut s h h
  back : (h k : History) → Recut s h k → Recut s k h
  chain : (h k m : History) → Recut s h k → Recut s k m → Recut s h m
  -- the same call after both
  also : (h k : History) → Recut s h k → (c : Call) → Recut s (h ▸ c) (k ▸ c)
  -- bytes that end nothing, and the next bytes of that link: lent in two calls or in one. Output shorter than 258 bytes is refused by 32.
  joined : (h : History) (session clock clock' : ℕ) (xs ys out out' : List ℕ)
      → ends_in s h session xs ≡ none
      → 258 ≤ length out
      → 258 ≤ length out'
      → Recut s (h ▸ receive session clock xs out ▸ receive session clock' ys out') (h ▸ receive session clock' (xs ++ ys) out')
  -- a call that is lent no byte
  empty : (h : History) (session clock : ℕ) (out : List ℕ) → Recut s (h ▸ receive session clock [] out) h
  -- bytes that end nothing, before or after a call for another session
  passed : (h : History) (session clock : ℕ) (xs out : List ℕ) (c : Call)
      → ends_in s h session xs ≡ none
      → (session_in c ≡ session → ⊥)
      → Recut s (h ▸ receive session clock xs out ▸ c) (h ▸ c ▸ receive session clock xs out)
  -- "A receive call takes bytes up to the end of one packet": those behind it are not taken
  untaken : (h : History) (session clock : ℕ) (xs ys out : List ℕ) (e : Event)
      → ends_in s h session xs ≡ some e
      → Recut s (h ▸ receive session clock (xs ++ ys) out) (h ▸ receive session clock xs out)

-- THE DEMAND
pub record SameAfter (s : Start) (h k : History) : Type 0 where
  pub state : after s h ≡ after s k
  pub seen : seen s h ≡ seen s k

abbrev pub CutElsewhere : Type 0
CutElsewhere = (s : Start) → legal s ≡ true → (h k : History) → Recut s h k → SameAfter s h k

-- ---- a plain form of it, with any calls for other sessions between

-- a history and then calls
infixl 20 ◌▸▸◌
abbrev pub ◌▸▸◌ : History → List Call → History
h ▸▸ [] = h
h ▸▸ (c ∷ cs) = (h ▸ c) ▸▸ cs

-- calls for other sessions alone
abbrev pub others : ℕ → List Call → Bool
others session [] = true
others session (c ∷ cs) = cond (eqb (session_in c) session) false (others session cs)

-- bytes that end nothing may be lent earlier, or together with the next ones, whatever the other sessions do between
abbrev pub LentEarlier : Type 0
LentEarlier =
    (s : Start) → legal s ≡ true → (h : History) (session clock clock' : ℕ) (xs ys out out' : List ℕ) (cs : List Call)
    → 1 ≤ session
    → ends_in s h session xs ≡ none
    → others session cs ≡ true
    → 258 ≤ length out
    → 258 ≤ length out'
    → SameAfter s ((h ▸ receive session clock xs out) ▸▸ cs ▸ receive session clock' ys out') (h ▸▸ cs ▸ receive session clock' (xs ++ ys) out')
