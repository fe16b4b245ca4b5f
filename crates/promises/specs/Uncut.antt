-- The cut theorem without rules (demand 2): the cuts are taken out of a history, and two histories that are the same without their cuts leave the
-- same. It looks at the links' bytes and at which calls are refused, not at what the server holds of a packet. Assumes nothing.
use Rattle.std.specs.Prelude.{◌≡◌, true, cond, List, [], ◌++◌, ℕ, eqb, take}
use Rattle.std.proofs.Math.Option.{Option, none, some}
use Rattle.packet.specs.Machine.{call}
use Rattle.packet.specs.Frame.{Event, none_held, byte}
use Rattle.session.specs.declared.reply.Answer.{Answer}
use Rattle.session.specs.declared.reply.Answer.TheVariants as answer
use Rattle.history.specs.Calls.{Call, login, receive, request, lose, call_of, Start, legal, History, start, ◌▸◌, after}
use Rattle.promises.specs.Cut.{SameAfter}

-- A history without its cuts: one receive call for each packet and for each announced length that is too long, which is lent just its bytes; and for
-- each session the bytes that came since and end nothing yet.
pub record Uncut : Type 0 where
  pub calls : History
  pub waiting : ℕ → List ℕ

abbrev pub uncut : History → (ℕ → List ℕ) → Uncut
uncut calls waiting = record { calls = calls; waiting = waiting }

-- the bytes of one session are others
abbrev pub waiting_with : (ℕ → List ℕ) → ℕ → List ℕ → ℕ → List ℕ
waiting_with waiting session bytes k = cond (eqb k session) bytes (waiting k)

-- Bytes that end nothing wait. Those up to the end of a packet, or to the second byte of one that is too long, are one call, at the clock and with
-- the output of the call that has the last of them; the bytes behind them are not taken.
unfoldable pub on_bytes : Option Event → ℕ → Uncut → ℕ → ℕ → List ℕ → List ℕ → Uncut
on_bytes none taken u session clock bytes out = uncut u.calls (waiting_with u.waiting session bytes)
on_bytes (some e) taken u session clock bytes out =
    uncut (u.calls ▸ receive session clock (take taken bytes) out) (waiting_with u.waiting session [])

-- what the bytes of a link come to, from where its last packet ended
abbrev pub with_bytes : Uncut → ℕ → ℕ → List ℕ → List ℕ → Uncut
with_bytes u session clock bytes out =
    on_bytes (call byte none_held bytes).event (call byte none_held bytes).taken u session clock bytes out

-- a login and a lost link forget the bytes of an unfinished packet; a request has to do with the downlink alone
abbrev pub with_call : Uncut → Call → Uncut
with_call u (login session clock out) = uncut (u.calls ▸ login session clock out) (waiting_with u.waiting session [])
with_call u (receive session clock input out) = with_bytes u session clock (u.waiting session ++ input) out
with_call u (request session out) = uncut (u.calls ▸ request session out) u.waiting
with_call u (lose session) = uncut (u.calls ▸ lose session) (waiting_with u.waiting session [])

-- "32 to 35 change nothing, take no byte": a call that is refused is left out
unfoldable pub unless_refused : Answer → Uncut → Uncut → Uncut
unless_refused (answer.Quiet taken) before later = later
unless_refused (answer.Sent taken size) before later = later
unless_refused (answer.Closed taken) before later = later
unless_refused (answer.Refused n) before later = before

-- call by call, from no call and no byte
unfoldable pub uncut_of : Start → History → Uncut
uncut_of s start = uncut start (λ session. [])
uncut_of s (h ▸ c) =
    unless_refused (call_of (after s h).server (after s h).lent c).done.answer (uncut_of s h) (with_call (uncut_of s h) c)

-- the same packets and the same other calls, each at the same clock, with the same output and in the same place, and the same bytes left over
pub record SameUncut (s : Start) (h k : History) : Type 0 where
  pub calls : (uncut_of s h).calls ≡ (uncut_of s k).calls
  pub waiting : (session : ℕ) → (uncut_of s h).waiting session ≡ (uncut_of s k).waiting session

-- THE DEMAND
abbrev pub UncutSame : Type 0
UncutSame = (s : Start) → legal s ≡ true → (h k : History) → SameUncut s h k → SameAfter s h k
