-- Closing a link (demand 2): when the server does it, and that it leaves what losing the link leaves. The statements hold for EVERY server and
-- everything lent. Assumes nothing.
use Rattle.std.specs.Prelude.{◌≡◌, false, List, ℕ, ◌*◌, length, Ok}
use Rattle.std.proofs.Math.Option.{Option, some}
use Rattle.packet.specs.Machine.{call}
use Rattle.packet.specs.Frame.{Event, packet, too_long, byte}
use Rattle.session.specs.declared.state.Session.{Session}
use Rattle.session.specs.declared.reply.Answer.TheVariants as answer
use Rattle.session.specs.Expected.{expected}
use Rattle.server.specs.declared.Server.{Server}
use Rattle.server.specs.State.{Lent, link_of, part}
use Rattle.history.specs.Calls.{receive, lose, call_of}
use Rattle.promises.specs.Parts.{check_in}

-- a receive call closes the link, having taken so many bytes
abbrev pub ClosesBy : Server → Lent → ℕ → ℕ → List ℕ → List ℕ → ℕ → Type 0
ClosesBy sv l session clock input out taken = (call_of sv l (receive session clock input out)).done.answer ≡ answer.Closed taken

-- "After a link lost at any byte, or closed, the partial holds exactly the whole DATA packets received .. The unfinished packet and the selection
-- are forgotten": a link that the server closes leaves the same server and the same lent slices as one that is lost before the call
pub record SameAsLost (sv : Server) (l : Lent) (session clock : ℕ) (input out : List ℕ) : Type 0 where
  pub server : (call_of sv l (receive session clock input out)).done.server ≡ (call_of sv l (lose session)).done.server
  pub lent : (call_of sv l (receive session clock input out)).lent ≡ (call_of sv l (lose session)).lent

abbrev pub ClosingIsLosing : Type 0
ClosingIsLosing =
    (sv : Server) (l : Lent) (session clock : ℕ) (input out : List ℕ) (taken : ℕ)
    → ClosesBy sv l session clock input out taken → SameAsLost sv l session clock input out

-- what the bytes of a link end in, behind those of an unfinished packet: a packet, one that is too long, or nothing
abbrev pub event_at : Server → Lent → ℕ → List ℕ → Option Event
event_at sv l i input = (call byte (record { count = (link_of sv i).held; part = part (i * 258) 258 l.held }) input).event

-- "An announced length above 256 closes the link at its second byte (H) .. A type 18 to 31, a server's own type, a packet not expected in the
-- session's state, or DATA_END or DL_NAK_CMD with information closes it at the packet's end."
pub data Unwelcome (s : Session) : Option Event → Type 0 where
  long : Unwelcome s (some too_long)
  unexpected : (kind : ℕ) (info : List ℕ) → expected s.up s.down kind (length info) ≡ false → Unwelcome s (some (packet kind info))

-- THE RULE: a call that is not refused locally (`Ok i`: it goes to session i, counted from 0) closes the link exactly where its bytes end in such a
-- thing. "The server closes a link in no other case (H)."
pub record ClosesExactly (sv : Server) (l : Lent) (session clock : ℕ) (input out : List ℕ) (i : ℕ) : Type 0 where
  pub closes : Unwelcome (link_of sv i) (event_at sv l i input)
      → ClosesBy sv l session clock input out
      (call byte (record { count = (link_of sv i).held; part = part (i * 258) 258 l.held }) input).taken
  pub only : (taken : ℕ) → ClosesBy sv l session clock input out taken → Unwelcome (link_of sv i) (event_at sv l i input)

abbrev pub EveryClosing : Type 0
EveryClosing =
    (sv : Server) (l : Lent) (session clock : ℕ) (input out : List ℕ) (i : ℕ)
    → check_in sv l (receive session clock input out) ≡ Ok i → ClosesExactly sv l session clock input out i
