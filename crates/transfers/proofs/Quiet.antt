-- A call that ends in a packet and sends none: it was not refused, and the packet's reply was nothing. Assumes nothing.
use mathlib.Core.Path.{◌≡◌, refl, sym, ap, ◌∙◌, subst}
use mathlib.Core.Bool.{Bool, true, false, cond}
use mathlib.Core.List.{List, [], ◌++◌}
use mathlib.Core.Option.{Option, some}
use Prim.Native.Nat.{ℕ, ◌+◌, ◌-◌, ◌≤◌, ◌<◌}
use native.Mathlib.Omega.{arith}
use borrow.Author.Tests.{eqb-true, eqb-false, ltb-false}
use lib.Dec.{eqb, ltb}
use lib.ListN.{length, set, length-set}
use Rattle.packet.specs.Frame.{Event, packet}
use Rattle.session.specs.declared.reply.Reply.{Reply}
use Rattle.session.specs.declared.reply.Reply.TheVariants as reply
use Rattle.session.specs.declared.reply.Answer.TheVariants as answer
use Rattle.session.specs.Reply.{told, tell}
use Rattle.calls.specs.Call.{receive}
use Rattle.model.specs.State.{Downlink, no_download, sending, ended, aborting, listing, Session, with_held, Model, session_at}
use Rattle.model.specs.State.{in_session, Turn, turn, closing, Stepped, stepped}
use Rattle.model.specs.Step.{if_no_download, on_packet, ends_in, on_event, refusal, unless, step}
use Rattle.steps.proofs.Cutting.{link_held}
use Rattle.steps.proofs.Calls.{goes}

-- no other reply is silent
pub quiet_nothing : (r : Reply) (taken n : ℕ) (out : List ℕ) → (tell r taken out).answer ≡ answer.Quiet n → r ≡ reply.Nothing
unfolding tell
quiet_nothing reply.Nothing taken n out e = refl
quiet_nothing reply.Closing taken n out e = let z : ◌≡◌ {A = ℕ} 0 1 = cc in absurd (omega arith)
quiet_nothing reply.DataEnd taken n out e = let z : ◌≡◌ {A = ℕ} 0 1 = cc in absurd (omega arith)
quiet_nothing (reply.Login c) taken n out e = let z : ◌≡◌ {A = ℕ} 0 1 = cc in absurd (omega arith)
quiet_nothing (reply.Go k o) taken n out e = let z : ◌≡◌ {A = ℕ} 0 1 = cc in absurd (omega arith)
quiet_nothing (reply.UploadError k) taken n out e = let z : ◌≡◌ {A = ℕ} 0 1 = cc in absurd (omega arith)
quiet_nothing reply.Ack taken n out e = let z : ◌≡◌ {A = ℕ} 0 1 = cc in absurd (omega arith)
quiet_nothing (reply.Nak k) taken n out e = let z : ◌≡◌ {A = ℕ} 0 1 = cc in absurd (omega arith)
quiet_nothing (reply.DownloadError k) taken n out e = let z : ◌≡◌ {A = ℕ} 0 1 = cc in absurd (omega arith)
quiet_nothing reply.Aborted taken n out e = let z : ◌≡◌ {A = ℕ} 0 1 = cc in absurd (omega arith)
quiet_nothing reply.Completed taken n out e = let z : ◌≡◌ {A = ℕ} 0 1 = cc in absurd (omega arith)
quiet_nothing (reply.Selected k) taken n out e = let z : ◌≡◌ {A = ℕ} 0 1 = cc in absurd (omega arith)

-- ---- a call that is not refused

pub record Through (m : Model) (session : ℕ) : Type 0 where
  pub from_one : 1 ≤ session
  pub there : session - 1 < length m.sessions
  pub linked : (session_at m (session - 1)).linked ≡ true

through : (m : Model) (session room : ℕ) → refusal m session true room ≡ 0 → Through m session
unfolding refusal
through m session room z =
    go (eqb session 0) refl (ltb (length m.sessions) session) refl (session_at m (session - 1)).linked refl _ z
  where
    go : (a : Bool) → eqb session 0 ≡ a → (b : Bool) → ltb (length m.sessions) session ≡ b → (t : Bool) → (session_at m (session - 1)).linked ≡ t
        → (x : ℕ) → ◌≡◌ {A = ℕ} (cond a 34 (cond b 34 (cond t x 34))) 0 → Through m session
    go true d b e t f x z = absurd (omega arith)
    go false d true e t f x z = absurd (omega arith)
    go false d false e false f x z = absurd (omega arith)
    go false d false e true f x z =
        record {
          from_one = omega (arith, eqb-false session 0 d);
          there = omega (arith, eqb-false session 0 d, ltb-false (length m.sessions) session e);
          linked = f;
        }

-- it was quiet, so it was not refused
not_refused : (n : ℕ) (m : Model) (out : List ℕ) (s : Stepped) (taken : ℕ) → (unless n m out s).told.answer ≡ answer.Quiet taken → n ≡ 0
unfolding unless
not_refused n m out s taken e = go (eqb n 0) refl e
  where
    go : (b : Bool) → eqb n 0 ≡ b → (cond b s (stepped (told (answer.Refused n) out) m)).told.answer ≡ answer.Quiet taken → n ≡ 0
    go true q e = eqb-true n 0 q
    go false q e = let z : ◌≡◌ {A = ℕ} 0 1 = cc in absurd (omega arith)

-- ---- a packet of the downlink that was accepted

-- P holds of what it leaves, unless it gets a packet or closes the link
module _ (m : Model) (i : ℕ) (P : Turn → Type 0) where
  abbrev pub Accepts : Turn → Type 0
  Accepts t = t.reply ≡ reply.Nothing → P t

  pub refuses : (e : ℕ) → Accepts (turn (reply.DownloadError e) m)
  refuses e q = let z : ◌≡◌ {A = ℕ} 0 1 = cc in absurd (omega arith)

  pub closes : Accepts (closing m i)
  closes q = let z : ◌≡◌ {A = ℕ} 0 1 = cc in absurd (omega arith)

  pub by : (b : Bool) (x y : Turn) → (b ≡ true → Accepts x) → (b ≡ false → Accepts y) → Accepts (cond b x y)
  by true x y f g = f refl
  by false x y f g = g refl

  pub by_state : (d : Downlink) (x : Turn) → Accepts x → Accepts (if_no_download d x (closing m i))
  by_state no_download x g = g
  by_state (sending k at) x g = closes
  by_state (ended k) x g = closes
  by_state (aborting k) x g = closes
  by_state (listing long ns at) x g = closes

-- ---- a call that ends in a packet

module _ (m : Model) (session clock : ℕ) (input out : List ℕ) (kind : ℕ) (info : List ℕ)
    (came : ends_in ((session_at m (session - 1)).held ++ input) ≡ some (packet kind info)) where
  abbrev i : ℕ
  i = session - 1

  abbrev held : List ℕ
  held = (session_at m i).held

  -- the state that the packet finds
  abbrev pub found : Model
  found = in_session i (with_held []) m

  pub step_is : refusal m session true (length out) ≡ 0
      → step m (receive session clock input out)
      ≡ stepped (tell (on_packet found i clock kind info).reply (2 + length info - length held) out) (on_packet found i clock kind info).after
  unfolding step on_event
  step_is z =
      goes (refusal m session true (length out)) m out (on_event (ends_in (held ++ input)) m i clock held input out) z
      ∙ ap (λ (e : Option Event). on_event e m i clock held input out) came

  pub own : i < length m.sessions → session_at found i ≡ with_held [] (session_at m i)
  own there = link_held m i there []

  pub found_there : i < length m.sessions → i < length found.sessions
  found_there there = subst (λ (k : ℕ). i < k) (sym (length_of m.sessions (with_held [] (session_at m i)))) there
    where
      length_of : (ss : List Session) (x : Session) → length (set ss i x) ≡ length ss
      length_of ss x = length-set ss i x

  module _ (taken : ℕ) (quiet : (step m (receive session clock input out)).told.answer ≡ answer.Quiet taken) where
    pub none_refused : refusal m session true (length out) ≡ 0
    unfolding step
    none_refused = not_refused (refusal m session true (length out)) m out _ taken quiet

    pub gone_through : Through m session
    gone_through = through m session (length out) none_refused

    pub no_reply : (on_packet found i clock kind info).reply ≡ reply.Nothing
    no_reply =
        quiet_nothing (on_packet found i clock kind info).reply (2 + length info - length held) taken out
        (sym (ap (λ (s : Stepped). s.told.answer) (step_is none_refused)) ∙ quiet)
