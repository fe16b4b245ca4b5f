-- Bytes that end nothing may come in a call of their own. Assumes nothing.
use mathlib.Core.Path.{◌≡◌, refl, sym, ap, ◌∙◌}
use mathlib.Core.Bool.{Bool, true, false, cond}
use mathlib.Core.List.{List, [], ◌++◌, append_assoc}
use mathlib.Core.Option.{Option, none, some}
use Prim.Native.Nat.{ℕ, ◌+◌, ◌-◌, ◌<◌}
use native.Mathlib.Omega.{arith}
use borrow.Author.Tests.{eqb-false, ltb-false}
use lib.Dec.{eqb, ltb}
use lib.ListN.{length, set, length-set}
use lib.Seq.{get_or-set_same, set-set}
use Rattle.packet.specs.Frame.{Event, packet, too_long}
use Rattle.session.specs.declared.reply.Reply.{Reply}
use Rattle.session.specs.declared.reply.Reply.TheVariants as reply
use Rattle.session.specs.Reply.{tell}
use Rattle.model.specs.State as model
use Rattle.model.specs.State.{Session, closed_session, with_held, Model, session_at, in_session, Stepped}
use Rattle.calls.specs.Call.{receive}
use Rattle.steps.specs.Cut.{SameCut, BytesEarlier}
use Rattle.model.specs.Step.{on_packet, ends_in, on_event, refusal, unless, step}

-- the output does not tell how many bytes were taken
out_same : (r : Reply) (t u : ℕ) (out : List ℕ) → (tell r t out).out ≡ (tell r u out).out
unfolding tell
out_same reply.Nothing t u out = refl
out_same reply.Closing t u out = refl
out_same reply.DataEnd t u out = refl
out_same (reply.Login c) t u out = refl
out_same (reply.Go n o) t u out = refl
out_same (reply.UploadError e) t u out = refl
out_same reply.Ack t u out = refl
out_same (reply.Nak e) t u out = refl
out_same (reply.DownloadError e) t u out = refl
out_same reply.Aborted t u out = refl
out_same reply.Completed t u out = refl
out_same (reply.Selected c) t u out = refl

-- a call that is not refused names a session that there is
pub session_there : (m : Model) (session : ℕ) (wanted : Bool) (out : ℕ) → refusal m session wanted out ≡ 0 → session - 1 < length m.sessions
unfolding refusal
session_there m session wanted out z = go (eqb session 0) refl (ltb (length m.sessions) session) refl _ z
  where
    go : (a : Bool) → eqb session 0 ≡ a → (b : Bool) → ltb (length m.sessions) session ≡ b → (x : ℕ) → ◌≡◌ {A = ℕ} (cond a 34 (cond b 34 x)) 0
        → session - 1 < length m.sessions
    go true d b e x z = absurd (omega arith)
    go false d true e x z = absurd (omega arith)
    go false d false e x z = omega (arith, eqb-false session 0 d, ltb-false (length m.sessions) session e)

module _ (m : Model) (i : ℕ) (there : i < length m.sessions) (bytes : List ℕ) where
  abbrev held : Model
  held = in_session i (with_held bytes) m

  pub link_held : session_at held i ≡ with_held bytes (session_at m i)
  link_held = get_or-set_same m.sessions i (with_held bytes (session_at m i)) closed_session there

  -- what comes after does not see which bytes were held
  again : (g : Session → Session) → g (with_held bytes (session_at m i)) ≡ g (session_at m i) → in_session i g held ≡ in_session i g m
  again g e =
      ap (λ (ks : List Session). model.model m m.last_number m.last_time m.files ks)
      (set-set m.sessions i (with_held bytes (session_at m i)) (g (session_at held i)) ∙ ap (λ (k : Session). set m.sessions i k) (ap g link_held ∙ e))

  event_again : (e : Option Event) (clock : ℕ) (h h' b b' out : List ℕ) → h ++ b ≡ h' ++ b'
      → ((on_event e held i clock h b out).after ≡ (on_event e m i clock h' b' out).after)
      × ((on_event e held i clock h b out).told.out ≡ (on_event e m i clock h' b' out).told.out)
  unfolding on_event
  event_again none clock h h' b b' out e =
      (again (with_held (h ++ b)) refl ∙ ap (λ (x : List ℕ). in_session i (with_held x) m) e, out_same reply.Nothing (length b) (length b') out)
  event_again (some too_long) clock h h' b b' out e = (again (λ k. closed_session) refl, out_same reply.Closing (2 - length h) (2 - length h') out)
  event_again (some (packet kind info)) clock h h' b b' out e =
      let x = again (with_held []) refl in (
        ap (λ (n : Model). (on_packet n i clock kind info).after) x,
        out_same (on_packet (in_session i (with_held []) held) i clock kind info).reply (2 + length info - length h) (2 + length info - length h') out
            ∙ ap (λ (n : Model). (tell (on_packet n i clock kind info).reply (2 + length info - length h') out).out) x,
      )

module _ (m : Model) (session c₁ c₂ : ℕ) (a b o₁ o₂ : List ℕ) where
  abbrev i : ℕ
  i = session - 1

  goes : (n : ℕ) (x : Model) (out : List ℕ) (s : Stepped) → n ≡ 0 → unless n x out s ≡ s
  unfolding unless
  goes n x out s e = rw e

  refused_again : (there : i < length m.sessions) (bytes : List ℕ) → refusal (in_session i (with_held bytes) m) session true (length o₂) ≡ refusal m session true (length o₂)
  unfolding refusal
  refused_again there bytes = rw (length-set m.sessions i (with_held bytes (session_at m i)), link_held m i there bytes)

  first : refusal m session true (length o₁) ≡ 0 → ends_in ((session_at m i).held ++ a) ≡ none
      → (step m (receive session c₁ a o₁)).after ≡ in_session i (with_held ((session_at m i).held ++ a)) m
  unfolding step on_event
  first r e =
      ap (λ (s : Stepped). s.after)
      (goes (refusal m session true (length o₁)) m o₁ (on_event (ends_in ((session_at m i).held ++ a)) m i c₁ (session_at m i).held a o₁) r
      ∙ ap (λ (v : Option Event). on_event v m i c₁ (session_at m i).held a o₁) e)

  second : refusal m session true (length o₁) ≡ 0 → refusal m session true (length o₂) ≡ 0 → ends_in ((session_at m i).held ++ a) ≡ none
      → i < length m.sessions
      → step (step m (receive session c₁ a o₁)).after (receive session c₂ b o₂)
      ≡ on_event (ends_in ((session_at m i).held ++ (a ++ b))) (in_session i (with_held ((session_at m i).held ++ a)) m) i c₂ ((session_at m i).held ++ a) b o₂
  unfolding step
  second r₁ r₂ e there =
      let n = in_session i (with_held ((session_at m i).held ++ a)) m in
      ap (λ (x : Model). step x (receive session c₂ b o₂)) (first r₁ e)
      ∙ goes (refusal n session true (length o₂)) n o₂ (on_event (ends_in ((session_at n i).held ++ b)) n i c₂ (session_at n i).held b o₂)
      (refused_again there ((session_at m i).held ++ a) ∙ r₂)
      ∙ ap (λ (k : Session). on_event (ends_in (k.held ++ b)) n i c₂ k.held b o₂) (link_held m i there ((session_at m i).held ++ a))
      ∙ ap (λ (x : List ℕ). on_event (ends_in x) n i c₂ ((session_at m i).held ++ a) b o₂) (append_assoc (session_at m i).held a b)

  -- THEOREM: neither call is refused, and the first bytes end nothing: then they may as well come with the others
  pub cut_here : refusal m session true (length o₁) ≡ 0 → refusal m session true (length o₂) ≡ 0 → ends_in ((session_at m i).held ++ a) ≡ none
      → SameCut m session c₁ c₂ a b o₁ o₂
  unfolding step
  cut_here r₁ r₂ e =
      let there = session_there m session true (length o₁) r₁ in
      let both =
      event_again m i there ((session_at m i).held ++ a) (ends_in ((session_at m i).held ++ (a ++ b))) c₂ ((session_at m i).held ++ a) (session_at m i).held b (a ++ b) o₂
      (append_assoc (session_at m i).held a b) in
      let right = goes (refusal m session true (length o₂)) m o₂ (on_event (ends_in ((session_at m i).held ++ (a ++ b))) m i c₂ (session_at m i).held (a ++ b) o₂) r₂ in
      let left = second r₁ r₂ e there in
      record {
        after = ap (λ (s : Stepped). s.after) left ∙ both.0 ∙ ap (λ (s : Stepped). s.after) (sym right);
        out = ap (λ (s : Stepped). s.told.out) left ∙ both.1 ∙ ap (λ (s : Stepped). s.told.out) (sym right);
      }

-- THEOREM
pub cut : BytesEarlier
cut m session c₁ c₂ a b o₁ o₂ r₁ r₂ e = cut_here m session c₁ c₂ a b o₁ o₂ r₁ r₂ e
