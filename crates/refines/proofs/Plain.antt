-- Login, lose and request are steps of the machine.
use Rattle.std.specs.Prelude.{Result, Ok, Err}
use mathlib.Core.Path.{◌≡◌, refl, ap, ap₂, ◌∙◌}
use mathlib.Core.Bool.{Bool, true, false, cond}
use mathlib.Core.List.{List, []}
use Prim.Native.Nat.{ℕ, ◌-◌, ◌*◌, ◌≤◌}
use borrow.Author.Tests.{eqb-true, le-ltb}
use lib.Dec.{eqb}
use lib.ListN.{length, replicate, length-replicate}
use Rattle.session.specs.declared.reply.Reply.{Reply}
use Rattle.session.specs.declared.reply.Reply.TheVariants as reply
use Rattle.session.specs.declared.reply.Answer.TheVariants as answer
use Rattle.session.specs.State.{closed_session, fresh_session}
use Rattle.session.specs.Reply.{Told, told, tell, answered}
use Rattle.server.specs.declared.Server.{Server}
use Rattle.server.specs.State.{Lent, lent, Outcome, with_part}
use Rattle.server.specs.Calls.{on_login, login_of, on_lose, lose_of, login_by, lose_by}
use Rattle.history.specs.Good.{Good}
use Rattle.history.specs.Calls as history
use Rattle.history.proofs.Sessions.{part_stays, packet_stays}
use Rattle.model.specs.State as model
use Rattle.model.specs.State.{Model, Stepped, stepped, lost}
use Rattle.model.specs.Step.{refusal, unless, step}
use Rattle.views.specs.View.{view}
use Rattle.refines.specs.Refines.{Refines}
use Rattle.views.proofs.Views.{facts, by_refusal, Through, check_is, through, link_moved}

pub told_room : (r : Reply) (taken : ℕ) (out : List ℕ) → 258 ≤ length out → answered r taken out ≡ tell r taken out
unfolding answered
told_room r taken out h = rw (le-ltb (length out) 258 h)

-- what a call of the server came to, and what the machine does
abbrev pub seen : Outcome → Stepped
seen o = stepped (told o.done.answer o.out) (view o.done.server o.lent)

pub refined : (sv : Server) (l : Lent) (c : history.Call) → seen (history.call_of sv l c) ≡ step (view sv l) c → Refines sv l c
refined sv l c e = record { told = ap (λ (s : Stepped). s.told) e; after = ap (λ (s : Stepped). s.after) e }

-- a call that is refused or goes through, and one that the machine refuses or not
pub by_check : (n i : ℕ) (P : Result ℕ ℕ → Stepped) (S : Stepped) (m : Model) (out : List ℕ) → (n ≡ 0 → P (Ok i) ≡ S)
    → P (Err n) ≡ stepped (told (answer.Refused n) out) m → P (by_refusal n i) ≡ unless n m out S
unfolding unless
by_check n i P S m out a b = go (eqb n 0) refl
  where
    go : (t : Bool) → eqb n 0 ≡ t → P (cond t (Ok i) (Err n)) ≡ cond t S (stepped (told (answer.Refused n) out) m)
    go true e = a (eqb-true n 0 e)
    go false e = b

module _ (sv : Server) (l : Lent) (g : Good sv l) where
  -- ---- login

  abbrev logged_in : List ℕ → ℕ → Result ℕ ℕ → Stepped
  logged_in out clock k = stepped (told (on_login k sv out clock).done.answer (on_login k sv out clock).out) (view (on_login k sv out clock).done.server l)

  login_goes : (session clock : ℕ) (out : List ℕ) → Through sv session false (length out)
      → logged_in out clock (Ok (session - 1)) ≡ stepped (tell (reply.Login clock) 0 out) (model.with_session (view sv l) (session - 1) model.fresh_session)
  unfolding on_login
  login_goes session clock out t =
      ap₂ stepped (ap (λ (r : Told). told r.answer r.out) (told_room (reply.Login clock) 0 out t.room))
      (link_moved sv l g (session - 1) t.inside fresh_session l.selected l.held (λ j n. refl) (λ j n. refl))

  pub login_refines : (session clock : ℕ) (out : List ℕ) → Refines sv l (history.login session clock out)
  unfolding login_of login_by on_login step
  login_refines session clock out =
      refined sv l (history.login session clock out)
      (ap (logged_in out clock) (check_is sv l g session false (length out))
      ∙ by_check (refusal (view sv l) session false (length out)) (session - 1) (logged_in out clock) _ (view sv l) out
      (λ z. login_goes session clock out (through sv l g session false (length out) z)) refl)

  -- ---- lose

  abbrev lost_by : Result ℕ ℕ → Stepped
  lost_by k =
      stepped (told (on_lose k sv l.selected l.held).done.answer [])
      (view (on_lose k sv l.selected l.held).done.server
      (lent l.disk l.map l.owner l.table (on_lose k sv l.selected l.held).selected (on_lose k sv l.selected l.held).held))

  lose_goes : (session : ℕ) → Through sv session true 258
      → lost_by (Ok (session - 1)) ≡ stepped (tell reply.Nothing 0 []) (lost (view sv l) (session - 1))
  unfolding on_lose tell
  lose_goes session t =
      ap (stepped (told (answer.Quiet 0) []))
      (link_moved sv l g (session - 1) t.inside closed_session
      (with_part ((session - 1) * sv.most) sv.most (replicate sv.most 0) l.selected) (with_part ((session - 1) * 258) 258 (replicate 258 0) l.held)
      (part_stays sv.sessions sv.most (session - 1) (replicate sv.most 0) l.selected t.inside (facts sv l g).sessions.selections
      (length-replicate {A = ℕ} sv.most 0))
      (packet_stays sv.sessions (session - 1) (replicate 258 0) l.held t.inside (facts sv l g).sessions.packets (length-replicate {A = ℕ} 258 0)))

  pub lose_refines : (session : ℕ) → Refines sv l (history.lose session)
  unfolding lose_of lose_by on_lose step
  lose_refines session =
      refined sv l (history.lose session)
      (ap lost_by (check_is sv l g session true 258)
      ∙ by_check (refusal (view sv l) session true 258) (session - 1) lost_by _ (view sv l) []
      (λ z. lose_goes session (through sv l g session true 258 z)) refl)
