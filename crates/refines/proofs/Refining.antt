-- THE SERVER IS THE MACHINE: every call of a good state, and so every history of calls from an empty store.
use mathlib.Core.Path.{◌≡◌, refl, sym, ap, ap₂, ◌∙◌}
use mathlib.Core.Bool.{true}
use mathlib.Core.List.{List, [], ◌∷◌}
use Prim.Native.Nat.{ℕ, zero, suc, ◌*◌}
use lib.ListN.{get_or, replicate}
use Rattle.session.specs.State.{closed_session}
use Rattle.server.specs.declared.Server.{Server}
use Rattle.server.specs.Making.{new_server, make_of}
use Rattle.server.specs.State.{Lent, part}
use Rattle.history.specs.Stored.{files_of}
use Rattle.history.specs.Good.{Good}
use Rattle.session.specs.Reply.{told}
use Rattle.history.specs.Calls as history
use Rattle.history.specs.Calls.{start, ◌▸◌, Start, legal, after, made}
use Rattle.history.proofs.Histories.{good_after}
use Rattle.model.specs.State as model
use Rattle.model.specs.State.{Model, empty}
use Rattle.model.specs.Step.{step, run}
use Rattle.views.specs.View.{numbered, listed, each, session_from, session_of, view}
use Rattle.refines.specs.Refines.{EveryCall, EveryHistory}
use Rattle.refines.proofs.Plain.{login_refines, lose_refines}
use Rattle.refines.proofs.Requests.{request_refines}
use Rattle.refines.proofs.Receiving.{receive_refines}

-- THEOREM
pub every_call : EveryCall
every_call sv l g (history.login session clock out) = login_refines sv l g session clock out
every_call sv l g (history.receive session clock input out) = receive_refines sv l g session clock input out
every_call sv l g (history.request session out) = request_refines sv l g session out
every_call sv l g (history.lose session) = lose_refines sv l g session

-- ---- the empty store

each_none : (n : ℕ) (f : ℕ → model.Session) → ((i : ℕ) → f i ≡ model.closed_session) → each n f ≡ replicate n model.closed_session
unfolding each
each_none zero f h = refl
each_none (suc n) f h = ap₂ (λ (x : model.Session) (xs : List model.Session). x ∷ xs) (h 0) (each_none n (λ i. f (suc i)) (λ i. h (suc i)))

-- any entry of a list of the default
pub all_same : {A : Type 0} (n i : ℕ) (a : A) → get_or (replicate n a) i a ≡ a
all_same zero i a = refl
all_same (suc n) zero a = refl
all_same (suc n) (suc i) a = all_same n i a

-- a server just made has no file and no session
new_view : (blocks places sessions most : ℕ) (l : Lent) → view (new_server blocks places sessions most) l ≡ empty blocks places sessions most
unfolding listed
new_view blocks places sessions most l =
    ap (λ (ks : List model.Session). record { blocks = blocks; places = places; maxsel = most; last_number = 0; last_time = 0; files = []; sessions = ks })
    (each_none sessions (session_of (new_server blocks places sessions most) l)
    (λ i.
    ap (session_from (files_of (new_server blocks places sessions most) l) (numbered (new_server blocks places sessions most) l) (part (i * most) most l.selected) (part (i * 258) 258 l.held))
    (all_same 4 i closed_session)))

pub made_server : (s : Start) → legal s ≡ true → (made s).server ≡ new_server s.blocks s.files s.sessions s.most
unfolding made make_of
made_server s e = rw e

pub made_view : (s : Start) → legal s ≡ true → view (made s).server (made s).lent ≡ empty s.blocks s.files s.sessions s.most
made_view s e =
    ap (λ (sv : Server). view sv (made s).lent) (made_server s e) ∙ new_view s.blocks s.files s.sessions s.most (made s).lent

-- THEOREM
pub every_history : EveryHistory
unfolding run after
every_history s e start = made_view s e
every_history s e (h ▸ c) =
    (every_call (after s h).server (after s h).lent (good_after s e h) c).after
    ∙ ap (λ (m : Model). (step m c).after) (every_history s e h)

-- ---- corollaries

-- two good states that stand for the same state of the machine answer every call alike, and stand for the same one afterwards
pub record SameTo (sv : Server) (l : Lent) (sv' : Server) (l' : Lent) (c : history.Call) : Type 0 where
  pub told : told (history.call_of sv l c).done.answer (history.call_of sv l c).out ≡ told (history.call_of sv' l' c).done.answer (history.call_of sv' l' c).out
  pub after : view (history.call_of sv l c).done.server (history.call_of sv l c).lent ≡ view (history.call_of sv' l' c).done.server (history.call_of sv' l' c).lent

pub same_views : (sv : Server) (l : Lent) (sv' : Server) (l' : Lent) → Good sv l → Good sv' l' → view sv l ≡ view sv' l' → (c : history.Call) → SameTo sv l sv' l' c
same_views sv l sv' l' g g' e c =
    let a = every_call sv l g c in
    let b = every_call sv' l' g' c in
    record {
      told = a.told ∙ ap (λ (m : Model). (step m c).told) e ∙ sym b.told;
      after = a.after ∙ ap (λ (m : Model). (step m c).after) e ∙ sym b.after;
    }
