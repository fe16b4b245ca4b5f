-- Bytes that end nothing may be lent earlier among the calls of other sessions. Assumes nothing.
use mathlib.Core.Path.{◌≡◌, refl, ap, ◌∙◌}
use mathlib.Core.Bool.{Bool, true, false, cond}
use mathlib.Core.List.{List, [], ◌∷◌, ◌++◌}
use mathlib.Core.Option.{none}
use Prim.Native.Nat.{ℕ, ◌+◌, ◌*◌, ◌-◌, ◌≤◌}
use native.Mathlib.Omega.{arith}
use borrow.Author.Tests.{eqb-false}
use lib.Dec.{eqb}
use lib.ListN.{length}
use Rattle.packet.specs.Machine.{call}
use Rattle.packet.specs.Frame.{byte}
use Rattle.session.specs.declared.state.Session.{Session}
use Rattle.server.specs.declared.Server.{Server}
use Rattle.server.specs.State.{Lent, link_of, part}
use Rattle.history.specs.Calls.{Call, receive, call_of, Start, History, ◌▸◌, after}
use Rattle.promises.specs.Parts.{session_in}
use Rattle.promises.specs.Closing.{event_at}
use Rattle.promises.specs.Cut.{ends_in, Recut, same, chain, also, joined, passed, ◌▸▸◌, others, LentEarlier}
use Rattle.cutting.proofs.CutCalls.{cut_elsewhere}
use Rattle.cutting.proofs.Others.{others_link, others_part}

-- what bytes end in is the same after a call for another session
event_kept : (sv : Server) (l : Lent) (c : Call) (session : ℕ) (xs : List ℕ) → 1 ≤ session → (session_in c ≡ session → ⊥)
    → event_at (call_of sv l c).done.server (call_of sv l c).lent (session - 1) xs ≡ event_at sv l (session - 1) xs
event_kept sv l c session xs one other =
    ap (λ (s : Session). (call byte (record { count = s.held; part = part ((session - 1) * 258) 258 (call_of sv l c).lent.held }) xs).event)
    (others_link sv l c (session - 1) apart)
    ∙ ap (λ (p : List ℕ). (call byte (record { count = (link_of sv (session - 1)).held; part = p }) xs).event) (others_part sv l c (session - 1) apart)
  where
    apart : session_in c ≡ session - 1 + 1 → ⊥
    apart q = other (let z : session_in c ≡ session = omega arith in z)

pub ends_kept : (s : Start) (h : History) (c : Call) (session : ℕ) (xs : List ℕ) → 1 ≤ session → (session_in c ≡ session → ⊥)
    → ends_in s (h ▸ c) session xs ≡ ends_in s h session xs
unfolding after
ends_kept s h c session xs one other = event_kept (after s h).server (after s h).lent c session xs one other

-- a call for another session, and others behind it
first_other : (b rest : Bool) → cond b false rest ≡ true → (b ≡ false) × (rest ≡ true)
first_other true rest e = let z : ◌≡◌ {A = ℕ} 0 1 = cc in absurd (omega arith)
first_other false rest e = (refl, e)

module _ (s : Start) where
  -- the same calls after both
  all_after : (cs : List Call) (h k : History) → Recut s h k → Recut s (h ▸▸ cs) (k ▸▸ cs)
  all_after [] h k r = r
  all_after (c ∷ cs) h k r = all_after cs (h ▸ c) (k ▸ c) (also h k r c)

  module _ (session clock : ℕ) (xs out : List ℕ) (one : 1 ≤ session) where
    all_passed : (cs : List Call) (h : History) → ends_in s h session xs ≡ none → others session cs ≡ true
        → Recut s ((h ▸ receive session clock xs out) ▸▸ cs) (h ▸▸ cs ▸ receive session clock xs out)
    all_passed [] h e o = same (h ▸ receive session clock xs out)
    all_passed (c ∷ cs) h e o =
        let p = first_other (eqb (session_in c) session) (others session cs) o in
        let other = eqb-false (session_in c) session p.0 in
        chain ((h ▸ receive session clock xs out ▸ c) ▸▸ cs) ((h ▸ c ▸ receive session clock xs out) ▸▸ cs)
        ((h ▸ c) ▸▸ cs ▸ receive session clock xs out)
        (all_after cs (h ▸ receive session clock xs out ▸ c) (h ▸ c ▸ receive session clock xs out) (passed h session clock xs out c e other))
        (all_passed cs (h ▸ c) (ends_kept s h c session xs one other ∙ e) p.1)

    all_ends : (cs : List Call) (h : History) → ends_in s h session xs ≡ none → others session cs ≡ true → ends_in s (h ▸▸ cs) session xs ≡ none
    all_ends [] h e o = e
    all_ends (c ∷ cs) h e o =
        let p = first_other (eqb (session_in c) session) (others session cs) o in
        all_ends cs (h ▸ c) (ends_kept s h c session xs one (eqb-false (session_in c) session p.0) ∙ e) p.1

  -- so histories that differ in this are cut elsewhere
  pub recut_earlier : (h : History) (session clock clock' : ℕ) (xs ys out out' : List ℕ) (cs : List Call)
      → 1 ≤ session
      → ends_in s h session xs ≡ none
      → others session cs ≡ true
      → 258 ≤ length out
      → 258 ≤ length out'
      → Recut s ((h ▸ receive session clock xs out) ▸▸ cs ▸ receive session clock' ys out') (h ▸▸ cs ▸ receive session clock' (xs ++ ys) out')
  recut_earlier h session clock clock' xs ys out out' cs one e o a b =
      chain _ (h ▸▸ cs ▸ receive session clock xs out ▸ receive session clock' ys out') _
      (also _ _ (all_passed session clock xs out one cs h e o) (receive session clock' ys out'))
      (joined (h ▸▸ cs) session clock clock' xs ys out out' (all_ends session clock xs out one cs h e o) a b)

-- THEOREM: bytes that end nothing may be lent earlier
pub lent_earlier : LentEarlier
lent_earlier s lawful h session clock clock' xs ys out out' cs one e o a b =
    cut_elsewhere s lawful _ _ (recut_earlier s h session clock clock' xs ys out out' cs one e o a b)
