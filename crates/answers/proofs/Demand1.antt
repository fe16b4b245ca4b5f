-- Demand 1, together. Assumes nothing.
use mathlib.Core.Path.{◌≡◌, refl, sym, ap, ◌∙◌, subst}
use mathlib.Core.Bool.{Bool, true, false, cond}
use mathlib.Core.List.{[], ◌∷◌}
use Prim.Native.Nat.{ℕ}
use native.Mathlib.Omega.{arith}
use borrow.Author.Tests.{ne_eqb}
use lib.Dec.{eqb}
use Rattle.session.specs.declared.reply.Answer.TheVariants as answer
use Rattle.server.specs.declared.Server.{Server}
use Rattle.server.specs.State.{Lent, Outcome}
use Rattle.history.specs.Calls.{call_of, after}
use Rattle.history.proofs.Histories.{never_33, never_35}
use Rattle.promises.specs.Parts.{one_of}
use Rattle.promises.specs.Demand1.{Answers, refuses, silent, closes, sends, OnlyByTheCaller, Demand1}
use Rattle.answers.proofs.Answered.{every_call_answers, every_local_refusal, every_making, every_upload_error, every_download_error, every_nak}

-- of the four numbers two are left
two_left : (n : ℕ) → one_of n (32 ∷ 33 ∷ 34 ∷ 35 ∷ []) ≡ true → (n ≡ 33 → ⊥) → (n ≡ 35 → ⊥) → one_of n (32 ∷ 34 ∷ []) ≡ true
two_left n listed not_33 not_35 = go (eqb n 32) (eqb n 33) (eqb n 34) (eqb n 35) listed (ne_eqb n 33 not_33) (ne_eqb n 35 not_35)
  where
    go : (a b c d : Bool) → cond a true (cond b true (cond c true (cond d true false))) ≡ true → b ≡ false → d ≡ false
        → cond a true (cond c true false) ≡ true
    go true b c d e p q = refl
    go false true c d e p q = let z : ◌≡◌ {A = ℕ} 0 1 = cc in absurd (omega arith)
    go false false true d e p q = refl
    go false false false true e p q = let z : ◌≡◌ {A = ℕ} 0 1 = cc in absurd (omega arith)
    go false false false false e p q = e

-- THEOREM: after any history 33 and 35 are not given
pub only_by_the_caller : OnlyByTheCaller
only_by_the_caller s lawful h c n e = go (every_call_answers sv l c)
  where
    sv : Server
    sv = (after s h).server

    l : Lent
    l = (after s h).lent

    go : Answers sv l c (call_of sv l c) → one_of n (32 ∷ 34 ∷ []) ≡ true
    go (refuses r) =
        let q : answer.Refused r.number ≡ answer.Refused n = sym (ap (λ (o : Outcome). o.done.answer) r.same) ∙ e in
        let z : r.number ≡ n = cc in
        two_left n (subst (λ (k : ℕ). one_of k (32 ∷ 33 ∷ 34 ∷ 35 ∷ []) ≡ true) z r.listed)
        (λ k. never_33 s lawful h c (e ∙ ap answer.Refused k)) (λ k. never_35 s lawful h c (e ∙ ap answer.Refused k))
    go (silent r) =
        let q : answer.Quiet r.taken ≡ answer.Refused n = sym r.answered ∙ e in
        let z : ◌≡◌ {A = ℕ} 0 1 = cc in absurd (omega arith)
    go (closes r) =
        let q : answer.Closed r.taken ≡ answer.Refused n = sym r.answered ∙ e in
        let z : ◌≡◌ {A = ℕ} 0 1 = cc in absurd (omega arith)
    go (sends r) =
        let q : answer.Sent r.taken _ ≡ answer.Refused n = sym r.answered ∙ e in
        let z : ◌≡◌ {A = ℕ} 0 1 = cc in absurd (omega arith)

-- THEOREM: demand 1
pub demand_1 : Demand1
demand_1 =
    record {
      answers = every_call_answers;
      locals = every_local_refusal;
      only_by_the_caller = only_by_the_caller;
      making = every_making;
      upload_errors_law = every_upload_error;
      download_errors_law = every_download_error;
      naks = every_nak;
    }
