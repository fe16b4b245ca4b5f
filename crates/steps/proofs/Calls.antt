-- Which calls are refused, and what a call leaves: a session that it is not for, and every complete file. Assumes nothing.
use mathlib.Core.Path.{◌≡◌, refl, sym, ap, ◌∙◌, subst}
use mathlib.Core.Bool.{Bool, true, false, cond}
use mathlib.Core.List.{List, []}
use mathlib.Core.Option.{none, some}
use Prim.Native.Nat.{ℕ, ◌-◌, ◌≤◌, ◌<◌}
use native.Mathlib.Omega.{arith}
use borrow.Author.Tests.{ltb-true, ltb-false, eqb-true, eqb-false, ne_eqb, le-ltb}
use lib.Dec.{eqb, ltb}
use lib.ListN.{length}
use Rattle.session.specs.declared.reply.Answer.TheVariants as answer
use Rattle.session.specs.Reply.{told}
use Rattle.calls.specs.Call.{Call, login, receive, request, lose}
use Rattle.model.specs.State.{Model, session_at, Stepped, stepped}
use Rattle.model.specs.Files.{find}
use Rattle.model.specs.Step.{refusal, unless, step}
use Rattle.steps.specs.Parts.{session_in}
use Rattle.steps.specs.Sound.{Sound}
use Rattle.steps.specs.Naming.{Complete, UpOk, Named}
use Rattle.steps.proofs.Changes.{own_session}
use Rattle.steps.proofs.Naming.{find_past, not_both}
use Rattle.steps.proofs.Own.{own_file}

pub by_lt : {P : Type 0} (a b : ℕ) → (a < b → P) → (b ≤ a → P) → P
by_lt {P} a b f g = go (ltb a b) refl
  where
    go : (t : Bool) → ltb a b ≡ t → P
    go true e = f (ltb-true a b e)
    go false e = g (ltb-false a b e)

-- ---- refused calls

-- a call of an open session is refused by 32 alone
pub open_refusal : (m : Model) (session room : ℕ) → 1 ≤ session → session - 1 < length m.sessions → (session_at m (session - 1)).linked ≡ true
    → refusal m session true room ≡ cond (ltb room 258) 32 0
unfolding refusal
open_refusal m session room one there linked =
    rw (ne_eqb session 0 (λ e. omega arith), le-ltb (length m.sessions) session (omega arith), linked)

pub short_step : (n : ℕ) (m : Model) (out : List ℕ) (s : Stepped) → n ≡ 32 → unless n m out s ≡ stepped (told (answer.Refused 32) out) m
unfolding unless
short_step n m out s e = rw e

pub goes : (n : ℕ) (m : Model) (out : List ℕ) (s : Stepped) → n ≡ 0 → unless n m out s ≡ s
unfolding unless
goes n m out s e = rw e

-- ---- other sessions

-- a call of session 0 changes nothing
none_moves : (n : ℕ) (m : Model) (out : List ℕ) (s : Stepped) → n ≡ 34 → (unless n m out s).after ≡ m
unfolding unless
none_moves n m out s e = rw e

zero_refused : (m : Model) (session : ℕ) (wanted : Bool) (room : ℕ) → session ≡ 0 → refusal m session wanted room ≡ 34
unfolding refusal
zero_refused m session wanted room e = rw e

zero_stays : (m : Model) (c : Call) → session_in c ≡ 0 → (step m c).after ≡ m
unfolding step
zero_stays m (login session clock out) e = none_moves _ m out _ (zero_refused m session false (length out) e)
zero_stays m (receive session clock input out) e = none_moves _ m out _ (zero_refused m session true (length out) e)
zero_stays m (request session out) e = none_moves _ m out _ (zero_refused m session true (length out) e)
zero_stays m (lose session) e = none_moves _ m [] _ (zero_refused m session true 258 e)

-- a call for another session leaves this one as it was
pub others_leave : (session : ℕ) → 1 ≤ session → (m : Model) (c : Call) → (session_in c ≡ session → ⊥)
    → session_at (step m c).after (session - 1) ≡ session_at m (session - 1)
others_leave session one m c z = by_zero (eqb (session_in c) 0) refl
  where
    by_zero : (b : Bool) → eqb (session_in c) 0 ≡ b → session_at (step m c).after (session - 1) ≡ session_at m (session - 1)
    by_zero true e = ap (λ (x : Model). session_at x (session - 1)) (zero_stays m c (eqb-true (session_in c) 0 e))
    by_zero false e =
        own_session m c (session - 1) (λ q. z (let y : session_in c ≡ session = omega (arith, eqb-false (session_in c) 0 e) in y))

-- ---- complete files

-- a complete file is one of those whose numbers were given, so no call changes it
low : (m : Model) (n : ℕ) → Sound m → Complete n m.files → n ≤ m.last_number
low m n s a =
    by_lt m.last_number n (λ k. absurd (no_file_law (sym (find_past n 0 m.last_number m.last_time m.files s.numbers k) ∙ a.found))) (λ k. k)
  where
    no_file_law : none ≡ some a.file → ⊥
    no_file_law e = let z : ◌≡◌ {A = ℕ} 0 1 = cc in omega arith

pub complete_stays : (m : Model) (c : Call) (n : ℕ) → Sound m → Named m → Complete n m.files → find n (step m c).after.files ≡ find n m.files
complete_stays m c n s k a =
    own_file m c n (λ o. not_both n m.files (subst (UpOk m.files) o (k.up (session_in c - 1))) a) (low m n s a)
