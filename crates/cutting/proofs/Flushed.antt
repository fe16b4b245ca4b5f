-- A history, and then for each session the bytes that wait, which end nothing: they may stand before any call that is not for their session.
-- Assumes nothing.
use mathlib.Core.Path.{◌≡◌, refl, sym, ap, ◌∙◌, subst}
use mathlib.Core.Bool.{Bool, true, false, cond}
use mathlib.Core.List.{List, [], ◌++◌, append-nil}
use mathlib.Core.Option.{none}
use Prim.Native.Nat.{ℕ, zero, suc, ◌+◌, ◌-◌, ◌≤◌, ◌<◌}
use native.Mathlib.Omega.{arith}
use borrow.Author.Tests.{eqb-true, eqb-false, eq-eqb, ne_eqb}
use lib.Dec.{eqb}
use lib.ListN.{length, replicate}
use Rattle.packet.specs.Machine.{call}
use Rattle.session.specs.declared.reply.Answer.TheVariants as answer
use Rattle.server.specs.State.{Outcome, outcome, done_with, link_of}
use Rattle.history.specs.Calls.{Call, receive, lose, call_of, state, Start, legal, History, ◌▸◌, after}
use Rattle.history.specs.Good.{Good}
use Rattle.history.proofs.GoodFacts.{good_check}
use Rattle.history.proofs.Kept.{good_kept}
use Rattle.history.proofs.Histories.{good_after}
use Rattle.promises.specs.Parts.{session_in, out_in}
use Rattle.promises.specs.Cut.{Seen, seen_in, seen_of, seen, ends_in, SameAfter}
use Rattle.promises.specs.Uncut.{waiting_with}
use Rattle.answers.proofs.Checks.{state_facts, through_again}
use Rattle.cutting.proofs.Held.{hold, keep, hold_seen}
use Rattle.cutting.proofs.Own.{lose_over}
use Rattle.cutting.proofs.CutCalls.{no_packet, unended_seen, passed_after, empty_after, also_after}
use Rattle.cutting.proofs.Earlier.{ends_kept}
use Rattle.answers.proofs.Receiving as steps

-- ---- histories that leave the same

pub same_self : {s : Start} {h : History} → SameAfter s h h
same_self = record { state = refl; seen = refl }

pub same_back : {s : Start} {h k : History} → SameAfter s h k → SameAfter s k h
same_back w = record { state = sym w.state; seen = sym w.seen }

infixr 20 ◌then◌
pub ◌then◌ : {s : Start} {h k m : History} → SameAfter s h k → SameAfter s k m → SameAfter s h m
v then w = record { state = v.state ∙ w.state; seen = v.seen ∙ w.seen }

-- ---- the bytes that wait

-- a call that lends them; its clock and its output do not matter
abbrev pub lends : ℕ → List ℕ → Call
lends session xs = receive session 0 xs (replicate 258 0)

-- those of the sessions 1 to n, after a history
unfoldable pub flush : ℕ → History → (ℕ → List ℕ) → History
flush zero h w = h
flush (suc n) h w = flush n h w ▸ lends (suc n) (w (suc n))

pub flush_same : (n : ℕ) (h : History) (w v : ℕ → List ℕ) → ((j : ℕ) → 1 ≤ j → j ≤ n → w j ≡ v j) → flush n h w ≡ flush n h v
unfolding flush
flush_same zero h w v e = refl
flush_same (suc n) h w v e =
    ap (λ (k : History). k ▸ lends (suc n) (w (suc n))) (flush_same n h w v (λ j a b. e j a (omega arith)))
    ∙ ap (λ (xs : List ℕ). flush n h v ▸ lends (suc n) xs) (e (suc n) (omega arith) (omega arith))

-- ---- other bytes for one session

pub with_own : (w : ℕ → List ℕ) (session : ℕ) (bytes : List ℕ) (k : ℕ) → k ≡ session → waiting_with w session bytes k ≡ bytes
with_own w session bytes k e = ap (λ (b : Bool). cond b bytes (w k)) (eq-eqb k session e)

pub with_other : (w : ℕ → List ℕ) (session : ℕ) (bytes : List ℕ) (k : ℕ) → (k ≡ session → ⊥) → waiting_with w session bytes k ≡ w k
with_other w session bytes k e = ap (λ (b : Bool). cond b bytes (w k)) (ne_eqb k session e)

pub with_each : (w : ℕ → List ℕ) (session : ℕ) (bytes : List ℕ) (k : ℕ) (P : List ℕ → Type 0) → (k ≡ session → P bytes)
    → ((k ≡ session → ⊥) → P (w k))
    → P (waiting_with w session bytes k)
with_each w session bytes k P own other = go (eqb k session) refl
  where
    go : (t : Bool) → eqb k session ≡ t → P (cond t bytes (w k))
    go true q = own (eqb-true k session q)
    go false q = other (eqb-false k session q)

module _ (s : Start) (lawful : legal s ≡ true) where
  -- a call that is refused
  pub refused_after : (h : History) (c : Call) (n : ℕ)
      → call_of (after s h).server (after s h).lent c ≡ outcome (done_with (after s h).server (answer.Refused n)) (after s h).lent (out_in c)
      → SameAfter s (h ▸ c) h
  unfolding after seen seen_in
  refused_after h c n e =
      record {
        state = ap (λ (o : Outcome). state o.done.server o.lent) e;
        seen = ap (λ (o : Outcome). seen s h ++ seen_in (session_in c) o.done.answer o.out) e ∙ append-nil (seen s h);
      }

  -- bytes that end nothing are forgotten where the link is lost
  pub lose_after : (h : History) (session clock : ℕ) (xs out : List ℕ) → ends_in s h session xs ≡ none
      → SameAfter s (h ▸ receive session clock xs out ▸ lose session) (h ▸ lose session)
  unfolding after seen
  lose_after h session clock xs out none-ends = go (steps.receives (after s h).server (after s h).lent session clock xs out)
    where
      good : Good (after s h).server (after s h).lent
      good = good_after s lawful h

      lists : (a b c d : List Seen) → b ≡ [] → c ≡ d → (a ++ b) ++ c ≡ a ++ d
      lists a b c d x y = ap (λ (k : List Seen). (a ++ k) ++ c) x ∙ ap (λ (k : List Seen). k ++ c) (append-nil a) ∙ ap (λ (k : List Seen). a ++ k) y

      by : (e : steps.EndsNone (after s h).server (after s h).lent session clock xs out)
          → Good (hold (after s h).server e.i e.heard.state.count) (keep (after s h).lent e.i e.heard.state.part)
          → SameAfter s (h ▸ receive session clock xs out ▸ lose session) (h ▸ lose session)
      by e good' =
          let t = e.through in
          let q =
          ap (λ (o : Outcome). call_of o.done.server o.lent (lose session)) e.is
          ∙ lose_over (after s h).server (after s h).lent good e.i session e.heard.state.count e.heard.state.part good'
          (omega (arith, t.index, t.from_one, t.in_range)) e.heard.size
          (good_check (after s h).server (after s h).lent good session true 258
          ∙ through_again (after s h).server (after s h).lent session true (length out) e.i 258 t (omega arith)) in
          record {
            state = ap (λ (o : Outcome). state o.done.server o.lent) q;
            seen = lists (seen s h) _ _ _ (unended_seen (after s h).server (after s h).lent session clock xs out none-ends)
                (ap (λ (o : Outcome). seen_of (lose session) o) q);
          }

      go : steps.Receives (after s h).server (after s h).lent session clock xs out
          → SameAfter s (h ▸ receive session clock xs out ▸ lose session) (h ▸ lose session)
      go (steps.refused n o k q) =
          also_after s lawful (h ▸ receive session clock xs out) h (refused_after h (receive session clock xs out) n q) (lose session)
      go (steps.ends_none e) =
          by e
          (subst (λ (o : Outcome). Good o.done.server o.lent) e.is
          (good_kept (after s h).server (after s h).lent good (receive session clock xs out)))
      go (steps.ends_packet f) = absurd (no_packet (after s h).server (after s h).lent session clock xs out none-ends f)

  -- bytes that end nothing open and close no link
  linked_after : (h : History) (session clock : ℕ) (xs out : List ℕ) → ends_in s h session xs ≡ none → (i : ℕ)
      → (link_of (after s (h ▸ receive session clock xs out)).server i).linked ≡ (link_of (after s h).server i).linked
  unfolding after
  linked_after h session clock xs out none-ends i = go (steps.receives (after s h).server (after s h).lent session clock xs out)
    where
      good : Good (after s h).server (after s h).lent
      good = good_after s lawful h

      go : steps.Receives (after s h).server (after s h).lent session clock xs out
          → (link_of (call_of (after s h).server (after s h).lent (receive session clock xs out)).done.server i).linked
          ≡ (link_of (after s h).server i).linked
      go (steps.refused n o k q) = ap (λ (o : Outcome). (link_of o.done.server i).linked) q
      go (steps.ends_none e) =
          let f = state_facts (after s h).server (after s h).lent good.fits good.sound in
          ap (λ (o : Outcome). (link_of o.done.server i).linked) e.is
          ∙ hold_seen (after s h).server e.i e.heard.state.count
          (omega (arith, good.links, f.sizes.sessions, e.through.index, e.through.from_one, e.through.in_range)) (λ s. s.linked)
          (λ s m. refl) i
      go (steps.ends_packet f) = absurd (no_packet (after s h).server (after s h).lent session clock xs out none-ends f)

  -- ---- the bytes that wait

  -- they end nothing
  abbrev pub Still : History → (ℕ → List ℕ) → Type 0
  Still h w = (j : ℕ) → 1 ≤ j → ends_in s h j (w j) ≡ none

  pub flush_also : (n : ℕ) (h k : History) (w : ℕ → List ℕ) → SameAfter s h k → SameAfter s (flush n h w) (flush n k w)
  unfolding flush
  flush_also zero h k w e = e
  flush_also (suc n) h k w e = also_after s lawful (flush n h w) (flush n k w) (flush_also n h k w e) (lends (suc n) (w (suc n)))

  flush_ends : (n : ℕ) (h : History) (w : ℕ → List ℕ) (j : ℕ) (xs : List ℕ) → n < j → ends_in s (flush n h w) j xs ≡ ends_in s h j xs
  unfolding flush
  flush_ends zero h w j xs l = refl
  flush_ends (suc n) h w j xs l =
      ends_kept s (flush n h w) (lends (suc n) (w (suc n))) j xs (omega arith) (λ e. omega arith) ∙ flush_ends n h w j xs (omega arith)

  pub flush_linked : (n : ℕ) (h : History) (w : ℕ → List ℕ) → Still h w → (i : ℕ)
      → (link_of (after s (flush n h w)).server i).linked ≡ (link_of (after s h).server i).linked
  unfolding flush
  flush_linked zero h w still i = refl
  flush_linked (suc n) h w still i =
      linked_after (flush n h w) (suc n) 0 (w (suc n)) (replicate 258 0)
      (flush_ends n h w (suc n) (w (suc n)) (omega arith) ∙ still (suc n) (omega arith)) i
      ∙ flush_linked n h w still i

  no_bytes : (h : History) (j : ℕ) → ends_in s h j [] ≡ none
  unfolding call
  no_bytes h j = refl

  -- the same after a call for the session whose bytes wait no more
  still_after : (h : History) (w : ℕ → List ℕ) (c : Call) → Still h w → Still (h ▸ c) (waiting_with w (session_in c) [])
  still_after h w c still j one =
      with_each w (session_in c) [] j (λ (xs : List ℕ). ends_in s (h ▸ c) j xs ≡ none) (λ e. no_bytes (h ▸ c) j)
      (λ d. ends_kept s h c j (w j) one (λ e. d (sym e)) ∙ still j one)

  still_with : (h : History) (w : ℕ → List ℕ) (session : ℕ) → Still h w → Still h (waiting_with w session [])
  still_with h w session still j one =
      with_each w session [] j (λ (xs : List ℕ). ends_in s h j xs ≡ none) (λ e. no_bytes h j) (λ d. still j one)

  -- ---- moving a call past them

  -- a call for a session of which none wait
  pub flush_passes : (n : ℕ) (h : History) (w : ℕ → List ℕ) (c : Call) → Still h w → w (session_in c) ≡ []
      → SameAfter s (flush n h w ▸ c) (flush n (h ▸ c) w)
  unfolding flush
  flush_passes zero h w c still e = same_self
  flush_passes (suc n) h w c still e = go (eqb (session_in c) (suc n)) refl (flush_passes n h w c still e)
    where
      go : (t : Bool) → eqb (session_in c) (suc n) ≡ t → SameAfter s (flush n h w ▸ c) (flush n (h ▸ c) w)
          → SameAfter s (flush n h w ▸ lends (suc n) (w (suc n)) ▸ c) (flush n (h ▸ c) w ▸ lends (suc n) (w (suc n)))
      go true q ih =
          subst (λ (xs : List ℕ). SameAfter s (flush n h w ▸ lends (suc n) xs ▸ c) (flush n (h ▸ c) w ▸ lends (suc n) xs))
          (sym (ap w (sym (eqb-true (session_in c) (suc n) q)) ∙ e))
          (also_after s lawful (flush n h w ▸ lends (suc n) []) (flush n h w) (empty_after s lawful (flush n h w) (suc n) 0 (replicate 258 0)) c
          then ih then same_back (empty_after s lawful (flush n (h ▸ c) w) (suc n) 0 (replicate 258 0)))
      go false q ih =
          passed_after s lawful (flush n h w) (suc n) 0 (w (suc n)) (replicate 258 0) c
          (flush_ends n h w (suc n) (w (suc n)) (omega arith) ∙ still (suc n) (omega arith)) (eqb-false (session_in c) (suc n) q)
          then also_after s lawful (flush n h w ▸ c) (flush n (h ▸ c) w) ih (lends (suc n) (w (suc n)))

  -- the bytes of one session first
  pub flush_first : (n : ℕ) (h : History) (w : ℕ → List ℕ) (j : ℕ) → Still h w → 1 ≤ j → j ≤ n
      → SameAfter s (flush n h w) (flush n (h ▸ lends j (w j)) (waiting_with w j []))
  unfolding flush
  flush_first zero h w j still one most = absurd (omega arith)
  flush_first (suc n) h w j still one most = go (eqb (suc n) j) refl (flush_first n h w j still one)
    where
      w' : ℕ → List ℕ
      w' = waiting_with w j []

      go : (t : Bool) → eqb (suc n) j ≡ t → (j ≤ n → SameAfter s (flush n h w) (flush n (h ▸ lends j (w j)) w'))
          → SameAfter s (flush n h w ▸ lends (suc n) (w (suc n))) (flush n (h ▸ lends j (w j)) w' ▸ lends (suc n) (w' (suc n)))
      go true q ih =
          let here : suc n ≡ j = eqb-true (suc n) j q in
          subst (λ (k : ℕ). SameAfter s (flush n h w ▸ lends k (w k)) (flush n (h ▸ lends j (w j)) w' ▸ lends (suc n) (w' (suc n)))) (sym here)
          (subst (λ (g : History). SameAfter s (g ▸ lends j (w j)) (flush n (h ▸ lends j (w j)) w' ▸ lends (suc n) (w' (suc n))))
          (sym (flush_same n h w w' (λ k a b. sym (with_other w j [] k (λ e. omega arith)))))
          (flush_passes n h w' (lends j (w j)) (still_with h w j still) (with_own w j [] j refl)
          then same_back
          (subst (λ (xs : List ℕ). SameAfter s (flush n (h ▸ lends j (w j)) w' ▸ lends (suc n) xs) (flush n (h ▸ lends j (w j)) w'))
          (sym (with_own w j [] (suc n) here)) (empty_after s lawful (flush n (h ▸ lends j (w j)) w') (suc n) 0 (replicate 258 0)))))
      go false q ih =
          let apart = eqb-false (suc n) j q in
          subst
          (λ (xs : List ℕ).
          SameAfter s (flush n h w ▸ lends (suc n) (w (suc n))) (flush n (h ▸ lends j (w j)) w' ▸ lends (suc n) xs))
          (sym (with_other w j [] (suc n) apart))
          (also_after s lawful (flush n h w) (flush n (h ▸ lends j (w j)) w') (ih (omega arith)) (lends (suc n) (w (suc n))))

  -- a call behind them all: before it the bytes of its session alone
  pub flush_call : (n : ℕ) (h : History) (w : ℕ → List ℕ) (c : Call) → Still h w → 1 ≤ session_in c → session_in c ≤ n
      → SameAfter s (flush n h w ▸ c) (flush n (h ▸ lends (session_in c) (w (session_in c)) ▸ c) (waiting_with w (session_in c) []))
  flush_call n h w c still one most =
      let j = session_in c in
      also_after s lawful (flush n h w) (flush n (h ▸ lends j (w j)) (waiting_with w j [])) (flush_first n h w j still one most) c
      then flush_passes n (h ▸ lends j (w j)) (waiting_with w j []) c (still_after h w (lends j (w j)) still) (with_own w j [] j refl)
