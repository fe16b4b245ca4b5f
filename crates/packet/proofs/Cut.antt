-- However the bytes of a link are cut, the events and the state are the same: one proof for every device that is a machine
-- (specs/Machine.antt). Assumes nothing.
use mathlib.Core.Path.{◌≡◌, refl, sym, ap, ◌∙◌}
use mathlib.Core.List.{List, [], ◌∷◌, ◌++◌, flatten}
use mathlib.Core.Option.{none, some}
use Prim.Native.Nat.{ℕ, zero, suc, ◌+◌, ◌≤◌}
use native.Mathlib.Nat.{zero-add}
use native.Mathlib.Omega.{arith}
use lib.ListN.{length, drop, length-drop}
use Rattle.packet.specs.Machine.{Step, more, ends, Call, also, stepped, further, called, events_of, run, runs, call, calls}

module _ {S E : Type 0} (byte : S → ℕ → Step S E) where
  -- ---- all the bytes

  -- THEOREM: bytes cut in two
  pub cut : (a b : List ℕ) (s : S) → run byte s (a ++ b) ≡ also (run byte s a).events (run byte (run byte s a).state b)
  unfolding run
  cut [] b s = refl
  cut (x ∷ a) b s = go (byte s x) (cut a b)
    where
      go : (f : Step S E)
          → ((t : S) → run byte t (a ++ b) ≡ also (run byte t a).events (run byte (run byte t a).state b))
          → stepped f (λ t. run byte t (a ++ b))
          ≡ also (stepped f (λ t. run byte t a)).events (run byte (stepped f (λ t. run byte t a)).state b)
      go (more t) ih = unfold stepped in ih t
      go (ends t e) ih = unfold stepped in rw (ih t)

  -- THEOREM: bytes cut into any number of pieces
  pub cuts : (ps : List (List ℕ)) (s : S) → runs byte s ps ≡ run byte s (flatten ps)
  unfolding runs flatten
  cuts [] s = unfold run in refl
  cuts (p ∷ ps) s = ap (also (run byte s p).events) (cuts ps (run byte s p).state) ∙ sym (cut p (flatten ps) s)

  -- THEOREM: two ways to cut the same bytes
  pub cut_elsewhere : (ps qs : List (List ℕ)) (s : S) → flatten ps ≡ flatten qs → runs byte s ps ≡ runs byte s qs
  cut_elsewhere ps qs s e = cuts ps s ∙ ap (run byte s) e ∙ sym (cuts qs s)

  -- ---- one call, which takes bytes up to the first event

  -- by the first byte
  pub step_more : (s t : S) (b : ℕ) (bs : List ℕ) → byte s b ≡ more t → call byte s (b ∷ bs) ≡ further 1 (call byte t bs)
  unfolding call called
  step_more s t b bs e = rw e

  pub step_ends : (s t : S) (b : ℕ) (bs : List ℕ) (v : E) → byte s b ≡ ends t v → call byte s (b ∷ bs) ≡ record { taken = 1; state = t; event = some v }
  unfolding call called
  step_ends s t b bs v e = rw e

  further_zero : (c : Call S E) → c ≡ further 0 c
  further_zero c = simp zero-add

  further_suc : (n : ℕ) (c : Call S E) → further 1 (further n c) ≡ further (suc n) c
  further_suc n c = let e : 1 + (n + c.taken) ≡ suc n + c.taken = omega arith in rw e

  -- THEOREM: where the first piece ends nothing, calling with it and then with the second is calling with both
  pub call_cut : (a b : List ℕ) (s : S)
      → (call byte s a).event ≡ none
      → call byte s (a ++ b) ≡ further (length a) (call byte (call byte s a).state b)
  unfolding call
  call_cut [] b s e = further_zero (call byte s b)
  call_cut (x ∷ a) b s e = go (byte s x) (call_cut a b) e
    where
      go : (f : Step S E)
          → ((t : S) → (call byte t a).event ≡ none → call byte t (a ++ b) ≡ further (length a) (call byte (call byte t a).state b))
          → (called f (λ t. call byte t a)).event ≡ none
          → called f (λ t. call byte t (a ++ b)) ≡ further (suc (length a)) (call byte (called f (λ t. call byte t a)).state b)
      go (more t) ih e = unfold called in rw (ih t (unfold called in e)) (further_suc (length a) (call byte (call byte t a).state b))
      go (ends t v) ih e = unfold called in absurd (clash v (unfold called in e))
        where
          clash : (v : E) → some v ≡ none → ⊥
          clash v e = let z : ◌≡◌ {A = ℕ} 0 1 = cc in omega arith

  -- THEOREM: where the first piece ends something, what stands behind it is not looked at
  pub call_end : (a b : List ℕ) (s : S) (v : E) → (call byte s a).event ≡ some v → call byte s (a ++ b) ≡ call byte s a
  unfolding call
  call_end [] b s v e = absurd (clash v e)
    where
      clash : (v : E) → none ≡ some v → ⊥
      clash v e = let z : ◌≡◌ {A = ℕ} 0 1 = cc in omega arith
  call_end (x ∷ a) b s v e = go (byte s x) (call_end a b) e
    where
      go : (f : Step S E)
          → ((t : S) (v : E) → (call byte t a).event ≡ some v → call byte t (a ++ b) ≡ call byte t a)
          → (called f (λ t. call byte t a)).event ≡ some v
          → called f (λ t. call byte t (a ++ b)) ≡ called f (λ t. call byte t a)
      go (more t) ih e = unfold called in ap (further 1) (ih t v (unfold called in e))
      go (ends t w) ih e = unfold called in refl

  -- ---- calls one after the other

  record Agrees (s : S) (bs : List ℕ) (c : Call S E) : Type 0 where
    within : c.taken ≤ length bs
    some_taken : (b : ℕ) (cs : List ℕ) → bs ≡ b ∷ cs → 1 ≤ c.taken
    same : run byte s bs ≡ also (events_of c.event) (run byte c.state (drop c.taken bs))

  nil_cons : (b : ℕ) (cs : List ℕ) → Path (List ℕ) [] (b ∷ cs) → ⊥
  nil_cons b cs e = let z : ◌≡◌ {A = ℕ} 0 1 = cc in omega arith

  one_more : (n : ℕ) (b : ℕ) (bs : List ℕ) → drop (1 + n) (b ∷ bs) ≡ drop n bs
  one_more n b bs = let e : 1 + n ≡ suc n = omega arith in rw e

  agrees : (bs : List ℕ) (s : S) → Agrees s bs (call byte s bs)
  unfolding call
  agrees [] s = record { within = omega arith; some_taken = λ b cs e. absurd (nil_cons b cs e); same = unfold events_of in refl }
  agrees (b ∷ bs) s = go (byte s b) refl (agrees bs)
    where
      go : (f : Step S E) → byte s b ≡ f → ((t : S) → Agrees t bs (call byte t bs)) → Agrees s (b ∷ bs) (called f (λ t. call byte t bs))
      go (more t) e ih =
          unfold called in
          record {
            within = omega (arith, (ih t).within);
            some_taken = λ _ _ _. omega arith;
            same = unfold run in rw (e, one_more (call byte t bs).taken b bs) (unfold stepped in (ih t).same);
          }
      go (ends t v) e ih =
          unfold called in
          record {
            within = omega arith;
            some_taken = λ _ _ _. omega arith;
            same = unfold run in rw e (unfold stepped events_of in refl);
          }

  -- THEOREM: whoever calls until no byte is left has all events and the last state
  pub called_out : (k : ℕ) (bs : List ℕ) (s : S) → length bs ≤ k → calls byte k s bs ≡ run byte s bs
  unfolding calls
  called_out zero [] s h = unfold run in refl
  called_out zero (b ∷ bs) s h = absurd (omega arith)
  called_out (suc k) [] s h = unfold run in refl
  called_out (suc k) (b ∷ bs) s h = go (call byte s (b ∷ bs)) (agrees (b ∷ bs) s) (called_out k)
    where
      go : (c : Call S E)
          → Agrees s (b ∷ bs) c
          → ((bs : List ℕ) (s : S) → length bs ≤ k → calls byte k s bs ≡ run byte s bs)
          → also (events_of c.event) (calls byte k c.state (drop c.taken (b ∷ bs))) ≡ run byte s (b ∷ bs)
      go c a ih =
          ap (also (events_of c.event))
          (ih (drop c.taken (b ∷ bs)) c.state (simp length-drop (omega (arith, a.some_taken b bs refl))))
          ∙ sym a.same
