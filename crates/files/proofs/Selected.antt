-- What stands in a selection: complete files that the equation matches, oldest first, each once, and all of them where it is not full.
use mathlib.Core.Path.{◌≡◌, refl, sym, ap, ◌∙◌, subst}
use mathlib.Core.Bool.{Bool, true, false, cond}
use mathlib.Core.List.Memᴰ
use mathlib.Core.List.{List, [], ◌∷◌, Memᴰ}
use mathlib.Core.Logic.{◌⊎◌, inl, inr, ⊎_elim}
use native.Mathlib.Nat.{zero-add}
use Prim.Native.Nat.{ℕ, zero, suc, ◌+◌, ◌≤◌, ◌<◌}
use native.Mathlib.Omega.{arith}
use lib.ListN.{length, take, get_or, get_or-map}
use lib.Dec.{eqb, leb}
use borrow.Author.Tests.{eqb-true, ne_eqb, le-leb}
use Rattle.equation.specs.Answer.{answer_of}
use Rattle.std.proofs.Common.{Err}
use Rattle.stored.specs.Answers.{truth_at}
use Rattle.table.specs.declared.File.{File}
use Rattle.table.specs.Table.{no_file, files, uploaded, numbers, times}
use Rattle.table.specs.Order.{in_order, Rising}
use Rattle.table.specs.Fit.{Distinct}
use Rattle.table.proofs.Ordering.{rising_above, in_order_rises, in_order_above, in_order_all, occurs}
use Rattle.files.specs.View.{record_at, bytes_at}
use Rattle.files.specs.Sound.{Sound, Sizes}
use Rattle.files.specs.Selection.{is_yes, meets_at, passing, numbers_at, chosen}
use Rattle.files.proofs.Choice.{chosen_most}
use Rattle.files.proofs.Soundness.{disk_is, place_most}

-- ---- those that pass a test

module _ (test : ℕ → Bool) (p : ℕ) where
  pub passing_in : (ps : List ℕ) → Memᴰ p (passing test ps) → Memᴰ p ps × (test p ≡ true)
  unfolding passing
  passing_in [] m = absurd (Memᴰ.not-nil m)
  passing_in (q ∷ ps) m = go (test q) refl m (passing_in ps)
    where
      go : (t : Bool) → test q ≡ t → Memᴰ p (cond t (q ∷ passing test ps) (passing test ps))
          → (Memᴰ p (passing test ps) → Memᴰ p ps × (test p ≡ true)) → Memᴰ p (q ∷ ps) × (test p ≡ true)
      go true e m ih =
          ⊎_elim (λ (d : p ≡ q). (Memᴰ.head d, ap test d ∙ e)) (λ (n : Memᴰ p (passing test ps)). (Memᴰ.tail (ih n).0, (ih n).1)) (Memᴰ.cases_cons m)
      go false e m ih = (Memᴰ.tail (ih m).0, (ih m).1)

  pub in_passing : (ps : List ℕ) → Memᴰ p ps → test p ≡ true → Memᴰ p (passing test ps)
  unfolding passing
  in_passing [] m e = absurd (Memᴰ.not-nil m)
  in_passing (q ∷ ps) m e = go (test q) refl (Memᴰ.cases_cons m) (λ n. in_passing ps n e)
    where
      go : (t : Bool) → test q ≡ t → (p ≡ q) ⊎ Memᴰ p ps → (Memᴰ p ps → Memᴰ p (passing test ps))
          → Memᴰ p (cond t (q ∷ passing test ps) (passing test ps))
      go true d (inl h) ih = Memᴰ.head h
      go true d (inr n) ih = Memᴰ.tail (ih n)
      go false d (inl h) ih = absurd (let x : true ≡ false = sym e ∙ ap test h ∙ d in let z : ◌≡◌ {A = ℕ} 0 1 = cc in omega arith)
      go false d (inr n) ih = ih n

-- ---- in order of upload time

module _ (ts : List ℕ) where
  rising_lower : (a b : ℕ) (ps : List ℕ) → a ≤ b → Rising b ts ps → Rising a ts ps
  rising_lower a b [] h r = r
  rising_lower a b (p ∷ ps) h r = (omega (arith, r.0), r.1)

  pub passing_rises : (test : ℕ → Bool) (from : ℕ) (ps : List ℕ) → Rising from ts ps → Rising from ts (passing test ps)
  unfolding passing
  passing_rises test from [] r = r
  passing_rises test from (p ∷ ps) r = go (test p) (passing_rises test (get_or ts p 0) ps r.1)
    where
      go : (t : Bool) → Rising (get_or ts p 0) ts (passing test ps) → Rising from ts (cond t (p ∷ passing test ps) (passing test ps))
      go true ih = (r.0, ih)
      go false ih = rising_lower from (get_or ts p 0) (passing test ps) (omega (arith, r.0)) ih

  pub take_rises : (n from : ℕ) (ps : List ℕ) → Rising from ts ps → Rising from ts (take n ps)
  take_rises zero from ps r = tt
  take_rises (suc n) from [] r = r
  take_rises (suc n) from (p ∷ ps) r = (r.0, take_rises n (get_or ts p 0) ps r.1)

  -- the list is full, and each place in it has an earlier upload time than this one
  pub record Later (n : ℕ) (ps : List ℕ) (p : ℕ) : Type 0 where
    pub full : length (take n ps) ≡ n
    pub newer : (q : ℕ) → Memᴰ q (take n ps) → get_or ts q 0 < get_or ts p 0

  pub taken_or_later : (n from : ℕ) (ps : List ℕ) (p : ℕ) → Rising from ts ps → Memᴰ p ps → Memᴰ p (take n ps) ⊎ Later n ps p
  taken_or_later zero from ps p r m = inr (record { full = refl; newer = λ q k. absurd (Memᴰ.not-nil k) })
  taken_or_later (suc n) from [] p r m = absurd (Memᴰ.not-nil m)
  taken_or_later (suc n) from (x ∷ ps) p r m =
      ⊎_elim (λ (e : p ≡ x). inl (Memᴰ.head e)) (λ (k : Memᴰ p ps). go k (taken_or_later n (get_or ts x 0) ps p r.1 k)) (Memᴰ.cases_cons m)
    where
      go : Memᴰ p ps → Memᴰ p (take n ps) ⊎ Later n ps p → Memᴰ p (take (suc n) (x ∷ ps)) ⊎ Later (suc n) (x ∷ ps) p
      go k (inl t) = inl (Memᴰ.tail t)
      go k (inr l) =
          inr (record {
            full = ap suc l.full;
            newer = λ q t.
                ⊎_elim (λ (e : q ≡ x). subst (λ (y : ℕ). get_or ts y 0 < get_or ts p 0) (sym e) (rising_above ts (get_or ts x 0) ps p r.1 k))
                (λ (u : Memᴰ q (take n ps)). l.newer q u) (Memᴰ.cases_cons t);
          })

take_in : (n : ℕ) (ps : List ℕ) (p : ℕ) → Memᴰ p (take n ps) → Memᴰ p ps
take_in zero ps p m = absurd (Memᴰ.not-nil m)
take_in (suc n) [] p m = m
take_in (suc n) (x ∷ ps) p m =
    ⊎_elim (λ (e : p ≡ x). Memᴰ.head e) (λ (k : Memᴰ p (take n ps)). Memᴰ.tail (take_in n ps p k)) (Memᴰ.cases_cons m)

-- ---- each number once

module _ (table : List ℕ) (d : Distinct (numbers (files table))) where
  number_of : (p : ℕ) → get_or (numbers (files table)) p 0 ≡ (record_at table p).number
  number_of p = get_or-map (λ (f : File). f.number) (files table) p no_file

  absent : (n : ℕ) (ps : List ℕ) → ((p : ℕ) → Memᴰ p ps → (record_at table p).number ≡ n → ⊥) → occurs n (numbers_at table ps) ≡ 0
  unfolding occurs
  absent n [] h = refl
  absent n (p ∷ ps) h = rw (ne_eqb (record_at table p).number n (h p (Memᴰ.head refl))) (zero-add (occurs n (numbers_at table ps)) ∙ absent n ps (λ q m. h q (Memᴰ.tail m)))

  pub once : (n from : ℕ) (ps : List ℕ) → (n ≡ 0 → ⊥) → Rising from (times (files table)) ps → occurs n (numbers_at table ps) ≤ 1
  unfolding occurs
  once n from [] z r = omega arith
  once n from (p ∷ ps) z r = go (eqb (record_at table p).number n) refl (once n (get_or (times (files table)) p 0) ps z r.1)
    where
      same : (q : ℕ) → (record_at table p).number ≡ n → (record_at table q).number ≡ n → p ≡ q
      same q e f = d p q (λ y. z (sym e ∙ sym (number_of p) ∙ y)) (number_of p ∙ e ∙ sym f ∙ sym (number_of q))

      go : (t : Bool) → eqb (record_at table p).number n ≡ t → occurs n (numbers_at table ps) ≤ 1 → cond t 1 0 + occurs n (numbers_at table ps) ≤ 1
      go true e ih =
          let k = eqb-true (record_at table p).number n e in
          let a = absent n ps (λ q m f.
          let b = rising_above (times (files table)) (get_or (times (files table)) p 0) ps q r.1 m in
          let c = ap (λ (y : ℕ). get_or (times (files table)) y 0) (same q k f) in
          omega arith) in
          omega arith
      go false e ih = omega arith

-- ---- the selection

pub record Selected (most : ℕ) (eq disk owner table : List ℕ) : Type 0 where
  pub few : length (chosen most eq disk owner table) ≤ most
  pub complete : (p : ℕ) → Memᴰ p (chosen most eq disk owner table) → 0 < uploaded (record_at table p)
  pub matching : (p : ℕ) → Memᴰ p (chosen most eq disk owner table) → meets_at eq disk owner table p ≡ true
  pub oldest_first_law : Rising 0 (times (files table)) (chosen most eq disk owner table)
  -- a matching complete file that is not selected is newer than all that are, and they are as many as can be
  pub all : (p : ℕ) → 0 < uploaded (record_at table p) → meets_at eq disk owner table p ≡ true
      → Memᴰ p (chosen most eq disk owner table) ⊎ Later (times (files table)) most (passing (meets_at eq disk owner table) (in_order 0 (files table))) p
  pub whole : length (chosen most eq disk owner table) < most → (p : ℕ) → 0 < uploaded (record_at table p) → meets_at eq disk owner table p ≡ true
      → Memᴰ p (chosen most eq disk owner table)
  pub numbers_once : (n : ℕ) → (n ≡ 0 → ⊥) → occurs n (numbers_at table (chosen most eq disk owner table)) ≤ 1

module _ (most : ℕ) (eq disk owner table : List ℕ) (dn : Distinct (numbers (files table))) (dt : Distinct (times (files table))) where
  rises : Rising 0 (times (files table)) (passing (meets_at eq disk owner table) (in_order 0 (files table)))
  rises = passing_rises (times (files table)) (meets_at eq disk owner table) 0 (in_order 0 (files table)) (in_order_rises 0 (files table))

  inside : (p : ℕ) → Memᴰ p (chosen most eq disk owner table) → Memᴰ p (in_order 0 (files table)) × (meets_at eq disk owner table p ≡ true)
  inside p m =
      passing_in (meets_at eq disk owner table) p (in_order 0 (files table))
      (take_in most (passing (meets_at eq disk owner table) (in_order 0 (files table))) p m)

  found : (p : ℕ) → 0 < uploaded (record_at table p) → meets_at eq disk owner table p ≡ true
      → Memᴰ p (chosen most eq disk owner table) ⊎ Later (times (files table)) most (passing (meets_at eq disk owner table) (in_order 0 (files table))) p
  found p h e =
      taken_or_later (times (files table)) most 0 (passing (meets_at eq disk owner table) (in_order 0 (files table))) p rises
      (in_passing (meets_at eq disk owner table) p (in_order 0 (files table)) (in_order_all 0 (files table) dt p h) e)

  pub selected : Selected most eq disk owner table
  selected =
      let r = take_rises (times (files table)) most 0 (passing (meets_at eq disk owner table) (in_order 0 (files table))) rises in
      record {
        few = chosen_most eq disk owner table [] most;
        complete = λ p m. in_order_above 0 (files table) p (inside p m).0;
        matching = λ p m. (inside p m).1;
        oldest_first_law = r;
        all = found;
        whole = λ h p c e. ⊎_elim (λ m. m) (λ l. absurd (omega (arith, l.full))) (found p c e);
        numbers_once = λ n z. once table dn n 0 (chosen most eq disk owner table) z r;
      }

-- on a sound store the numbers and the times are distinct
pub selected_sound : (map : List ℕ) (most : ℕ) (eq disk owner table : List ℕ) (last latest : ℕ) → Sound map owner table last latest → Selected most eq disk owner table
selected_sound map most eq disk owner table last latest s = selected most eq disk owner table s.files.numbers s.files.times

-- a file of a sound store is matched by its bytes alone
pub meets_is : (map eq disk owner table : List ℕ) (last latest : ℕ) → Sound map owner table last latest → Sizes disk owner → length eq ≤ 256 → (p : ℕ)
    → ((record_at table p).number ≡ 0 → ⊥) → meets_at eq disk owner table p ≡ is_yes (answer_of eq (bytes_at disk owner table p))
unfolding truth_at
meets_is map eq disk owner table last latest s z h p n =
    ap (λ (t : Bool). is_yes (cond (leb (length eq) 256) (cond t (answer_of eq (bytes_at disk owner table p)) (Err 33)) (Err 33)))
    (disk_is disk owner z p (place_most map owner table last latest s p n))
    ∙ ap (λ (t : Bool). is_yes (cond t (answer_of eq (bytes_at disk owner table p)) (Err 33))) (le-leb (length eq) 256 h)
