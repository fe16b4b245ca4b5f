-- A file stands in the list of a SELECT exactly when it matches and fewer than MAXSEL older complete files do.
use mathlib.Core.Path.{◌≡◌, refl, sym, ap, ◌∙◌, subst}
use mathlib.Core.Bool.{Bool, true, false, ◌&&◌, cond}
use mathlib.Core.List.Memᴰ
use mathlib.Core.List.{List, [], ◌∷◌, ◌++◌, Memᴰ}
use mathlib.Core.Logic.{⊎_elim}
use Prim.Native.Nat.{ℕ, zero, suc, ◌-◌, ◌/◌, ◌≤◌, ◌<◌}
use native.Mathlib.Omega.{arith}
use lib.Dec.{ltb, leb}
use lib.ListN.{length, get_or, take, drop, replicate, length-map}
use lib.Seq.{take_at}
use borrow.Author.Tests.{lt-ltb, le-ltb, le-leb, leb-true, eq-eqb}
use Rattle.equation.specs.Answer.{answer_of, selects, validity_of}
use Rattle.equation.specs.Answer as equation
use Rattle.std.proofs.Common.{Result, Ok, Err, Some}
use Rattle.stored.specs.Answers.{truth_at}
use Rattle.table.specs.declared.File.{File}
use Rattle.table.specs.declared.Key.TheVariants.{Time}
use Rattle.table.specs.Table.{files, numbers, times, find_of}
use Rattle.table.specs.Order.{in_order, Rising}
use Rattle.table.specs.Fit.{Distinct}
use Rattle.table.proofs.Records.{key_at}
use Rattle.table.proofs.Finding.{find_found, find_own}
use Rattle.table.proofs.Ordering.{rising_above, in_order_rises, in_order_above, in_order_all}
use Rattle.files.specs.View.{record_at}
use Rattle.files.specs.Selection.{meets_at, passing, numbers_at, chosen, select_number, select_of, listed}
use Rattle.files.specs.Selection as selection
use Rattle.files.proofs.Selected.{passing_in, in_passing}
use Rattle.why.specs.Sizes.{Store}
use Rattle.reasons.specs.Promised.{In, list_of}
use Rattle.why.specs.Answer.{items_at, time_at, older_test, older_of}
use Rattle.why.proofs.Older.{passing_none, place_in}

and_false : (a : Bool) → a && false ≡ false
and_false true = refl
and_false false = refl

-- the same test on a list's places
passing_same : (s t : ℕ → Bool) (ps : List ℕ) → ((p : ℕ) → Memᴰ p ps → s p ≡ t p) → passing s ps ≡ passing t ps
unfolding passing
passing_same s t [] h = refl
passing_same s t (p ∷ ps) h = rw (h p (Memᴰ.head refl), passing_same s t ps (λ q m. h q (Memᴰ.tail m)))

-- ---- in a list in order of time

module _ (ts : List ℕ) (test : ℕ → Bool) (p : ℕ) where
  abbrev older : ℕ → Bool
  older q = ltb (get_or ts q 0) (get_or ts p 0) && test q

  older_none : (after : ℕ) (ps : List ℕ) → Rising after ts ps → get_or ts p 0 ≤ after → length (passing older ps) ≡ 0
  unfolding passing
  older_none after ps r h =
      ap length (passing_none older ps (λ q m. rw (le-ltb (get_or ts q 0) (get_or ts p 0) (let k = rising_above ts after ps q r m in omega arith))))

  one_more : (q : ℕ) (ps : List ℕ) → length (passing older (q ∷ ps)) ≤ suc (length (passing older ps))
  unfolding passing
  one_more q ps = go (older q)
    where
      go : (t : Bool) → length (cond t (q ∷ passing older ps) (passing older ps)) ≤ suc (length (passing older ps))
      go true = omega arith
      go false = omega arith

  -- this place is among the first n that pass: fewer than n older ones pass
  pub listed_in : (after n : ℕ) (ps : List ℕ) → Rising after ts ps → Memᴰ p (take n (passing test ps)) → length (passing older ps) < n
  unfolding passing
  listed_in after zero ps r m = absurd (Memᴰ.not-nil m)
  listed_in after (suc n) [] r m = omega arith
  listed_in after (suc n) (q ∷ ps) r m =
      go (test q) refl m (listed_in (get_or ts q 0) n ps r.1) (listed_in (get_or ts q 0) (suc n) ps r.1)
    where
      first : p ≡ q → length (passing older (q ∷ ps)) ≡ 0
      first e =
          let k = ap (λ (y : ℕ). get_or ts y 0) e in
          rw (le-ltb (get_or ts q 0) (get_or ts p 0) (omega arith)) (older_none (get_or ts q 0) ps r.1 (omega arith))

      go : (t : Bool) → test q ≡ t → Memᴰ p (take (suc n) (cond t (q ∷ passing test ps) (passing test ps)))
          → (Memᴰ p (take n (passing test ps)) → length (passing older ps) < n)
          → (Memᴰ p (take (suc n) (passing test ps)) → length (passing older ps) < suc n)
          → length (passing older (q ∷ ps)) < suc n
      go true e m ih ih' =
          ⊎_elim (λ (d : p ≡ q). let k = first d in omega arith) (λ (k : Memᴰ p (take n (passing test ps))). omega (arith, ih k, one_more q ps))
          (Memᴰ.cases_cons m)
      go false e m ih ih' = rw (e, and_false (ltb (get_or ts q 0) (get_or ts p 0))) (ih' m)

  pub listed_back : (after n : ℕ) (ps : List ℕ) → Rising after ts ps → Memᴰ p (passing test ps) → length (passing older ps) < n
      → Memᴰ p (take n (passing test ps))
  unfolding passing
  listed_back after zero ps r m h = absurd (omega arith)
  listed_back after (suc n) [] r m h = m
  listed_back after (suc n) (q ∷ ps) r m h =
      go (test q) refl m h (listed_back (get_or ts q 0) n ps r.1) (listed_back (get_or ts q 0) (suc n) ps r.1)
    where
      go : (t : Bool) → test q ≡ t → Memᴰ p (cond t (q ∷ passing test ps) (passing test ps))
          → length (cond (ltb (get_or ts q 0) (get_or ts p 0) && test q) (q ∷ passing older ps) (passing older ps)) < suc n
          → (Memᴰ p (passing test ps) → length (passing older ps) < n → Memᴰ p (take n (passing test ps)))
          → (Memᴰ p (passing test ps) → length (passing older ps) < suc n → Memᴰ p (take (suc n) (passing test ps)))
          → Memᴰ p (take (suc n) (cond t (q ∷ passing test ps) (passing test ps)))
      go true e m h ih ih' =
          ⊎_elim (λ (d : p ≡ q). Memᴰ.head d)
          (λ (k : Memᴰ p (passing test ps)).
          let b = rising_above ts (get_or ts q 0) ps p r.1 (passing_in test p ps k).0 in
          let c : suc (length (passing older ps)) < suc n = rw (e, lt-ltb (get_or ts q 0) (get_or ts p 0) b) at h in
          Memᴰ.tail (ih k (omega arith)))
          (Memᴰ.cases_cons m)
      go false e m h ih ih' = ih' m (rw (e, and_false (ltb (get_or ts q 0) (get_or ts p 0))) at h)

-- ---- SELECT's list

-- both layers' test of an answer
yes_same : (r : Result Bool ℕ) → selection.is_yes r ≡ equation.is_yes r
unfolding selection.is_yes equation.is_yes
yes_same (Ok b) = refl
yes_same (Err n) = refl

module _ (eq disk owner table : List ℕ) (store : Store disk owner) (few : length table / 4 ≤ 256) (short : length eq ≤ 256) where
  abbrev matches : ℕ → Bool
  matches p = selects eq (items_at disk owner table p)

  abbrev fs : List File
  fs = files table

  meets_same : (p : ℕ) → p < 256 → meets_at eq disk owner table p ≡ matches p
  unfolding truth_at
  meets_same p h =
      yes_same (truth_at eq disk owner p (record_at table p).received)
      ∙ rw (
        le-leb (length eq) 256 short,
        le-leb 1 (length owner) store.some,
        le-leb (length owner) 4096 store.most,
        le-leb _ (length disk) store.bytes,
        lt-ltb p 256 h,
      )

  in_table : (p : ℕ) → Memᴰ p (in_order 0 fs) → p < 256
  in_table p m = place_in table p (λ z. let k = in_order_above 0 fs p m in omega arith) few

  chosen_is : (most : ℕ) → chosen most eq disk owner table ≡ take most (passing matches (in_order 0 fs))
  chosen_is most =
      ap (take most) (passing_same (meets_at eq disk owner table) matches (in_order 0 fs) (λ q m. meets_same q (in_table q m)))

  module _ (dt : Distinct (times fs)) (p : ℕ) where
    older_is : length (passing (older (times fs) matches p) (in_order 0 fs)) ≡ older_of eq disk owner table (time_at table p)
    older_is =
        ap length (passing_same (older (times fs) matches p) (older_test eq disk owner table (time_at table p)) (in_order 0 fs)
        (λ q m. rw (key_at Time fs q, key_at Time fs p)))

    pub chosen_in : (most : ℕ) → Memᴰ p (chosen most eq disk owner table)
        → (matches p ≡ true) × (older_of eq disk owner table (time_at table p) < most)
    chosen_in most m =
        let k = rw (chosen_is most) at m in
        let a = listed_in (times fs) matches p 0 most (in_order 0 fs) (in_order_rises 0 fs) k in
        ((passing_in matches p (in_order 0 fs) (taken most (passing matches (in_order 0 fs)) k)).1, omega (arith, older_is))
      where
        taken : (n : ℕ) (ps : List ℕ) → Memᴰ p (take n ps) → Memᴰ p ps
        taken zero ps m = absurd (Memᴰ.not-nil m)
        taken (suc n) [] m = m
        taken (suc n) (x ∷ ps) m =
            ⊎_elim (λ (e : p ≡ x). Memᴰ.head e) (λ (k : Memᴰ p (take n ps)). Memᴰ.tail (taken n ps k)) (Memᴰ.cases_cons m)

    pub chosen_back : (most : ℕ) → 0 < time_at table p → matches p ≡ true → older_of eq disk owner table (time_at table p) < most
        → Memᴰ p (chosen most eq disk owner table)
    chosen_back most h e l =
        rw (chosen_is most)
        (listed_back (times fs) matches p 0 most (in_order 0 fs) (in_order_rises 0 fs) (in_passing matches p (in_order 0 fs) (in_order_all 0 fs dt p h) e)
        (omega (arith, older_is)))

-- ---- by number

record Holds (table : List ℕ) (ps : List ℕ) (number : ℕ) : Type 0 where
  place : ℕ
  member : Memᴰ place ps
  is : number ≡ (record_at table place).number

holds_in : (table ps : List ℕ) (number : ℕ) → In number (numbers_at table ps) → Holds table ps number
holds_in table [] number m = absurd (Memᴰ.not-nil m)
holds_in table (p ∷ ps) number (Memᴰ.head e) = record { place = p; member = Memᴰ.head refl; is = e }
holds_in table (p ∷ ps) number (Memᴰ.tail m) =
    let i = holds_in table ps number m in record { place = i.place; member = Memᴰ.tail i.member; is = i.is }

pub number_back : (table ps : List ℕ) (p : ℕ) → Memᴰ p ps → In (record_at table p).number (numbers_at table ps)
number_back table [] p x' = elim x' [ ]
number_back table (q ∷ ps) p (Memᴰ.head e) = Memᴰ.head (ap (λ (x : ℕ). (record_at table x).number) e)
number_back table (q ∷ ps) p (Memᴰ.tail m) = Memᴰ.tail (number_back table ps p m)

-- the place of a number that stands in the list
pub number_in : (table ps : List ℕ) (number p : ℕ) → Distinct (numbers (files table)) → find_of (files table) number ≡ Some p → In number (numbers_at table ps)
    → Memᴰ p ps
number_in table ps number p d f m =
    let i = holds_in table ps number m in
    let n = (find_found (files table) number p f).0 in
    let g : find_of (files table) number ≡ Some i.place =
    ap (find_of (files table)) i.is ∙ find_own (files table) d i.place (λ z. n (i.is ∙ z)) in
    subst (λ (q : ℕ). Memᴰ q ps) (same i.place p (sym g ∙ f)) i.member
  where
    same : (a b : ℕ) → Some a ≡ Some b → a ≡ b
    same a b e = cc

both_right : (a b : Bool) → a && b ≡ true → b ≡ true
both_right true b e = e
both_right false b e = absurd (let z : ◌≡◌ {A = ℕ} 0 1 = cc in omega arith)

-- a selection that is not refused has an equation of at most 256 bytes
pub select_short : (eq : List ℕ) (n most : ℕ) → select_number eq n most ≡ 0 → length eq ≤ 256
unfolding select_number
select_short eq n most e = go (leb 1 most && (leb most 50 && (leb most n && leb (length eq) 256))) refl e
  where
    go : (t : Bool) → leb 1 most && (leb most 50 && (leb most n && leb (length eq) 256)) ≡ t → ◌≡◌ {A = ℕ} (cond t (validity_of eq) 33) 0 → length eq ≤ 256
    go true q e = leb-true (length eq) 256 (both_right (leb most n) _ (both_right (leb most 50) _ (both_right (leb 1 most) _ q)))
    go false q e = absurd (omega arith)

pub list_is : (eq disk owner table selected : List ℕ) (most : ℕ) → select_number eq (length selected) most ≡ 0
    → list_of eq disk owner table selected most ≡ numbers_at table (chosen most eq disk owner table)
unfolding select_of
list_is eq disk owner table selected most e =
    rw (eq-eqb (select_number eq (length selected) most) 0 e)
    (take_at (numbers_at table (chosen most eq disk owner table))
    (replicate (most - length (numbers_at table (chosen most eq disk owner table))) 0 ++ drop most selected) (length (chosen most eq disk owner table))
    (length-map (chosen most eq disk owner table) (λ place. (record_at table place).number)))
