-- The tests of the table are true exactly where the facts hold, and each change of the store keeps the facts.
use mathlib.Core.Path.{◌≡◌, refl, sym, ap, ◌∙◌, subst}
use mathlib.Core.Bool.{Bool, true, false, cond, ◌&&◌}
use mathlib.Core.List.{List, [], ◌∷◌}
use Prim.Native.Nat.{ℕ, zero, suc, ◌+◌, ◌≤◌, ◌<◌}
use native.Mathlib.Omega.{arith}
use native.Mathlib.Numerals.{add-one}
use lib.ListN.{length, get_or, drop, drop_of_length-le}
use lib.Seq.{drop-cons, get_or-drop}
use lib.Dec.{eqb, leb}
use borrow.Author.Tests.{eqb-true, eqb-false, eq-eqb, ne_eqb, leb-true, le-leb, lt-leb}
use Rattle.table.specs.declared.File.{File}
use Rattle.table.specs.declared.Key.{Key}
use Rattle.table.specs.declared.Key.TheVariants.{Number, Time}
use Rattle.table.specs.Table.{no_file, file_at, keys, numbers, times}
use Rattle.table.specs.Given.{blocks_for}
use Rattle.table.specs.Fit.{file_fits, record_fits, records_fit_from, records_fit, same, among, apart, distinct_of, FileFits, Fits, Distinct, Sound}
use Rattle.table.proofs.Finding.{by_equal, within}

-- both parts of a test
both_left : (a b : Bool) → a && b ≡ true → a ≡ true
both_left true b e = refl
both_left false b e = e

both_right : (a b : Bool) → a && b ≡ true → b ≡ true
both_right true b e = e
both_right false b e = absurd (let z : ◌≡◌ {A = ℕ} 0 1 = cc in omega arith)

both : (a b : Bool) → a ≡ true → b ≡ true → a && b ≡ true
both true true p q = refl
both true false p q = q
both false b p q = p

-- ---- one record

module _ (last latest held : ℕ) (f : File) where
  whole_facts : cond (eqb f.time 0) true (eqb f.received f.size) ≡ true → (f.time ≡ 0 → ⊥) → f.received ≡ f.size
  whole_facts e h = eqb-true f.received f.size (rw (ne_eqb f.time 0 h) at e)

  whole_test : ((f.time ≡ 0 → ⊥) → f.received ≡ f.size) → cond (eqb f.time 0) true (eqb f.received f.size) ≡ true
  whole_test h = go (eqb f.time 0) refl
    where
      go : (t : Bool) → eqb f.time 0 ≡ t → cond t true (eqb f.received f.size) ≡ true
      go true e = refl
      go false e = eq-eqb f.received f.size (h (eqb-false f.time 0 e))

  file_facts : file_fits last latest held f ≡ true → FileFits last latest held f
  unfolding file_fits
  file_facts e0 =
      let n = both_left (leb f.number last) _ e0 in
      let e1 = both_right (leb f.number last) _ e0 in
      let r = both_left (leb f.received f.size) _ e1 in
      let e2 = both_right (leb f.received f.size) _ e1 in
      let b = both_left (eqb held (blocks_for f.size)) _ e2 in
      let e3 = both_right (eqb held (blocks_for f.size)) _ e2 in
      let t = both_left (leb f.time latest) _ e3 in
      let e4 = both_right (leb f.time latest) _ e3 in
      record {
        number = leb-true f.number last n;
        received = leb-true f.received f.size r;
        blocks = eqb-true held (blocks_for f.size) b;
        time = leb-true f.time latest t;
        whole = whole_facts e4;
      }

  file_test : FileFits last latest held f → file_fits last latest held f ≡ true
  unfolding file_fits
  file_test h =
      both _ _ (le-leb f.number last h.number)
      (both _ _ (le-leb f.received f.size h.received)
      (both _ _ (eq-eqb held (blocks_for f.size) h.blocks)
      (both _ _ (le-leb f.time latest h.time) (whole_test h.whole))))

  record_facts : record_fits last latest held f ≡ true → Fits last latest held f
  unfolding record_fits
  record_facts e =
      record {
        free = λ z. eqb-true held 0 (rw (eq-eqb f.number 0 z) at e);
        file = λ z. file_facts (rw (ne_eqb f.number 0 z) at e);
      }

  record_test : Fits last latest held f → record_fits last latest held f ≡ true
  unfolding record_fits
  record_test h = go (eqb f.number 0) refl
    where
      go : (t : Bool) → eqb f.number 0 ≡ t → cond t (eqb held 0) (file_fits last latest held f) ≡ true
      go true e = eq-eqb held 0 (h.free (eqb-true f.number 0 e))
      go false e = file_test (h.file (eqb-false f.number 0 e))

-- ---- all records

module _ (last latest : ℕ) (counts : List ℕ) where
  -- one record after the other
  module _ (fs : List File) (p : ℕ) where
    fit_step : p < length fs
        → records_fit_from p last latest counts (drop p fs)
        ≡ (record_fits last latest (get_or counts (p + 1) 0) (file_at fs p) && records_fit_from (p + 1) last latest counts (drop (p + 1) fs))
    unfolding records_fit_from
    fit_step h = rw (add-one, drop-cons fs p no_file h, records_fit_from)

    pub fit_next : (held : ℕ) (f : File) (t : Bool) → p < length fs → held ≡ get_or counts (p + 1) 0 → f ≡ file_at fs p
        → record_fits last latest held f ≡ t
        → records_fit_from p last latest counts (drop p fs) ≡ (t && records_fit_from (p + 1) last latest counts (drop (p + 1) fs))
    fit_next held f t h b e r =
        let q : record_fits last latest (get_or counts (p + 1) 0) (file_at fs p) ≡ t = rw (← b, ← e) r in
        fit_step h ∙ ap (λ (x : Bool). x && records_fit_from (p + 1) last latest counts (drop (p + 1) fs)) q

    pub fit_end : length fs ≤ p → records_fit_from p last latest counts (drop p fs) ≡ true
    unfolding records_fit_from
    fit_end h = rw (drop_of_length-le fs h)

  all_facts : (b : ℕ) (fs : List File) → records_fit_from b last latest counts fs ≡ true → (p : ℕ) → p < length fs
      → Fits last latest (get_or counts (suc (b + p)) 0) (file_at fs p)
  unfolding records_fit_from
  all_facts b [] e p h = absurd (omega arith)
  all_facts b (f ∷ fs) e zero h =
      let z : suc (b + 0) ≡ suc b = omega arith in
      rw z (record_facts last latest (get_or counts (suc b) 0) f (both_left _ (records_fit_from (suc b) last latest counts fs) e))
  all_facts b (f ∷ fs) e (suc p) h =
      let z : suc (b + suc p) ≡ suc (suc b + p) = omega arith in
      rw z (all_facts (suc b) fs (both_right (record_fits last latest (get_or counts (suc b) 0) f) _ e) p (omega arith))

  all_test : (b : ℕ) (fs : List File) → ((p : ℕ) → p < length fs → Fits last latest (get_or counts (suc (b + p)) 0) (file_at fs p))
      → records_fit_from b last latest counts fs ≡ true
  unfolding records_fit_from
  all_test b [] h = refl
  all_test b (f ∷ fs) h =
      let z : suc (b + 0) ≡ suc b = omega arith in
      both _ _ (record_test last latest (get_or counts (suc b) 0) f (rw z at (h 0 (omega arith))))
      (all_test (suc b) fs (λ p l. let y : suc (suc b + p) ≡ suc (b + suc p) = omega arith in rw y (h (suc p) (omega arith))))

-- ---- no two the same

same_facts : (a b : ℕ) → same a b ≡ false → (a ≡ 0 → ⊥) → a ≡ b → ⊥
same_facts a b e z = eqb-false a b (rw (ne_eqb a 0 z) at e)

same_test : (a b : ℕ) → ((a ≡ 0 → ⊥) → a ≡ b → ⊥) → same a b ≡ false
same_test a b h = go (eqb a 0) refl
  where
    go : (t : Bool) → eqb a 0 ≡ t → cond t false (eqb a b) ≡ false
    go true e = refl
    go false e = ne_eqb a b (h (eqb-false a 0 e))

-- neither of two tests
neither : (a b : Bool) → a ≡ false → b ≡ false → cond a true b ≡ false
neither true b p q = p
neither false b p q = q

neither_left : (a b : Bool) → cond a true b ≡ false → a ≡ false
neither_left true b e = e
neither_left false b e = refl

neither_right : (a b : Bool) → cond a true b ≡ false → b ≡ false
neither_right true b e = absurd (let z : ◌≡◌ {A = ℕ} 0 1 = cc in omega arith)
neither_right false b e = e

among_facts : (v : ℕ) (xs : List ℕ) → among v xs ≡ false → (q : ℕ) → (v ≡ 0 → ⊥) → v ≡ get_or xs q 0 → ⊥
unfolding among
among_facts v [] e q n s = n s
among_facts v (x ∷ xs) e zero n s = same_facts v x (neither_left _ (among v xs) e) n s
among_facts v (x ∷ xs) e (suc q) n s = among_facts v xs (neither_right (same v x) _ e) q n s

among_test : (v : ℕ) (xs : List ℕ) → ((q : ℕ) → (v ≡ 0 → ⊥) → v ≡ get_or xs q 0 → ⊥) → among v xs ≡ false
unfolding among
among_test v [] h = refl
among_test v (x ∷ xs) h = neither _ _ (same_test v x (h 0)) (among_test v xs (λ q. h (suc q)))

-- 0 is no value
pub among_zero : (v : ℕ) (xs : List ℕ) → v ≡ 0 → among v xs ≡ false
among_zero v xs z = among_test v xs (λ q n s. n z)

not_both : (a b : Bool) → cond a false b ≡ true → a ≡ false
not_both true b e = sym e
not_both false b e = refl

apart_facts : (xs : List ℕ) → apart xs ≡ true → Distinct xs
unfolding apart
apart_facts [] e = λ p q n s. absurd (n refl)
apart_facts (x ∷ xs) e = go (not_both (among x xs) (apart xs) e) (apart_facts xs)
  where
    go : among x xs ≡ false → (apart xs ≡ true → Distinct xs) → Distinct (x ∷ xs)
    go a ih zero zero n s = refl
    go a ih zero (suc q) n s = absurd (among_facts x xs a q n s)
    go a ih (suc p) zero n s = absurd (among_facts x xs a p (λ z. n (s ∙ z)) (sym s))
    go a ih (suc p) (suc q) n s = ap suc (ih (rw a at e) p q n s)

apart_test : (xs : List ℕ) → Distinct xs → apart xs ≡ true
unfolding apart
apart_test [] d = refl
apart_test (x ∷ xs) d =
    let a : among x xs ≡ false = among_test x xs (λ q n s. let z = d 0 (suc q) n s in omega arith) in
    rw a (apart_test xs (λ p q n s. let z = d (suc p) (suc q) n s in omega arith))

-- one value after the other
module _ (v : ℕ) (xs : List ℕ) (p : ℕ) where
  pub among_next : (t : Bool) → p < length xs → (v ≡ 0 → ⊥) → eqb v (get_or xs p 0) ≡ t
      → among v (drop p xs) ≡ cond t true (among v (drop (p + 1) xs))
  unfolding among
  among_next t h n e = rw (← e, add-one, drop-cons xs p 0 h, among, ne_eqb v 0 n)

  pub among_end : length xs ≤ p → among v (drop p xs) ≡ false
  unfolding among
  among_end h = rw (drop_of_length-le xs h)

pub or_none : (b : Bool) → cond b true false ≡ b
or_none true = refl
or_none false = refl

-- a value was found before, or is found now, or stands among the rest
pub among_more : (v : ℕ) (xs : List ℕ) (p : ℕ) (all found found' t : Bool) → p < length xs → (v ≡ 0 → ⊥) → eqb v (get_or xs p 0) ≡ t
    → found' ≡ cond t true found → all ≡ cond found true (among v (drop p xs)) → all ≡ cond found' true (among v (drop (p + 1) xs))
among_more v xs p all found found' t h n e f i =
    i ∙ ap (λ (x : Bool). cond found true x) (among_next v xs p t h n e) ∙ go t found (among v (drop (p + 1) xs)) ∙ ap (λ (x : Bool). cond x true (among v (drop (p + 1) xs))) (sym f)
  where
    go : (t b x : Bool) → cond b true (cond t true x) ≡ cond (cond t true b) true x
    go true true x = refl
    go true false x = refl
    go false b x = refl

module _ (xs : List ℕ) (p : ℕ) where
  pub apart_next : (t : Bool) → p < length xs → among (get_or xs p 0) (drop (p + 1) xs) ≡ t → apart (drop p xs) ≡ cond t false (apart (drop (p + 1) xs))
  unfolding apart
  apart_next t h e = rw (← e, add-one, drop-cons xs p 0 h, apart)

  pub apart_end : length xs ≤ p → apart (drop p xs) ≡ true
  unfolding apart
  apart_end h = rw (drop_of_length-le xs h)

-- ---- from the last value down

-- the values from place `at` on are apart, and those that are not 0 are at least `low`
pub record Down (xs : List ℕ) (at low : ℕ) : Type 0 where
  pub size : at ≤ length xs
  pub rest : apart (drop at xs) ≡ true
  pub above : (q : ℕ) → at ≤ q → (get_or xs q 0 ≡ 0 → ⊥) → low ≤ get_or xs q 0

pub down_start : (xs : List ℕ) (low : ℕ) → Down xs (length xs) low
down_start xs low =
    record {
      size = omega arith;
      rest = apart_end xs (length xs) (omega arith);
      above = λ q h n. absurd (past q h (within xs q n));
    }
  where
    past : (q : ℕ) → length xs ≤ q → q < length xs → ⊥
    past q h l = omega arith

module _ (xs : List ℕ) (at low : ℕ) (d : Down xs at low) (p : ℕ) (e : at ≡ p + 1) where
  -- one value more that is none of the later ones
  down_next : (low' : ℕ) → among (get_or xs p 0) (drop (p + 1) xs) ≡ false
      → ((get_or xs p 0 ≡ 0 → ⊥) → low' ≤ get_or xs p 0) → ((q : ℕ) → p + 1 ≤ q → (get_or xs q 0 ≡ 0 → ⊥) → low' ≤ get_or xs q 0) → Down xs p low'
  down_next low' a here later =
      record {
        size = omega (arith, d.size);
        rest = apart_next xs p false (omega (arith, d.size)) a ∙ ap (λ (k : ℕ). apart (drop k xs)) (sym e) ∙ d.rest;
        above = λ q h n. by_equal q p (λ s. subst (λ (k : ℕ). low' ≤ get_or xs k 0) (sym s) (here (λ z. n (ap (λ (k : ℕ). get_or xs k 0) s ∙ z)))) (λ s. later q (further q h s) n);
      }
    where
      further : (q : ℕ) → p ≤ q → (q ≡ p → ⊥) → p + 1 ≤ q
      further q h s = by_equal q p (λ z. absurd (s z)) (λ z. above_it q h z)
        where
          above_it : (q : ℕ) → p ≤ q → (q ≡ p → ⊥) → p + 1 ≤ q
          above_it q h z = omega arith

  -- a value below all later ones is none of them
  among_below : get_or xs p 0 < low → among (get_or xs p 0) (drop (p + 1) xs) ≡ false
  among_below h =
      among_test (get_or xs p 0) (drop (p + 1) xs)
      (λ q n s. let g : get_or xs p 0 ≡ get_or xs (p + 1 + q) 0 = s ∙ get_or-drop (p + 1) xs q 0 in
      let l = d.above (p + 1 + q) (omega arith) (λ z. n (g ∙ z)) in omega arith)

  pub down_lower : (value low' : ℕ) → value ≡ get_or xs p 0 → value < low → low' ≡ cond (eqb value 0) low value → Down xs p low'
  down_lower value low' v h w = go (eqb value 0) refl w
    where
      below : get_or xs p 0 < low
      below = subst (λ (k : ℕ). k < low) v h

      go : (t : Bool) → eqb value 0 ≡ t → low' ≡ cond t low value → Down xs p low'
      go true z k = down_next low' (among_below below) (λ n. absurd (n (sym v ∙ eqb-true value 0 z))) (λ q l n. let m = d.above q (omega arith) n in omega arith)
      go false z k = down_next low' (among_below below) (λ n. omega arith) (λ q l n. let m = d.above q (omega arith) n in omega arith)

  pub down_other : low ≤ get_or xs p 0 → among (get_or xs p 0) (drop (p + 1) xs) ≡ false → Down xs p low
  down_other h a = down_next low a (λ n. h) (λ q l n. d.above q (omega arith) n)

pub down_done : (xs : List ℕ) (at low : ℕ) → at ≤ 0 → Down xs at low → apart xs ≡ true
down_done xs at low h d = let z : 0 ≡ at = omega arith in ap (λ (k : ℕ). apart (drop k xs)) z ∙ d.rest

-- where some values are not apart, all are not
apart_part : (xs : List ℕ) (p : ℕ) → apart (drop p xs) ≡ false → apart xs ≡ false
unfolding apart
apart_part xs zero e = e
apart_part [] (suc p) e = e
apart_part (x ∷ xs) (suc p) e = go (among x xs) (apart_part xs p e)
  where
    go : (t : Bool) → apart xs ≡ false → cond t false (apart xs) ≡ false
    go true f = refl
    go false f = f

pub down_twice : (xs : List ℕ) (p : ℕ) → p < length xs → among (get_or xs p 0) (drop (p + 1) xs) ≡ true → apart xs ≡ false
down_twice xs p h a = apart_part xs p (apart_next xs p true h a)

-- the three tests in a row
three_first : (a b c : Bool) → cond a (cond b c false) false ≡ true → b ≡ true
three_first true true c e = refl
three_first true false c e = e
three_first false b c e = absurd (let z : ◌≡◌ {A = ℕ} 0 1 = cc in omega arith)

three_second : (a b c : Bool) → cond a (cond b c false) false ≡ true → c ≡ true
three_second true true c e = e
three_second true false c e = absurd (let z : ◌≡◌ {A = ℕ} 0 1 = cc in omega arith)
three_second false b c e = absurd (let z : ◌≡◌ {A = ℕ} 0 1 = cc in omega arith)

-- the test by the numbers and then the times
module _ (fs : List File) where
  pub distinct_by : length fs ≤ 256 → distinct_of fs ≡ cond (apart (numbers fs)) (apart (times fs)) false
  unfolding distinct_of
  distinct_by m = rw (le-leb (length fs) 256 m)

  pub distinct_past : 256 < length fs → false ≡ distinct_of fs
  unfolding distinct_of
  distinct_past m = rw (lt-leb (length fs) 256 m)

pub distinct_facts : (fs : List File) → distinct_of fs ≡ true → (key : Key) → Distinct (keys key fs)
unfolding distinct_of
distinct_facts fs e Number = apart_facts (numbers fs) (three_first (leb (length fs) 256) (apart (numbers fs)) (apart (times fs)) e)
distinct_facts fs e Time = apart_facts (times fs) (three_second (leb (length fs) 256) (apart (numbers fs)) (apart (times fs)) e)

pub distinct_test : (fs : List File) → length fs ≤ 256 → ((key : Key) → Distinct (keys key fs)) → distinct_of fs ≡ true
unfolding distinct_of
distinct_test fs l d = rw (le-leb (length fs) 256 l, apart_test (numbers fs) (d Number), apart_test (times fs) (d Time))

-- ---- the tests are true exactly where the table is sound

module _ (last latest : ℕ) (counts : List ℕ) (fs : List File) where
  pub sound_facts : records_fit last latest counts fs ≡ true → distinct_of fs ≡ true → Sound last latest counts fs
  sound_facts r d =
      record {
        records = λ p h. let e : p + 1 ≡ suc (0 + p) = omega arith in rw e (all_facts last latest counts 0 fs r p h);
        numbers = distinct_facts fs d Number;
        times = distinct_facts fs d Time;
      }

  pub sound_fits : Sound last latest counts fs → records_fit last latest counts fs ≡ true
  sound_fits s = all_test last latest counts 0 fs (λ p h. let e : suc (0 + p) ≡ p + 1 = omega arith in rw e (s.records p h))

  pub sound_distinct : length fs ≤ 256 → Sound last latest counts fs → distinct_of fs ≡ true
  sound_distinct l s = distinct_test fs l keyed
    where
      keyed : (key : Key) → Distinct (keys key fs)
      keyed Number = s.numbers
      keyed Time = s.times
