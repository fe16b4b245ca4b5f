-- The complete files in order of upload time: which is next, and what stands in the order.
use mathlib.Core.Path.{◌≡◌, refl, sym, ap, ◌∙◌}
use mathlib.Core.Bool.{Bool, true, false, cond}
use mathlib.Core.List.{List, [], ◌∷◌, ◌++◌, Memᴰ}
use Prim.Native.Nat.{ℕ, zero, suc, ◌+◌, ◌-◌, ◌≤◌, ◌<◌}
use native.Mathlib.Omega.{arith}
use native.Mathlib.Numerals.{add-one}
use lib.ListN.{length, replicate, get_or, set, drop, drop_of_length-le, length-map, length-set}
use lib.Seq.{drop-cons, get_or-set_same, get_or-set_other}
use lib.Dec.{eqb, ltb}
use borrow.Author.Tests.{eqb-true, eqb-false, eq-eqb, ne_eqb, ltb-true, ltb-false, lt-ltb, le-ltb}
use Rattle.table.specs.declared.File.{File}
use Rattle.std.proofs.Common.{Option, Some, None}
use Rattle.table.specs.declared.Key.TheVariants.{Time}
use Rattle.table.specs.Table.{no_file, file_at, uploaded, times, first_with}
use Rattle.table.specs.Order.{lesser, least_above, next_above, next_complete, and_then, places_above, in_order, Rising}
use Rattle.table.specs.Fit.{Distinct}
use Rattle.table.proofs.Records.{key_at, keys_set, keys_same, empty_at}
use Rattle.table.proofs.Finding.{by_equal, first_found, first_none, first_lowest, within}

not_above : (a b : ℕ) → (a < b → ⊥) → b ≤ a
not_above a b h = go (ltb a b) refl
  where
    go : (x : Bool) → ltb a b ≡ x → b ≤ a
    go true e = absurd (h (ltb-true a b e))
    go false e = ltb-false a b e

-- ---- the least time above

least_step : (after : ℕ) (ts : List ℕ) (p : ℕ) → p < length ts
    → least_above after (drop p ts)
    ≡ cond (ltb after (get_or ts p 0)) (lesser (get_or ts p 0) (least_above after (drop (p + 1) ts))) (least_above after (drop (p + 1) ts))
unfolding least_above
least_step after ts p h = rw (add-one, drop-cons ts p 0 h, least_above)

-- with the record before place p looked at too
pub least_next : (after : ℕ) (fs : List File) (p least t m : ℕ) → 0 < p → p ≤ length fs → least ≡ least_above after (drop p (times fs))
    → t ≡ uploaded (file_at fs (p - 1)) → m ≡ cond (ltb after t) (lesser t least) least → m ≡ least_above after (drop (p - 1) (times fs))
least_next after fs p least t m h k e u r =
    let i : p - 1 + 1 ≡ p = omega arith in
    r
    ∙ ap (λ (x : ℕ). cond (ltb after x) (lesser x least) least) (u ∙ sym (key_at Time fs (p - 1)))
    ∙ ap (λ (l : ℕ). cond (ltb after (get_or (times fs) (p - 1) 0)) (lesser (get_or (times fs) (p - 1) 0) l) l)
    (e ∙ ap (λ (j : ℕ). least_above after (drop j (times fs))) (sym i))
    ∙ sym (least_step after (times fs) (p - 1) (omega (arith, length-map fs uploaded)))

pub least_end : (after : ℕ) (fs : List File) (p : ℕ) → length fs ≤ p → least_above after (drop p (times fs)) ≡ 0
unfolding least_above
least_end after fs p h =
    let k : length (times fs) ≤ p = omega (arith, length-map fs uploaded) in
    rw (drop_of_length-le (times fs) k)

-- m is the least time above `after`, 0 where there is none
record Least (after : ℕ) (ts : List ℕ) (m : ℕ) : Type 0 where
  above : (m ≡ 0 → ⊥) → after < m
  least : (p : ℕ) → after < get_or ts p 0 → m ≤ get_or ts p 0
  none : m ≡ 0 → (p : ℕ) → get_or ts p 0 ≤ after
  place : (m ≡ 0 → ⊥) → (p : ℕ) × (get_or ts p 0 ≡ m)

least_more : (after t : ℕ) (ts : List ℕ) (l : ℕ) → Least after ts l → Least after (t ∷ ts) (cond (ltb after t) (lesser t l) l)
least_more after t ts l i = go (ltb after t) refl (eqb l 0) refl (ltb l t) refl
  where
    go : (x : Bool) → ltb after t ≡ x → (y : Bool) → eqb l 0 ≡ y → (z : Bool) → ltb l t ≡ z
        → Least after (t ∷ ts) (cond x (cond y t (cond z l t)) l)
    go false x y ey z ez =
        let b = ltb-false after t x in
        record {
          above = i.above;
          least = elim [ zero ↦ λ h. absurd (omega arith) | suc p ↦ λ h. i.least p h ];
          none = λ e. elim [ zero ↦ b | suc p ↦ i.none e p ];
          place = λ h. (suc (i.place h).0, (i.place h).1);
        }
    go true x true y z ez =
        let b = ltb-true after t x in
        let o = eqb-true l 0 y in
        record {
          above = λ h. b;
          least = elim [ zero ↦ λ h. omega arith | suc p ↦ λ h. absurd (omega (arith, i.none o p)) ];
          none = λ e. absurd (omega arith);
          place = λ h. (0, refl);
        }
    go true x false y true z =
        let b = ltb-true l t z in
        record {
          above = i.above;
          least = elim [ zero ↦ λ h. omega arith | suc p ↦ λ h. i.least p h ];
          none = λ e. absurd (eqb-false l 0 y e);
          place = λ h. (suc (i.place h).0, (i.place h).1);
        }
    go true x false y false z =
        let b = ltb-true after t x in
        let o = ltb-false l t z in
        record {
          above = λ h. b;
          least = elim [ zero ↦ λ h. omega arith | suc p ↦ λ h. omega (arith, i.least p h) ];
          none = λ e. absurd (omega arith);
          place = λ h. (0, refl);
        }

least_is : (after : ℕ) (ts : List ℕ) → Least after ts (least_above after ts)
unfolding least_above
least_is after [] =
    record {
      above = λ h. absurd (h refl);
      least = λ p h. omega arith;
      none = λ e p. omega arith;
      place = λ h. absurd (h refl);
    }
least_is after (t ∷ ts) = least_more after t ts (least_above after ts) (least_is after ts)

-- ---- the next place

pub next_zero : (after : ℕ) (ts : List ℕ) → least_above after ts ≡ 0 → None ≡ next_above after ts
unfolding next_above
next_zero after ts e = rw (eq-eqb (least_above after ts) 0 e)

pub next_least : (after : ℕ) (ts : List ℕ) → (least_above after ts ≡ 0 → ⊥) → first_with (least_above after ts) ts ≡ next_above after ts
unfolding next_above
next_least after ts n = rw (ne_eqb (least_above after ts) 0 n)

-- p has the least time above `after`, and no lower place has it
pub record NextIs (after : ℕ) (ts : List ℕ) (p : ℕ) : Type 0 where
  pub above : after < get_or ts p 0
  pub least : (q : ℕ) → after < get_or ts q 0 → get_or ts p 0 ≤ get_or ts q 0
  pub lowest : (q : ℕ) → q < p → get_or ts q 0 ≡ get_or ts p 0 → ⊥

module _ (after : ℕ) (ts : List ℕ) where
  pub next_found : (p : ℕ) → next_above after ts ≡ Some p → NextIs after ts p
  unfolding next_above
  next_found p e = go (eqb (least_above after ts) 0) refl e
    where
      i : Least after ts (least_above after ts)
      i = least_is after ts

      go : (x : Bool) → eqb (least_above after ts) 0 ≡ x → cond x None (first_with (least_above after ts) ts) ≡ Some p → NextIs after ts p
      go true x e = absurd (let z : ◌≡◌ {A = ℕ} 0 1 = cc in omega arith)
      go false x e =
          let l = first_found (least_above after ts) ts p e in
          record {
            above = omega (arith, i.above (eqb-false (least_above after ts) 0 x), l.has);
            least = λ q h. omega (arith, i.least q h, l.has);
            lowest = λ q h s. l.none q h (s ∙ l.has);
          }

  pub next_none : next_above after ts ≡ None → (p : ℕ) → get_or ts p 0 ≤ after
  unfolding next_above
  next_none e = go (eqb (least_above after ts) 0) refl e
    where
      i : Least after ts (least_above after ts)
      i = least_is after ts

      go : (x : Bool) → eqb (least_above after ts) 0 ≡ x → cond x None (first_with (least_above after ts) ts) ≡ None
          → (p : ℕ) → get_or ts p 0 ≤ after
      go true x e p = i.none (eqb-true (least_above after ts) 0 x) p
      go false x e p =
          let n = eqb-false (least_above after ts) 0 x in
          let w = i.place n in
          absurd (first_none (least_above after ts) ts e w.0 (within ts w.0 (λ z. n (sym w.1 ∙ z))) w.1)

  pub next_is : (p : ℕ) → NextIs after ts p → next_above after ts ≡ Some p
  unfolding next_above
  next_is p n = go (ne_eqb (least_above after ts) 0 some) same
    where
      i : Least after ts (least_above after ts)
      i = least_is after ts

      some : least_above after ts ≡ 0 → ⊥
      some z = let b = i.none z p in omega (arith, n.above)

      same : get_or ts p 0 ≡ least_above after ts
      same =
          let w = i.place some in
          let a = i.above some in
          let b : after < get_or ts w.0 0 = omega (arith, w.1) in
          omega (arith, i.least p n.above, n.least w.0 b, w.1)

      go : eqb (least_above after ts) 0 ≡ false → get_or ts p 0 ≡ least_above after ts
          → cond (eqb (least_above after ts) 0) None (first_with (least_above after ts) ts) ≡ Some p
      go x s =
          rw x
          (first_lowest (least_above after ts) ts p
          (record {
            below = within ts p (λ z. some (sym s ∙ z));
            has = s;
            none = λ q h e. n.lowest q h (e ∙ sym s);
          }))

  pub next_absent : ((p : ℕ) → get_or ts p 0 ≤ after) → next_above after ts ≡ None
  next_absent h = go (next_above after ts) refl
    where
      go : (r : Option ℕ) → next_above after ts ≡ r → next_above after ts ≡ None
      go None e = e
      go (Some p) e = absurd (omega (arith, (next_found p e).above, h p))

-- ---- the order

-- how many times are above `after`
unfoldable pub count_above : ℕ → List ℕ → ℕ
count_above after [] = 0
count_above after (t ∷ ts) = cond (ltb after t) 1 0 + count_above after ts

one_le : (a b t : ℕ) → a ≤ b → cond (ltb b t) 1 0 ≤ cond (ltb a t) 1 0
one_le a b t h = go (ltb b t) refl (ltb a t) refl
  where
    go : (x : Bool) → ltb b t ≡ x → (y : Bool) → ltb a t ≡ y → cond x 1 0 ≤ cond y 1 0
    go true x true y = omega arith
    go true x false y = absurd (omega (arith, ltb-true b t x, ltb-false a t y))
    go false x true y = omega arith
    go false x false y = omega arith

count_falls : (a b : ℕ) (ts : List ℕ) → a ≤ b → count_above b ts ≤ count_above a ts
unfolding count_above
count_falls a b [] h = omega arith
count_falls a b (t ∷ ts) h = omega (arith, one_le a b t h, count_falls a b ts h)

pub count_le : (after : ℕ) (ts : List ℕ) → count_above after ts ≤ length ts
unfolding count_above
count_le after [] = omega arith
count_le after (t ∷ ts) = go (ltb after t) (count_le after ts)
  where
    go : (x : Bool) → count_above after ts ≤ length ts → cond x 1 0 + count_above after ts ≤ suc (length ts)
    go true h = omega arith
    go false h = omega arith

-- above the time of a place there are fewer than above any lower one
pub count_less : (after : ℕ) (ts : List ℕ) (p : ℕ) → after < get_or ts p 0 → count_above (get_or ts p 0) ts < count_above after ts
unfolding count_above
count_less after [] p h = absurd (omega arith)
count_less after (t ∷ ts) zero h = rw (lt-ltb after t h, le-ltb t t (omega arith)) (omega (arith, count_falls after t ts (omega arith)))
count_less after (t ∷ ts) (suc p) h = omega (arith, one_le after (get_or ts p 0) t (omega arith), count_less after ts p h)

empty_cons : (x : ℕ) (xs : List ℕ) → [] ≡ x ∷ xs → ⊥
empty_cons x xs e = let z : ◌≡◌ {A = ℕ} 0 1 = cc in omega arith

module _ (ts : List ℕ) where
  pub places_none : (n after : ℕ) → next_above after ts ≡ None → places_above n after ts ≡ []
  unfolding places_above
  places_none zero after e = refl
  places_none (suc n) after e = rw e

  pub places_next : (n after p : ℕ) → next_above after ts ≡ Some p → places_above (suc n) after ts ≡ p ∷ places_above n (get_or ts p 0) ts
  unfolding places_above
  places_next n after p e = rw e

  pub places_rise : (n after : ℕ) → Rising after ts (places_above n after ts)
  unfolding places_above
  places_rise zero after = tt
  places_rise (suc n) after = go (next_above after ts) refl (places_rise n)
    where
      go : (r : Option ℕ) → next_above after ts ≡ r → ((b : ℕ) → Rising b ts (places_above n b ts))
          → Rising after ts (and_then r (λ p. places_above n (get_or ts p 0) ts))
      go None e ih = tt
      go (Some p) e ih = ((next_found after ts p e).above, ih (get_or ts p 0))

  places_empty : (n m after : ℕ) → count_above after ts ≤ 0 → places_above n after ts ≡ places_above m after ts
  places_empty n m after h =
      let e = next_absent after ts (λ p. not_above after (get_or ts p 0) (λ l. omega (arith, count_less after ts p l))) in
      places_none n after e ∙ sym (places_none m after e)

  -- no more steps are needed than there are times above
  pub places_same : (n m after : ℕ) → count_above after ts ≤ n → count_above after ts ≤ m → places_above n after ts ≡ places_above m after ts
  places_same zero zero after h k = refl
  places_same zero (suc m) after h k = places_empty 0 (suc m) after h
  places_same (suc n) zero after h k = places_empty (suc n) 0 after k
  places_same (suc n) (suc m) after h k = go (next_above after ts) refl (places_same n m)
    where
      go : (r : Option ℕ) → next_above after ts ≡ r
          → ((b : ℕ) → count_above b ts ≤ n → count_above b ts ≤ m → places_above n b ts ≡ places_above m b ts)
          → places_above (suc n) after ts ≡ places_above (suc m) after ts
      go None e ih = places_none (suc n) after e ∙ sym (places_none (suc m) after e)
      go (Some p) e ih =
          let l = count_less after ts p (next_found after ts p e).above in
          rw (places_next n after p e, places_next m after p e, ih (get_or ts p 0) (omega arith) (omega arith))

  -- ---- what stands in the order

  pub rising_above : (after : ℕ) (ps : List ℕ) (p : ℕ) → Rising after ts ps → Memᴰ p ps → after < get_or ts p 0
  rising_above after (q ∷ ps) p r (Memᴰ.head e) = rw e r.0
  rising_above after (q ∷ ps) p r (Memᴰ.tail m) = omega (arith, r.0, rising_above (get_or ts q 0) ps p r.1 m)
  rising_above after [] p r x'' = elim x'' [ ]

  -- none but complete files above `after` stand in it
  pub places_above_law : (n after p : ℕ) → Memᴰ p (places_above n after ts) → after < get_or ts p 0
  places_above_law n after p m = rising_above after (places_above n after ts) p (places_rise n after) m

  -- with distinct times every complete file above `after` stands in it
  pub places_all : Distinct ts → (n after p : ℕ) → count_above after ts ≤ n → after < get_or ts p 0 → Memᴰ p (places_above n after ts)
  places_all d zero after p h k = absurd (omega (arith, count_less after ts p k))
  places_all d (suc n) after p h k = go (next_above after ts) refl (places_all d n)
    where
      go : (r : Option ℕ) → next_above after ts ≡ r
          → ((b q : ℕ) → count_above b ts ≤ n → b < get_or ts q 0 → Memᴰ q (places_above n b ts))
          → Memᴰ p (places_above (suc n) after ts)
      go None e ih = absurd (omega (arith, next_none after ts e p))
      go (Some q) e ih =
          let i = next_found after ts q e in
          let l = count_less after ts q i.above in
          rw (places_next n after q e)
          (by_equal (get_or ts p 0) (get_or ts q 0) (λ s. Memᴰ.head (d p q (λ z. omega arith) s))
          (λ s. Memᴰ.tail (ih (get_or ts q 0) p (omega arith) (omega (arith, i.least p k)))))

  places_tail_zero : (xs : List ℕ) (p : ℕ) (ys : List ℕ) (after : ℕ) → places_above 0 after ts ≡ xs ++ p ∷ ys → ⊥
  unfolding places_above
  places_tail_zero [] p ys after e = empty_cons p ys e
  places_tail_zero (x ∷ xs) p ys after e = empty_cons x (xs ++ p ∷ ys) e

  -- what comes after a member of the order is the order above its time
  pub places_tail : (xs : List ℕ) (n after p : ℕ) (ys : List ℕ) → count_above after ts ≤ n → places_above n after ts ≡ xs ++ p ∷ ys
      → (m : ℕ) → count_above (get_or ts p 0) ts ≤ m → places_above m (get_or ts p 0) ts ≡ ys
  places_tail xs zero after p ys h e = absurd (places_tail_zero xs p ys after e)
  places_tail xs (suc n) after p ys h e = go xs e (next_above after ts) refl (λ zs. places_tail zs n)
    where
      go : (xs : List ℕ) → places_above (suc n) after ts ≡ xs ++ p ∷ ys → (r : Option ℕ) → next_above after ts ≡ r
          → ((zs : List ℕ) (b p : ℕ) (ys : List ℕ) → count_above b ts ≤ n → places_above n b ts ≡ zs ++ p ∷ ys
          → (m : ℕ) → count_above (get_or ts p 0) ts ≤ m → places_above m (get_or ts p 0) ts ≡ ys)
          → (m : ℕ) → count_above (get_or ts p 0) ts ≤ m → places_above m (get_or ts p 0) ts ≡ ys
      go [] e None w ih m k = absurd (let z : ◌≡◌ {A = List ℕ} [] (p ∷ ys) = sym (places_none (suc n) after w) ∙ e in empty_cons p ys z)
      go (x ∷ xs) e None w ih m k =
          absurd (let z : ◌≡◌ {A = List ℕ} [] (x ∷ xs ++ p ∷ ys) = sym (places_none (suc n) after w) ∙ e in empty_cons x (xs ++ p ∷ ys) z)
      go [] e (Some q) w ih m k =
          let l = count_less after ts q (next_found after ts q w).above in
          let z : q ∷ places_above n (get_or ts q 0) ts ≡ p ∷ ys = sym (places_next n after q w) ∙ e in
          let s : q ≡ p = cc in
          let t : places_above n (get_or ts q 0) ts ≡ ys = cc in
          let u : get_or ts q 0 ≡ get_or ts p 0 = ap (λ (i : ℕ). get_or ts i 0) s in
          places_same m n (get_or ts p 0) k (rw u at (let v : count_above (get_or ts q 0) ts ≤ n = omega arith in v)) ∙ (rw u at t)
      go (x ∷ xs) e (Some q) w ih m k =
          let l = count_less after ts q (next_found after ts q w).above in
          let z : q ∷ places_above n (get_or ts q 0) ts ≡ x ∷ xs ++ p ∷ ys = sym (places_next n after q w) ∙ e in
          let t : places_above n (get_or ts q 0) ts ≡ xs ++ p ∷ ys = cc in
          ih xs (get_or ts q 0) p ys (omega arith) t m k

-- ---- a completion

-- A file completed with a time above all others comes last, wherever its place is.
module _ (ts : List ℕ) (p m : ℕ) (h : p < length ts) (free : get_or ts p 0 ≡ 0) (later : (k : ℕ) → get_or ts k 0 < m) where
  at_p : get_or (set ts p m) p 0 ≡ m
  at_p = get_or-set_same ts p m 0 h

  at_other : (k : ℕ) → (k ≡ p → ⊥) → get_or (set ts p m) k 0 ≡ get_or ts k 0
  at_other k n = get_or-set_other ts p k m 0 n

  next_last : (after : ℕ) → after < m → next_above after ts ≡ None → next_above after (set ts p m) ≡ Some p
  next_last after l e =
      next_is after (set ts p m) p
      (record {
        above = omega (arith, at_p);
        least = λ q k.
            by_equal q p (λ s. rw s (omega arith)) (λ s. let b = next_none after ts e q in let c = at_other q s in absurd (omega arith));
        lowest = λ q k s. let b = later q in let c = at_other q (λ z. omega arith) in omega (arith, at_p);
      })

  next_before : (after q : ℕ) → next_above after ts ≡ Some q → (q ≡ p → ⊥) × (next_above after (set ts p m) ≡ Some q)
  next_before after q e = (apart, next_is after (set ts p m) q is)
    where
      i : NextIs after ts q
      i = next_found after ts q e

      apart : q ≡ p → ⊥
      apart s = let u : get_or ts q 0 ≡ 0 = ap (λ (k : ℕ). get_or ts k 0) s ∙ free in omega (arith, i.above)

      is : NextIs after (set ts p m) q
      is =
          record {
            above = omega (arith, at_other q apart, i.above);
            least = λ r k.
                by_equal r p (λ s. rw s (let b = later q in omega (arith, at_p, at_other q apart)))
                (λ s. let c = at_other r s in let b = i.least r (omega arith) in omega (arith, at_other q apart));
            lowest = λ r k s.
                by_equal r p
                (λ z. let b = later q in let u : get_or (set ts p m) r 0 ≡ m = ap (λ (j : ℕ). get_or (set ts p m) j 0) z ∙ at_p in omega (arith, at_other q apart))
                (λ z. i.lowest r k (sym (at_other r z) ∙ s ∙ at_other q apart));
          }

  pub places_last : (n after : ℕ) → after < m → count_above after (set ts p m) ≤ n
      → places_above n after (set ts p m) ≡ places_above n after ts ++ p ∷ []
  places_last zero after l k = absurd (omega (arith, count_less after (set ts p m) p (let b : after < get_or (set ts p m) p 0 = omega (arith, at_p) in b)))
  places_last (suc n) after l k = go (next_above after ts) refl (places_last n)
    where
      go : (r : Option ℕ) → next_above after ts ≡ r
          → ((b : ℕ) → b < m → count_above b (set ts p m) ≤ n → places_above n b (set ts p m) ≡ places_above n b ts ++ p ∷ [])
          → places_above (suc n) after (set ts p m) ≡ places_above (suc n) after ts ++ p ∷ []
      go None e ih =
          let none = next_absent (get_or (set ts p m) p 0) (set ts p m)
          (λ q. by_equal q p (λ s. rw s (omega arith)) (λ s. let b = later q in omega (arith, at_other q s, at_p))) in
          rw (places_next (set ts p m) n after p (next_last after l e), places_none (set ts p m) n (get_or (set ts p m) p 0) none, places_none ts (suc n) after e)
      go (Some q) e ih =
          let b = next_before after q e in
          let f = count_less after (set ts p m) q (next_found after (set ts p m) q b.1).above in
          let s = at_other q b.0 in
          let d : count_above (get_or ts q 0) (set ts p m) ≤ n = rw s at (let v : count_above (get_or (set ts p m) q 0) (set ts p m) ≤ n = omega arith in v) in
          rw (places_next (set ts p m) n after q b.1, places_next ts n after q e, s, ih (get_or ts q 0) (later q) d)

-- ---- files

-- how often a place stands in a list
unfoldable pub occurs : ℕ → List ℕ → ℕ
occurs p [] = 0
occurs p (q ∷ qs) = cond (eqb q p) 1 0 + occurs p qs

occurs_none : (ts : List ℕ) (after : ℕ) (ps : List ℕ) (p : ℕ) → Rising after ts ps → get_or ts p 0 ≤ after → occurs p ps ≡ 0
unfolding occurs
occurs_none ts after [] p r h = refl
occurs_none ts after (q ∷ ps) p r h =
    let n = ne_eqb q p (λ (e : q ≡ p). let u = ap (λ (k : ℕ). get_or ts k 0) e in omega (arith, r.0)) in
    rw (n, occurs_none ts (get_or ts q 0) ps p r.1 (omega (arith, r.0)))

-- in a list of places whose times rise each stands once
pub occurs_once : (ts : List ℕ) (after : ℕ) (ps : List ℕ) (p : ℕ) → Rising after ts ps → Memᴰ p ps → occurs p ps ≡ 1
unfolding occurs
occurs_once ts after (q ∷ ps) p r (Memᴰ.head e) =
    rw (eq-eqb q p (sym e), occurs_none ts (get_or ts q 0) ps p r.1 (let u = ap (λ (k : ℕ). get_or ts k 0) e in omega arith))
occurs_once ts after (q ∷ ps) p r (Memᴰ.tail m) =
    let b = rising_above ts (get_or ts q 0) ps p r.1 m in
    let n = ne_eqb q p (λ (e : q ≡ p). let u = ap (λ (k : ℕ). get_or ts k 0) e in omega arith) in
    rw (n, occurs_once ts (get_or ts q 0) ps p r.1 m)
occurs_once ts after [] p r x'' = elim x'' [ ]

module _ (after : ℕ) (fs : List File) where
  enough : (b : ℕ) → count_above b (times fs) ≤ length fs
  enough b = omega (arith, count_le b (times fs), length-map fs uploaded)

  pub in_order_rises : Rising after (times fs) (in_order after fs)
  in_order_rises = places_rise (times fs) (length fs) after

  -- only complete files above `after` stand in it
  pub in_order_above : (p : ℕ) → Memᴰ p (in_order after fs) → after < uploaded (file_at fs p)
  in_order_above p m = rw (key_at Time fs p) at (places_above_law (times fs) (length fs) after p m)

  -- with distinct upload times each complete file above `after` stands in it, once
  pub in_order_all : Distinct (times fs) → (p : ℕ) → after < uploaded (file_at fs p) → Memᴰ p (in_order after fs)
  in_order_all d p h =
      places_all (times fs) d (length fs) after p (enough after) (rw (key_at Time fs p) h)

  pub in_order_once : Distinct (times fs) → (p : ℕ) → after < uploaded (file_at fs p) → occurs p (in_order after fs) ≡ 1
  in_order_once d p h = occurs_once (times fs) after (in_order after fs) p in_order_rises (in_order_all d p h)

  -- what comes after a file is the order above its upload time: the next page
  pub in_order_tail : (xs : List ℕ) (p : ℕ) (ys : List ℕ) → in_order after fs ≡ xs ++ p ∷ ys → in_order (uploaded (file_at fs p)) fs ≡ ys
  in_order_tail xs p ys e =
      rw (← key_at Time fs p)
      (places_tail (times fs) xs (length fs) after p ys (enough after) e (length fs) (enough (get_or (times fs) p 0)))

  -- storing a record with the same upload time, as of a partial file, leaves the order
  pub in_order_same : (p : ℕ) (f : File) → uploaded f ≡ uploaded (file_at fs p) → in_order after (set fs p f) ≡ in_order after fs
  in_order_same p f e = rw (length-set fs p f, keys_same Time fs p f e)

  -- a file completed with an upload time above all others comes last
  pub in_order_last : (p : ℕ) (f : File) → p < length fs → uploaded (file_at fs p) ≡ 0 → ((k : ℕ) → uploaded (file_at fs k) < uploaded f)
      → after < uploaded f → in_order after (set fs p f) ≡ in_order after fs ++ p ∷ []
  in_order_last p f h free later l =
      rw (length-set fs p f, keys_set Time fs p f)
      (places_last (times fs) p (uploaded f) (omega (arith, length-map fs uploaded)) (key_at Time fs p ∙ free)
      (λ k. rw (key_at Time fs k) (later k)) (length fs) after l
      (omega (arith, count_le after (set (times fs) p (uploaded f)), length-set (times fs) p (uploaded f), length-map fs uploaded)))

  -- where no complete file is above `after` the order is empty
  pub in_order_none : ((p : ℕ) → uploaded (file_at fs p) ≤ after) → in_order after fs ≡ []
  in_order_none h = places_none (times fs) (length fs) after (next_absent after (times fs) (λ p. rw (key_at Time fs p) (h p)))

-- there is no file in the order of an empty table
pub in_order_empty : (after n : ℕ) → in_order after (replicate n no_file) ≡ []
in_order_empty after n = in_order_none after (replicate n no_file) (λ p. rw (empty_at n p) (omega arith))

-- the next complete file is None exactly where none is above, and else one with the least upload time above
module _ (fs : List File) (after : ℕ) where
  pub complete_none : next_complete fs after ≡ None → (p : ℕ) → uploaded (file_at fs p) ≤ after
  complete_none e p = rw (key_at Time fs p) at (next_none after (times fs) e p)

  pub complete_found : (p : ℕ) → next_complete fs after ≡ Some p
      → (after < uploaded (file_at fs p)) × ((q : ℕ) → after < uploaded (file_at fs q) → uploaded (file_at fs p) ≤ uploaded (file_at fs q))
  complete_found p e =
      let i = next_found after (times fs) p e in (
        omega (arith, i.above, key_at Time fs p),
        λ q h. let k = key_at Time fs q in omega (arith, i.least q (let b : after < get_or (times fs) q 0 = omega arith in b), key_at Time fs p),
      )

  -- the order begins with the next complete file and goes on above its upload time
  pub in_order_next : (p : ℕ) → next_complete fs after ≡ Some p → in_order after fs ≡ p ∷ in_order (uploaded (file_at fs p)) fs
  in_order_next p e =
      let i = next_found after (times fs) p e in
      let c = count_less after (times fs) p i.above in
      let n : count_above after (times fs) ≤ length fs = enough after fs after in
      places_same (times fs) (length fs) (suc (length fs)) after n (omega arith)
      ∙ places_next (times fs) (length fs) after p e
      ∙ ap (λ (t : ℕ). p ∷ places_above (length fs) t (times fs)) (key_at Time fs p)
