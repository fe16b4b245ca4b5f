-- The search of a name at the front of a text: a name that is found stands there, and where none is found no name goes on. Assumes nothing.
use Rattle.std.proofs.Common.{Result, Ok, Err}
use mathlib.Core.Path.{◌≡◌, refl, sym, ap, ◌∙◌}
use mathlib.Core.Bool.{Bool, true, false, ◌||◌, cond}
use mathlib.Core.List.{List, [], ◌∷◌, ◌++◌, map}
use mathlib.Core.Option.{none, some}
use Prim.Native.Nat.{ℕ, zero, suc, ◌≤◌, ◌<◌, max}
use native.Mathlib.Omega.{arith}
use lib.Dec.{ltb, eqb}
use lib.ListN.{length, take}
use lib.Seq.{take-length}
use borrow.Author.Tests.{ltb-true, ltb-false, eqb-true, eqb-false, eq-eqb}
use Rattle.text.specs.Match.{lower}
use Rattle.lines.specs.Commands.{same}
use Rattle.lines.proofs.FieldLaws.{same_equal}
use Rattle.names.specs.Names.{Named, small, begins_with, id_in, id_named, starts_in}
use Rattle.names.specs.Rows.{shared, found_in}
use Rattle.names.proofs.Tests as tests
use Rattle.names.proofs.NameLaws as names

-- ---- letters shared with a name

pub shared_within : (cs bs : List ℕ) → shared cs bs ≤ length bs
unfolding shared
shared_within [] bs = omega arith
shared_within (c ∷ cs) [] = omega arith
shared_within (c ∷ cs) (b ∷ bs) = by (shared_within cs bs) (eqb (lower b) c)
  where
    by : shared cs bs ≤ length bs → (t : Bool) → cond t (suc (shared cs bs)) 0 ≤ suc (length bs)
    by ih true = omega arith
    by ih false = omega arith

shared_most : (cs bs : List ℕ) → shared cs bs ≤ length cs
unfolding shared
shared_most [] bs = omega arith
shared_most (c ∷ cs) [] = omega arith
shared_most (c ∷ cs) (b ∷ bs) = by (shared_most cs bs) (eqb (lower b) c)
  where
    by : shared cs bs ≤ length cs → (t : Bool) → cond t (suc (shared cs bs)) 0 ≤ suc (length cs)
    by ih true = omega arith
    by ih false = omega arith

begins_itself : (w : List ℕ) → begins_with w w ≡ true
unfolding begins_with
begins_itself [] = refl
begins_itself (b ∷ w) = rw (eq-eqb b b refl) (begins_itself w)

pub map_append_one : (s : List ℕ) (b : ℕ) → map lower (s ++ b ∷ []) ≡ map lower s ++ lower b ∷ []
map_append_one [] b = refl
map_append_one (x ∷ s) b = ap (λ (l : List ℕ). lower x ∷ l) (map_append_one s b)

-- the letters that are shared are those of the name
pub shared_letters : (cs bs : List ℕ) → map lower (take (shared cs bs) bs) ≡ take (shared cs bs) cs
unfolding shared
shared_letters [] bs = refl
shared_letters (c ∷ cs) [] = refl
shared_letters (c ∷ cs) (b ∷ bs) = by (shared_letters cs bs) (eqb (lower b) c) refl
  where
    by : map lower (take (shared cs bs) bs) ≡ take (shared cs bs) cs → (t : Bool) → eqb (lower b) c ≡ t
        → map lower (take (cond t (suc (shared cs bs)) 0) (b ∷ bs)) ≡ take (cond t (suc (shared cs bs)) 0) (c ∷ cs)
    by ih true e = rw (eqb-true (lower b) c e, ih)
    by ih false e = refl

-- letters that begin a name are shared with it
begins_shared : (n : ℕ) (cs bs : List ℕ) → n ≤ length bs → begins_with (map lower (take n bs)) cs ≡ true → n ≤ shared cs bs
unfolding begins_with shared
begins_shared zero cs bs h i = omega arith
begins_shared (suc n) cs [] h i = absurd (omega arith)
begins_shared (suc n) [] (b ∷ bs) h i = absurd (tests.clash false i refl)
begins_shared (suc n) (c ∷ cs) (b ∷ bs) h i =
    let e : eqb (lower b) c ≡ true = tests.first_true (eqb (lower b) c) _ i in
    let k = begins_shared n cs bs (omega arith) (tests.second_true (eqb (lower b) c) _ i) in
    rw e (omega (arith, k))

-- ---- the search

-- a name that bytes begin with
pub record KnownAt (bs : List ℕ) (id n : ℕ) : Type 0 where
  pub letters : List ℕ
  pub spelled : map lower (take n bs) ≡ letters
  pub walks : names.walks [] letters ≡ true
  pub named : id_named letters ≡ some id
  pub size : n ≡ length letters
  pub five : 5 ≤ n
  pub within : n ≤ length bs

known_same : (p q : ℕ × ℕ) → ◌≡◌ {A = Result (ℕ × ℕ) ℕ} (Ok p) (Ok q) → p ≡ q
known_same p q e = cc

pub found_known : (xs : List Named) (m : ℕ) (bs : List ℕ) (id n : ℕ) → names.AllListed xs → found_in xs m bs ≡ Ok (id, n) → KnownAt bs id n
unfolding found_in names.AllListed
found_known [] m bs id n h e = let z : ◌≡◌ {A = ℕ} 0 1 = cc in absurd (omega arith)
found_known (x ∷ xs) m bs id n h e =
    by (found_known xs (max m (shared (small x) bs)) bs id n h.1) (eqb (shared (small x) bs) (length (small x))) refl e
  where
    by : (found_in xs (max m (shared (small x) bs)) bs ≡ Ok (id, n) → KnownAt bs id n) → (t : Bool) → eqb (shared (small x) bs) (length (small x)) ≡ t
        → cond t (Ok (x.id, length (small x))) (found_in xs (max m (shared (small x) bs)) bs) ≡ Ok (id, n) → KnownAt bs id n
    by ih true f z =
        let p : ◌≡◌ {A = ℕ × ℕ} (x.id, length (small x)) (id, n) = known_same (x.id, length (small x)) (id, n) z in
        let i : x.id ≡ id = ap (λ (q : ℕ × ℕ). q.0) p in
        let k : length (small x) ≡ n = ap (λ (q : ℕ × ℕ). q.1) p in
        let s : shared (small x) bs ≡ n = eqb-true (shared (small x) bs) (length (small x)) f ∙ k in
        record {
          letters = small x;
          spelled = rw (← s) (shared_letters (small x) bs ∙ rw (s, ← k) (take-length (small x)));
          walks = h.0.walks;
          named = rw (← i) h.0.found;
          size = sym k;
          five = omega (arith, h.0.five);
          within = omega (arith, shared_within (small x) bs);
        }
    by ih false f z = ih z

-- bytes that begin like a name, `most` of them at the most
pub data Best (bs : List ℕ) (most : ℕ) : Type 0 where
  no_letter : most ≡ 0 → Best bs most
  some_letters : (cs : List ℕ) → names.walks [] cs ≡ true → shared cs bs ≡ most → most < length cs → Best bs most

pub record UnknownAt (xs : List Named) (m : ℕ) (bs : List ℕ) (most : ℕ) : Type 0 where
  pub least : m ≤ most
  pub best : Best bs most
  pub no_more_law : most < length bs → starts_in xs (map lower (take (suc most) bs)) ≡ false

better : (x : Named) (m : ℕ) (bs : List ℕ) → names.Listed x → (shared (small x) bs ≡ length (small x) → ⊥) → Best bs m → Best bs (max m (shared (small x) bs))
better x m bs h n b = by (ltb m (shared (small x) bs)) refl
  where
    by : (t : Bool) → ltb m (shared (small x) bs) ≡ t → Best bs (max m (shared (small x) bs))
    by true e =
        let z : max m (shared (small x) bs) ≡ shared (small x) bs = omega (arith, ltb-true m (shared (small x) bs) e) in
        rw z (some_letters (small x) h.walks refl (omega (arith, shared_most (small x) bs)))
    by false e = let z : max m (shared (small x) bs) ≡ m = omega (arith, ltb-false m (shared (small x) bs) e) in rw z b

pub found_unknown : (xs : List Named) (m : ℕ) (bs : List ℕ) (most : ℕ) → names.AllListed xs → Best bs m → found_in xs m bs ≡ Err most
    → UnknownAt xs m bs most
unfolding found_in names.AllListed starts_in
found_unknown [] m bs most h b e = let z : m ≡ most = cc in rw (← z) (record { least = omega arith; best = b; no_more_law = λ i. refl })
found_unknown (x ∷ xs) m bs most h b e =
    by (found_unknown xs (max m (shared (small x) bs)) bs most h.1) (eqb (shared (small x) bs) (length (small x))) refl e
  where
    other : (begins_with (map lower (take (suc most) bs)) (small x) ≡ true → ⊥) → starts_in xs (map lower (take (suc most) bs)) ≡ false
        → begins_with (map lower (take (suc most) bs)) (small x) || starts_in xs (map lower (take (suc most) bs)) ≡ false
    other y z = rw (tests.no (begins_with (map lower (take (suc most) bs)) (small x)) y, z)

    by : (Best bs (max m (shared (small x) bs)) → found_in xs (max m (shared (small x) bs)) bs ≡ Err most → UnknownAt xs
        (max m (shared (small x) bs)) bs most)
        → (t : Bool) → eqb (shared (small x) bs) (length (small x)) ≡ t
        → cond t (Ok (x.id, length (small x))) (found_in xs (max m (shared (small x) bs)) bs) ≡ Err most → UnknownAt (x ∷ xs) m bs most
    by ih true f z = let y : ◌≡◌ {A = ℕ} 0 1 = cc in absurd (omega arith)
    by ih false f z =
        let u = ih (better x m bs h.0 (eqb-false (shared (small x) bs) (length (small x)) f) b) z in
        record {
          least = omega (arith, u.least);
          best = u.best;
          no_more_law = λ i. other (λ y. omega (arith, u.least, begins_shared (suc most) (small x) bs (omega arith) y)) (u.no_more_law i);
        }

-- what begins no name is none
pub not_named : (xs : List Named) (w : List ℕ) → starts_in xs w ≡ false → id_in xs w ≡ none
unfolding starts_in id_in
not_named [] w h = refl
not_named (x ∷ xs) w h = by (not_named xs w) (begins_with w (small x)) refl h (same (small x) w) refl
  where
    by : (starts_in xs w ≡ false → id_in xs w ≡ none) → (s : Bool) → begins_with w (small x) ≡ s → s || starts_in xs w ≡ false → (t : Bool) → same (small x) w ≡ t
        → cond t (some x.id) (id_in xs w) ≡ none
    by ih true e h t f = absurd (tests.clash true refl h)
    by ih false e h true f = absurd (tests.clash (begins_with w (small x)) (rw (same_equal (small x) w f) (begins_itself w)) e)
    by ih false e h false f = ih h
