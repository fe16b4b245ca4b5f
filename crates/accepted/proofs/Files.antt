-- Files by number: what is found, and in files of which one changed. Assumes nothing.
use mathlib.Core.Path.{◌≡◌, refl, sym, ap, ◌∙◌}
use mathlib.Core.Bool.{Bool, true, false, cond}
use mathlib.Core.List.{List, [], ◌∷◌, map}
use mathlib.Core.Option.{Option, none, some}
use Prim.Native.Nat.{ℕ, zero, suc, ◌+◌, ◌≤◌, ◌<◌}
use native.Mathlib.Omega.{arith}
use borrow.Author.Tests.{eqb-true, eq-eqb, ne_eqb}
use lib.Dec.{eqb}
use lib.ListN.{length, get_or}
use Rattle.table.specs.Given.{blocks_for}
use Rattle.model.specs.State.{File}
use Rattle.model.specs.Files.{find, changed, without, reserved}
use Rattle.steps.specs.Sound.{Numbers}
use Rattle.steps.proofs.Naming.{clash, by_eq, find_changed}
use Rattle.accepted.specs.Accepted.{blocks_of, total}
use Rattle.accepted.specs.Agreement.{Rising, size_of}

-- ---- what is found

pub found_number : (n : ℕ) (fs : List File) (f : File) → find n fs ≡ some f → f.number ≡ n
unfolding find
found_number n [] f e = clash e
found_number n (x ∷ fs) f e = go (eqb x.number n) refl e (found_number n fs f)
  where
    go : (b : Bool) → eqb x.number n ≡ b → cond b (some x) (find n fs) ≡ some f → (find n fs ≡ some f → f.number ≡ n) → f.number ≡ n
    go true d e ih = let z : x ≡ f = cc in ap (λ (g : File). g.number) (sym z) ∙ eqb-true x.number n d
    go false d e ih = ih e

-- its number and its time are among those given
pub record Among (n a b t : ℕ) (f : File) : Type 0 where
  pub above : a < n
  pub most : n ≤ b
  pub early : f.time ≤ t

pub number_some : (n a b t : ℕ) (fs : List File) (f : File) → Numbers a b t fs → find n fs ≡ some f → Among n a b t f
unfolding find
number_some n a b t [] f k e = clash e
number_some n a b t (x ∷ fs) f k e = go (eqb x.number n) refl e (number_some n x.number b t fs f k.3)
  where
    go : (c : Bool) → eqb x.number n ≡ c → cond c (some x) (find n fs) ≡ some f → (find n fs ≡ some f → Among n x.number b t f) → Among n a b t f
    go true d e ih =
        let z : x ≡ f = cc in
        let q = eqb-true x.number n d in
        record { above = omega (arith, k.0); most = omega (arith, k.1); early = omega (arith, k.2, ap (λ (g : File). g.time) z) }
    go false d e ih = let r = ih e in record { above = omega (arith, k.0, r.above); most = r.most; early = r.early }

pub find_below : (n a b t : ℕ) (fs : List File) → Numbers a b t fs → n ≤ a → find n fs ≡ none
unfolding find
find_below n a b t [] k h = refl
find_below n a b t (x ∷ fs) k h = rw (ne_eqb x.number n (λ z. omega (arith, k.0))) (find_below n x.number b t fs k.3 (omega (arith, k.0)))

-- ---- one of them changed

pub find_own : (n : ℕ) (h : File → File) (fs : List File) (f : File) → ((g : File) → (h g).number ≡ g.number) → find n fs ≡ some f
    → find n (changed n h fs) ≡ some (h f)
find_own n h fs f u e = find_changed n n h fs f u e ∙ ap (λ (b : Bool). some (cond b (h f) f)) (eq-eqb n n refl)

pub find_gone : (n : ℕ) (fs : List File) → find n (without n fs) ≡ none
unfolding find without
find_gone n [] = refl
find_gone n (x ∷ fs) = go (eqb x.number n) refl (find_gone n fs)
  where
    go : (b : Bool) → eqb x.number n ≡ b → find n (without n fs) ≡ none → find n (cond b (without n fs) (x ∷ without n fs)) ≡ none
    go true d ih = ih
    go false d ih = ap (λ (b : Bool). cond b (some x) (find n (without n fs))) d ∙ ih

-- ---- their numbers rise

pub numbers_rise : (a b t : ℕ) (fs : List File) → Numbers a b t fs → Rising (map (λ f. f.number) fs)
numbers_rise a b t [] k i j l h = absurd (omega arith)
numbers_rise a b t (x ∷ fs) k zero zero l h = absurd (omega arith)
numbers_rise a b t (x ∷ fs) k zero (suc j) l h = first x.number fs k.3 j (omega arith)
  where
    first : (c : ℕ) (gs : List File) → Numbers c b t gs → (j : ℕ) → j < length (map (λ (f : File). f.number) gs)
        → c < get_or (map (λ (f : File). f.number) gs) j 0
    first c [] k j h = absurd (omega arith)
    first c (g ∷ gs) k zero h = k.0
    first c (g ∷ gs) k (suc j) h = omega (arith, k.0, first g.number gs k.3 j (omega arith))
numbers_rise a b t (x ∷ fs) k (suc i) zero l h = absurd (omega arith)
numbers_rise a b t (x ∷ fs) k (suc i) (suc j) l h = numbers_rise x.number b t fs k.3 i j (omega arith) (omega arith)

-- ---- their blocks, summed by number

pub total_same : (n : ℕ) (f g : ℕ → ℕ) → ((k : ℕ) → k ≤ n → g k ≡ f k) → total n g ≡ total n f
unfolding total
total_same zero f g e = refl
total_same (suc n) f g e = omega (arith, total_same n f g (λ k h. e k (omega arith)), e (suc n) (omega arith))

total_none : (n : ℕ) → total n (λ k. 0) ≡ 0
unfolding total
total_none zero = refl
total_none (suc n) = omega (arith, total_none n)

total_moves : (n : ℕ) (f g : ℕ → ℕ) (k : ℕ) → 1 ≤ k → k ≤ n → ((j : ℕ) → (j ≡ k → ⊥) → g j ≡ f j) → total n g + f k ≡ total n f + g k
unfolding total
total_moves zero f g k a b e = absurd (omega arith)
total_moves (suc n) f g k a b e =
    by_eq k (suc n)
    (λ z.
    let t = total_same n f g (λ j h. e j (λ y. omega arith)) in
    rw z (omega arith))
    (λ z. omega (arith, total_moves n f g k a (omega arith) e, e (suc n) (λ y. z (sym y))))

abbrev pub blocks_in : List File → ℕ → ℕ
blocks_in fs n = blocks_of (size_of (find n fs))

pub reserved_total : (a b t : ℕ) (fs : List File) → Numbers a b t fs → reserved fs ≡ total b (blocks_in fs)
unfolding reserved find blocks_of
reserved_total a b t [] k = sym (total_none b)
reserved_total a b t (x ∷ fs) k =
    let moved = total_moves b (blocks_in fs) (blocks_in (x ∷ fs)) x.number (omega (arith, k.0)) k.1 other in
    omega (arith, moved, own, none-else, reserved_total x.number b t fs k.3)
  where
    other : (j : ℕ) → (j ≡ x.number → ⊥) → blocks_in (x ∷ fs) j ≡ blocks_in fs j
    other j z = ap (λ (c : Bool). blocks_of (size_of (cond c (some x) (find j fs)))) (ne_eqb x.number j (λ w. z (sym w)))

    own : blocks_in (x ∷ fs) x.number ≡ blocks_for x.size
    own = ap (λ (c : Bool). blocks_of (size_of (cond c (some x) (find x.number fs)))) (eq-eqb x.number x.number refl)

    none-else : blocks_in fs x.number ≡ 0
    none-else = ap (λ (f : Option File). blocks_of (size_of f)) (find_below x.number x.number b t fs k.3 (omega arith))

-- one file's are no more than those of all
pub reserved_some : (n : ℕ) (fs : List File) (f : File) → find n fs ≡ some f → blocks_for f.size ≤ reserved fs
unfolding find reserved
reserved_some n [] f e = clash e
reserved_some n (x ∷ fs) f e = go (eqb x.number n) e (reserved_some n fs f)
  where
    go : (b : Bool) → cond b (some x) (find n fs) ≡ some f → (find n fs ≡ some f → blocks_for f.size ≤ reserved fs)
        → blocks_for f.size ≤ blocks_for x.size + reserved fs
    go true e ih = let z : x ≡ f = cc in omega (arith, ap (λ (g : File). blocks_for g.size) z)
    go false e ih = omega (arith, ih e)
