-- What is found: the lowest place with a value, and no place exactly where none has it.
use mathlib.Core.Path.{◌≡◌, refl, sym, ap, ◌∙◌}
use mathlib.Core.Bool.{Bool, true, false, cond}
use mathlib.Core.List.{List, [], ◌∷◌}
use Prim.Native.Nat.{ℕ, zero, suc, ◌+◌, ◌≤◌, ◌<◌}
use native.Mathlib.Omega.{arith}
use native.Mathlib.Numerals.{add-one}
use native.Mathlib.Decide.{ℕ_discrete}
use lib.ListN.{length, length-map, get_or, set, drop, drop_of_length-le}
use lib.Seq.{drop-cons}
use lib.Dec.{eqb}
use borrow.Author.Tests.{eqb-true, eqb-false, eq-eqb, ne_eqb}
use Rattle.table.specs.declared.File.{File}
use Rattle.std.proofs.Common.{Option, Some, None}
use Rattle.table.specs.declared.Key.{Key}
use Rattle.table.specs.declared.Key.TheVariants.{Number}
use Rattle.table.specs.Table.{file_at, key_of, keys, numbers, first_from, first_with, find_of, free_of}
use Rattle.table.specs.Fit.{Distinct}
use Rattle.table.proofs.Records.{key_at, keys_set, keys_same}

-- two numbers are equal or not
pub by_equal : {P : Type 0} (a b : ℕ) → (a ≡ b → P) → ((a ≡ b → ⊥) → P) → P
by_equal {P} a b f g = go (ℕ_discrete a b)
  where
    go : Dec (a ≡ b) → P
    go (yes h) = f h
    go (no h) = g h

-- p is the lowest place with the value v
pub record Lowest (v : ℕ) (xs : List ℕ) (p : ℕ) : Type 0 where
  pub below : p < length xs
  pub has : get_or xs p 0 ≡ v
  pub none : (k : ℕ) → k < p → get_or xs k 0 ≡ v → ⊥

-- ---- one place after the other

module _ (v : ℕ) (xs : List ℕ) (p : ℕ) where
  first_hit : p < length xs → get_or xs p 0 ≡ v → first_from p v (drop p xs) ≡ Some p
  unfolding first_from
  first_hit h e = rw (drop-cons xs p 0 h, first_from, eq-eqb (get_or xs p 0) v e)

  first_miss : p < length xs → (get_or xs p 0 ≡ v → ⊥) → first_from p v (drop p xs) ≡ first_from (p + 1) v (drop (p + 1) xs)
  unfolding first_from
  first_miss h e = rw (add-one, drop-cons xs p 0 h, first_from, ne_eqb (get_or xs p 0) v e)

  first_end : length xs ≤ p → first_from p v (drop p xs) ≡ None
  unfolding first_from
  first_end h = rw (drop_of_length-le xs h)

-- the same for the numbers or the upload times of records
module _ (key : Key) (fs : List File) (v p : ℕ) where
  pub key_hit : p < length fs → key_of key (file_at fs p) ≡ v → first_from p v (drop p (keys key fs)) ≡ Some p
  key_hit h e = first_hit v (keys key fs) p (omega (arith, length-map fs (key_of key))) (key_at key fs p ∙ e)

  pub key_miss : p < length fs → (key_of key (file_at fs p) ≡ v → ⊥)
      → first_from p v (drop p (keys key fs)) ≡ first_from (p + 1) v (drop (p + 1) (keys key fs))
  key_miss h e = first_miss v (keys key fs) p (omega (arith, length-map fs (key_of key))) (λ k. e (sym (key_at key fs p) ∙ k))

  pub key_end : length fs ≤ p → first_from p v (drop p (keys key fs)) ≡ None
  key_end h = first_end v (keys key fs) p (omega (arith, length-map fs (key_of key)))

-- ---- the lowest place

record FoundAt (p v : ℕ) (xs : List ℕ) (q : ℕ) : Type 0 where
  k : ℕ
  place : q ≡ p + k
  lowest : Lowest v xs k

found_from : (p v : ℕ) (xs : List ℕ) (q : ℕ) → first_from p v xs ≡ Some q → FoundAt p v xs q
unfolding first_from
found_from p v [] q e = absurd (let z : ◌≡◌ {A = ℕ} 0 1 = cc in omega arith)
found_from p v (x ∷ xs) q e = go (eqb x v) refl e (found_from (suc p) v xs q)
  where
    go : (t : Bool) → eqb x v ≡ t → cond t (Some p) (first_from (suc p) v xs) ≡ Some q
        → (first_from (suc p) v xs ≡ Some q → FoundAt (suc p) v xs q) → FoundAt p v (x ∷ xs) q
    go true d e ih =
        let s : p ≡ q = cc in
        record {
          k = 0;
          place = omega arith;
          lowest = record { below = omega arith; has = eqb-true x v d; none = λ k h. absurd (omega arith) };
        }
    go false d e ih =
        let f = ih e in
        record {
          k = suc f.k;
          place = omega (arith, f.place);
          lowest =
              record {
                below = omega (arith, f.lowest.below);
                has = f.lowest.has;
                none = elim [ zero ↦ λ h. eqb-false x v d | suc k ↦ λ h. f.lowest.none k (omega arith) ];
              };
        }

none_from : (p v : ℕ) (xs : List ℕ) → first_from p v xs ≡ None → (k : ℕ) → k < length xs → get_or xs k 0 ≡ v → ⊥
unfolding first_from
none_from p v [] e = λ k h. absurd (omega arith)
none_from p v (x ∷ xs) e = go (eqb x v) refl e (none_from (suc p) v xs)
  where
    go : (t : Bool) → eqb x v ≡ t → cond t (Some p) (first_from (suc p) v xs) ≡ None
        → (first_from (suc p) v xs ≡ None → (k : ℕ) → k < length xs → get_or xs k 0 ≡ v → ⊥)
        → (k : ℕ) → k < length (x ∷ xs) → get_or (x ∷ xs) k 0 ≡ v → ⊥
    go true d e ih k h = absurd (let z : ◌≡◌ {A = ℕ} 0 1 = cc in omega arith)
    go false d e ih zero h = eqb-false x v d
    go false d e ih (suc k) h = ih e k (omega arith)

from_lowest : (p v : ℕ) (xs : List ℕ) (k : ℕ) → Lowest v xs k → first_from p v xs ≡ Some (p + k)
unfolding first_from
from_lowest p v [] k l = absurd (omega (arith, l.below))
from_lowest p v (x ∷ xs) zero l = rw (eq-eqb x v l.has) (ap Some (omega arith))
from_lowest p v (x ∷ xs) (suc k) l =
    let rest : Lowest v xs k =
    record { below = omega (arith, l.below); has = l.has; none = λ j h. l.none (suc j) (omega arith) } in
    rw (ne_eqb x v (l.none 0 (omega arith))) (from_lowest (suc p) v xs k rest ∙ ap Some (omega arith))

from_absent : (p v : ℕ) (xs : List ℕ) → ((k : ℕ) → k < length xs → get_or xs k 0 ≡ v → ⊥) → first_from p v xs ≡ None
unfolding first_from
from_absent p v [] n = refl
from_absent p v (x ∷ xs) n =
    rw (ne_eqb x v (n 0 (omega arith))) (from_absent (suc p) v xs (λ k h. n (suc k) (omega arith)))

module _ (v : ℕ) (xs : List ℕ) where
  pub first_found : (p : ℕ) → first_with v xs ≡ Some p → Lowest v xs p
  first_found p e = go (found_from 0 v xs p e)
    where
      go : FoundAt 0 v xs p → Lowest v xs p
      go f = let s : p ≡ f.k = omega (arith, f.place) in rw s f.lowest

  pub first_none : first_with v xs ≡ None → (k : ℕ) → k < length xs → get_or xs k 0 ≡ v → ⊥
  first_none e = none_from 0 v xs e

  pub first_lowest : (p : ℕ) → Lowest v xs p → first_with v xs ≡ Some p
  first_lowest p l = from_lowest 0 v xs p l ∙ ap Some (omega arith)

  pub first_absent : ((k : ℕ) → k < length xs → get_or xs k 0 ≡ v → ⊥) → first_with v xs ≡ None
  first_absent n = from_absent 0 v xs n

-- a value other than 0 stands at a place of the list
pub within : (xs : List ℕ) (p : ℕ) → (get_or xs p 0 ≡ 0 → ⊥) → p < length xs
within [] p h = absurd (h refl)
within (x ∷ xs) zero h = omega arith
within (x ∷ xs) (suc p) h = omega (arith, within xs p h)

-- where no two places have the same value, it is found at its own place
pub first_own : (xs : List ℕ) → Distinct xs → (p : ℕ) → (get_or xs p 0 ≡ 0 → ⊥) → first_with (get_or xs p 0) xs ≡ Some p
first_own xs d p h =
    first_lowest (get_or xs p 0) xs p
    (record {
      below = within xs p h;
      has = refl;
      none = λ k l e. let s = d p k h (sym e) in omega arith;
    })

-- ---- files

module _ (fs : List File) where
  pub find_found : (n p : ℕ) → find_of fs n ≡ Some p → (n ≡ 0 → ⊥) × Lowest n (numbers fs) p
  find_found n p e = go (eqb n 0) refl e
    where
      go : (t : Bool) → eqb n 0 ≡ t → cond t None (first_with n (numbers fs)) ≡ Some p → (n ≡ 0 → ⊥) × Lowest n (numbers fs) p
      go true d e = absurd (let z : ◌≡◌ {A = ℕ} 0 1 = cc in omega arith)
      go false d e = (eqb-false n 0 d, first_found n (numbers fs) p e)

  -- the record found has the number
  pub find_number_law : (n p : ℕ) → find_of fs n ≡ Some p → (file_at fs p).number ≡ n
  find_number_law n p e = sym (key_at Number fs p) ∙ (find_found n p e).1.has

  pub find_place : (n p : ℕ) → find_of fs n ≡ Some p → p < length fs
  find_place n p e = let l = (find_found n p e).1 in omega (arith, l.below, length-map fs (key_of Number))

  pub find_none : (n : ℕ) → find_of fs n ≡ None → (n ≡ 0 → ⊥) → (k : ℕ) → (file_at fs k).number ≡ n → ⊥
  find_none n e z k h =
      let r : first_with n (numbers fs) ≡ None = rw (ne_eqb n 0 z) at e in
      let s : get_or (numbers fs) k 0 ≡ n = key_at Number fs k ∙ h in
      first_none n (numbers fs) r k (within (numbers fs) k (λ y. z (sym s ∙ y))) s

  pub find_absent : (n : ℕ) → ((k : ℕ) → (file_at fs k).number ≡ n → ⊥) → find_of fs n ≡ None
  find_absent n h = go (eqb n 0)
    where
      go : (t : Bool) → cond t None (first_with n (numbers fs)) ≡ None
      go true = refl
      go false = first_absent n (numbers fs) (λ k l e. h k (sym (key_at Number fs k) ∙ e))

  -- with distinct numbers a file's number is found at its place
  pub find_own : Distinct (numbers fs) → (p : ℕ) → ((file_at fs p).number ≡ 0 → ⊥) → find_of fs (file_at fs p).number ≡ Some p
  find_own d p h =
      rw (ne_eqb (file_at fs p).number 0 h, ← key_at Number fs p) (first_own (numbers fs) d p (λ z. h (sym (key_at Number fs p) ∙ z)))

  pub free_found : (p : ℕ) → free_of fs ≡ Some p → Lowest 0 (numbers fs) p
  free_found p e = first_found 0 (numbers fs) p e

  -- the place found is one of the table and has no file
  pub free_place : (p : ℕ) → free_of fs ≡ Some p → (p < length fs) × ((file_at fs p).number ≡ 0)
  free_place p e =
      let l = free_found p e in
      (omega (arith, l.below, length-map fs (key_of Number)), sym (key_at Number fs p) ∙ l.has)

  pub free_none : free_of fs ≡ None → (k : ℕ) → k < length fs → (file_at fs k).number ≡ 0 → ⊥
  free_none e k h z = first_none 0 (numbers fs) e k (omega (arith, length-map fs (key_of Number))) (key_at Number fs k ∙ z)

-- ---- after a record is stored

first_set : (b v : ℕ) (xs : List ℕ) (p x : ℕ) → (x ≡ v → ⊥) → (get_or xs p 0 ≡ v → ⊥) → first_from b v (set xs p x) ≡ first_from b v xs
unfolding first_from
first_set b v [] p x n h = refl
first_set b v (y ∷ xs) zero x n h = rw (ne_eqb x v n, ne_eqb y v h)
first_set b v (y ∷ xs) (suc p) x n h = ap (λ (r : Option ℕ). cond (eqb y v) (Some b) r) (first_set (suc b) v xs p x n h)

-- storing a record leaves where another number is found
pub find_other : (fs : List File) (n p : ℕ) (f : File) → (f.number ≡ n → ⊥) → ((file_at fs p).number ≡ n → ⊥) → find_of (set fs p f) n ≡ find_of fs n
find_other fs n p f h k =
    rw (keys_set Number fs p f, first_set 0 n (numbers fs) p f.number h (λ e. k (sym (key_at Number fs p) ∙ e)))

-- storing a record with the same number leaves where every number is found, and the free place
pub find_same : (fs : List File) (n p : ℕ) (f : File) → f.number ≡ (file_at fs p).number → find_of (set fs p f) n ≡ find_of fs n
find_same fs n p f e = rw (keys_same Number fs p f e)

pub free_same : (fs : List File) (p : ℕ) (f : File) → f.number ≡ (file_at fs p).number → free_of (set fs p f) ≡ free_of fs
free_same fs p f e = rw (keys_same Number fs p f e)
