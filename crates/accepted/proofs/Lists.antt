-- Lists that grow at their end. Assumes nothing.
use mathlib.Core.Path.{◌≡◌, refl, sym, ap, ◌∙◌}
use mathlib.Core.Bool.{Bool, true, false}
use mathlib.Core.List.{List, [], ◌∷◌, ◌++◌}
use mathlib.Core.Logic.{◌⊎◌, inl, inr}
use Prim.Native.Nat.{ℕ, zero, suc, ◌+◌, ◌≤◌, ◌<◌}
use native.Mathlib.Omega.{arith}
use borrow.Author.Tests.{ltb-true, ltb-false}
use lib.Dec.{ltb}
use lib.ListN.{length, get_or, length-append, get_or-append}
use lib.Seq.{get_or-append_seam}
use Rattle.accepted.specs.Accepted.{from_one, Completion, completion, last_from, times}
use Rattle.accepted.specs.Agreement.{Rising, Listed}

by_lt : {P : Type 0} (a b : ℕ) → (a < b → P) → (b ≤ a → P) → P
by_lt {P} a b f g = go (ltb a b) refl
  where
    go : (t : Bool) → ltb a b ≡ t → P
    go true e = f (ltb-true a b e)
    go false e = g (ltb-false a b e)

-- ---- at the end of a list

module _ {A : Type 0} (d : A) (xs : List A) (x : A) where
  pub snoc_length : length (xs ++ x ∷ []) ≡ length xs + 1
  snoc_length = length-append xs (x ∷ [])

  pub snoc_old : (i : ℕ) → i < length xs → get_or (xs ++ x ∷ []) i d ≡ get_or xs i d
  snoc_old i h = get_or-append xs (x ∷ []) d i h

  pub snoc_new : (i : ℕ) → i < length (xs ++ x ∷ []) → length xs ≤ i → (i ≡ length xs) × (get_or (xs ++ x ∷ []) i d ≡ x)
  snoc_new i h k =
      let e : i ≡ length xs = omega (arith, snoc_length) in
      (e, ap (λ (j : ℕ). get_or (xs ++ x ∷ []) j d) e ∙ get_or-append_seam xs x [] d)

-- ---- rising lists

abbrev pub Bounded : ℕ → List ℕ → Type 0
Bounded b xs = (i : ℕ) → i < length xs → get_or xs i 0 ≤ b

pub rising_snoc : (b x : ℕ) (xs : List ℕ) → Rising xs → Bounded b xs → b < x → Rising (xs ++ x ∷ [])
rising_snoc b x xs r u h i j l k =
    by_lt j (length xs)
    (λ w. rw (snoc_old 0 xs x i (omega arith), snoc_old 0 xs x j w) (r i j l w))
    (λ w.
    let e = snoc_new 0 xs x j k w in
    rw (e.1, snoc_old 0 xs x i (omega (arith, e.0))) (omega (arith, u i (omega (arith, e.0)))))

pub bounded_snoc : (b x : ℕ) (xs : List ℕ) → Bounded b xs → b ≤ x → Bounded x (xs ++ x ∷ [])
bounded_snoc b x xs u h i k =
    by_lt i (length xs)
    (λ w. rw (snoc_old 0 xs x i w) (omega (arith, u i w)))
    (λ w. rw (snoc_new 0 xs x i k w).1 (omega arith))

-- ---- 1, 2, 3 and so on

pub from_one_length : (n : ℕ) → length (from_one n) ≡ n
unfolding from_one
from_one_length zero = refl
from_one_length (suc n) = omega (arith, snoc_length 0 (from_one n) (suc n), from_one_length n)

pub from_one_rising : (n : ℕ) → Rising (from_one n) × Bounded n (from_one n)
unfolding from_one
from_one_rising zero = ((λ i j l h. absurd (omega arith)), (λ i h. absurd (omega arith)))
from_one_rising (suc n) =
    let r = from_one_rising n in
    (rising_snoc n (suc n) (from_one n) r.0 r.1 (omega arith), bounded_snoc n (suc n) (from_one n) r.1 (omega arith))

-- ---- completions

pub times_snoc : (cs : List Completion) (c : Completion) → times (cs ++ c ∷ []) ≡ times cs ++ c.time ∷ []
times_snoc [] c = refl
times_snoc (x ∷ cs) c = ap (λ (ts : List ℕ). x.time ∷ ts) (times_snoc cs c)

pub last_snoc : (t : ℕ) (cs : List Completion) (c : Completion) → last_from t (cs ++ c ∷ []) ≡ c.time
unfolding last_from
last_snoc t [] c = refl
last_snoc t (x ∷ cs) c = last_snoc x.time cs c

pub listed_old : (c x : Completion) (cs : List Completion) → Listed c cs → Listed c (cs ++ x ∷ [])
listed_old c x cs l =
    record {
      index = l.index;
      below = omega (arith, snoc_length (completion 0 0) cs x, l.below);
      is = snoc_old (completion 0 0) cs x l.index l.below ∙ l.is;
    }

pub listed_new : (x : Completion) (cs : List Completion) → Listed x (cs ++ x ∷ [])
listed_new x cs =
    record {
      index = length cs;
      below = omega (arith, snoc_length (completion 0 0) cs x);
      is = get_or-append_seam cs x [] (completion 0 0);
    }

pub listed_split : (c x : Completion) (cs : List Completion) → Listed c (cs ++ x ∷ []) → Listed c cs ⊎ (x ≡ c)
listed_split c x cs l =
    by_lt l.index (length cs)
    (λ w. inl (record { index = l.index; below = w; is = sym (snoc_old (completion 0 0) cs x l.index w) ∙ l.is }))
    (λ w. inr (sym (snoc_new (completion 0 0) cs x l.index l.below w).1 ∙ l.is))
