-- Entries that run on, and how far a directory has come in them. Assumes nothing.
use mathlib.Core.Path.{◌≡◌, refl, sym, ap, ◌∙◌}
use mathlib.Core.Bool.{Bool, true, false}
use mathlib.Core.List.{List, [], ◌∷◌, ◌++◌, append_assoc}
use Prim.Native.Nat.{ℕ, zero, suc, ◌+◌, ◌-◌, ◌≤◌, ◌<◌, min}
use native.Mathlib.Omega.{arith}
use lib.Dec.{eqb, ltb}
use lib.ListN.{length, take, drop, get_or, length-append}
use lib.Seq.{take-nil, drop-nil, take-append-add, drop-append-add}
use borrow.Author.Tests.{eqb-true, eqb-false, ltb-true, ltb-false, ne_eqb, lt-ltb, le-ltb}
use Rattle.header.specs.Entries.{running_on}
use Rattle.listing.specs.Listing.{position, position_at}

-- ---- lists

-- past the front part of two
pub drop_past : (n : ℕ) (xs ys : List ℕ) → length xs ≤ n → drop n (xs ++ ys) ≡ drop (n - length xs) ys
drop_past n xs ys h =
    let e : n ≡ length xs + (n - length xs) = omega arith in
    ap (λ (k : ℕ). drop k (xs ++ ys)) e ∙ drop-append-add xs ys (n - length xs)

pub take_past : (n : ℕ) (xs ys : List ℕ) → length xs ≤ n → take n (xs ++ ys) ≡ xs ++ take (n - length xs) ys
take_past n xs ys h =
    let e : n ≡ length xs + (n - length xs) = omega arith in
    ap (λ (k : ℕ). take k (xs ++ ys)) e ∙ take-append-add xs ys (n - length xs)

-- entries behind and entries to come
pub running_split : (k : ℕ) (es : List (List ℕ)) → running_on (take k es) ++ running_on (drop k es) ≡ running_on es
unfolding running_on
running_split zero es = refl
running_split (suc k) [] = refl
running_split (suc k) (e ∷ es) = append_assoc e (running_on (take k es)) (running_on (drop k es)) ∙ ap (λ (l : List ℕ). e ++ l) (running_split k es)

pub running_take_add : (j k : ℕ) (es : List (List ℕ))
    → running_on (take (j + k) es) ≡ running_on (take j es) ++ running_on (take k (drop j es))
unfolding running_on
running_take_add zero k es = rw (zero-plus k)
  where
    zero-plus : (n : ℕ) → 0 + n ≡ n
    zero-plus n = omega arith
running_take_add (suc j) k [] = rw (take-nil {A = List ℕ} (suc j + k), take-nil {A = List ℕ} k)
running_take_add (suc j) k (e ∷ es) =
    let s : suc j + k ≡ suc (j + k) = omega arith in
    rw s (ap (λ (l : List ℕ). e ++ l) (running_take_add j k es) ∙ sym (append_assoc e (running_on (take j es)) (running_on (take k (drop j es)))))

-- ---- positions

pub position_none : (es : List (List ℕ)) → position_at 0 es ≡ position 0 0
unfolding position_at
position_none [] = refl
position_none (e ∷ es) = refl

-- within the next entry
pub position_in : (n : ℕ) (e : List ℕ) (es : List (List ℕ)) → n < length e → position_at n (e ∷ es) ≡ position 0 n
unfolding position_at
position_in zero e es h = refl
position_in (suc n) e es h =
    let z : eqb (suc n) 0 ≡ false = ne_eqb (suc n) 0 (λ q. omega arith) in
    rw (z, lt-ltb (suc n) (length e) h)

-- past it
pub position_past : (n : ℕ) (e : List ℕ) (es : List (List ℕ))
    → 1 ≤ n
    → length e ≤ n
    → position_at n (e ∷ es) ≡ position (suc (position_at (n - length e) es).entry) (position_at (n - length e) es).byte
unfolding position_at
position_past n e es l h =
    let z : eqb n 0 ≡ false = ne_eqb n 0 (λ q. omega arith) in
    let s : 1 + (position_at (n - length e) es).entry ≡ suc (position_at (n - length e) es).entry = omega arith in
    rw (z, le-ltb n (length e) h) (ap (λ (k : ℕ). position k (position_at (n - length e) es).byte) s)

-- the three ways that a position comes about
module _ (G : Type 0) (n : ℕ) (e : List ℕ) (es : List (List ℕ)) where
  cases_of : (n ≡ 0 → position_at n (e ∷ es) ≡ position 0 0 → G)
      → (n < length e → position_at n (e ∷ es) ≡ position 0 n → G)
      → (1 ≤ n → length e ≤ n
      → position_at n (e ∷ es) ≡ position (suc (position_at (n - length e) es).entry) (position_at (n - length e) es).byte → G)
      → G
  cases_of none inside past = go (eqb n 0) refl (ltb n (length e)) refl
    where
      go : (t : Bool) → eqb n 0 ≡ t → (u : Bool) → ltb n (length e) ≡ u → G
      go true p u q = let z : n ≡ 0 = eqb-true n 0 p in none z (rw z (position_none (e ∷ es)))
      go false p true q = inside (ltb-true n (length e) q) (position_in n e es (ltb-true n (length e) q))
      go false p false q =
          let above : 1 ≤ n = omega (arith, eqb-false n 0 p) in
          past above (ltb-false n (length e) q) (position_past n e es above (ltb-false n (length e) q))

-- the bytes that lie behind a position are n of them, or all that there are
pub position_length : (n : ℕ) (es : List (List ℕ))
    → length (running_on (take (position_at n es).entry es)) + (position_at n es).byte ≡ min n (length (running_on es))
unfolding running_on position_at
position_length n [] = omega arith
position_length n (e ∷ es) = go (position_length (n - length e) es)
  where
    go : length (running_on (take (position_at (n - length e) es).entry es)) + (position_at (n - length e) es).byte
        ≡ min (n - length e) (length (running_on es))
        → length (running_on (take (position_at n (e ∷ es)).entry (e ∷ es))) + (position_at n (e ∷ es)).byte
        ≡ min n (length (running_on (e ∷ es)))
    go ih =
        cases_of
        (length (running_on (take (position_at n (e ∷ es)).entry (e ∷ es))) + (position_at n (e ∷ es)).byte ≡ min n (length (running_on (e ∷ es))))
        n
        e
        es
        (λ z q. rw q (omega arith))
        (λ h q. rw (q, length-append e (running_on es)) (omega arith))
        (λ l h q.
        rw (
          q,
          length-append e (running_on es),
          length-append e (running_on (take (position_at (n - length e) es).entry es)),
        )
        (omega (arith, ih)))

-- what is left from a position on
pub position_drop : (n : ℕ) (es : List (List ℕ))
    → drop (position_at n es).byte (running_on (drop (position_at n es).entry es)) ≡ drop n (running_on es)
unfolding running_on position_at
position_drop n [] = sym (drop-nil n)
position_drop n (e ∷ es) = go (position_drop (n - length e) es)
  where
    go : drop (position_at (n - length e) es).byte (running_on (drop (position_at (n - length e) es).entry es))
        ≡ drop (n - length e) (running_on es)
        → drop (position_at n (e ∷ es)).byte (running_on (drop (position_at n (e ∷ es)).entry (e ∷ es)))
        ≡ drop n (running_on (e ∷ es))
    go ih =
        cases_of
        (drop (position_at n (e ∷ es)).byte (running_on (drop (position_at n (e ∷ es)).entry (e ∷ es))) ≡ drop n (running_on (e ∷ es)))
        n
        e
        es
        (λ z q. rw (q, z))
        (λ h q. rw q)
        (λ l h q. rw (q, drop_past n e (running_on es) h) ih)

-- a position is at an entry, or past the last one, and at a byte of that entry or at its end
pub position_within : (n : ℕ) (es : List (List ℕ))
    → ((position_at n es).entry ≤ length es) × ((position_at n es).byte ≤ length (get_or es (position_at n es).entry []))
unfolding position_at
position_within n [] = (omega arith, omega arith)
position_within n (e ∷ es) = go (position_within (n - length e) es)
  where
    go : ((position_at (n - length e) es).entry ≤ length es)
        × ((position_at (n - length e) es).byte ≤ length (get_or es (position_at (n - length e) es).entry []))
        → ((position_at n (e ∷ es)).entry ≤ length (e ∷ es))
        × ((position_at n (e ∷ es)).byte ≤ length (get_or (e ∷ es) (position_at n (e ∷ es)).entry []))
    go ih =
        cases_of
        (((position_at n (e ∷ es)).entry ≤ length (e ∷ es))
        × ((position_at n (e ∷ es)).byte ≤ length (get_or (e ∷ es) (position_at n (e ∷ es)).entry [])))
        n
        e
        es
        (λ z q. rw q (omega arith))
        (λ h q. rw q (omega arith))
        (λ l h q. rw q (omega (arith, ih)))
