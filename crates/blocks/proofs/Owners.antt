-- Laws of the owners alone: the counts of blocks, the next block of an owner and its k-th.
use mathlib.Core.Path.{◌≡◌, refl, sym, ap, ◌∙◌, subst}
use mathlib.Core.Bool.{Bool, true, false, cond}
use Prim.Native.Nat.{ℕ, zero, suc, ◌+◌, ◌≤◌, ◌<◌}
use native.Mathlib.Nat.{zero-add, add-zero}
use native.Mathlib.Numerals.{add-one}
use native.Mathlib.Omega.{arith}
use mathlib.Core.List.{List, [], ◌∷◌}
use lib.ListN.{length, get_or, set, drop}
use lib.Seq.{drop-cons, get_or-set_same, get_or-set_other, ext_get_or}
use lib.Dec.{eqb, eqb-zero-suc, eqb-suc-zero, eqb-suc-suc}
use borrow.Author.Tests.{eq-eqb, ne_eqb, eqb-true}
use Rattle.blocks.specs.Owners.{is_free, blocks, held_count, counts_from, counts_of, next_of, nth}
use Rattle.blocks.proofs.Bits.{by_eq, sum_to, count_ext}

-- an entry that is there is the same whatever stands for those that are not
pub get_any : (l : List ℕ) (b d e : ℕ) → b < length l → get_or l b d ≡ get_or l b e
get_any [] b d e h = absurd (omega arith)
get_any (x ∷ l) zero d e h = refl
get_any (x ∷ l) (suc b) d e h = get_any l b d e (omega arith)

not_below : {o v : ℕ} → o < v → o ≡ v → ⊥
not_below l e = omega arith

-- ---- the owner of a free block is 0

pub owned : (v : ℕ) → (v ≡ 0 → ⊥) → is_free v ≡ 0
owned zero n = absurd (n refl)
owned (suc v) n = refl

pub free_is_zero : (v : ℕ) → is_free v ≡ 1 → v ≡ 0
free_is_zero zero e = refl
free_is_zero (suc v) e = absurd (omega arith)

pub is_free_le : (v : ℕ) → is_free v ≤ 1
is_free_le zero = omega arith
is_free_le (suc v) = omega arith

-- ---- counts

pub blocks_le : (v : ℕ) (owner : List ℕ) → blocks v owner ≤ length owner
unfolding blocks
blocks_le v [] = omega arith
blocks_le v (o ∷ os) = go (eqb o v) (blocks_le v os)
  where
    go : (t : Bool) → blocks v os ≤ length os → cond t 1 0 + blocks v os ≤ suc (length os)
    go true h = omega arith
    go false h = omega arith

-- an owner above all has no block
pub blocks_none : (v : ℕ) (owner : List ℕ) → ((b : ℕ) → get_or owner b 0 < v) → blocks v owner ≡ 0
unfolding blocks
blocks_none v [] h = refl
blocks_none v (o ∷ os) h = rw (ne_eqb o v (not_below (h 0))) (omega (arith, blocks_none v os (λ b. h (suc b))))

-- one entry more is counted
pub blocks_hit : (v : ℕ) (owner : List ℕ) (i : ℕ) → i < length owner → get_or owner i 0 ≡ v → blocks v (drop i owner) ≡ 1 + blocks v (drop (i + 1) owner)
unfolding blocks
blocks_hit v owner i h e = rw (add-one, drop-cons owner i 0) (simp (eq-eqb (get_or owner i 0) v e))

pub blocks_miss : (v : ℕ) (owner : List ℕ) (i : ℕ) → i < length owner → (get_or owner i 0 ≡ v → ⊥) → blocks v (drop i owner) ≡ blocks v (drop (i + 1) owner)
unfolding blocks
blocks_miss v owner i h n = rw (add-one, drop-cons owner i 0) (simp (ne_eqb (get_or owner i 0) v n, zero-add))

-- each block is free or held by some file
pub free_held : (owner : List ℕ) → blocks 0 owner + held_count owner ≡ length owner
unfolding blocks held_count
free_held [] = refl
free_held (zero ∷ os) = omega (arith, free_held os)
free_held (suc p ∷ os) = rw (eqb-suc-zero p) (omega (arith, free_held os))

-- ---- the counts of all owners at once

pub counts_length : (n v : ℕ) (owner : List ℕ) → length (counts_from n v owner) ≡ n
unfolding counts_from
counts_length zero v owner = refl
counts_length (suc n) v owner = ap suc (counts_length n (suc v) owner)

counts_get : (n v : ℕ) (owner : List ℕ) (u : ℕ) → u < n → get_or (counts_from n v owner) u 0 ≡ blocks (v + u) owner
unfolding counts_from
counts_get zero v owner u h = absurd (omega arith)
counts_get (suc n) v owner zero h = ap (λ (w : ℕ). blocks w owner) (sym (add-zero v))
counts_get (suc n) v owner (suc u) h =
    let e : suc v + u ≡ v + suc u = omega arith in
    counts_get n (suc v) owner u (omega arith) ∙ ap (λ (w : ℕ). blocks w owner) e

-- entry v is the number of blocks of owner v
pub counts_entry : (owner : List ℕ) (v : ℕ) → v ≤ 256 → get_or (counts_of owner) v 0 ≡ blocks v owner
counts_entry owner v h = counts_get 257 0 owner v (omega arith) ∙ ap (λ (w : ℕ). blocks w owner) (zero-add v)

-- a table that has each count is the table of counts
pub counts_all : (n owner : List ℕ) → length n ≡ 257 → ((v : ℕ) → v < 257 → get_or n v 0 ≡ blocks v owner) → n ≡ counts_of owner
counts_all n owner l h =
    ext_get_or 0 n (counts_of owner) (l ∙ sym (counts_length 257 0 owner))
    (λ v q. h v (omega arith) ∙ sym (counts_entry owner v (omega arith)))

-- the step of the pass: entry v grows by 1 where the next block's owner is v
pub counts_step : (n owner : List ℕ) (i v : ℕ) → length n ≡ 257 → i < length owner → get_or owner i 0 ≡ v → v < 257
    → ((u : ℕ) → u < 257 → get_or n u 0 + blocks u (drop i owner) ≡ blocks u owner)
    → (u : ℕ) → u < 257 → get_or (set n v (get_or n v 0 + 1)) u 0 + blocks u (drop (i + 1) owner) ≡ blocks u owner
counts_step n owner i v l h e q k u r =
    by_eq u v
    (λ s. same s (k u r) (get_or-set_same n v (get_or n v 0 + 1) 0 (omega arith)) (blocks_hit v owner i h e))
    (λ s. other (k u r) (get_or-set_other n v u (get_or n v 0 + 1) 0 s) (blocks_miss u owner i h (λ z. s (sym z ∙ e))))
  where
    same : u ≡ v → get_or n u 0 + blocks u (drop i owner) ≡ blocks u owner → get_or (set n v (get_or n v 0 + 1)) v 0 ≡ get_or n v 0 + 1
        → blocks v (drop i owner) ≡ 1 + blocks v (drop (i + 1) owner)
        → get_or (set n v (get_or n v 0 + 1)) u 0 + blocks u (drop (i + 1) owner) ≡ blocks u owner
    same s a b c = rw s (let a' = rw s at a in omega arith)

    other : get_or n u 0 + blocks u (drop i owner) ≡ blocks u owner → get_or (set n v (get_or n v 0 + 1)) u 0 ≡ get_or n u 0
        → blocks u (drop i owner) ≡ blocks u (drop (i + 1) owner)
        → get_or (set n v (get_or n v 0 + 1)) u 0 + blocks u (drop (i + 1) owner) ≡ blocks u owner
    other a b c = omega arith

-- ---- the next block of an owner

pub next_le : (v : ℕ) (owner : List ℕ) (from : ℕ) → next_of v owner from ≤ length owner
unfolding next_of
next_le v [] from = omega arith
next_le v (o ∷ os) zero = go (eqb o v) (next_le v os 0)
  where
    go : (t : Bool) → next_of v os 0 ≤ length os → cond t 0 (suc (next_of v os 0)) ≤ suc (length os)
    go true h = omega arith
    go false h = omega arith
next_le v (o ∷ os) (suc from) = omega (arith, next_le v os from)

pub next_end : (v : ℕ) (owner : List ℕ) (from : ℕ) → length owner ≤ from → next_of v owner from ≡ length owner
unfolding next_of
next_end v [] from h = refl
next_end v (o ∷ os) zero h = absurd (omega arith)
next_end v (o ∷ os) (suc from) h = ap suc (next_end v os from (omega arith))

pub next_here : (v : ℕ) (owner : List ℕ) (b : ℕ) → b < length owner → get_or owner b 0 ≡ v → next_of v owner b ≡ b
unfolding next_of
next_here v [] b h e = absurd (omega arith)
next_here v (o ∷ os) zero h e = rw (eq-eqb o v e)
next_here v (o ∷ os) (suc b) h e = ap suc (next_here v os b (omega arith) e)

pub next_skip : (v : ℕ) (owner : List ℕ) (b : ℕ) → (get_or owner b 0 ≡ v → ⊥) → next_of v owner b ≡ next_of v owner (suc b)
unfolding next_of
next_skip v [] b n = refl
next_skip v (o ∷ os) zero n = rw (ne_eqb o v n)
next_skip v (o ∷ os) (suc b) n = ap suc (next_skip v os b n)

-- an owner above all has no next block
pub next_none : (v : ℕ) (owner : List ℕ) (from : ℕ) → ((b : ℕ) → get_or owner b 0 < v) → next_of v owner from ≡ length owner
unfolding next_of
next_none v [] from h = refl
next_none v (o ∷ os) zero h = rw (ne_eqb o v (not_below (h 0))) (ap suc (next_none v os 0 (λ b. h (suc b))))
next_none v (o ∷ os) (suc from) h = ap suc (next_none v os from (λ b. h (suc b)))

-- what is found is a block of the owner, at or past the place where the search begins
pub next_owner : (v : ℕ) (owner : List ℕ) (from : ℕ) → next_of v owner from < length owner → get_or owner (next_of v owner from) 0 ≡ v
unfolding next_of
next_owner v [] from h = absurd (omega arith)
next_owner v (o ∷ os) zero h = go (eqb o v) refl h (next_owner v os 0)
  where
    go : (t : Bool) → eqb o v ≡ t → cond t 0 (suc (next_of v os 0)) < suc (length os) → (next_of v os 0 < length os → get_or os (next_of v os 0) 0 ≡ v)
        → get_or (o ∷ os) (cond t 0 (suc (next_of v os 0))) 0 ≡ v
    go true e h ih = eqb-true o v e
    go false e h ih = ih (omega arith)
next_owner v (o ∷ os) (suc from) h = next_owner v os from (omega arith)

pub next_ge : (v : ℕ) (owner : List ℕ) (from : ℕ) → from ≤ length owner → from ≤ next_of v owner from
unfolding next_of
next_ge v [] from h = h
next_ge v (o ∷ os) zero h = omega arith
next_ge v (o ∷ os) (suc from) h = omega (arith, next_ge v os from (omega arith))

-- ---- the k-th block of an owner

-- block 0 is the next one from the first block on, and each further one the next past the one before it
pub nth_zero : (v : ℕ) (owner : List ℕ) → next_of v owner 0 ≡ nth v owner 0
unfolding nth next_of
nth_zero v [] = refl
nth_zero v (o ∷ os) = ap (λ (n : ℕ). cond (eqb o v) 0 (suc n)) (nth_zero v os)

pub nth_next : (v : ℕ) (owner : List ℕ) (k : ℕ) → nth v owner (suc k) ≡ next_of v owner (suc (nth v owner k))
unfolding nth next_of
nth_next v [] k = refl
nth_next v (o ∷ os) zero = ap suc (go (eqb o v) (sym (nth_zero v os)) (nth_next v os 0))
  where
    go : (t : Bool) → nth v os 0 ≡ next_of v os 0 → nth v os 1 ≡ next_of v os (suc (nth v os 0))
        → nth v os (cond t 0 1) ≡ next_of v os (cond t 0 (suc (nth v os 0)))
    go true a b = a
    go false a b = b
nth_next v (o ∷ os) (suc k) = ap suc (go (eqb o v) (nth_next v os k) (nth_next v os (suc k)))
  where
    go : (t : Bool) → nth v os (suc k) ≡ next_of v os (suc (nth v os k)) → nth v os (suc (suc k)) ≡ next_of v os (suc (nth v os (suc k)))
        → nth v os (cond t (suc k) (suc (suc k))) ≡ next_of v os (suc (nth v os (cond t k (suc k))))
    go true a b = a
    go false a b = b

pub nth_owner : (v : ℕ) (owner : List ℕ) (k : ℕ) → nth v owner k < length owner → get_or owner (nth v owner k) 0 ≡ v
unfolding nth
nth_owner v [] k h = absurd (omega arith)
nth_owner v (o ∷ os) zero h = go (eqb o v) refl h (λ h'. nth_owner v os 0 h')
  where
    go : (t : Bool) → eqb o v ≡ t → cond t 0 (suc (nth v os 0)) < suc (length os) → (nth v os 0 < length os → get_or os (nth v os 0) 0 ≡ v)
        → get_or (o ∷ os) (cond t 0 (suc (nth v os 0))) 0 ≡ v
    go true e h ih = eqb-true o v e
    go false e h ih = ih (omega arith)
nth_owner v (o ∷ os) (suc k) h = nth_owner v os (cond (eqb o v) k (suc k)) (omega arith)

-- there is a k-th block where the owner has more than k
pub nth_in : (v : ℕ) (owner : List ℕ) (k : ℕ) → k < blocks v owner → nth v owner k < length owner
unfolding nth blocks
nth_in v [] k h = absurd (omega arith)
nth_in v (o ∷ os) zero h = go (eqb o v) h (nth_in v os 0)
  where
    go : (t : Bool) → 0 < cond t 1 0 + blocks v os → (0 < blocks v os → nth v os 0 < length os) → cond t 0 (suc (nth v os 0)) < suc (length os)
    go true h ih = omega arith
    go false h ih = let i = ih (omega arith) in omega arith
nth_in v (o ∷ os) (suc k) h = go (eqb o v) h (nth_in v os)
  where
    go : (t : Bool) → suc k < cond t 1 0 + blocks v os → ((i : ℕ) → i < blocks v os → nth v os i < length os) → suc (nth v os (cond t k (suc k))) < suc (length os)
    go true h ih = let i = ih k (omega arith) in omega arith
    go false h ih = let i = ih (suc k) (omega arith) in omega arith

pub nth_le : (v : ℕ) (owner : List ℕ) (k : ℕ) → nth v owner k ≤ length owner
nth_le v owner zero = subst (λ (n : ℕ). n ≤ length owner) (nth_zero v owner) (next_le v owner 0)
nth_le v owner (suc k) = subst (λ (n : ℕ). n ≤ length owner) (sym (nth_next v owner k)) (next_le v owner (suc (nth v owner k)))

-- ---- the blocks held are the sum over the files of their blocks

sum_add : (n : ℕ) (f g : ℕ → ℕ) → sum_to n (λ i. f i + g i) ≡ sum_to n f + sum_to n g
unfolding sum_to
sum_add zero f g = refl
sum_add (suc n) f g = omega (arith, sum_add n (λ i. f (suc i)) (λ i. g (suc i)))

sum_none : (n : ℕ) → sum_to n (λ i. 0) ≡ 0
unfolding sum_to
sum_none zero = refl
sum_none (suc n) = omega (arith, sum_none n)

-- an owner is counted once, at its own place
one_place : (n q : ℕ) → q < n → sum_to n (λ p. cond (eqb q p) 1 0) ≡ 1
unfolding sum_to
one_place zero q h = absurd (omega arith)
one_place (suc n) zero h =
    let e = count_ext n (λ i. cond (eqb 0 (suc i)) 1 0) (λ i. 0) (λ i l. simp (eqb-zero-suc i)) ∙ sum_none n in
    omega arith
one_place (suc n) (suc q) h =
    let e = count_ext n (λ i. cond (eqb (suc q) (suc i)) 1 0) (λ i. cond (eqb q i) 1 0) (λ i l. simp (eqb-suc-suc q i)) ∙ one_place n q (omega arith) in
    rw (eqb-suc-zero q) (omega arith)

pub held_sum : (files : ℕ) (owner : List ℕ) → ((b : ℕ) → get_or owner b 0 ≤ files) → held_count owner ≡ sum_to files (λ p. blocks (suc p) owner)
unfolding held_count blocks
held_sum files [] h = sym (sum_none files)
held_sum files (zero ∷ os) h =
    held_sum files os (λ b. h (suc b)) ∙ count_ext files (λ p. blocks (suc p) os) (λ p. cond (eqb 0 (suc p)) 1 0 + blocks (suc p) os) (λ p l. simp (eqb-zero-suc p, zero-add))
held_sum files (suc q ∷ os) h =
    let e = count_ext files (λ p. cond (eqb (suc q) (suc p)) 1 0) (λ p. cond (eqb q p) 1 0) (λ p l. simp (eqb-suc-suc q p)) ∙ one_place files q (h 0) in
    omega (arith, held_sum files os (λ b. h (suc b)), sum_add files (λ p. cond (eqb (suc q) (suc p)) 1 0) (λ p. blocks (suc p) os))
