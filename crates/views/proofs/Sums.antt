-- Sums of numbers by index. Assumes nothing.
use mathlib.Core.Path.{◌≡◌, refl}
use Prim.Native.Nat.{ℕ, zero, suc, ◌+◌, ◌≤◌, ◌<◌}
use native.Mathlib.Omega.{arith}
use Rattle.blocks.proofs.Bits.{sum_to, count_ext}

-- one entry changes
pub sum_moves : (n : ℕ) (f g : ℕ → ℕ) (p : ℕ) → p < n → ((q : ℕ) → (q ≡ p → ⊥) → g q ≡ f q) → sum_to n g + f p ≡ sum_to n f + g p
unfolding sum_to
sum_moves zero f g p h e = absurd (omega arith)
sum_moves (suc n) f g zero h e =
    omega (arith, count_ext n (λ i. g (suc i)) (λ i. f (suc i)) (λ i l. e (suc i) (λ z. omega arith)))
sum_moves (suc n) f g (suc p) h e =
    omega (arith, e 0 (λ z. omega arith), sum_moves n (λ i. f (suc i)) (λ i. g (suc i)) p (omega arith) (λ q z. e (suc q) (λ y. z (omega arith))))

-- all are 0, all are 1, none is above 1, none is above 1 and one is 0
pub sum_zero : (n : ℕ) (f : ℕ → ℕ) → ((q : ℕ) → f q ≡ 0) → sum_to n f ≡ 0
unfolding sum_to
sum_zero zero f e = refl
sum_zero (suc n) f e = omega (arith, e 0, sum_zero n (λ i. f (suc i)) (λ q. e (suc q)))

pub sum_ones : (n : ℕ) (f : ℕ → ℕ) → ((q : ℕ) → q < n → f q ≡ 1) → sum_to n f ≡ n
unfolding sum_to
sum_ones zero f e = refl
sum_ones (suc n) f e = omega (arith, e 0 (omega arith), sum_ones n (λ i. f (suc i)) (λ q h. e (suc q) (omega arith)))

pub sum_most : (n : ℕ) (f : ℕ → ℕ) → ((q : ℕ) → f q ≤ 1) → sum_to n f ≤ n
unfolding sum_to
sum_most zero f e = omega arith
sum_most (suc n) f e = omega (arith, e 0, sum_most n (λ i. f (suc i)) (λ q. e (suc q)))

pub sum_below : (n : ℕ) (f : ℕ → ℕ) → ((q : ℕ) → f q ≤ 1) → (p : ℕ) → p < n → f p ≡ 0 → sum_to n f < n
unfolding sum_to
sum_below zero f e p h z = absurd (omega arith)
sum_below (suc n) f e zero h z = omega (arith, sum_most n (λ i. f (suc i)) (λ q. e (suc q)))
sum_below (suc n) f e (suc p) h z = omega (arith, e 0, sum_below n (λ i. f (suc i)) (λ q. e (suc q)) p (omega arith) z)
