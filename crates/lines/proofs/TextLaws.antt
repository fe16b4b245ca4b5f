-- Laws on numbers and bytes as text. Assumes nothing.
use Rattle.std.proofs.Common.{◌≡◌, ℕ, zero, suc, ◌+◌, ◌*◌, ◌/◌, ◌%◌, ◌^◌, ◌<◌, ◌≤◌, Bool, true, false, cond, ltb, List, [], ◌∷◌, ◌++◌, length, get_or, drop, refl, arith, length-append, drop-cons, ltb-false, ltb-true, le-ltb, lt-ltb}
use native.Mathlib.Nat.{pow-succ'}
use Rattle.numbers.specs.Hex.{hex_digit}
use Rattle.lines.specs.Text.{digits_within, decimal_of, hex_of}

-- ---- decimal

-- by the test whether there is one digit
pub opened : (m n : ℕ) → digits_within (suc m) n ≡ cond (ltb n 10) ((48 + n) ∷ []) (digits_within m (n / 10) ++ ((48 + n % 10) ∷ []))
unfolding digits_within
opened m n = go (ltb n 10)
  where
    go : (t : Bool)
        → elim t as (λ s. List ℕ) [ true ↦ (48 + n) ∷ [] | false ↦ digits_within m (n / 10) ++ ((48 + n % 10) ∷ []) ]
        ≡ cond t ((48 + n) ∷ []) (digits_within m (n / 10) ++ ((48 + n % 10) ∷ []))
    go true = refl
    go false = refl

pub none : (n : ℕ) → digits_within 0 n ≡ (48 + n) ∷ []
unfolding digits_within
none n = refl

-- more room than a number needs changes nothing
within : (m k n : ℕ) → n ≤ m → n ≤ k → digits_within m n ≡ digits_within k n
within zero zero n a b = refl
within zero (suc k) n a b = rw (opened k n, lt-ltb n 10 (omega arith), none n)
within (suc m) zero n a b = rw (opened m n, lt-ltb n 10 (omega arith), none n)
within (suc m) (suc k) n a b = rw (opened m n, opened k n, within m k (n / 10) (omega arith) (omega arith))

pub one_digit : (n : ℕ) → n < 10 → decimal_of n ≡ (48 + n) ∷ []
unfolding decimal_of
one_digit zero h = none 0
one_digit (suc n) h = rw (opened n (suc n), lt-ltb (suc n) 10 h)

pub more_digits : (n : ℕ) → 9 < n → decimal_of n ≡ decimal_of (n / 10) ++ ((48 + n % 10) ∷ [])
unfolding decimal_of
more_digits zero h = absurd (omega arith)
more_digits (suc n) h =
    rw (opened n (suc n), le-ltb (suc n) 10 (omega arith), within n (suc n / 10) (suc n / 10) (omega arith) (omega arith))

pub digits_more : (n : ℕ) → 9 < n → length (decimal_of n) ≡ length (decimal_of (n / 10)) + 1
digits_more n h = rw (more_digits n h, length-append (decimal_of (n / 10)) ((48 + n % 10) ∷ []))

pub digits_one : (n : ℕ) → n < 10 → length (decimal_of n) ≡ 1
digits_one n h = rw (one_digit n h)

pub digits_some : (n : ℕ) → 1 ≤ length (decimal_of n)
digits_some n = go (ltb n 10) refl
  where
    go : (t : Bool) → ltb n 10 ≡ t → 1 ≤ length (decimal_of n)
    go true e = omega (arith, digits_one n (ltb-true n 10 e))
    go false e = omega (arith, digits_more n (ltb-false n 10 e))

-- a number below a power of ten has no more digits than the power
tenth : (n p : ℕ) → n < 10 * p → n / 10 < p
tenth n p h = omega arith

digits_below : (k n : ℕ) → n < 10 ^ suc k → length (decimal_of n) ≤ suc k
digits_below zero n h = omega (arith, digits_one n (omega arith))
digits_below (suc k) n h = go (ltb n 10) refl (digits_below k (n / 10) (tenth n (10 ^ suc k) (rw pow-succ' at h)))
  where
    go : (t : Bool) → ltb n 10 ≡ t → length (decimal_of (n / 10)) ≤ suc k → length (decimal_of n) ≤ suc (suc k)
    go true e m = omega (arith, digits_one n (ltb-true n 10 e))
    go false e m = omega (arith, digits_more n (ltb-false n 10 e))

-- a number of 64 bits has at most 20 digits, one of 32 bits 10, one of 8 bits 3
pub digits_most : (n : ℕ) → n < 18446744073709551616 → length (decimal_of n) ≤ 20
digits_most n h = digits_below 19 n (omega arith)

pub digits_most_32 : (n : ℕ) → n < 4294967296 → length (decimal_of n) ≤ 10
digits_most_32 n h = digits_below 9 n (omega arith)

pub digits_most_8 : (n : ℕ) → n < 256 → length (decimal_of n) ≤ 3
digits_most_8 n h = digits_below 2 n (omega arith)

-- ---- hex

pub hex_length : (bs : List ℕ) → length (hex_of bs) ≡ 2 * length bs
unfolding hex_of
hex_length [] = refl
hex_length (b ∷ bs) = omega (arith, hex_length bs)

pub hex_next : (bs : List ℕ) (i : ℕ) → i < length bs
    → hex_of (drop i bs) ≡ hex_digit (get_or bs i 0 / 16) ∷ hex_digit (get_or bs i 0 % 16) ∷ hex_of (drop (suc i) bs)
unfolding hex_of
hex_next bs i h = rw (drop-cons bs i 0 h)
