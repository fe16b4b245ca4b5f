-- Laws on hexadecimal digits. Assumes nothing.
use mathlib.Core.Path.{◌≡◌, refl, sym, ap, ◌∙◌}
use mathlib.Core.Bool.{Bool, true, false, cond}
use mathlib.Core.List.{List}
use Prim.Native.Nat.{ℕ, ◌+◌, ◌*◌, ◌/◌, ◌%◌, ◌<◌}
use native.Mathlib.Omega.{arith}
use borrow.Author.Tests.{lt-ltb, le-ltb, ltb-true, ltb-false}
use lib.Dec.{ltb}
use lib.ListN.{get_or}
use native.Mathlib.Nat.{div-div-eq-div-mul}
use Rattle.numbers.specs.Hex.{hex_digit, eight}

-- a digit of each kind
pub digit_figure : (n : ℕ) → n % 16 < 10 → 48 + n % 16 ≡ hex_digit n
unfolding hex_digit
digit_figure n h = rw (lt-ltb (n % 16) 10 h)

pub digit_letter : (n : ℕ) → 9 < n % 16 → 87 + n % 16 ≡ hex_digit n
unfolding hex_digit
digit_letter n h = rw (le-ltb (n % 16) 10 (omega arith))

-- a digit of half a byte, by the test
pub digit_half : (n : ℕ) → n < 16 → hex_digit n ≡ cond (ltb n 10) (48 + n) (87 + n)
unfolding hex_digit
digit_half n h = let e : n % 16 ≡ n = omega arith in rw e

-- no two half bytes have the same digit
pub digit_one : (n m : ℕ) → n < 16 → m < 16 → hex_digit n ≡ hex_digit m → n ≡ m
digit_one n m h k e = go (ltb n 10) refl (ltb m 10) refl (sym (digit_half n h) ∙ e ∙ digit_half m k)
  where
    go : (s : Bool) → ltb n 10 ≡ s → (t : Bool) → ltb m 10 ≡ t → cond s (48 + n) (87 + n) ≡ cond t (48 + m) (87 + m) → n ≡ m
    go true p true q e = omega arith
    go true p false q e = absurd (omega (arith, ltb-true n 10 p, ltb-false m 10 q))
    go false p true q e = absurd (omega (arith, ltb-false n 10 p, ltb-true m 10 q))
    go false p false q e = omega arith

-- a digit is a byte
pub digit_byte : (n : ℕ) → hex_digit n < 256
unfolding hex_digit
digit_byte n = go (ltb (n % 16) 10)
  where
    go : (t : Bool) → cond t (48 + n % 16) (87 + n % 16) < 256
    go true = omega arith
    go false = omega arith

-- ---- eight digits

-- a number of 32 bits by the half bytes that its digits stand for
halves : (n : ℕ) → n < 4294967296
    → n
    ≡ 268435456 * (n / 268435456 % 16) + 16777216 * (n / 16777216 % 16) + 1048576 * (n / 1048576 % 16) + 65536 * (n / 65536 % 16)
    + 4096 * (n / 4096 % 16) + 256 * (n / 256 % 16) + 16 * (n / 16 % 16) + n % 16
halves n h =
    join n (n % 16) (n / 16) (n / 16 % 16) (n / 256) (n / 256 % 16) (n / 4096) (n / 4096 % 16) (n / 65536) (n / 65536 % 16) (n / 1048576)
    (n / 1048576 % 16) (n / 16777216) (n / 16777216 % 16) (n / 268435456) (n / 268435456 % 16)
    (omega arith) (above n 16) (above n 256) (above n 4096) (above n 65536) (above n 1048576) (above n 16777216) (omega arith)
  where
    above : (n k : ℕ) → n / k ≡ 16 * (n / (k * 16)) + n / k % 16
    above n k = rw (← div-div-eq-div-mul n k 16) (omega arith)

    join : (n a n1 b n2 c n3 d n4 e n5 f n6 g n7 h : ℕ)
        → n ≡ 16 * n1 + a
        → n1 ≡ 16 * n2 + b
        → n2 ≡ 16 * n3 + c
        → n3 ≡ 16 * n4 + d
        → n4 ≡ 16 * n5 + e
        → n5 ≡ 16 * n6 + f
        → n6 ≡ 16 * n7 + g
        → n7 ≡ h
        → n ≡ 268435456 * h + 16777216 * g + 1048576 * f + 65536 * e + 4096 * d + 256 * c + 16 * b + a
    join n a n1 b n2 c n3 d n4 e n5 f n6 g n7 h p q r s t u v w = omega arith

-- THE LAW: no two numbers of 32 bits have the same eight digits
pub eight_one : (n m : ℕ) → n < 4294967296 → m < 4294967296 → eight n ≡ eight m → n ≡ m
eight_one n m h k e =
    let at : (i : ℕ) → get_or (eight n) i 0 ≡ get_or (eight m) i 0 = (λ i. ap (λ (l : List ℕ). get_or l i 0) e) in
    halves n h
    ∙ same (n / 268435456 % 16) (n / 16777216 % 16) (n / 1048576 % 16) (n / 65536 % 16) (n / 4096 % 16) (n / 256 % 16) (n / 16 % 16) (n % 16)
    _ _ _ _ _ _ _ _
    (digit (n / 268435456) (m / 268435456) (at 0)) (digit (n / 16777216) (m / 16777216) (at 1)) (digit (n / 1048576) (m / 1048576) (at 2))
    (digit (n / 65536) (m / 65536) (at 3)) (digit (n / 4096) (m / 4096) (at 4)) (digit (n / 256) (m / 256) (at 5))
    (digit (n / 16) (m / 16) (at 6)) (digit n m (at 7))
    ∙ sym (halves m k)
  where
    digit : (x y : ℕ) → hex_digit (x % 16) ≡ hex_digit (y % 16) → x % 16 ≡ y % 16
    digit x y e = digit_one (x % 16) (y % 16) (omega arith) (omega arith) e

    same : (a b c d p q r s a' b' c' d' p' q' r' s' : ℕ)
        → a ≡ a' → b ≡ b' → c ≡ c' → d ≡ d' → p ≡ p' → q ≡ q' → r ≡ r' → s ≡ s'
        → 268435456 * a + 16777216 * b + 1048576 * c + 65536 * d + 4096 * p + 256 * q + 16 * r + s
        ≡ 268435456 * a' + 16777216 * b' + 1048576 * c' + 65536 * d' + 4096 * p' + 256 * q' + 16 * r' + s'
    same a b c d p q r s a' b' c' d' p' q' r' s' e₁ e₂ e₃ e₄ e₅ e₆ e₇ e₈ = rw (e₁, e₂, e₃, e₄, e₅, e₆, e₇, e₈)
