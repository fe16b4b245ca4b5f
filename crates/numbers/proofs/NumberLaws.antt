-- Laws on numbers in bytes. Assumes nothing.
use mathlib.Core.Path.{◌≡◌, sym, ap, ◌∙◌}
use mathlib.Core.List.{List, [], ◌∷◌, ◌++◌, append_assoc}
use Prim.Native.Nat.{ℕ, suc, ◌+◌, ◌*◌, ◌/◌, ◌%◌, ◌≤◌, ◌<◌}
use native.Mathlib.Nat.{div-div-eq-div-mul, add-mul-mod_self_left}
use native.Mathlib.Numerals.{add-one}
use native.Mathlib.Omega.{arith}
use borrow.Author.Tests.{le-leb, lt-leb}
use lib.ListN.{length, take, drop, get_or, set}
use lib.Seq.{drop-cons, drop-drop, sets, sets-eq, paste, paste-zero, paste-suc, take-length}
use borrow.Rule.Slice.PartMut.{put_mid}
use Rattle.numbers.specs.Numbers.{number, two, four, number_at, fits_at, stored_at}
use Rattle.std.proofs.Common.{Some, None}

-- two and four elements from a place on, one by one
pub taken2 : (l : List ℕ) (at : ℕ) → at + 2 ≤ length l → take 2 (drop at l) ≡ get_or l at 0 ∷ get_or l (at + 1) 0 ∷ []
taken2 l at h = rw (add-one, drop-cons l at 0 (omega arith), drop-cons l (suc at) 0 (omega arith))

pub taken4 : (l : List ℕ) (at : ℕ)
    → at + 4 ≤ length l
    → take 4 (drop at l) ≡ get_or l at 0 ∷ get_or l (at + 1) 0 ∷ get_or l (at + 2) 0 ∷ get_or l (at + 3) 0 ∷ []
taken4 l at h =
    let two' : at + 2 ≡ suc (suc at) = omega arith in
    let three : at + 3 ≡ suc (suc (suc at)) = omega arith in
    rw (add-one, two', three, drop-cons l at 0 (omega arith), drop-cons l (suc at) 0 (omega arith), drop-cons l (suc (suc at)) 0 (omega arith), drop-cons l (suc (suc (suc at))) 0 (omega arith))

-- a number that is not all there, and one that is
pub short_at : (width : ℕ) (l : List ℕ) (at : ℕ) → length l < at + width → None ≡ number_at width l at
unfolding number_at
short_at width l at h = rw (lt-leb _ _ h)

pub value_at : (width : ℕ) (l : List ℕ) (at : ℕ) → at + width ≤ length l → number_at width l at ≡ Some (number (take width (drop at l)))
unfolding number_at
value_at width l at h = rw (le-leb _ _ h)

pub read_at16 : (l : List ℕ) (at n : ℕ) → n ≡ number (get_or l at 0 ∷ get_or l (at + 1) 0 ∷ []) → at + 2 ≤ length l → Some n ≡ number_at 2 l at
read_at16 l at n e h = ap Some (e ∙ ap number (sym (taken2 l at h))) ∙ sym (value_at 2 l at h)

pub read_at32 : (l : List ℕ) (at n : ℕ)
    → n ≡ number (get_or l at 0 ∷ get_or l (at + 1) 0 ∷ get_or l (at + 2) 0 ∷ get_or l (at + 3) 0 ∷ [])
    → at + 4 ≤ length l
    → Some n ≡ number_at 4 l at
read_at32 l at n e h = ap Some (e ∙ ap number (sym (taken4 l at h))) ∙ sym (value_at 4 l at h)

-- bytes that do not fit, and bytes that do
pub refused_at : (width : ℕ) (l : List ℕ) (at : ℕ) → length l < at + width → 33 ≡ fits_at width l at
unfolding fits_at number_at
refused_at width l at h = rw (lt-leb _ _ h)

pub accepted_at : (width : ℕ) (l : List ℕ) (at : ℕ) → at + width ≤ length l → 0 ≡ fits_at width l at
unfolding fits_at number_at
accepted_at width l at h = rw (le-leb _ _ h)

pub unstored_at : (l : List ℕ) (at : ℕ) (xs : List ℕ) → length l < at + length xs → l ≡ stored_at l at xs
unfolding stored_at
unstored_at l at xs h = rw (lt-leb _ _ h)

pub stored_at_law : (l : List ℕ) (at : ℕ) (xs : List ℕ) → at + length xs ≤ length l → stored_at l at xs ≡ sets l at xs
unfolding stored_at
stored_at_law l at xs h = rw (le-leb _ _ h)

-- the bytes of a part from a place on, once they are xs
pub stored_none : (l : List ℕ) (at : ℕ) (xs : List ℕ) → l ≡ paste l at xs 0
stored_none l at xs = paste-zero l at xs

pub stored_next : (l : List ℕ) (at : ℕ) (xs to : List ℕ) (i : ℕ)
    → at + i < length l
    → i < length xs
    → to ≡ paste l at xs i
    → set to (at + i) (get_or xs i 0) ≡ paste l at xs (i + 1)
stored_next l at xs to i h k e = rw (e, add-one) (paste-suc l at xs i 0 h k)

pub stored_all : (l : List ℕ) (at : ℕ) (xs to : List ℕ) (i : ℕ)
    → at + length xs ≤ length l
    → i ≡ length xs
    → to ≡ paste l at xs i
    → to ≡ stored_at l at xs
stored_all l at xs to i h n e = rw (stored_at_law l at xs h, sets-eq xs l at h, e, n, take-length xs)

pub stored_part : (l part xs : List ℕ) (at k : ℕ) → part ≡ xs → k ≡ length xs → at + length xs ≤ length l → put_mid at k l part ≡ stored_at l at xs
stored_part l part xs at k e n h = rw (e, n, stored_at_law l at xs h, sets-eq xs l at h) (ap (λ (r : List ℕ). take at l ++ (xs ++ r)) (drop-drop (length xs) at l) ∙ sym (append_assoc (take at l) xs (drop (at + length xs) l)))

-- the digit of a number at 256 and what stands above it
digit : (n : ℕ) → n % 256 + 256 * (n / 256) ≡ n
digit n = omega arith

above : (n k : ℕ) → n / k % 256 + 256 * (n / (k * 256)) ≡ n / k
above n k = rw (← div-div-eq-div-mul n k 256) (digit (n / k))

top : (n : ℕ) → n < 256 → n % 256 ≡ n
top n h = omega arith

-- a number of two and of four bytes, written and read
pub number_two : (n : ℕ) → n < 65536 → number (two n) ≡ n
unfolding number
number_two n h = omega arith

pub number_four : (n : ℕ) → n < 4294967296 → number (four n) ≡ n
unfolding number
number_four n h =
    let last : n / 16777216 < 256 = omega arith in
    rw (top (n / 16777216) last) (regroup n (n % 256) (n / 256 % 256) (n / 256) (n / 65536 % 256) (n / 65536) (n / 16777216) (digit n) (above n 256) (above n 65536))
  where
    regroup : (n a b n1 c n2 d : ℕ)
        → a + 256 * n1 ≡ n
        → b + 256 * n2 ≡ n1
        → c + 256 * d ≡ n2
        → a + 256 * (b + 256 * (c + 256 * (d + 256 * 0))) ≡ n
    regroup n a b n1 c n2 d p q r = omega arith

-- a digit on a number, taken off again
low : (a n : ℕ) → a < 256 → (a + 256 * n) % 256 ≡ a
low a n h = add-mul-mod_self_left a 256 n ∙ top a h

rest : (a n : ℕ) → a < 256 → (a + 256 * n) / 256 ≡ n
rest a n h = omega arith

-- bytes read, and written again
pub two_number : (a b : ℕ) → a < 256 → b < 256 → two (number (a ∷ b ∷ [])) ≡ a ∷ b ∷ []
unfolding number
two_number a b ha hb = rw (low a (b + 256 * 0) ha, rest a (b + 256 * 0) ha, low b 0 hb)

-- ---- storing byte by byte
