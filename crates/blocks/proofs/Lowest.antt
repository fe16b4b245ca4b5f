-- Laws of the lowest free block.
use mathlib.Core.Path.{◌≡◌, refl, sym, ap, ◌∙◌}
use Prim.Native.Nat.{ℕ, zero, suc, ◌+◌, ◌-◌, ◌*◌, ◌/◌, ◌%◌, ◌^◌, ◌≤◌, ◌<◌}
use native.Mathlib.Numerals.{add-one}
use native.Mathlib.Omega.{arith}
use mathlib.Core.List.{List, [], ◌∷◌}
use lib.ListN.{length, get_or, drop}
use lib.Seq.{drop-cons}
use lib.Count.{count_trailing_zeros, trailing_le}
use Rattle.blocks.specs.FreeMap.{bit_of, bit_at, lowest, cleared}
use Rattle.blocks.proofs.Bits.{trailing_one, trailing_zero, trailing_lt, bit_here, bit_later, by_lt}
use native.Mathlib.Nat.{zero-div}

low_pos : (w : ℕ) (ws : List ℕ) → 0 < w → lowest (w ∷ ws) ≡ count_trailing_zeros 64 w
unfolding lowest
low_pos zero ws h = absurd (omega arith)
low_pos (suc w) ws h = refl

low_zero : (w : ℕ) (ws : List ℕ) → w ≡ 0 → lowest (w ∷ ws) ≡ 64 + lowest ws
unfolding lowest
low_zero zero ws h = refl
low_zero (suc w) ws h = absurd (omega arith)

pub low_found : (map : List ℕ) (i : ℕ) → i < length map → 0 < get_or map i 0 → lowest (drop i map) ≡ count_trailing_zeros 64 (get_or map i 0)
low_found map i h p = rw (drop-cons map i 0) (low_pos (get_or map i 0) (drop (suc i) map) p)

pub low_next : (map : List ℕ) (i : ℕ) → i < length map → get_or map i 0 ≡ 0 → lowest (drop i map) ≡ 64 + lowest (drop (i + 1) map)
low_next map i h p = rw (add-one, drop-cons map i 0) (low_zero (get_or map i 0) (drop (suc i) map) p)

-- the lowest free block's bit is set, and none below it
pub low_bit : (map : List ℕ) → ((i : ℕ) → get_or map i 0 < 2 ^ 64) → lowest map < 64 * length map → bit_at map (lowest map) ≡ 1
unfolding lowest
low_bit [] h l = absurd (omega arith)
low_bit (zero ∷ ws) h l = bit_later 0 ws (lowest ws) ∙ low_bit ws (λ i. h (suc i)) (omega arith)
low_bit (suc w ∷ ws) h l =
    let t = trailing_lt 64 (suc w) (h 0) (omega arith) in
    bit_here (suc w) ws (count_trailing_zeros 64 (suc w)) t ∙ trailing_one 64 (suc w) t

pub zero_bit : (j : ℕ) → bit_of 0 j ≡ 0
zero_bit j = ap (λ (x : ℕ). x % 2) (zero-div (2 ^ j))

pub low_none : (map : List ℕ) (j : ℕ) → j < lowest map → bit_at map j ≡ 0
unfolding lowest
low_none [] j h = absurd (omega arith)
low_none (zero ∷ ws) j h = by_lt j 64 (λ l. bit_here 0 ws j l ∙ zero_bit j) (λ l. high l (low_none ws (j - 64)))
  where
    high : 64 ≤ j → (j - 64 < lowest ws → bit_at ws (j - 64) ≡ 0) → bit_at (0 ∷ ws) j ≡ 0
    high l ih = let e : 64 + (j - 64) ≡ j = omega arith in ap (bit_at (0 ∷ ws)) (sym e) ∙ bit_later 0 ws (j - 64) ∙ ih (omega arith)
low_none (suc w ∷ ws) j h =
    let t = trailing_le 64 (suc w) in
    bit_here (suc w) ws j (omega arith) ∙ trailing_zero 64 (suc w) j h

-- where a bit is set, the lowest is no later than it
pub low_le : (map : List ℕ) (j : ℕ) → bit_at map j ≡ 1 → lowest map ≤ j
low_le map j e = by_lt j (lowest map) (λ l. absurd (clash (low_none map j l))) (λ l. l)
  where
    clash : bit_at map j ≡ 0 → ⊥
    clash z = omega arith

-- after the lowest free block is taken, the search goes on at its word: all words before it are 0
pub low_again : (map : List ℕ) → ((i : ℕ) → get_or map i 0 < 2 ^ 64)
    → 64 * (lowest map / 64) + lowest (drop (lowest map / 64) (cleared map (lowest map))) ≡ lowest (cleared map (lowest map))
unfolding lowest
low_again [] w = refl
low_again (zero ∷ ws) w =
    let q : (64 + lowest ws) / 64 ≡ suc (lowest ws / 64) = omega arith in
    let r : (64 + lowest ws) % 64 ≡ lowest ws % 64 = omega arith in
    rw (q, r) (omega (arith, low_again ws (λ i. w (suc i))))
low_again (suc x ∷ ws) w =
    let t = trailing_lt 64 (suc x) (w 0) (omega arith) in
    let q : count_trailing_zeros 64 (suc x) / 64 ≡ 0 = omega arith in
    rw q (omega arith)
