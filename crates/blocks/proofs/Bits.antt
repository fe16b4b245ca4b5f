-- Laws of the bits of a word and of the free map: which bits are set, what setting and clearing one changes, and their count.
use mathlib.Core.Path.{◌≡◌, refl, sym, ap, ◌∙◌}
use Prim.Native.Nat.{ℕ, zero, suc, ◌+◌, ◌-◌, ◌*◌, ◌/◌, ◌%◌, ◌^◌, ◌≤◌, ◌<◌}
use native.Mathlib.Nat.{pow-suc, pow-succ', mod-lt, zero-lt-suc, zero-add, suc-add, one-mul, div-div-eq-div-mul}
use native.Mathlib.Numerals.{add-one}
use native.Mathlib.Omega.{arith}
use mathlib.Core.List.{List, [], ◌∷◌}
use lib.ListN.{length, get_or, drop}
use lib.Seq.{drop-cons}
use lib.Pow.{shl_exact}
use lib.Dec.{lit<}
use native.Mathlib.Decide.{dec_lt, ℕ_discrete}
use lib.Count.{ones, ones_step, ones-le, count_trailing_zeros, under}
use Rattle.blocks.specs.FreeMap.{free_count, bit_of, bit_at}

-- a proof by cases on an order, on an equality
pub by_lt : {P : Type 0} (a b : ℕ) → (a < b → P) → (b ≤ a → P) → P
by_lt {P} a b f g = go (dec_lt a b)
  where
    go : Dec (a < b) → P
    go (yes h) = f h
    go (no h) = g (omega arith)

pub by_eq : {P : Type 0} (a b : ℕ) → (a ≡ b → P) → ((a ≡ b → ⊥) → P) → P
by_eq {P} a b f g = go (ℕ_discrete a b)
  where
    go : Dec (a ≡ b) → P
    go (yes h) = f h
    go (no h) = g h

-- `1u64 << k`
pub shl_one : (k : ℕ) → k < 64 → (1 * 2 ^ k) % 2 ^ 64 ≡ 2 ^ k
shl_one k h = shl_exact 1 k 64 (lit< tt) (omega arith) ∙ one-mul (2 ^ k)

-- one word more is counted
pub count_step : (map : List ℕ) (i : ℕ) → i < length map → free_count (drop i map) ≡ ones (get_or map i 0) + free_count (drop (i + 1) map)
unfolding free_count
count_step map i h = rw (add-one, drop-cons map i 0)

-- bit 0 of w is w % 2, and bit (j+1) of w is bit j of w / 2
pub bit_zero : (w : ℕ) → bit_of w 0 ≡ w % 2
bit_zero w = omega arith

pub bit_suc : (w j : ℕ) → bit_of w (suc j) ≡ bit_of (w / 2) j
bit_suc w j = ap (λ (x : ℕ). w / x % 2) (pow-succ' 2 j) ∙ ap (λ (x : ℕ). x % 2) (sym (div-div-eq-div-mul w 2 (2 ^ j)))

pub bit_lt : (w j : ℕ) → bit_of w j < 2
bit_lt w j = mod-lt (w / 2 ^ j) (zero-lt-suc 1)

-- ---- trailing zeros: they end at a one, and there are fewer than k where one of the k low digits is set

pub trailing_one : (k w : ℕ) → count_trailing_zeros k w < k → bit_of w (count_trailing_zeros k w) ≡ 1
unfolding count_trailing_zeros
trailing_one zero w h = absurd (omega arith)
trailing_one (suc k) w h = go (λ g. trailing_one k (w / 2) g) (w % 2) refl (mod-lt w (zero-lt-suc 1)) h
  where
    go : (count_trailing_zeros k (w / 2) < k → bit_of (w / 2) (count_trailing_zeros k (w / 2)) ≡ 1)
        → (d : ℕ) → w % 2 ≡ d → d < 2 → under d (count_trailing_zeros k (w / 2)) < suc k → bit_of w (under d (count_trailing_zeros k (w / 2))) ≡ 1
    go ih zero e l g = bit_suc w (count_trailing_zeros k (w / 2)) ∙ ih (omega arith)
    go ih (suc zero) e l g = bit_zero w ∙ e
    go ih (suc (suc d)) e l g = absurd (omega arith)

pub trailing_zero : (k w j : ℕ) → j < count_trailing_zeros k w → bit_of w j ≡ 0
unfolding count_trailing_zeros
trailing_zero zero w j h = absurd (omega arith)
trailing_zero (suc k) w j h = go (λ i. trailing_zero k (w / 2) i) (w % 2) refl j h
  where
    go : ((i : ℕ) → i < count_trailing_zeros k (w / 2) → bit_of (w / 2) i ≡ 0)
        → (d : ℕ) → w % 2 ≡ d → (j : ℕ) → j < under d (count_trailing_zeros k (w / 2)) → bit_of w j ≡ 0
    go ih zero e zero g = bit_zero w ∙ e
    go ih zero e (suc j) g = bit_suc w j ∙ ih j (omega arith)
    go ih (suc d) e j g = absurd (omega arith)

pub trailing_lt : (k w : ℕ) → w < 2 ^ k → 0 < w → count_trailing_zeros k w < k
unfolding count_trailing_zeros
trailing_lt zero w h p = absurd (omega arith)
trailing_lt (suc k) w h p = go (trailing_lt k (w / 2) (omega (arith, pow-suc 2 k))) (w % 2) refl
  where
    go : (0 < w / 2 → count_trailing_zeros k (w / 2) < k) → (d : ℕ) → w % 2 ≡ d → under d (count_trailing_zeros k (w / 2)) < suc k
    go ih zero e = let i = ih (omega arith) in omega arith
    go ih (suc d) e = omega arith

-- ---- clearing a set bit by subtraction

pub bit_le : (j w : ℕ) → bit_of w j ≡ 1 → 2 ^ j ≤ w
bit_le zero w e = omega arith
bit_le (suc j) w e = let i = bit_le j (w / 2) (sym (bit_suc w j) ∙ e) in omega (arith, pow-suc 2 j)

half_sub : (j w : ℕ) → (w - 2 ^ suc j) / 2 ≡ w / 2 - 2 ^ j
half_sub j w = omega (arith, pow-suc 2 j)

pub clear_same : (j w : ℕ) → bit_of w j ≡ 1 → bit_of (w - 2 ^ j) j ≡ 0
clear_same zero w e = omega arith
clear_same (suc j) w e =
    bit_suc (w - 2 ^ suc j) j ∙ ap (λ (x : ℕ). bit_of x j) (half_sub j w) ∙ clear_same j (w / 2) (sym (bit_suc w j) ∙ e)

pub clear_other : (j w i : ℕ) → bit_of w j ≡ 1 → (i ≡ j → ⊥) → bit_of (w - 2 ^ j) i ≡ bit_of w i
clear_other zero w zero e n = absurd (n refl)
clear_other zero w (suc i) e n = bit_suc (w - 1) i ∙ ap (λ (x : ℕ). bit_of x i) (half w (sym (bit_zero w) ∙ e)) ∙ sym (bit_suc w i)
  where
    half : (w : ℕ) → w % 2 ≡ 1 → (w - 1) / 2 ≡ w / 2
    half w e = omega arith
clear_other (suc j) w zero e n = bit_zero (w - 2 ^ suc j) ∙ even (2 ^ j) w (2 ^ suc j) (pow-suc 2 j) (bit_le (suc j) w e) ∙ sym (bit_zero w)
  where
    even : (p w q : ℕ) → q ≡ p * 2 → q ≤ w → (w - q) % 2 ≡ w % 2
    even p w q h l = omega arith
clear_other (suc j) w (suc i) e n =
    bit_suc (w - 2 ^ suc j) i ∙ ap (λ (x : ℕ). bit_of x i) (half_sub j w)
    ∙ clear_other j (w / 2) i (sym (bit_suc w j) ∙ e) (λ q. n (ap suc q)) ∙ sym (bit_suc w i)

-- one fewer is set
pub ones_clear : (j w : ℕ) → bit_of w j ≡ 1 → ones w ≡ ones (w - 2 ^ j) + 1
ones_clear zero w e = go w (ones (w / 2)) (sym (bit_zero w) ∙ e) (ones_step w) (ones_step (w - 1)) (ap ones (half w (sym (bit_zero w) ∙ e)))
  where
    half : (w : ℕ) → w % 2 ≡ 1 → (w - 1) / 2 ≡ w / 2
    half w e = omega arith

    go : (w r : ℕ) → w % 2 ≡ 1 → ones w ≡ w % 2 + r → ones (w - 1) ≡ (w - 1) % 2 + ones ((w - 1) / 2) → ones ((w - 1) / 2) ≡ r
        → ones w ≡ ones (w - 1) + 1
    go w r a b c d = omega arith
ones_clear (suc j) w e =
    go (ones_step w) (ones_step (w - 2 ^ suc j)) (ap ones (half_sub j w)) (ones_clear j (w / 2) (sym (bit_suc w j) ∙ e))
    (sym (bit_zero (w - 2 ^ suc j)) ∙ clear_other (suc j) w 0 e (λ q. omega arith) ∙ bit_zero w)
  where
    go : ones w ≡ w % 2 + ones (w / 2) → ones (w - 2 ^ suc j) ≡ (w - 2 ^ suc j) % 2 + ones ((w - 2 ^ suc j) / 2)
        → ones ((w - 2 ^ suc j) / 2) ≡ ones (w / 2 - 2 ^ j) → ones (w / 2) ≡ ones (w / 2 - 2 ^ j) + 1
        → (w - 2 ^ suc j) % 2 ≡ w % 2 → ones w ≡ ones (w - 2 ^ suc j) + 1
    go a b c d e = omega arith

-- ---- setting a clear bit by addition

pub put_same : (j w : ℕ) → bit_of w j ≡ 0 → bit_of (w + 2 ^ j) j ≡ 1
put_same zero w e = omega arith
put_same (suc j) w e =
    bit_suc (w + 2 ^ suc j) j ∙ ap (λ (x : ℕ). bit_of x j) (half (2 ^ suc j) (2 ^ j) (pow-suc 2 j)) ∙ put_same j (w / 2) (sym (bit_suc w j) ∙ e)
  where
    half : (q p : ℕ) → q ≡ p * 2 → (w + q) / 2 ≡ w / 2 + p
    half q p h = omega arith

pub put_other : (j w i : ℕ) → bit_of w j ≡ 0 → (i ≡ j → ⊥) → bit_of (w + 2 ^ j) i ≡ bit_of w i
put_other j w i e n = sym (clear_other j (w + 2 ^ j) i (put_same j w e) n) ∙ ap (λ (x : ℕ). bit_of x i) (back w (2 ^ j))
  where
    back : (w p : ℕ) → (w + p) - p ≡ w
    back w p = omega arith

pub put_lt : (k j w : ℕ) → j < k → w < 2 ^ k → bit_of w j ≡ 0 → w + 2 ^ j < 2 ^ k
put_lt zero j w l h e = absurd (omega arith)
put_lt (suc k) zero w l h e = go (2 ^ k) (2 ^ suc k) (pow-suc 2 k) h (sym (bit_zero w) ∙ e)
  where
    go : (p q : ℕ) → q ≡ p * 2 → w < q → w % 2 ≡ 0 → w + 1 < q
    go p q a b c = omega arith
put_lt (suc k) (suc j) w l h e =
    go (2 ^ k) (2 ^ suc k) (2 ^ j) (2 ^ suc j) (pow-suc 2 k) (pow-suc 2 j) h
    (λ g. put_lt k j (w / 2) (omega arith) g (sym (bit_suc w j) ∙ e))
  where
    go : (p q r s : ℕ) → q ≡ p * 2 → s ≡ r * 2 → w < q → (w / 2 < p → w / 2 + r < p) → w + s < q
    go p q r s a b c d = let i = d (omega arith) in omega arith

-- ---- the count of one bits is the number of set places

-- f 0 + f 1 + .. + f (n - 1)
unfoldable pub sum_to : ℕ → (ℕ → ℕ) → ℕ
sum_to zero f = 0
sum_to (suc n) f = f 0 + sum_to n (λ i. f (suc i))

pub count_ext : (n : ℕ) (f g : ℕ → ℕ) → ((i : ℕ) → i < n → f i ≡ g i) → sum_to n f ≡ sum_to n g
unfolding sum_to
count_ext zero f g h = refl
count_ext (suc n) f g h = cc (h 0 (omega arith), count_ext n (λ i. f (suc i)) (λ i. g (suc i)) (λ i l. h (suc i) (omega arith)))

pub count_add : (m n : ℕ) (f : ℕ → ℕ) → sum_to (m + n) f ≡ sum_to m f + sum_to n (λ i. f (m + i))
unfolding sum_to
count_add zero n f = simp zero-add
count_add (suc m) n f = simp suc-add (omega (arith, count_add m n (λ i. f (suc i))))

pub ones_sum : (k w : ℕ) → w < 2 ^ k → ones w ≡ sum_to k (bit_of w)
unfolding sum_to
ones_sum zero w h = omega (arith, ones-le 0 w h)
ones_sum (suc k) w h =
    let e = count_ext k (λ i. bit_of w (suc i)) (bit_of (w / 2)) (λ i l. bit_suc w i) in
    let l : w / 2 < 2 ^ k = omega (arith, pow-suc 2 k) in
    omega (arith, ones_step w, bit_zero w, ones_sum k (w / 2) l)

pub bit_here : (w : ℕ) (ws : List ℕ) (i : ℕ) → i < 64 → bit_at (w ∷ ws) i ≡ bit_of w i
bit_here w ws i l =
    let q : i / 64 ≡ 0 = omega arith in
    let r : i % 64 ≡ i = omega arith in
    rw (q, r)

pub bit_later : (w : ℕ) (ws : List ℕ) (i : ℕ) → bit_at (w ∷ ws) (64 + i) ≡ bit_at ws i
bit_later w ws i =
    let q : (64 + i) / 64 ≡ suc (i / 64) = omega arith in
    let r : (64 + i) % 64 ≡ i % 64 = omega arith in
    rw (q, r)

pub free_sum : (map : List ℕ) → ((i : ℕ) → get_or map i 0 < 2 ^ 64) → free_count map ≡ sum_to (64 * length map) (bit_at map)
unfolding sum_to free_count
free_sum [] h = refl
free_sum (w ∷ ws) h =
    let a : ones w ≡ sum_to 64 (bit_at (w ∷ ws)) = ones_sum 64 w (h 0) ∙ count_ext 64 (bit_of w) (bit_at (w ∷ ws)) (λ i l. sym (bit_here w ws i l)) in
    let b = free_sum ws (λ i. h (suc i)) ∙ count_ext (64 * length ws) (bit_at ws) (λ i. bit_at (w ∷ ws) (64 + i)) (λ i l. sym (bit_later w ws i)) in
    let e = count_add 64 (64 * length ws) (bit_at (w ∷ ws)) in
    let n : 64 + 64 * length ws ≡ 64 * suc (length ws) = omega arith in
    a-plus a b e ∙ ap (λ (n : ℕ). sum_to n (bit_at (w ∷ ws))) n
  where
    a-plus : {x y p q r : ℕ} → x ≡ p → y ≡ q → r ≡ p + q → x + y ≡ r
    a-plus a b c = omega arith
