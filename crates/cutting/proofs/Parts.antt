-- Parts of one list: what is put into one part leaves the others. Assumes nothing.
use mathlib.Core.Path.{◌≡◌, refl, sym, ap, ◌∙◌}
use mathlib.Core.Bool.{Bool, true, false}
use mathlib.Core.List.{List, [], ◌∷◌, ◌++◌, append_assoc}
use Prim.Native.Nat.{ℕ, suc, ◌+◌, ◌*◌, ◌-◌, ◌≤◌, ◌<◌}
use native.Mathlib.Omega.{arith}
use borrow.Author.Tests.{ltb-true, ltb-false}
use lib.Dec.{ltb}
use lib.ListN.{length, take, drop, set}
use lib.Seq.{sets, sets-eq, length-sets, set_comm, drop-set-lt, drop-set-add, take-set-le, drop-drop, take_at, drop_at, length-take-le}
use Rattle.links.proofs.Facts.{part_end}
use Rattle.server.specs.State.{part, with_part}

-- a number outside a range
abbrev pub Outside : ℕ → ℕ → ℕ → Type 0
Outside a n k = (m : ℕ) → a ≤ m → m < a + n → m ≡ k → ⊥

-- two ranges of the same size, at different multiples of it
pub apart : (i j n m k : ℕ) → (i ≡ j → ⊥) → i * n ≤ m → m < i * n + n → j * n ≤ k → k < j * n + n → m ≡ k → ⊥
apart i j n m k d a b c e q = go (ltb i j) refl
  where
    after : (x y : ℕ) → x < y → x * n + n ≤ y * n
    after x y h = part_end x y n h

    go : (t : Bool) → ltb i j ≡ t → ⊥
    go true z = let f = after i j (ltb-true i j z) in omega arith
    go false z =
        let l : j < i = less (ltb-false i j z) in
        let f = after j i l in
        omega arith
      where
        less : j ≤ i → j < i
        less h = by (ltb j i) refl
          where
            by : (t : Bool) → ltb j i ≡ t → j < i
            by true z = ltb-true j i z
            by false z = absurd (d (let g = ltb-false j i z in omega arith))

-- ---- a part and its list

module _ (a n : ℕ) (p l : List ℕ) (s : length p ≡ n) (r : a + n ≤ length l) where
  pub with_sets : with_part a n p l ≡ sets l a p
  with_sets =
      ap (λ (k : List ℕ). take a l ++ (p ++ k)) (drop-drop n a l ∙ ap (λ (k : ℕ). drop (a + k) l) (sym s))
      ∙ sym (append_assoc (take a l) p (drop (a + length p) l))
      ∙ sym (sets-eq p l a (omega arith))

  pub with_length : length (with_part a n p l) ≡ length l
  with_length = ap length with_sets ∙ length-sets l a p

  front : length (take a l) ≡ a
  front = length-take-le a l (omega arith)

  -- the part that was put in
  pub part_own : part a n (with_part a n p l) ≡ p
  part_own =
      ap (λ (k : List ℕ). take n k) (drop_at (take a l) (p ++ drop n (drop a l)) a front) ∙ take_at p (drop n (drop a l)) n s

  -- put in again
  pub with_over : (q : List ℕ) → with_part a n q (with_part a n p l) ≡ with_part a n q l
  with_over q =
      ap (λ (k : List ℕ). k ++ (q ++ drop n (drop a (with_part a n p l)))) (take_at (take a l) (p ++ drop n (drop a l)) a front)
      ∙ ap (λ (k : List ℕ). take a l ++ (q ++ drop n k)) (drop_at (take a l) (p ++ drop n (drop a l)) a front)
      ∙ ap (λ (k : List ℕ). take a l ++ (q ++ k)) (drop_at p (drop n (drop a l)) n s)

-- ---- another part

set_sets : (vs l : List ℕ) (i k a : ℕ) → Outside i (length vs) k → set (sets l i vs) k a ≡ sets (set l k a) i vs
set_sets [] l i k a h = refl
set_sets (v ∷ vs) l i k a h =
    set_sets vs (set l i v) (suc i) k a (λ m x y z. h m (omega arith) (omega arith) z)
    ∙ ap (λ (ks : List ℕ). sets ks (suc i) vs) (set_comm l i k v a (λ e. h i (omega arith) (omega arith) e))

pub sets_comm : (vs ws l : List ℕ) (i j : ℕ) → ((k : ℕ) → j ≤ k → k < j + length ws → Outside i (length vs) k)
    → sets (sets l i vs) j ws ≡ sets (sets l j ws) i vs
sets_comm vs [] l i j h = refl
sets_comm vs (w ∷ ws) l i j h =
    ap (λ (ks : List ℕ). sets ks (suc j) ws) (set_sets vs l i j w (h j (omega arith) (omega arith)))
    ∙ sets_comm vs ws (set l j w) i (suc j) (λ k x y. h k (omega arith) (omega arith))

part_set : (b n : ℕ) (l : List ℕ) (k a : ℕ) → Outside b n k → part b n (set l k a) ≡ part b n l
part_set b n l k a h = go (ltb k b) refl
  where
    go : (t : Bool) → ltb k b ≡ t → take n (drop b (set l k a)) ≡ take n (drop b l)
    go true q = ap (λ (ks : List ℕ). take n ks) (drop-set-lt b l k a (ltb-true k b q))
    go false q = by (ltb k (b + n)) refl
      where
        by : (t : Bool) → ltb k (b + n) ≡ t → take n (drop b (set l k a)) ≡ take n (drop b l)
        by true z = absurd (h k (ltb-false k b q) (ltb-true k (b + n) z) refl)
        by false z =
            let f = ltb-false k b q in
            let g = ltb-false k (b + n) z in
            let e : k ≡ b + (k - b) = omega arith in
            ap (λ (j : ℕ). take n (drop b (set l j a))) e
            ∙ ap (λ (ks : List ℕ). take n ks) (drop-set-add b l (k - b) a)
            ∙ take-set-le n (drop b l) (k - b) a (omega arith)

part_sets : (vs l : List ℕ) (b n i : ℕ) → ((k : ℕ) → i ≤ k → k < i + length vs → Outside b n k) → part b n (sets l i vs) ≡ part b n l
part_sets [] l b n i h = refl
part_sets (v ∷ vs) l b n i h =
    part_sets vs (set l i v) b n (suc i) (λ k x y. h k (omega arith) (omega arith)) ∙ part_set b n l i v (h i (omega arith) (omega arith))

module _ (i j n : ℕ) (p l : List ℕ) (d : i ≡ j → ⊥) (s : length p ≡ n) (r : i * n + n ≤ length l) where
  -- the other part is as it was
  pub part_other : part (j * n) n (with_part (i * n) n p l) ≡ part (j * n) n l
  part_other =
      ap (λ (ks : List ℕ). part (j * n) n ks) (with_sets (i * n) n p l s r)
      ∙ part_sets p l (j * n) n (i * n) (λ k x y m a b e. apart i j n k m d x (omega arith) a b (sym e))

  -- two parts are put in, in any order
  pub with_comm : (q : List ℕ) → length q ≡ n → j * n + n ≤ length l
      → with_part (j * n) n q (with_part (i * n) n p l) ≡ with_part (i * n) n p (with_part (j * n) n q l)
  with_comm q t u =
      with_sets (j * n) n q (with_part (i * n) n p l) t (rw (with_length (i * n) n p l s r) u)
      ∙ ap (λ (ks : List ℕ). sets ks (j * n) q) (with_sets (i * n) n p l s r)
      ∙ sets_comm p q l (i * n) (j * n) (λ k x y m a b e. apart i j n m k d a (omega arith) x (omega arith) e)
      ∙ sym (ap (λ (ks : List ℕ). sets ks (i * n) p) (with_sets (j * n) n q l t u))
      ∙ sym (with_sets (i * n) n p (with_part (j * n) n q l) s (rw (with_length (j * n) n q l t u) r))
