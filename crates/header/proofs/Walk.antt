-- Laws on the items of a header: the head at a place, and the walk from item to item. Assumes nothing.
use Rattle.std.proofs.Common.{◌≡◌, ℕ, zero, suc, ◌+◌, ◌-◌, ◌*◌, ◌<◌, ◌≤◌, Bool, true, false, cond, eqb, leb, List, [], ◌∷◌, length, get_or, take, drop, sym, refl, ap, ◌∙◌, arith, length-drop, drop-cons, drop-drop, eq-eqb, ne_eqb, le-leb, leb-true}
use borrow.Author.Tests.{lt-leb}
use Rattle.numbers.specs.Numbers.{number}
use Rattle.header.specs.Items.{head_of, head_number, Walk, after, walk}
use Rattle.header.specs.declared.items.Head.{Head}
use Rattle.header.specs.declared.items.Head.TheVariants.{Broken, End, Item}

short : (ys : List ℕ) → length ys < 3 → head_of ys ≡ Broken
unfolding head_of
short [] h = refl
short (a ∷ []) h = refl
short (a ∷ b ∷ []) h = refl
short (a ∷ b ∷ n ∷ bs) h = let z : ⊥ = omega arith in absurd z

-- fewer than three bytes from the place on
pub head_short : (xs : List ℕ) (at : ℕ) → length xs < at + 3 → Broken ≡ head_of (drop at xs)
head_short xs at h = sym (short (drop at xs) (omega (arith, length-drop at xs)))

-- three bytes or more: the head by its bytes
pub head_at : (xs : List ℕ) (at : ℕ)
    → at + 3 ≤ length xs
    → head_of (drop at xs)
    ≡ cond (eqb (get_or xs at 0 + 256 * get_or xs (at + 1) 0) 0) (cond (eqb (get_or xs (at + 2) 0) 0) End Broken)
    (cond (leb (get_or xs (at + 2) 0) (length xs - 3 - at)) (Item (get_or xs at 0 + 256 * get_or xs (at + 1) 0) (get_or xs (at + 2) 0)) Broken)
unfolding head_of
head_at xs at h =
    let a1 : at + 1 ≡ suc at = omega arith in
    let a2 : at + 2 ≡ suc (suc at) = omega arith in
    let l : length xs - 3 - at ≡ length (drop (suc (suc (suc at))) xs) = omega (arith, length-drop (suc (suc (suc at))) xs) in
    rw (a1, a2, l, drop-cons xs at 0 (omega arith), drop-cons xs (suc at) 0 (omega arith), drop-cons xs (suc (suc at)) 0 (omega arith))

-- the head at a place, its id being given as the number of two bytes
module _ (xs : List ℕ) (at id : ℕ) (h : at + 3 ≤ length xs) (e : id ≡ number (get_or xs at 0 ∷ get_or xs (at + 1) 0 ∷ [])) where
  by_id : head_of (drop at xs)
      ≡ cond (eqb id 0) (cond (eqb (get_or xs (at + 2) 0) 0) End Broken)
      (cond (leb (get_or xs (at + 2) 0) (length xs - 3 - at)) (Item id (get_or xs (at + 2) 0)) Broken)
  unfolding number
  by_id = let s : id ≡ get_or xs at 0 + 256 * get_or xs (at + 1) 0 = omega arith in rw s (head_at xs at h)

  pub head_end : id ≡ 0 → get_or xs (at + 2) 0 ≡ 0 → End ≡ head_of (drop at xs)
  head_end z n = sym (by_id ∙ simp (eq-eqb _ _ z, eq-eqb _ _ n))

  pub head_zero : id ≡ 0 → (get_or xs (at + 2) 0 ≡ 0 → ⊥) → Broken ≡ head_of (drop at xs)
  head_zero z n = sym (by_id ∙ simp (eq-eqb _ _ z, ne_eqb _ _ n))

  pub head_over : (id ≡ 0 → ⊥) → length xs - 3 - at < get_or xs (at + 2) 0 → Broken ≡ head_of (drop at xs)
  head_over z n = sym (by_id ∙ simp (ne_eqb _ _ z, lt-leb _ _ n))

  pub head_item : (id ≡ 0 → ⊥) → get_or xs (at + 2) 0 ≤ length xs - 3 - at → Item id (get_or xs (at + 2) 0) ≡ head_of (drop at xs)
  head_item z n = sym (by_id ∙ simp (ne_eqb _ _ z, le-leb _ _ n))

-- ---- from item to item

-- the walk past so many bytes is the walk of the bytes after them
pub walk_skip : (n : ℕ) (bs : List ℕ) → walk n bs ≡ walk 0 (drop n bs)
unfolding walk
walk_skip zero bs = refl
walk_skip (suc n) [] = refl
walk_skip (suc n) (b ∷ bs) = walk_skip n bs

-- an item lies within the bytes, and so does the end mark
fit : (bs : List ℕ) (i n : ℕ) → head_of bs ≡ Item i n → 3 + n ≤ length bs
unfolding head_of
fit [] i n e = let z : ◌≡◌ {A = ℕ} 0 1 = cc in omega arith
fit (a ∷ []) i n e = let z : ◌≡◌ {A = ℕ} 0 1 = cc in omega arith
fit (a ∷ b ∷ []) i n e = let z : ◌≡◌ {A = ℕ} 0 1 = cc in omega arith
fit (a ∷ b ∷ m ∷ bs) i n e = go (eqb (a + 256 * b) 0) (eqb m 0) (leb m (length bs)) refl e
  where
    go : (x y z : Bool)
        → leb m (length bs) ≡ z
        → cond x (cond y End Broken) (cond z (Item (a + 256 * b) m) Broken) ≡ Item i n
        → 3 + n ≤ length (a ∷ b ∷ m ∷ bs)
    go true true z f e = let w : ◌≡◌ {A = ℕ} 0 1 = cc in omega arith
    go true false z f e = let w : ◌≡◌ {A = ℕ} 0 1 = cc in omega arith
    go false y true f e = let same : m ≡ n = cc in omega (arith, leb-true m (length bs) f)
    go false y false f e = let w : ◌≡◌ {A = ℕ} 0 1 = cc in omega arith

end_fit : (bs : List ℕ) → head_of bs ≡ End → 3 ≤ length bs
unfolding head_of
end_fit [] e = let z : ◌≡◌ {A = ℕ} 0 1 = cc in omega arith
end_fit (a ∷ []) e = let z : ◌≡◌ {A = ℕ} 0 1 = cc in omega arith
end_fit (a ∷ b ∷ []) e = let z : ◌≡◌ {A = ℕ} 0 1 = cc in omega arith
end_fit (a ∷ b ∷ m ∷ bs) e = omega arith

-- the walk at an item, over what stands there
at_head : (bs : List ℕ) (h : Head) → head_of bs ≡ h → walk 0 bs ≡ after h bs (λ n. walk n (drop 1 bs))
unfolding walk
at_head [] h e = rw (← e, short [] (omega arith)) (unfold after in refl)
at_head (b ∷ bs) h e = rw e

-- what a loop from item to item meets at byte `at`
module _ (bs : List ℕ) (at : ℕ) where
  pub walk_broken : head_of (drop at bs) ≡ Broken → walk 0 (drop at bs) ≡ record { items = []; whole = false; size = 0 }
  unfolding after
  walk_broken e = at_head (drop at bs) Broken e

  pub walk_end : head_of (drop at bs) ≡ End → walk 0 (drop at bs) ≡ record { items = []; whole = true; size = 3 }
  unfolding after
  walk_end e = at_head (drop at bs) End e

  -- a head with the number of a refusal leaves the walk without its end
  pub refused_head : head_number (head_of (drop at bs)) ≡ 14 → (walk 0 (drop at bs)).whole ≡ false
  refused_head q = go (head_of (drop at bs)) refl q
    where
      go : (h : Head) → head_of (drop at bs) ≡ h → head_number h ≡ 14 → (walk 0 (drop at bs)).whole ≡ false
      go Broken e q = ap (λ (w : Walk). w.whole) (walk_broken e)
      go End e q = absurd (omega (arith, q))
      go (Item i n) e q = absurd (omega (arith, q))

  -- the end mark's three bytes are there
  pub end_within : head_of (drop at bs) ≡ End → at + 3 ≤ length bs
  end_within e = omega (arith, end_fit (drop at bs) e, length-drop at bs)

  module _ (i n : ℕ) (e : head_of (drop at bs) ≡ Item i n) where
    -- the item's head and data are there
    pub item_within : at + 3 + n ≤ length bs
    item_within = omega (arith, fit (drop at bs) i n e, length-drop at bs)

    -- the item, and the walk of the bytes after it
    pub walk_item : walk 0 (drop at bs)
        ≡ record {
          items = record { id = i; bytes = take n (drop (at + 3) bs) } ∷ (walk 0 (drop (at + 3 + n) bs)).items;
          whole = (walk 0 (drop (at + 3 + n) bs)).whole;
          size = 3 + n + (walk 0 (drop (at + 3 + n) bs)).size;
        }
    unfolding after
    walk_item =
        let q : at + (1 + (2 + n)) ≡ at + 3 + n = omega arith in
        let far : walk (2 + n) (drop 1 (drop at bs)) ≡ walk 0 (drop (at + 3 + n) bs) =
        walk_skip (2 + n) (drop 1 (drop at bs))
        ∙ ap (walk 0) (drop-drop (2 + n) 1 (drop at bs) ∙ drop-drop (1 + (2 + n)) at bs ∙ ap (λ (k : ℕ). drop k bs) q) in
        let near : drop 3 (drop at bs) ≡ drop (at + 3) bs = drop-drop 3 at bs in
        at_head (drop at bs) (Item i n) e ∙ rw (far, near)
