-- Laws on how feeding goes (specs/Feed.antt): bytes are stored as many at once as the part wants. Assumes nothing.
use mathlib.Core.Path.{◌≡◌, refl, sym, ap, ◌∙◌}
use mathlib.Core.Bool.{Bool, true, false, cond}
use mathlib.Core.List.{List, [], ◌∷◌}
use Prim.Native.Nat.{ℕ, zero, suc, ◌+◌, ◌-◌, ◌≤◌, ◌<◌, min}
use native.Mathlib.Numerals.{add-one}
use native.Mathlib.Nat.{add_assoc, zero-add, add-zero}
use native.Mathlib.Omega.{arith}
use borrow.Author.Tests.{ltb-true, ltb-false, lt-ltb, le-ltb}
use lib.Dec.{ltb}
use lib.ListN.{length, set, take, drop, drop_of_length-le, length-drop}
use lib.Seq.{sets, get_or-set_other, length-take-le, drop-drop}
use Rattle.packet.specs.declared.frame.Mark.{Mark}
use Rattle.packet.specs.declared.frame.Mark.TheVariants.{More, Long, End}
use Rattle.numbers.specs.Numbers.{stored_at}
use Rattle.numbers.proofs.NumberLaws.{stored_at_law}
use Rattle.packet.specs.Frame.{announced_in}
use Rattle.packet.specs.Feed.{mark_of, wanted_of, least_of, Part, fed_in, fed_more, after_byte, feed_of}

-- a packet that is not at its end has fewer than 258 bytes
pub more_short : (p : List ℕ) (n : ℕ) → mark_of n p ≡ More → n < 258
unfolding mark_of
more_short p n e = by_tests (ltb n 2) (ltb 256 (announced_in p)) (ltb n (2 + announced_in p)) refl refl refl e
  where
    by_tests : (a b d : Bool)
        → ltb n 2 ≡ a
        → ltb 256 (announced_in p) ≡ b
        → ltb n (2 + announced_in p) ≡ d
        → cond a More (cond b Long (cond d More End)) ≡ More
        → n < 258
    by_tests true b d p₁ p₂ p₃ e = omega (arith, ltb-true n 2 p₁)
    by_tests false true d p₁ p₂ p₃ e = let z : ◌≡◌ {A = ℕ} 0 1 = cc in omega arith
    by_tests false false true p₁ p₂ p₃ e = omega (arith, ltb-true n (2 + announced_in p) p₃, ltb-false 256 (announced_in p) p₂)
    by_tests false false false p₁ p₂ p₃ e = let z : ◌≡◌ {A = ℕ} 0 1 = cc in omega arith

pub fed_more_zero : (r : Part) → r ≡ fed_more 0 r
fed_more_zero r = simp zero-add

fed_more_add : (j k : ℕ) (r : Part) → fed_more j (fed_more k r) ≡ fed_more (j + k) r
fed_more_add j k r = simp add_assoc

-- ---- what a part wants

-- the cases of wanted_of
data Wants (n : ℕ) (p : List ℕ) : ℕ → Type 0 where
  head : n < 2 → Wants n p (2 - n)
  body : 2 ≤ n → announced_in p ≤ 256 → n < 2 + announced_in p → Wants n p (2 + announced_in p - n)
  next : Wants n p 1

wants : (n : ℕ) (p : List ℕ) → Wants n p (wanted_of n p)
unfolding wanted_of
wants n p = by_tests (ltb n 2) (ltb 256 (announced_in p)) (ltb n (2 + announced_in p)) refl refl refl
  where
    by_tests : (a b d : Bool)
        → ltb n 2 ≡ a
        → ltb 256 (announced_in p) ≡ b
        → ltb n (2 + announced_in p) ≡ d
        → Wants n p (cond a (2 - n) (cond b 1 (cond d (2 + announced_in p - n) 1)))
    by_tests true b d p₁ p₂ p₃ = head (ltb-true n 2 p₁)
    by_tests false true d p₁ p₂ p₃ = next
    by_tests false false true p₁ p₂ p₃ = body (ltb-false n 2 p₁) (ltb-false 256 (announced_in p) p₂) (ltb-true n (2 + announced_in p) p₃)
    by_tests false false false p₁ p₂ p₃ = next

-- it wants a byte at least, and no more than there is room for
pub wanted_some : (n : ℕ) (p : List ℕ) → 1 ≤ wanted_of n p
wanted_some n p = go (wanted_of n p) (wants n p)
  where
    go : (w : ℕ) → Wants n p w → 1 ≤ w
    go w (head h) = omega arith
    go w (body h a l) = omega arith
    go w next = omega arith

pub wanted_room : (n : ℕ) (p : List ℕ) → n < 258 → n + wanted_of n p ≤ 258
wanted_room n p r = go (wanted_of n p) (wants n p)
  where
    go : (w : ℕ) → Wants n p w → n + w ≤ 258
    go w (head h) = omega arith
    go w (body h a l) = omega arith
    go w next = omega arith

pub least_left : (a b : ℕ) → least_of a b ≤ a
least_left a b = go (ltb a b) refl
  where
    go : (t : Bool) → ltb a b ≡ t → cond t a b ≤ a
    go true e = omega arith
    go false e = omega (arith, ltb-false a b e)

pub least_right : (a b : ℕ) → least_of a b ≤ b
least_right a b = go (ltb a b) refl
  where
    go : (t : Bool) → ltb a b ≡ t → cond t a b ≤ b
    go true e = omega (arith, ltb-true a b e)
    go false e = omega arith

pub least_some : (a b : ℕ) → 0 < a → 0 < b → 0 < least_of a b
least_some a b h k = go (ltb a b)
  where
    go : (t : Bool) → 0 < cond t a b
    go true = h
    go false = k

pub least_is : (a b : ℕ) → min a b ≡ least_of a b
least_is a b = go (ltb a b) refl
  where
    go : (t : Bool) → ltb a b ≡ t → min a b ≡ cond t a b
    go true e = omega (arith, ltb-true a b e)
    go false e = omega (arith, ltb-false a b e)

pub run_of : (n : ℕ) (p : List ℕ) (left w r : ℕ)
    → n < 258
    → 0 < left
    → w ≡ wanted_of n p
    → r ≡ least_of w left
    → (r ≡ least_of (wanted_of n p) left) × (0 < r) × (r ≤ left) × (n + r ≤ 258)
run_of n p left w r h l e f =
    let g : r ≡ least_of (wanted_of n p) left = f ∙ ap (λ (x : ℕ). least_of x left) e in
    (g, rw g (least_some (wanted_of n p) left (wanted_some n p) l), rw g (least_right (wanted_of n p) left), omega (arith, wanted_room n p h, least_left (wanted_of n p) left))

-- a byte behind the head leaves what it announces
announced_kept : (n : ℕ) (p : List ℕ) (b : ℕ) → 2 ≤ n → announced_in (set p n b) ≡ announced_in p
announced_kept n p b h = rw (get_or-set_other p n 0 b 0 (λ e. omega arith), get_or-set_other p n 1 b 0 (λ e. omega arith))

-- a byte that is not the last one wanted ends nothing, and the others are still wanted
more_before : (n : ℕ) (p : List ℕ) (b : ℕ) → 1 < wanted_of n p → mark_of (n + 1) (set p n b) ≡ More
unfolding mark_of
more_before n p b h = go (wanted_of n p) (wants n p) h
  where
    go : (w : ℕ)
        → Wants n p w
        → 1 < w
        → cond (ltb (n + 1) 2) More (cond (ltb 256 (announced_in (set p n b))) Long (cond (ltb (n + 1) (2 + announced_in (set p n b))) More End)) ≡ More
    go w (head l) h = rw (lt-ltb (n + 1) 2 (omega arith))
    go w (body g a l) h =
        rw (le-ltb (n + 1) 2 (omega arith), announced_kept n p b g, le-ltb 256 (announced_in p) a, lt-ltb (n + 1) (2 + announced_in p) (omega arith))
    go w next h = absurd (omega arith)

wanted_next : (n : ℕ) (p : List ℕ) (b : ℕ) → 1 < wanted_of n p → wanted_of (n + 1) (set p n b) + 1 ≡ wanted_of n p
unfolding wanted_of
wanted_next n p b h = go (wanted_of n p) (wants n p) h
  where
    go : (w : ℕ)
        → Wants n p w
        → 1 < w
        → cond (ltb (n + 1) 2) (2 - (n + 1)) (cond (ltb 256 (announced_in (set p n b))) 1 (cond (ltb (n + 1) (2 + announced_in (set p n b))) (2 + announced_in (set p n b) - (n + 1)) 1)) + 1
        ≡ w
    go w (head l) h = rw (lt-ltb (n + 1) 2 (omega arith)) (omega arith)
    go w (body g a l) h =
        rw (le-ltb (n + 1) 2 (omega arith), announced_kept n p b g, le-ltb 256 (announced_in p) a, lt-ltb (n + 1) (2 + announced_in p) (omega arith)) (omega arith)
    go w next h = absurd (omega arith)

-- ---- a run of bytes

-- there are n bytes in p: the packet ends there, or the rest of the bytes counts
abbrev judged_at : ℕ → List ℕ → List ℕ → Part
judged_at n p bs = after_byte (mark_of n p) n p (feed_of p n bs)

after_more : (m : Mark) (n : ℕ) (p : List ℕ) (r : Part) → m ≡ More → after_byte m n p r ≡ fed_more 1 r
unfolding after_byte
after_more m n p r e = rw e

-- k bytes and one more, no more than are wanted: only the last of them can end the packet
ran : (k : ℕ) (bs p : List ℕ) (n : ℕ)
    → k < length bs
    → k < wanted_of n p
    → feed_of p n bs ≡ fed_more k (judged_at (n + suc k) (sets p n (take (suc k) bs)) (drop (suc k) bs))
unfolding feed_of
ran k [] p n h w = absurd (omega arith)
ran zero (b ∷ bs) p n h w = fed_more_zero _
ran (suc k) (b ∷ bs) p n h w =
    let next : wanted_of (n + 1) (set p n b) + 1 ≡ wanted_of n p = wanted_next n p b (omega arith) in
    after_more _ (n + 1) (set p n b) _ (more_before n p b (omega arith)) ∙ ap (fed_more 1) (ran k bs (set p n b) (n + 1) (omega arith) (omega arith)) ∙ fed_more_add 1 k _
    ∙ regroup (1 + k) (suc k) (n + 1 + suc k) (n + suc (suc k)) (n + 1) (suc n) (omega arith) (omega arith) (add-one n)
  where
    regroup : (i i' m m' j j' : ℕ)
        → i ≡ i'
        → m ≡ m'
        → j ≡ j'
        → fed_more i (judged_at m (sets (set p n b) j (take (suc k) bs)) (drop (suc k) bs)) ≡ fed_more i' (judged_at m' (sets (set p n b) j' (take (suc k) bs)) (drop (suc k) bs))
    regroup i i' m m' j j' e f g = rw (e, f, g)

-- after i bytes there are n in p, and the k bytes at i are next: q is p with them
module _ (p₀ p input q : List ℕ)
    (h n i k left : ℕ)
    (inv : feed_of p₀ h input ≡ fed_more i (feed_of p n (drop i input)))
    (some : 0 < k)
    (there : i + k ≤ length input)
    (few : k ≡ least_of (wanted_of n p) left)
    (room : n + k ≤ length p)
    (stored : q ≡ stored_at p n (take (i + k - i) (drop i input))) where
  run_stored : q ≡ sets p n (take k (drop i input))
  run_stored =
      let s : i + k - i ≡ k = omega arith in
      let l : length (take k (drop i input)) ≡ k = length-take-le k (drop i input) (rw (length-drop i input) (omega arith)) in
      stored ∙ ap (λ (j : ℕ). stored_at p n (take j (drop i input))) s ∙ stored_at_law p n (take k (drop i input)) (rw l room)

  fed_run : feed_of p₀ h input ≡ fed_more (i + (k - 1)) (judged_at (n + k) q (drop (i + k) input))
  fed_run =
      inv ∙ ap (fed_more i) (ran (k - 1) (drop i input) p n (rw (length-drop i input) (omega arith)) (omega (arith, least_left (wanted_of n p) left))) ∙ fed_more_add i (k - 1) _
      ∙ last (suc (k - 1)) (omega arith)
    where
      last : (j : ℕ)
          → j ≡ k
          → fed_more (i + (k - 1)) (judged_at (n + j) (sets p n (take j (drop i input))) (drop j (drop i input)))
          ≡ fed_more (i + (k - 1)) (judged_at (n + k) q (drop (i + k) input))
      last j e = rw (e, drop-drop k i input, ← run_stored)

  pub feeds_on : mark_of (n + k) q ≡ More → feed_of p₀ h input ≡ fed_more (i + k) (feed_of q (n + k) (drop (i + k) input))
  feeds_on e =
      fed_run ∙ ap (fed_more (i + (k - 1))) (after_more _ (n + k) q _ e) ∙ fed_more_add (i + (k - 1)) 1 _
      ∙ ap (λ (j : ℕ). fed_more j (feed_of q (n + k) (drop (i + k) input))) (let t : i + (k - 1) + 1 ≡ i + k = omega arith in t)

  feeds_end : mark_of (n + k) q ≡ End → fed_in (record { taken = i + k; held = n + k; mark = End }) q ≡ feed_of p₀ h input
  unfolding after_byte
  feeds_end e = let t : i + (k - 1) + 1 ≡ i + k = omega arith in sym (fed_run ∙ rw (e, t))

  feeds_long : mark_of (n + k) q ≡ Long → fed_in (record { taken = i + k; held = n + k; mark = Long }) q ≡ feed_of p₀ h input
  unfolding after_byte
  feeds_long e = let t : i + (k - 1) + 1 ≡ i + k = omega arith in sym (fed_run ∙ rw (e, t))

  -- where the bytes stored do not call for more, feeding stops
  pub feeds_stop : (m : Mark) → mark_of (n + k) q ≡ m → (m ≡ More → ⊥) → fed_in (record { taken = i + k; held = n + k; mark = m }) q ≡ feed_of p₀ h input
  feeds_stop More e s = absurd (s refl)
  feeds_stop Long e s = feeds_long e
  feeds_stop End e s = feeds_end e

pub feeds_all : (p₀ p input : List ℕ) (h n i : ℕ)
    → feed_of p₀ h input ≡ fed_more i (feed_of p n (drop i input))
    → length input ≤ i
    → fed_in (record { taken = i; held = n; mark = More }) p ≡ feed_of p₀ h input
unfolding feed_of
feeds_all p₀ p input h n i inv le = sym (inv ∙ simp (drop_of_length-le input le, feed_of, add-zero))
