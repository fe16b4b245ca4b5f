-- The owners part by part: what a part is counted, passed over or made a word for, and the counts of runs.
use mathlib.Core.Path.{◌≡◌, refl, sym, ap, subst, ◌∙◌}
use mathlib.Core.Bool.{Bool, true, false, cond, not}
use Prim.Native.Nat.{ℕ, zero, suc, ◌+◌, ◌-◌, ◌^◌, ◌≤◌, ◌<◌}
use native.Mathlib.Nat.{zero-add, add-zero, pow-suc}
use native.Mathlib.Numerals.{add-one}
use native.Mathlib.Omega.{arith}
use mathlib.Core.List.{List, [], ◌∷◌, ◌++◌}
use lib.ListN.{length, get_or, set, take, drop, length-set, length-drop, length-append, get_or-eq_default}
use lib.Seq.{drop-cons, drop-drop, take_all, take_at, drop_at, length-take-le, get_or-set_same, get_or-set_other}
use lib.Dec.{eqb, ltb, eqb-suc-zero}
use borrow.Author.Tests.{eq-eqb, ne_eqb, ltb-false}
use Rattle.std.specs.Prelude.{Some, None, position}
use Rattle.std.specs.List.{position_or_len}
use Rattle.blocks.specs.Owners.{blocks, next_of, nth, word_of}
use Rattle.blocks.proofs.Bits.{by_lt, by_eq}
use Rattle.blocks.proofs.Owners.{blocks_le, next_le, nth_zero, nth_next, nth_le}

-- ---- counting

pub blocks_part : (v m : ℕ) (owner : List ℕ) → blocks v owner ≡ blocks v (take m owner) + blocks v (drop m owner)
unfolding blocks
blocks_part v zero owner = sym (zero-add (blocks v owner))
blocks_part v (suc m) [] = refl
blocks_part v (suc m) (o ∷ os) = omega (arith, blocks_part v m os)

blocks_few : (v m : ℕ) (owner : List ℕ) → blocks v (take m owner) ≤ m
unfolding blocks
blocks_few v zero owner = omega arith
blocks_few v (suc m) [] = omega arith
blocks_few v (suc m) (o ∷ os) = go (eqb o v) (blocks_few v m os)
  where
    go : (t : Bool) → blocks v (take m os) ≤ m → cond t 1 0 + blocks v (take m os) ≤ suc m
    go true h = omega arith
    go false h = omega arith

-- what is counted in two lists that stand one behind the other
pub blocks_join : (v : ℕ) (part rest : List ℕ) → blocks v (part ++ rest) ≡ blocks v part + blocks v rest
unfolding blocks
blocks_join v [] rest = sym (zero-add (blocks v rest))
blocks_join v (o ∷ os) rest = omega (arith, blocks_join v os rest)

-- a part of 64 blocks that comes off those from block b on
pub record Whole (owner part rest : List ℕ) (b : ℕ) : Type 0 where
  pub inside : b + 64 ≤ length owner
  pub is_part : part ≡ take (b + 64 - b) (drop b owner)
  pub is_rest : rest ≡ drop (b + 64) owner

pub whole : (owner part rest left : List ℕ) (b : ℕ) → left ≡ drop b owner → left ≡ part ++ rest → length part ≡ 64 → Whole owner part rest b
whole owner part rest left b e j l =
    let d : drop b owner ≡ part ++ rest = sym e ∙ j in
    let n : length part ≡ b + 64 - b = omega arith in
    let s : length owner - b ≡ length part + length rest = sym (length-drop b owner) ∙ ap length d ∙ length-append part rest in
    record {
      inside = omega arith;
      is_part = sym (ap (take (b + 64 - b)) d ∙ take_at part rest (b + 64 - b) n);
      is_rest = sym (sym (drop-drop 64 b owner) ∙ ap (drop 64) d ∙ drop_at part rest 64 l);
    }

-- the part from block `from` to block `end`
pub part_count : (v : ℕ) (owner : List ℕ) (from end : ℕ) → from ≤ end
    → blocks v (drop from owner) ≡ blocks v (take (end - from) (drop from owner)) + blocks v (drop end owner)
part_count v owner from end h =
    let e : from + (end - from) ≡ end = omega arith in
    blocks_part v (end - from) (drop from owner)
    ∙ ap (λ (l : List ℕ). blocks v (take (end - from) (drop from owner)) + blocks v l) (drop-drop (end - from) from owner ∙ ap (λ (k : ℕ). drop k owner) e)

pub part_size : (owner : List ℕ) (from end : ℕ) → from ≤ end → end ≤ length owner → length (take (end - from) (drop from owner)) ≡ end - from
part_size owner from end h k = length-take-le (end - from) (drop from owner) (rw length-drop (omega arith))

-- ---- the next block of an owner

next_pass : (v m : ℕ) (owner : List ℕ) (b : ℕ) → blocks v (take m (drop b owner)) ≡ 0 → next_of v owner b ≡ next_of v owner (b + m)
unfolding blocks next_of
next_pass v zero owner b h = ap (next_of v owner) (sym (add-zero b))
next_pass v (suc m) [] b h = refl
next_pass v (suc m) (o ∷ os) zero h = go (eqb o v) (λ k. next_pass v m os 0 k) h ∙ ap (next_of v (o ∷ os)) (sym (zero-add (suc m)))
  where
    go : (t : Bool) → (blocks v (take m os) ≡ 0 → next_of v os 0 ≡ next_of v os (0 + m)) → cond t 1 0 + blocks v (take m os) ≡ 0
        → cond t 0 (suc (next_of v os 0)) ≡ suc (next_of v os m)
    go true ih h = absurd (omega arith)
    go false ih h = ap suc (ih (omega arith) ∙ ap (next_of v os) (zero-add m))
next_pass v (suc m) (o ∷ os) (suc b) h =
    let e : suc (b + suc m) ≡ suc b + suc m = omega arith in
    ap suc (next_pass v (suc m) os b h) ∙ ap (next_of v (o ∷ os)) e

-- a part with no block of the owner is passed over
pub pass_part : (v : ℕ) (owner : List ℕ) (from b end : ℕ) → b ≤ end → blocks v (take (end - b) (drop b owner)) ≡ 0
    → next_of v owner from ≡ next_of v owner b → next_of v owner from ≡ next_of v owner end
pass_part v owner from b end h z e =
    let s : b + (end - b) ≡ end = omega arith in
    e ∙ next_pass v (end - b) owner b z ∙ ap (next_of v owner) s

-- ---- the k-th block of an owner

next_from : (v : ℕ) (owner : List ℕ) (s j : ℕ) → s ≤ length owner → next_of v owner (s + j) ≡ s + next_of v (drop s owner) j
unfolding next_of
next_from v owner zero j h = ap (next_of v owner) (zero-add j) ∙ sym (zero-add (next_of v owner j))
next_from v [] (suc s) j h = absurd (omega arith)
next_from v (o ∷ os) (suc s) j h =
    let e : suc s + j ≡ suc (s + j) = omega arith in
    ap (next_of v (o ∷ os)) e ∙ ap suc (next_from v os s j (omega arith)) ∙ more s (next_of v (drop s os) j)
  where
    more : (a b : ℕ) → suc (a + b) ≡ suc a + b
    more a b = omega arith

-- the first block of the owner, as a position
next_first : (v : ℕ) (owner : List ℕ) → next_of v owner 0 ≡ position_or_len (λ (o : ℕ). eqb o v) owner
unfolding next_of
next_first v [] = refl
next_first v (o ∷ os) = go (eqb o v) (next_first v os)
  where
    go : (t : Bool) → next_of v os 0 ≡ position_or_len (λ (o : ℕ). eqb o v) os
        → cond t 0 (suc (next_of v os 0)) ≡ cond (not t) (1 + position_or_len (λ (o : ℕ). eqb o v) os) 0
    go true e = refl
    go false e = omega (arith, e)

module _ (v : ℕ) (owner : List ℕ) (s : ℕ) (h : s ≤ length owner) where
  abbrev at : ℕ
  at = position_or_len (λ (o : ℕ). eqb o v) (drop s owner)

  next_split : next_of v owner s ≡ s + at
  next_split = ap (next_of v owner) (sym (add-zero s)) ∙ next_from v owner s 0 h ∙ ap (λ (k : ℕ). s + k) (next_first v (drop s owner))

  whole_rest : take (length owner - s) (drop s owner) ≡ drop s owner
  whole_rest = take_all (length owner - s) (drop s owner) (omega (arith, length-drop s owner))

  pub next_some : (k : ℕ) → position (λ (o : ℕ). eqb o v) (take (length owner - s) (drop s owner)) ≡ Some k → s + k ≡ next_of v owner s
  next_some k e = go (ltb at (length (drop s owner))) (rw whole_rest at e)
    where
      go : (t : Bool) → cond t (Some at) None ≡ Some k → s + k ≡ next_of v owner s
      go true q = let i : at ≡ k = cc in omega (arith, next_split, i)
      go false q = absurd (let i : ◌≡◌ {A = ℕ} 0 1 = cc in omega arith)

  pub next_no : position (λ (o : ℕ). eqb o v) (take (length owner - s) (drop s owner)) ≡ None → length owner ≡ next_of v owner s
  next_no e = go (ltb at (length (drop s owner))) refl (rw whole_rest at e)
    where
      go : (t : Bool) → ltb at (length (drop s owner)) ≡ t → cond t (Some at) None ≡ None → length owner ≡ next_of v owner s
      go true q r = absurd (let i : ◌≡◌ {A = ℕ} 0 1 = cc in omega arith)
      go false q r = omega (arith, next_split, ltb-false at (length (drop s owner)) q, length-drop s owner, next_le v owner s)

module _ (v : ℕ) (owner : List ℕ) (s : ℕ) (h : s ≤ length owner) where
  pub find_start : next_of v owner s ≡ s + nth v (drop s owner) 0
  find_start = ap (next_of v owner) (sym (add-zero s)) ∙ next_from v owner s 0 h ∙ ap (λ (k : ℕ). s + k) (nth_zero v (drop s owner))

  pub find_next : (b i : ℕ) → b ≡ s + nth v (drop s owner) i → next_of v owner (b + 1) ≡ s + nth v (drop s owner) (i + 1)
  find_next b i e =
      let f : b + 1 ≡ s + suc (nth v (drop s owner) i) = omega arith in
      ap (next_of v owner) f ∙ next_from v owner s (suc (nth v (drop s owner) i)) h
      ∙ ap (λ (k : ℕ). s + k) (sym (nth_next v (drop s owner) i) ∙ ap (nth v (drop s owner)) (sym (add-one i)))

  pub find_le : (i : ℕ) → s + nth v (drop s owner) i ≤ length owner
  find_le i = omega (arith, nth_le v (drop s owner) i, length-drop s owner)

nth_pass : (v m : ℕ) (owner : List ℕ) (k : ℕ) → m ≤ length owner → blocks v (take m owner) ≤ k
    → nth v owner k ≡ m + nth v (drop m owner) (k - blocks v (take m owner))
unfolding blocks nth
nth_pass v zero owner k l h = let e : k ≡ k - 0 = omega arith in ap (nth v owner) e ∙ sym (zero-add (nth v owner (k - 0)))
nth_pass v (suc m) [] k l h = absurd (omega arith)
nth_pass v (suc m) (o ∷ os) zero l h = go (eqb o v) h (nth_pass v m os 0 (omega arith))
  where
    go : (t : Bool) → cond t 1 0 + blocks v (take m os) ≤ 0
        → (blocks v (take m os) ≤ 0 → nth v os 0 ≡ m + nth v (drop m os) (0 - blocks v (take m os)))
        → cond t 0 (suc (nth v os 0)) ≡ suc m + nth v (drop m os) (0 - (cond t 1 0 + blocks v (take m os)))
    go true h ih = absurd (omega arith)
    go false h ih =
        let e : 0 - blocks v (take m os) ≡ 0 - (0 + blocks v (take m os)) = omega arith in
        let f = ih (omega arith) ∙ ap (λ (k : ℕ). m + nth v (drop m os) k) e in omega arith
nth_pass v (suc m) (o ∷ os) (suc k) l h = go (eqb o v) h (nth_pass v m os k (omega arith)) (nth_pass v m os (suc k) (omega arith))
  where
    go : (t : Bool) → cond t 1 0 + blocks v (take m os) ≤ suc k
        → (blocks v (take m os) ≤ k → nth v os k ≡ m + nth v (drop m os) (k - blocks v (take m os)))
        → (blocks v (take m os) ≤ suc k → nth v os (suc k) ≡ m + nth v (drop m os) (suc k - blocks v (take m os)))
        → suc (nth v os (cond t k (suc k))) ≡ suc m + nth v (drop m os) (suc k - (cond t 1 0 + blocks v (take m os)))
    go true h a b =
        let e : k - blocks v (take m os) ≡ suc k - (1 + blocks v (take m os)) = omega arith in
        let f = a (omega arith) ∙ ap (λ (k : ℕ). m + nth v (drop m os) k) e in omega arith
    go false h a b =
        let e : suc k - blocks v (take m os) ≡ suc k - (0 + blocks v (take m os)) = omega arith in
        let f = b (omega arith) ∙ ap (λ (k : ℕ). m + nth v (drop m os) k) e in omega arith

-- a part that has no more blocks of the owner than are to be passed
pub skip_part : (v : ℕ) (owner : List ℕ) (k from left has end : ℕ) → from ≤ end → end ≤ length owner → has ≡ blocks v (take (end - from) (drop from owner)) → has ≤ left
    → nth v owner k ≡ from + nth v (drop from owner) left → nth v owner k ≡ end + nth v (drop end owner) (left - has)
skip_part v owner k from left has end h l c m e =
    let s : from + (end - from) ≡ end = omega arith in
    let p = nth_pass v (end - from) (drop from owner) left (rw length-drop (omega arith)) (omega arith) in
    let q : nth v (drop (end - from) (drop from owner)) (left - blocks v (take (end - from) (drop from owner))) ≡ nth v (drop end owner) (left - has) =
    ap (λ (x : ℕ). nth v (drop (end - from) (drop from owner)) (left - x)) (sym c)
    ∙ ap (λ (x : List ℕ). nth v x (left - has)) (drop-drop (end - from) from owner ∙ ap (λ (x : ℕ). drop x owner) s) in
    omega arith

-- ---- the word of the owners

word_owned : (k : ℕ) (os : List ℕ) → blocks 0 (take k os) ≡ 0 → word_of k os ≡ 0
unfolding blocks word_of
word_owned zero os h = refl
word_owned (suc k) [] h = refl
word_owned (suc k) (zero ∷ os) h = absurd (omega arith)
word_owned (suc k) (suc p ∷ os) h =
    let g : 0 + blocks 0 (take k os) ≡ 0 = rw (eqb-suc-zero p) at h in
    omega (arith, word_owned k os (omega arith))

word_free : (k : ℕ) (os : List ℕ) → blocks 0 (take k os) ≡ k → word_of k os + 1 ≡ 2 ^ k
unfolding blocks word_of
word_free zero os h = refl
word_free (suc k) [] h = absurd (omega arith)
word_free (suc k) (zero ∷ os) h = omega (arith, word_free k os (omega arith), pow-suc 2 k)
word_free (suc k) (suc p ∷ os) h =
    let g : 0 + blocks 0 (take k os) ≡ suc k = rw (eqb-suc-zero p) at h in
    absurd (omega (arith, blocks_few 0 k os))

module _ (owner : List ℕ) (from end : ℕ) (h : from ≤ end) (l : end ≤ length owner) (m : end ≤ from + 64) (e : end < from + 64 → end ≡ length owner) where
  -- the part is that of a word
  part_word : take (end - from) (drop from owner) ≡ take 64 (drop from owner)
  part_word =
      by_lt end (from + 64)
      (λ q. let z = e q in take_all (end - from) (drop from owner) (rw length-drop (omega arith)) ∙ sym (take_all 64 (drop from owner) (rw length-drop (omega arith))))
      (λ q. let z : end - from ≡ 64 = omega arith in ap (λ (k : ℕ). take k (drop from owner)) z)

  pub owned_part : blocks 0 (take (end - from) (drop from owner)) ≡ 0 → word_of 64 (drop from owner) ≡ 0
  owned_part z = word_owned 64 (drop from owner) (ap (blocks 0) (sym part_word) ∙ z)

  pub free_part : blocks 0 (take (end - from) (drop from owner)) ≡ 64 → word_of 64 (drop from owner) ≡ 18446744073709551615
  free_part z = let w = word_free 64 (drop from owner) (ap (blocks 0) (sym part_word) ∙ z) in omega arith

-- ---- runs of blocks with one owner

blocks_one : (u : ℕ) (owner : List ℕ) (i : ℕ) → i < length owner → blocks u (drop i owner) ≡ cond (eqb (get_or owner i 0) u) 1 0 + blocks u (drop (i + 1) owner)
unfolding blocks
blocks_one u owner i h = rw (add-one, drop-cons owner i 0)

-- the blocks from `from` to `end` are all of owner v
abbrev pub RunTo : List ℕ → ℕ → ℕ → ℕ → Type 0
RunTo owner v from end = (u : ℕ) → blocks u (drop from owner) ≡ cond (eqb v u) (end - from) 0 + blocks u (drop end owner)

module _ (owner : List ℕ) (v : ℕ) where
  pub run_none : (from : ℕ) → RunTo owner v from from
  run_none from u = go (eqb v u)
    where
      go : (t : Bool) → blocks u (drop from owner) ≡ cond t (from - from) 0 + blocks u (drop from owner)
      go true = omega arith
      go false = omega arith

  pub run_one : (from : ℕ) → from < length owner → get_or owner from 0 ≡ v → RunTo owner v from (from + 1)
  run_one from h e u = go (eqb v u) (blocks_one u owner from h ∙ ap (λ (x : ℕ). cond (eqb x u) 1 0 + blocks u (drop (from + 1) owner)) e)
    where
      go : (t : Bool) → blocks u (drop from owner) ≡ cond t 1 0 + blocks u (drop (from + 1) owner)
          → blocks u (drop from owner) ≡ cond t (from + 1 - from) 0 + blocks u (drop (from + 1) owner)
      go true a = omega arith
      go false a = omega arith

  pub run_join : (from b end : ℕ) → from ≤ b → b ≤ end → RunTo owner v from b → RunTo owner v b end → RunTo owner v from end
  run_join from b end h k p q u = go (eqb v u) (p u) (q u)
    where
      go : (t : Bool) → blocks u (drop from owner) ≡ cond t (b - from) 0 + blocks u (drop b owner)
          → blocks u (drop b owner) ≡ cond t (end - b) 0 + blocks u (drop end owner)
          → blocks u (drop from owner) ≡ cond t (end - from) 0 + blocks u (drop end owner)
      go true a c = omega arith
      go false a c = omega arith

  pub run_all : (from n : ℕ) → from + n ≤ length owner → ((k : ℕ) → k < n → get_or owner (from + k) 0 ≡ v) → RunTo owner v from (from + n)
  run_all from zero h each = let e : from ≡ from + 0 = omega arith in subst (λ (k : ℕ). RunTo owner v from k) e (run_none from)
  run_all from (suc n) h each =
      let e : from + n + 1 ≡ from + suc n = omega arith in
      subst (λ (k : ℕ). RunTo owner v from k) e
      (run_join from (from + n) (from + n + 1) (omega arith) (omega arith) (run_all from n (omega arith) (λ k l. each k (omega arith))) (run_one (from + n) (omega arith) (each n (omega arith))))

-- where all blocks are of one owner, no other has one
others_none : (u v : ℕ) (xs : List ℕ) → (v ≡ u → ⊥) → blocks v xs ≡ length xs → blocks u xs ≡ 0
unfolding blocks
others_none u v [] n e = refl
others_none u v (o ∷ os) n e = by_eq o v (λ s. hit s (λ f. others_none u v os n f)) (λ s. absurd (miss (rw (ne_eqb o v s) at e) (blocks_le v os)))
  where
    miss : 0 + blocks v os ≡ suc (length os) → blocks v os ≤ length os → ⊥
    miss a b = omega arith

    hit : o ≡ v → (blocks v os ≡ length os → blocks u os ≡ 0) → cond (eqb o u) 1 0 + blocks u os ≡ 0
    hit s ih =
        let f : 1 + blocks v os ≡ suc (length os) = rw (eq-eqb o v s) at e in
        rw (ne_eqb o u (λ z. n (sym s ∙ z))) (omega (arith, ih (omega arith)))

-- a part that is all of owner v
pub run_part : (owner : List ℕ) (v from end : ℕ) → from ≤ end → end ≤ length owner → blocks v (take (end - from) (drop from owner)) ≡ end - from → RunTo owner v from end
run_part owner v from end h l e u =
    by_eq v u
    (λ s. same s (part_count u owner from end h))
    (λ s. other s (part_count u owner from end h) (others_none u v (take (end - from) (drop from owner)) s (e ∙ sym (part_size owner from end h l))))
  where
    same : v ≡ u → blocks u (drop from owner) ≡ blocks u (take (end - from) (drop from owner)) + blocks u (drop end owner)
        → blocks u (drop from owner) ≡ cond (eqb v u) (end - from) 0 + blocks u (drop end owner)
    same s a = let f : blocks u (take (end - from) (drop from owner)) ≡ end - from = rw (← s) e in rw (eq-eqb v u s) (omega arith)

    other : (v ≡ u → ⊥) → blocks u (drop from owner) ≡ blocks u (take (end - from) (drop from owner)) + blocks u (drop end owner)
        → blocks u (take (end - from) (drop from owner)) ≡ 0 → blocks u (drop from owner) ≡ cond (eqb v u) (end - from) 0 + blocks u (drop end owner)
    other s a b = rw (ne_eqb v u s) (omega arith)

-- ---- the counts of all owners, a run at a time

-- the counts n and the blocks from block i on are all blocks
pub record Counted (owner n : List ℕ) (i : ℕ) : Type 0 where
  pub done : i ≤ length owner
  pub size : length n ≡ 257
  pub all : (u : ℕ) → u < 257 → get_or n u 0 + blocks u (drop i owner) ≡ blocks u owner

module _ (owner n : List ℕ) (i : ℕ) (c : Counted owner n i) (v end : ℕ) (k : i ≤ end) (r : RunTo owner v i end) where
  own_run : blocks v (drop i owner) ≡ end - i + blocks v (drop end owner)
  own_run = rw (eq-eqb v v refl) at (r v)

  -- the run fits its count
  pub run_fits : get_or n v 0 + (end - i) ≤ length owner
  run_fits =
      by_lt v 257
      (λ h. omega (arith, c.all v h, own_run, blocks_le v owner))
      (λ h. let z : get_or n v 0 ≡ 0 = get_or-eq_default n 0 (omega (arith, c.size)) in omega (arith, own_run, blocks_le v (drop i owner), length-drop i owner))

  -- the run is added to its count
  pub run_added : (n' : List ℕ) → n' ≡ set n v (get_or n v 0 + (end - i)) → end ≤ length owner → Counted owner n' end
  run_added n' e l =
      record {
        done = l;
        size = ap length e ∙ length-set n v (get_or n v 0 + (end - i)) ∙ c.size;
        all = λ u q.
            by_eq v u
            (λ s. same u s (c.all u q) (rw (eq-eqb v u s) at (r u)) (ap (λ (x : List ℕ). get_or x v 0) e ∙ get_or-set_same n v (get_or n v 0 + (end - i)) 0 (omega (arith, c.size))))
            (λ s. other u (c.all u q) (rw (ne_eqb v u s) at (r u)) (ap (λ (x : List ℕ). get_or x u 0) e ∙ get_or-set_other n v u (get_or n v 0 + (end - i)) 0 (λ z. s (sym z))));
      }
    where
      same : (u : ℕ) → v ≡ u → get_or n u 0 + blocks u (drop i owner) ≡ blocks u owner → blocks u (drop i owner) ≡ end - i + blocks u (drop end owner)
          → get_or n' v 0 ≡ get_or n v 0 + (end - i) → get_or n' u 0 + blocks u (drop end owner) ≡ blocks u owner
      same u s a b d = let f : get_or n' u 0 ≡ get_or n u 0 + (end - i) = rw (← s) d in omega arith

      other : (u : ℕ) → get_or n u 0 + blocks u (drop i owner) ≡ blocks u owner → blocks u (drop i owner) ≡ 0 + blocks u (drop end owner)
          → get_or n' u 0 ≡ get_or n u 0 → get_or n' u 0 + blocks u (drop end owner) ≡ blocks u owner
      other u a b d = omega arith
