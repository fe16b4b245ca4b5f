-- Laws of what the blocks of an owner hold: a store changes the bytes of its own place and no other's, a read gives them, and a walk
-- over the blocks of a place meets them in order.
use mathlib.Core.Path.{◌≡◌, refl, sym, ap, ap₂, ◌∙◌}
use mathlib.Core.Bool.{Bool, true, false, cond}
use Prim.Native.Nat.{ℕ, zero, suc, ◌+◌, ◌*◌, ◌/◌, ◌%◌, ◌≤◌, ◌<◌}
use native.Mathlib.Nat.{zero-add, add-zero, suc-add}
use native.Mathlib.Omega.{arith}
use mathlib.Core.List.{List, [], ◌∷◌, ◌++◌}
use lib.ListN.{length, get_or, set, take, drop, length-set, length-drop, length-append}
use lib.Seq.{length-take-le, take-set-lt, take-set-le, drop-set-lt, drop-set-add, set-append_left, sets, sets-eq, take_at, set-get_or, get_or-set_same, ext_get_or, get_or-take, get_or-drop, drop-drop}
use lib.Dec.{eqb}
use borrow.Author.Tests.{ne_eqb}
use Rattle.blocks.specs.Owners.{blocks, nth, next_of}
use Rattle.blocks.specs.Contents.{held, held_from, contents, stands_at, stored}
use Rattle.blocks.proofs.Owners.{nth_owner, nth_in}

set_append_add : (xs ys : List ℕ) (n a : ℕ) → set (xs ++ ys) (length xs + n) a ≡ xs ++ set ys n a
set_append_add [] ys n a = ap (λ (k : ℕ). set ys k a) (zero-add n)
set_append_add (x ∷ xs) ys n a = ap (λ (k : ℕ). set (x ∷ xs ++ ys) k a) (suc-add (length xs) n) ∙ ap (λ (l : List ℕ). x ∷ l) (set_append_add xs ys n a)

-- a store past the first block
later : (v : ℕ) (t : Bool) (os disk : List ℕ) (b j x : ℕ)
    → cond t (take 256 (set disk (256 * suc b + j) x)) [] ++ held v os (drop 256 (set disk (256 * suc b + j) x))
    ≡ cond t (take 256 disk) [] ++ held v os (set (drop 256 disk) (256 * b + j) x)
later v t os disk b j x =
    let e : 256 * suc b + j ≡ 256 + (256 * b + j) = omega arith in
    rw e (ap₂ (λ (p q : List ℕ). cond t p [] ++ held v os q) (take-set-le 256 disk (256 + (256 * b + j)) x (omega arith)) (drop-set-add 256 disk (256 * b + j) x))

skip : (xs ys : List ℕ) (k j x : ℕ) → length xs ≡ 256 → set (xs ++ ys) (256 * suc k + j) x ≡ xs ++ set ys (256 * k + j) x
skip xs ys k j x h =
    let e : 256 * suc k + j ≡ length xs + (256 * k + j) = omega arith in
    rw e (set_append_add xs ys (256 * k + j) x)

-- a store in a block of owner v is a store in what v holds
pub held_set : (v : ℕ) (owner disk : List ℕ) (k j x : ℕ) → 256 * length owner ≤ length disk → j < 256 → nth v owner k < length owner
    → held v owner (set disk (256 * nth v owner k + j) x) ≡ set (held v owner disk) (256 * k + j) x
unfolding held nth
held_set v [] disk k j x s l h = absurd (omega arith)
held_set v (o ∷ os) disk zero j x s l h = go (eqb o v) h
    (λ h'. held_set v os (drop 256 disk) 0 j x (rw length-drop (omega arith)) l h')
  where
    go : (t : Bool) → cond t 0 (suc (nth v os 0)) < suc (length os)
        → (nth v os 0 < length os → held v os (set (drop 256 disk) (256 * nth v os 0 + j) x) ≡ set (held v os (drop 256 disk)) (256 * 0 + j) x)
        → cond t (take 256 (set disk (256 * cond t 0 (suc (nth v os 0)) + j) x)) [] ++ held v os (drop 256 (set disk (256 * cond t 0 (suc (nth v os 0)) + j) x))
        ≡ set (cond t (take 256 disk) [] ++ held v os (drop 256 disk)) (256 * 0 + j) x
    go true h ih =
        let n : length (take 256 disk) ≡ 256 = length-take-le 256 disk (omega arith) in
        simp zero-add (ap₂ (λ (p q : List ℕ). p ++ held v os q) (take-set-lt 256 disk j x l) (drop-set-lt 256 disk j x l)
        ∙ sym (set-append_left (take 256 disk) (held v os (drop 256 disk)) j x (omega arith)))
    go false h ih = later v false os disk (nth v os 0) j x ∙ ih (omega arith)
held_set v (o ∷ os) disk (suc k) j x s l h = go (eqb o v) h
    (λ k' h'. held_set v os (drop 256 disk) k' j x (rw length-drop (omega arith)) l h')
  where
    go : (t : Bool) → suc (nth v os (cond t k (suc k))) < suc (length os)
        → ((k' : ℕ) → nth v os k' < length os → held v os (set (drop 256 disk) (256 * nth v os k' + j) x) ≡ set (held v os (drop 256 disk)) (256 * k' + j) x)
        → cond t (take 256 (set disk (256 * suc (nth v os (cond t k (suc k))) + j) x)) [] ++ held v os (drop 256 (set disk (256 * suc (nth v os (cond t k (suc k))) + j) x))
        ≡ set (cond t (take 256 disk) [] ++ held v os (drop 256 disk)) (256 * suc k + j) x
    go true h ih =
        later v true os disk (nth v os k) j x ∙ ap (λ (q : List ℕ). take 256 disk ++ q) (ih k (omega arith))
        ∙ sym (skip (take 256 disk) (held v os (drop 256 disk)) k j x (length-take-le 256 disk (omega arith)))
    go false h ih = later v false os disk (nth v os (suc k)) j x ∙ ih (suc k) (omega arith)

-- a store in a block of another owner changes nothing of what u holds
pub held_else : (u : ℕ) (owner disk : List ℕ) (b j x : ℕ) → j < 256 → (get_or owner b 0 ≡ u → ⊥)
    → held u owner (set disk (256 * b + j) x) ≡ held u owner disk
unfolding held
held_else u [] disk b j x l n = refl
held_else u (o ∷ os) disk zero j x l n =
    rw (ne_eqb o u n) (simp zero-add (ap (held u os) (drop-set-lt 256 disk j x l)))
held_else u (o ∷ os) disk (suc b) j x l n =
    later u (eqb o u) os disk b j x ∙ ap (λ (q : List ℕ). cond (eqb o u) (take 256 disk) [] ++ q) (held_else u os (drop 256 disk) b j x l n)

-- an owner's blocks hold 256 bytes each
pub length_held : (v : ℕ) (owner disk : List ℕ) → 256 * length owner ≤ length disk → length (held v owner disk) ≡ 256 * blocks v owner
unfolding held blocks
length_held v [] disk s = refl
length_held v (o ∷ os) disk s = go (eqb o v) (length_held v os (drop 256 disk) (rw length-drop (omega arith)))
  where
    go : (t : Bool) → length (held v os (drop 256 disk)) ≡ 256 * blocks v os
        → length (cond t (take 256 disk) [] ++ held v os (drop 256 disk)) ≡ 256 * (cond t 1 0 + blocks v os)
    go true ih = simp length-append (omega (arith, length-take-le 256 disk (omega arith)))
    go false ih = omega arith

-- ---- bytes stored one after the other

pub length_stored : (v : ℕ) (owner disk : List ℕ) (at : ℕ) (xs : List ℕ) → length (stored v owner disk at xs) ≡ length disk
unfolding stored
length_stored v owner disk at [] = refl
length_stored v owner disk at (x ∷ xs) = length_stored v owner (set disk (stands_at v owner at) x) (suc at) xs ∙ length-set disk (stands_at v owner at) x

-- what owner v holds is as before, with the bytes xs from byte `at` on
pub held_stored : (v : ℕ) (owner disk : List ℕ) (at : ℕ) (xs : List ℕ) → 256 * length owner ≤ length disk → at + length xs ≤ 256 * blocks v owner
    → held v owner (stored v owner disk at xs) ≡ sets (held v owner disk) at xs
unfolding stored
held_stored v owner disk at [] s h = refl
held_stored v owner disk at (x ∷ xs) s h =
    let b : at / 256 < blocks v owner = omega arith in
    let e : 256 * (at / 256) + at % 256 ≡ at = omega arith in
    held_stored v owner (set disk (stands_at v owner at) x) (suc at) xs (rw length-set s) (omega arith)
    ∙ ap (λ (l : List ℕ). sets l (suc at) xs)
    (held_set v owner disk (at / 256) (at % 256) x s (omega arith) (nth_in v owner (at / 256) b) ∙ ap (λ (i : ℕ). set (held v owner disk) i x) e)

-- what any other owner holds, and what the free blocks hold, stays
pub held_unstored : (u v : ℕ) (owner disk : List ℕ) (at : ℕ) (xs : List ℕ) → (u ≡ v → ⊥) → at + length xs ≤ 256 * blocks v owner
    → held u owner (stored v owner disk at xs) ≡ held u owner disk
unfolding stored
held_unstored u v owner disk at [] n h = refl
held_unstored u v owner disk at (x ∷ xs) n h =
    let b : at / 256 < blocks v owner = omega arith in
    held_unstored u v owner (set disk (stands_at v owner at) x) (suc at) xs n (omega arith)
    ∙ held_else u owner disk (nth v owner (at / 256)) (at % 256) x (omega arith)
    (λ e. n (sym e ∙ nth_owner v owner (at / 256) (nth_in v owner (at / 256) b)))

-- the disk past the last block stays
pub past_stored : (v : ℕ) (owner disk : List ℕ) (at : ℕ) (xs : List ℕ) → at + length xs ≤ 256 * blocks v owner
    → drop (256 * length owner) (stored v owner disk at xs) ≡ drop (256 * length owner) disk
unfolding stored
past_stored v owner disk at [] h = refl
past_stored v owner disk at (x ∷ xs) h =
    let b : at / 256 < blocks v owner = omega arith in
    let l : nth v owner (at / 256) < length owner = nth_in v owner (at / 256) b in
    past_stored v owner (set disk (stands_at v owner at) x) (suc at) xs (omega arith)
    ∙ drop-set-lt (256 * length owner) disk (stands_at v owner at) x (omega arith)

-- ---- the contents of a file

-- bytes appended are the contents' new end
pub append_contents : (v : ℕ) (owner disk : List ℕ) (received : ℕ) (xs : List ℕ) → 256 * length owner ≤ length disk → received + length xs ≤ 256 * blocks v owner
    → contents v owner (stored v owner disk received xs) (received + length xs) ≡ contents v owner disk received ++ xs
append_contents v owner disk received xs s h =
    let n = length_held v owner disk s in
    rw (held_stored v owner disk received xs s h, sets-eq xs (held v owner disk) received (omega arith))
    (take_at (take received (held v owner disk) ++ xs) (drop (received + length xs) (held v owner disk)) (received + length xs)
    (simp length-append (omega (arith, length-take-le received (held v owner disk) (omega arith)))))

take_sets : (n : ℕ) (l : List ℕ) (i : ℕ) (xs : List ℕ) → i + length xs ≤ n → take n (sets l i xs) ≡ sets (take n l) i xs
take_sets n l i [] h = refl
take_sets n l i (x ∷ xs) h =
    take_sets n (set l i x) (suc i) xs (omega arith) ∙ ap (λ (k : List ℕ). sets k (suc i) xs) (take-set-lt n l i x (omega arith))

-- bytes written inside the contents replace those that stood there
pub write_contents : (v : ℕ) (owner disk : List ℕ) (received at : ℕ) (xs : List ℕ) → 256 * length owner ≤ length disk → at + length xs ≤ received
    → received ≤ 256 * blocks v owner → contents v owner (stored v owner disk at xs) received ≡ sets (contents v owner disk received) at xs
write_contents v owner disk received at xs s h k =
    rw (held_stored v owner disk at xs s (omega arith)) (take_sets received (held v owner disk) at xs h)

-- the contents of any other file stay
pub write_others : (u v : ℕ) (owner disk : List ℕ) (at received : ℕ) (xs : List ℕ) → (u ≡ v → ⊥) → at + length xs ≤ 256 * blocks v owner
    → contents u owner (stored v owner disk at xs) received ≡ contents u owner disk received
write_others u v owner disk at received xs d h = ap (take received) (held_unstored u v owner disk at xs d h)

-- ---- runs within a block

-- a run that stays in block b, the q-th of its owner, is stored in one piece
pub stored_run : (v : ℕ) (owner disk : List ℕ) (b q j at : ℕ) (xs ys : List ℕ) → b ≡ nth v owner q → at ≡ 256 * q + j → j + length xs ≤ 256
    → stored v owner disk at (xs ++ ys) ≡ stored v owner (sets disk (256 * b + j) xs) (at + length xs) ys
unfolding stored
stored_run v owner disk b q j at [] ys e a h = ap (λ (n : ℕ). stored v owner disk n ys) (sym (add-zero at))
stored_run v owner disk b q j at (x ∷ xs) ys e a h =
    let d : at / 256 ≡ q = omega arith in
    let m : at % 256 ≡ j = omega arith in
    let p : stands_at v owner at ≡ 256 * b + j = ap₂ (λ (k i : ℕ). 256 * nth v owner k + i) d m ∙ ap (λ (k : ℕ). 256 * k + j) (sym e) in
    let i : 256 * b + suc j ≡ suc (256 * b + j) = omega arith in
    let n : suc at + length xs ≡ at + suc (length xs) = omega arith in
    ap (λ (k : ℕ). stored v owner (set disk k x) (suc at) (xs ++ ys)) p
    ∙ stored_run v owner (set disk (256 * b + j) x) b q (suc j) (suc at) xs ys e (omega arith) (omega arith)
    ∙ ap₂ (λ (k m : ℕ). stored v owner (sets (set disk (256 * b + j) x) k xs) m ys) i n

-- byte `at` of what v holds stands at its place on the disk
pub held_get : (v : ℕ) (owner disk : List ℕ) (at : ℕ) → 256 * length owner ≤ length disk → at < 256 * blocks v owner
    → get_or (held v owner disk) at 0 ≡ get_or disk (stands_at v owner at) 0
held_get v owner disk at s h =
    let b : at / 256 < blocks v owner = omega arith in
    let e : 256 * (at / 256) + at % 256 ≡ at = omega arith in
    let x : ℕ = get_or disk (stands_at v owner at) 0 in
    let q : held v owner disk ≡ set (held v owner disk) at x =
    ap (held v owner) (sym (set-get_or disk (stands_at v owner at) 0))
    ∙ held_set v owner disk (at / 256) (at % 256) x s (omega arith) (nth_in v owner (at / 256) b) ∙ ap (λ (i : ℕ). set (held v owner disk) i x) e in
    let n : at < length (held v owner disk) = omega (arith, length_held v owner disk s) in
    ap (λ (l : List ℕ). get_or l at 0) q ∙ get_or-set_same (held v owner disk) at x 0 n

-- a run that stays in block b, the q-th of its owner, is read in one piece
pub held_run : (v : ℕ) (owner disk : List ℕ) (b q j at n : ℕ) → 256 * length owner ≤ length disk → b ≡ nth v owner q → at ≡ 256 * q + j → j + n ≤ 256
    → at + n ≤ 256 * blocks v owner → b < length owner → take n (drop at (held v owner disk)) ≡ take n (drop (256 * b + j) disk)
held_run v owner disk b q j at n s e a h k l =
    let m = length_held v owner disk s in
    let x : length (take n (drop at (held v owner disk))) ≡ n = length-take-le n (drop at (held v owner disk)) (rw length-drop (omega arith)) in
    let y : length (take n (drop (256 * b + j) disk)) ≡ n = length-take-le n (drop (256 * b + j) disk) (rw length-drop (omega arith)) in
    ext_get_or 0 (take n (drop at (held v owner disk))) (take n (drop (256 * b + j) disk)) (x ∙ sym y) (λ i r. each i (omega arith))
  where
    each : (i : ℕ) → i < n → get_or (take n (drop at (held v owner disk))) i 0 ≡ get_or (take n (drop (256 * b + j) disk)) i 0
    each i r =
        let d : (at + i) / 256 ≡ q = omega arith in
        let m : (at + i) % 256 ≡ j + i = omega arith in
        let p : stands_at v owner (at + i) ≡ 256 * b + (j + i) = ap₂ (λ (k i : ℕ). 256 * nth v owner k + i) d m ∙ ap (λ (k : ℕ). 256 * k + (j + i)) (sym e) in
        let t : 256 * b + (j + i) ≡ 256 * b + j + i = omega arith in
        get_or-take n (drop at (held v owner disk)) i 0 r ∙ get_or-drop at (held v owner disk) i 0
        ∙ held_get v owner disk (at + i) s (omega arith) ∙ ap (λ (z : ℕ). get_or disk z 0) (p ∙ t)
        ∙ sym (get_or-take n (drop (256 * b + j) disk) i 0 r ∙ get_or-drop (256 * b + j) disk i 0)

-- ---- a walk over the blocks of an owner

from_suc : (v o : ℕ) (os disk : List ℕ) (b : ℕ) → held_from v (o ∷ os) disk (suc b) ≡ held_from v os (drop 256 disk) b
from_suc v o os disk b =
    let e : 256 * suc b ≡ 256 + 256 * b = omega arith in
    ap (λ (n : ℕ). held v (drop b os) (drop n disk)) e ∙ ap (held v (drop b os)) (sym (drop-drop (256 * b) 256 disk))

block_suc : (disk : List ℕ) (b : ℕ) → take 256 (drop (256 * b) (drop 256 disk)) ≡ take 256 (drop (256 * suc b) disk)
block_suc disk b =
    let e : 256 + 256 * b ≡ 256 * suc b = omega arith in
    ap (take 256) (drop-drop (256 * b) 256 disk ∙ ap (λ (n : ℕ). drop n disk) e)

-- from block b on, an owner holds the next block's 256 bytes, and then what it holds past that block
pub held_next : (v : ℕ) (owner disk : List ℕ) (b : ℕ) → next_of v owner b < length owner
    → held_from v owner disk b ≡ take 256 (drop (256 * next_of v owner b) disk) ++ held_from v owner disk (suc (next_of v owner b))
unfolding held next_of
held_next v [] disk b h = absurd (omega arith)
held_next v (o ∷ os) disk zero h = go (eqb o v) h (held_next v os (drop 256 disk) 0)
  where
    go : (t : Bool) → cond t 0 (suc (next_of v os 0)) < suc (length os)
        → (next_of v os 0 < length os → held v os (drop 256 disk) ≡ take 256 (drop (256 * next_of v os 0) (drop 256 disk)) ++ held_from v os (drop 256 disk) (suc (next_of v os 0)))
        → cond t (take 256 disk) [] ++ held v os (drop 256 disk)
        ≡ take 256 (drop (256 * cond t 0 (suc (next_of v os 0))) disk) ++ held_from v (o ∷ os) disk (suc (cond t 0 (suc (next_of v os 0))))
    go true h ih = refl
    go false h ih =
        ih (omega arith) ∙ ap₂ (λ (x y : List ℕ). x ++ y) (block_suc disk (next_of v os 0)) (sym (from_suc v o os disk (suc (next_of v os 0))))
held_next v (o ∷ os) disk (suc b) h =
    from_suc v o os disk b ∙ held_next v os (drop 256 disk) b (omega arith)
    ∙ ap₂ (λ (x y : List ℕ). x ++ y) (block_suc disk (next_of v os b)) (sym (from_suc v o os disk (suc (next_of v os b))))

-- where there is no next block, an owner holds nothing more
pub held_last : (v : ℕ) (owner disk : List ℕ) (b : ℕ) → length owner ≤ next_of v owner b → held_from v owner disk b ≡ []
unfolding held next_of
held_last v [] disk zero h = refl
held_last v [] disk (suc b) h = refl
held_last v (o ∷ os) disk zero h = go (eqb o v) h (held_last v os (drop 256 disk) 0)
  where
    go : (t : Bool) → suc (length os) ≤ cond t 0 (suc (next_of v os 0)) → (length os ≤ next_of v os 0 → held v os (drop 256 disk) ≡ [])
        → cond t (take 256 disk) [] ++ held v os (drop 256 disk) ≡ []
    go true h ih = absurd (omega arith)
    go false h ih = ih (omega arith)
held_last v (o ∷ os) disk (suc b) h = from_suc v o os disk b ∙ held_last v os (drop 256 disk) b (omega arith)

-- the walk begins with all that the owner holds
pub held_first : (v : ℕ) (owner disk : List ℕ) → held_from v owner disk 0 ≡ held v owner disk
held_first v owner disk = refl
