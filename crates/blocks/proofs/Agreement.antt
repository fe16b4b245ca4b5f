-- Laws of the map beside the owners: the check stands for its facts, the owners determine the map, and the number free is the number of
-- owners that are 0.
use mathlib.Core.Path.{◌≡◌, refl, sym, ap, ap₂, ◌∙◌, subst}
use mathlib.Core.Logic.{◌⊎◌, inl, inr}
use mathlib.Core.Bool.{Bool, true, false, ◌&&◌}
use Prim.Native.Nat.{ℕ, zero, suc, ◌+◌, ◌-◌, ◌*◌, ◌/◌, ◌%◌, ◌^◌, ◌≤◌, ◌<◌}
use native.Mathlib.Nat.{pow-suc}
use native.Mathlib.Omega.{arith}
use mathlib.Core.List.{List, [], ◌∷◌}
use lib.ListN.{length, get_or, set, drop, replicate, length-drop, length-set, length-replicate, get_or-eq_default}
use lib.Seq.{get_or-drop, get_or-set_same, get_or-set_other}
use lib.Pow.{pow_pos}
use lib.Dec.{leb, eqb, eqb-suc-zero}
use borrow.Author.Tests.{eq-eqb, eqb-true, le-leb, leb-true}
use Rattle.blocks.specs.FreeMap.{free_count, bit_of, bit_at, cleared, marked}
use Rattle.blocks.specs.Owners.{is_free, blocks, held_count, word_of, map_of}
use Rattle.blocks.specs.Check.{words_for, within, map_is, agrees_test, Agrees}
use Rattle.blocks.proofs.Bits.{by_lt, by_eq, bit_zero, bit_suc, bit_here, bit_later, clear_same, clear_other, put_same, put_other, sum_to, free_sum, count_ext}
use Rattle.blocks.proofs.Lowest.{zero_bit}
use Rattle.blocks.proofs.Owners.{get_any, is_free_le, free_held}

-- the bit of each block is 1 exactly where it is free, and none past the last block is; each word is a 64-bit number
abbrev pub BitsAgree : List ℕ → List ℕ → Type 0
BitsAgree map owner = (b : ℕ) → bit_at map b ≡ is_free (get_or owner b 1)

abbrev pub Sized : List ℕ → Type 0
Sized map = (i : ℕ) → get_or map i 0 < 2 ^ 64

-- ---- one word replaced

pub bit_set_same : (map : List ℕ) (i w c : ℕ) → i < length map → c / 64 ≡ i → bit_at (set map i w) c ≡ bit_of w (c % 64)
bit_set_same map i w c h q = ap (λ (x : ℕ). bit_of x (c % 64)) (ap (λ (n : ℕ). get_or (set map i w) n 0) q ∙ get_or-set_same map i w 0 h)

pub bit_set_other : (map : List ℕ) (i w c : ℕ) → (c / 64 ≡ i → ⊥) → bit_at (set map i w) c ≡ bit_at map c
bit_set_other map i w c n = ap (λ (x : ℕ). bit_of x (c % 64)) (get_or-set_other map i (c / 64) w 0 n)

-- one bit changes where its word changes only there
bit_change : (map : List ℕ) (b w c : ℕ) → b / 64 < length map → ((i : ℕ) → (i ≡ b % 64 → ⊥) → bit_of w i ≡ bit_of (get_or map (b / 64) 0) i) → (c ≡ b → ⊥)
    → bit_at (set map (b / 64) w) c ≡ bit_at map c
bit_change map b w c h o n =
    by_eq (c / 64) (b / 64)
    (λ q. bit_set_same map (b / 64) w c h q ∙ o (c % 64) (λ r. n (omega arith)) ∙ ap (λ (x : ℕ). bit_of (get_or map x 0) (c % 64)) (sym q))
    (λ q. bit_set_other map (b / 64) w c q)

pub sized_set : (map : List ℕ) (i w : ℕ) → Sized map → w < 2 ^ 64 → Sized (set map i w)
sized_set map i w s h k =
    by_eq k i
    (λ e. by_lt i (length map)
    (λ l. subst (λ (x : ℕ). x < 2 ^ 64) (sym (ap (λ (n : ℕ). get_or (set map i w) n 0) e ∙ get_or-set_same map i w 0 l)) h)
    (λ l. subst (λ (x : ℕ). x < 2 ^ 64) (sym (get_or-eq_default (set map i w) 0 (rw length-set (omega arith)))) (pow_pos 64)))
    (λ n. subst (λ (x : ℕ). x < 2 ^ 64) (sym (get_or-set_other map i k w 0 n)) (s k))

-- agreement is kept where one bit and one owner change together
agree_set : (map map' owner : List ℕ) (b v : ℕ) → BitsAgree map owner → b < length owner
    → bit_at map' b ≡ is_free v → ((c : ℕ) → (c ≡ b → ⊥) → bit_at map' c ≡ bit_at map c) → BitsAgree map' (set owner b v)
agree_set map map' owner b v a h s o c =
    by_eq c b
    (λ q. ap (bit_at map') q ∙ s ∙ ap is_free (sym (ap (λ (n : ℕ). get_or (set owner b v) n 1) q ∙ get_or-set_same owner b v 1 h)))
    (λ n. o c n ∙ a c ∙ ap is_free (sym (get_or-set_other owner b c v 1 n)))

pub agree_take : (map owner : List ℕ) (b p : ℕ) → BitsAgree map owner → b < length owner → b / 64 < length map → bit_at map b ≡ 1
    → BitsAgree (cleared map b) (set owner b (suc p))
agree_take map owner b p a h l e =
    agree_set map (cleared map b) owner b (suc p) a h
    (bit_set_same map (b / 64) (get_or map (b / 64) 0 - 2 ^ (b % 64)) b l refl ∙ clear_same (b % 64) (get_or map (b / 64) 0) e)
    (λ c. bit_change map b (get_or map (b / 64) 0 - 2 ^ (b % 64)) c l (λ i. clear_other (b % 64) (get_or map (b / 64) 0) i e))

pub marked_clear : (map : List ℕ) (b : ℕ) → bit_at map b ≡ 0 → marked map b ≡ set map (b / 64) (get_or map (b / 64) 0 + 2 ^ (b % 64))
marked_clear map b e = rw (eq-eqb (bit_at map b) 0 e)

pub agree_free : (map owner : List ℕ) (b : ℕ) → BitsAgree map owner → b < length owner → b / 64 < length map → bit_at map b ≡ 0
    → BitsAgree (marked map b) (set owner b 0)
agree_free map owner b a h l e =
    subst (λ (m : List ℕ). BitsAgree m (set owner b 0)) (sym (marked_clear map b e))
    (agree_set map (set map (b / 64) (get_or map (b / 64) 0 + 2 ^ (b % 64))) owner b 0 a h
    (bit_set_same map (b / 64) (get_or map (b / 64) 0 + 2 ^ (b % 64)) b l refl ∙ put_same (b % 64) (get_or map (b / 64) 0) e)
    (λ c. bit_change map b (get_or map (b / 64) 0 + 2 ^ (b % 64)) c l (λ i. put_other (b % 64) (get_or map (b / 64) 0) i e)))

-- ---- the owners determine the map

pub word_lt : (k : ℕ) (os : List ℕ) → word_of k os < 2 ^ k
unfolding word_of
word_lt zero os = omega arith
word_lt (suc k) [] = pow_pos (suc k)
word_lt (suc k) (o ∷ os) = omega (arith, pow-suc 2 k, word_lt k os, is_free_le o)

word_eq : (k w : ℕ) (os : List ℕ) → w < 2 ^ k → ((i : ℕ) → i < k → bit_of w i ≡ is_free (get_or os i 1)) → w ≡ word_of k os
unfolding word_of
word_eq zero w os l h = omega arith
word_eq (suc k) w [] l h =
    let ih = word_eq k (w / 2) [] (omega (arith, pow-suc 2 k)) (λ i q. sym (bit_suc w i) ∙ h (suc i) (omega arith)) in
    zero_word (ih ∙ none k) (sym (bit_zero w) ∙ h 0 (omega arith))
  where
    none : (k : ℕ) → word_of k [] ≡ 0
    none zero = refl
    none (suc k) = refl

    zero_word : w / 2 ≡ 0 → w % 2 ≡ 0 → w ≡ 0
    zero_word e f = omega arith
word_eq (suc k) w (o ∷ os) l h =
    let ih = word_eq k (w / 2) os (omega (arith, pow-suc 2 k)) (λ i q. sym (bit_suc w i) ∙ h (suc i) (omega arith)) in
    omega (arith, bit_zero w, h 0 (omega arith))

word_bit : (k : ℕ) (os : List ℕ) (i : ℕ) → i < k → bit_of (word_of k os) i ≡ is_free (get_or os i 1)
unfolding word_of
word_bit zero os i h = absurd (omega arith)
word_bit (suc k) [] i h = zero_bit i
word_bit (suc k) (o ∷ os) zero h = bit_zero (is_free o + 2 * word_of k os) ∙ low o (word_of k os)
  where
    low : (o w : ℕ) → (is_free o + 2 * w) % 2 ≡ is_free o
    low zero w = omega arith
    low (suc o) w = omega arith
word_bit (suc k) (o ∷ os) (suc i) h =
    bit_suc (is_free o + 2 * word_of k os) i ∙ ap (λ (x : ℕ). bit_of x i) (high o (word_of k os)) ∙ word_bit k os i (omega arith)
  where
    high : (o w : ℕ) → (is_free o + 2 * w) / 2 ≡ w
    high zero w = omega arith
    high (suc o) w = omega arith

pub length-map : (n : ℕ) (owner : List ℕ) → length (map_of n owner) ≡ n
unfolding map_of
length-map zero owner = refl
length-map (suc n) owner = ap suc (length-map n (drop 64 owner))

pub map_sized : (n : ℕ) (owner : List ℕ) → Sized (map_of n owner)
unfolding map_of
map_sized zero owner i = pow_pos 64
map_sized (suc n) owner zero = word_lt 64 owner
map_sized (suc n) owner (suc i) = map_sized n (drop 64 owner) i

pub map_eq : (map owner : List ℕ) → Sized map → BitsAgree map owner → map ≡ map_of (length map) owner
unfolding map_of
map_eq [] owner w a = refl
map_eq (m ∷ map) owner w a =
    ap₂ (λ (x : ℕ) (l : List ℕ). x ∷ l)
    (word_eq 64 m owner (w 0) (λ i q. sym (bit_here m map i q) ∙ a i))
    (map_eq map (drop 64 owner) (λ i. w (suc i)) (λ b. sym (bit_later m map b) ∙ a (64 + b) ∙ ap is_free (sym (get_or-drop 64 owner b 1))))

pub map_agree : (n : ℕ) (owner : List ℕ) → length owner ≤ 64 * n → BitsAgree (map_of n owner) owner
unfolding map_of
map_agree zero owner s b = zero_bit (b % 64) ∙ ap is_free (sym (get_or-eq_default owner 1 (omega arith)))
map_agree (suc n) owner s b =
    by_lt b 64
    (λ l. bit_here (word_of 64 owner) (map_of n (drop 64 owner)) b l ∙ word_bit 64 owner b l)
    (λ l. far l (map_agree n (drop 64 owner) (rw length-drop (omega arith)) (b - 64)))
  where
    far : 64 ≤ b → bit_at (map_of n (drop 64 owner)) (b - 64) ≡ is_free (get_or (drop 64 owner) (b - 64) 1)
        → bit_at (word_of 64 owner ∷ map_of n (drop 64 owner)) b ≡ is_free (get_or owner b 1)
    far l ih =
        let e : 64 + (b - 64) ≡ b = omega arith in
        ap (bit_at (word_of 64 owner ∷ map_of n (drop 64 owner))) (sym e) ∙ bit_later (word_of 64 owner) (map_of n (drop 64 owner)) (b - 64)
        ∙ ih ∙ ap is_free (get_or-drop 64 owner (b - 64) 1 ∙ ap (λ (x : ℕ). get_or owner x 1) e)

-- ---- the check is true exactly when its facts hold

pub both : (a b : Bool) → a && b ≡ true → (a ≡ true) × (b ≡ true)
both true true e = (refl, refl)
both true false e = absurd (let z : ◌≡◌ {A = ℕ} 0 1 = cc in omega arith)
both false b e = absurd (let z : ◌≡◌ {A = ℕ} 0 1 = cc in omega arith)

pub within_each : (files : ℕ) (owner : List ℕ) → within files owner ≡ true → (b : ℕ) → get_or owner b 0 ≤ files
unfolding within
within_each files [] e b = omega arith
within_each files (o ∷ os) e zero = leb-true o files (both (leb o files) (within files os) e).0
within_each files (o ∷ os) e (suc b) = within_each files os (both (leb o files) (within files os) e).1 b

pub each_within : (files : ℕ) (owner : List ℕ) → ((b : ℕ) → get_or owner b 0 ≤ files) → within files owner ≡ true
unfolding within
each_within files [] h = refl
each_within files (o ∷ os) h = rw (le-leb o files (h 0)) (each_within files os (λ b. h (suc b)))

pub map_is_eq : (map owner : List ℕ) → map_is map owner ≡ true → map ≡ map_of (length map) owner
unfolding map_is map_of
map_is_eq [] owner e = refl
map_is_eq (w ∷ ws) owner e =
    let p = both (eqb w (word_of 64 owner)) (map_is ws (drop 64 owner)) e in
    ap₂ (λ (x : ℕ) (l : List ℕ). x ∷ l) (eqb-true w (word_of 64 owner) p.0) (map_is_eq ws (drop 64 owner) p.1)

pub eq_map_is : (n : ℕ) (owner : List ℕ) → map_is (map_of n owner) owner ≡ true
unfolding map_is map_of
eq_map_is zero owner = refl
eq_map_is (suc n) owner = rw (eq-eqb (word_of 64 owner) (word_of 64 owner) refl) (eq_map_is n (drop 64 owner))

pub check_facts : (map owner : List ℕ) (files : ℕ) → agrees_test map owner files ≡ true → Agrees map owner files
unfolding agrees_test
check_facts map owner files e =
    let p = both (eqb (length map) (words_for (length owner)) && within files owner) (map_is map owner) e in
    let q = both (eqb (length map) (words_for (length owner))) (within files owner) p.0 in
    let n : length map ≡ words_for (length owner) = eqb-true (length map) (words_for (length owner)) q.0 in
    let m : map ≡ map_of (length map) owner = map_is_eq map owner p.1 in
    record {
      words = n;
      sized = subst Sized (sym m) (map_sized (length map) owner);
      bits = subst (λ (l : List ℕ). BitsAgree l owner) (sym m) (map_agree (length map) owner (omega arith));
      places = within_each files owner q.1;
    }

pub facts_check : (map owner : List ℕ) (files : ℕ) → Agrees map owner files → agrees_test map owner files ≡ true
unfolding agrees_test
facts_check map owner files a =
    let m : map ≡ map_of (length map) owner = map_eq map owner a.sized a.bits in
    rw (eq-eqb (length map) (words_for (length owner)) a.words, each_within files owner a.places)
    (subst (λ (l : List ℕ). map_is l owner ≡ true) (sym m) (eq_map_is (length map) owner))

-- a map of the words of its blocks has a bit for each block
pub words_fit : (map owner : List ℕ) (files : ℕ) → Agrees map owner files → length owner ≤ 64 * length map
words_fit map owner files a = omega (arith, a.words)

-- two maps that agree with the same owners are the same
pub same_map : (m n owner : List ℕ) (files : ℕ) → Agrees m owner files → Agrees n owner files → m ≡ n
same_map m n owner files a b =
    map_eq m owner a.sized a.bits ∙ ap (λ (k : ℕ). map_of k owner) (a.words ∙ sym b.words) ∙ sym (map_eq n owner b.sized b.bits)

-- ---- the number free is the number of owners that are 0

free_tail : (n : ℕ) (owner : List ℕ) → length owner ≤ n → sum_to n (λ b. is_free (get_or owner b 1)) ≡ blocks 0 owner
unfolding sum_to blocks
free_tail zero [] h = refl
free_tail zero (o ∷ os) h = absurd (omega arith)
free_tail (suc n) [] h = omega (arith, free_tail n [] (omega arith))
free_tail (suc n) (zero ∷ os) h = omega (arith, free_tail n os (omega arith))
free_tail (suc n) (suc o ∷ os) h = rw (eqb-suc-zero o) (omega (arith, free_tail n os (omega arith)))

pub free_blocks : (map owner : List ℕ) (files : ℕ) → Agrees map owner files → free_count map ≡ blocks 0 owner
free_blocks map owner files a =
    free_sum map a.sized ∙ count_ext (64 * length map) (bit_at map) (λ b. is_free (get_or owner b 1)) (λ b q. a.bits b)
    ∙ free_tail (64 * length map) owner (words_fit map owner files a)

-- free and held together are all blocks
pub free_and_held : (map owner : List ℕ) (files : ℕ) → Agrees map owner files → free_count map + held_count owner ≡ length owner
free_and_held map owner files a = omega (arith, free_blocks map owner files a, free_held owner)

-- each block is free, its bit 1 and its owner 0, or one file place's, its bit 0 and its owner that place plus 1
pub free_or_one : (map owner : List ℕ) (files b : ℕ) → Agrees map owner files → b < length owner
    → ((bit_at map b ≡ 1) × (get_or owner b 0 ≡ 0)) ⊎ ((place : ℕ) × (bit_at map b ≡ 0) × (get_or owner b 0 ≡ suc place) × (place < files))
free_or_one map owner files b a h = go (get_or owner b 0) refl (a.places b) (a.bits b ∙ ap is_free (get_any owner b 1 0 h))
  where
    go : (o : ℕ) → get_or owner b 0 ≡ o → get_or owner b 0 ≤ files → bit_at map b ≡ is_free (get_or owner b 0)
        → ((bit_at map b ≡ 1) × (get_or owner b 0 ≡ 0)) ⊎ ((place : ℕ) × (bit_at map b ≡ 0) × (get_or owner b 0 ≡ suc place) × (place < files))
    go zero e l f = inl (f ∙ ap is_free e, e)
    go (suc p) e l f = inr (p, f ∙ ap is_free e, e, omega arith)

-- ---- a store that has just been made agrees

pub made_agrees : (n files : ℕ) → Agrees (map_of (words_for n) (replicate n 0)) (replicate n 0) files
made_agrees n files =
    let none : List ℕ = replicate n 0 in
    let l : length none ≡ n = length-replicate n 0 in
    record {
      words = length-map (words_for n) none ∙ ap words_for (sym l);
      sized = map_sized (words_for n) none;
      bits = map_agree (words_for n) none (omega arith);
      places = λ b. subst (λ (x : ℕ). x ≤ files) (sym (zeros n b)) (omega arith);
    }
  where
    zeros : (n b : ℕ) → ◌≡◌ {A = ℕ} (get_or (replicate n 0) b 0) 0
    zeros zero b = refl
    zeros (suc n) zero = refl
    zeros (suc n) (suc b) = zeros n b
