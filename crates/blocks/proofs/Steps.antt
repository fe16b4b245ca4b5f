-- One turn of each loop, on plain lists: what the functions' invariants need.
use mathlib.Core.Path.{◌≡◌, refl, sym, ap, ap₂, ◌∙◌}
use mathlib.Core.Bool.{Bool, true, false, cond, ◌&&◌}
use Prim.Native.Nat.{ℕ, zero, suc, ◌+◌, ◌-◌, ◌*◌, ◌/◌, ◌%◌, ◌^◌, ◌≤◌, ◌<◌}
use native.Mathlib.Nat.{pow-le-pow_right, zero-lt-suc, le_trans}
use native.Mathlib.Numerals.{add-one}
use native.Mathlib.Omega.{arith}
use mathlib.Core.List.{List, [], ◌∷◌, ◌++◌, append-nil, append_assoc}
use lib.ListN.{length, get_or, set, take, drop, length-set, length-append, drop_of_length-le}
use lib.Seq.{drop-cons, take-suc, take-suc-set, take_all, drop-set-lt, append_snoc, drop-drop, take-add, sets, sets-eq, length-take-le, take_at, set_out}
use lib.Dec.{eqb, leb}
use borrow.Rule.Slice.PartMut.{put_mid}
use borrow.Author.Tests.{eq-eqb, ne_eqb}
use Rattle.blocks.specs.FreeMap.{bit_at, marked, free_count, lowest, cleared, reserved_map}
use Rattle.blocks.specs.Owners.{is_free, reserved_owner, released_owner, released_map, word_of, map_of}
use Rattle.blocks.specs.Check.{within, map_is}
use Rattle.blocks.proofs.Bits.{by_lt}
use Rattle.blocks.proofs.Agreement.{Sized, word_lt}
use Rattle.blocks.proofs.Lowest.{low_again}
use Rattle.blocks.proofs.Reserving.{TakenOne, taken_one}

-- ---- a list filled from its start, so that it becomes another

pub fill_step : (l target : List ℕ) (i x : ℕ) → i < length l → i < length target → x ≡ get_or target i 0 → take i l ≡ take i target
    → take (i + 1) (set l i x) ≡ take (i + 1) target
fill_step l target i x h k e t =
    rw add-one (take-suc-set l i x h ∙ ap₂ (λ (p : List ℕ) (y : ℕ). p ++ (y ∷ [])) t e ∙ sym (take-suc target i 0 k))

pub fill_done : (l target : List ℕ) (i : ℕ) → length l ≡ length target → length l ≤ i → take i l ≡ take i target → l ≡ target
fill_done l target i h k t = sym (take_all i l k) ∙ t ∙ take_all i target (omega arith)

-- ---- releasing

pub clear_hit : (v : ℕ) (owner : List ℕ) (b : ℕ) → b < length owner → get_or owner b 0 ≡ v
    → take b owner ++ released_owner v (drop b owner) ≡ take (b + 1) (set owner b 0) ++ released_owner v (drop (b + 1) (set owner b 0))
unfolding released_owner
clear_hit v owner b h e =
    rw (add-one, take-suc-set owner b 0 h, drop-set-lt (suc b) owner b 0 (omega arith), drop-cons owner b 0 h, eq-eqb (get_or owner b 0) v e)
    (sym (append_snoc (take b owner) 0 (released_owner v (drop (suc b) owner))))

pub clear_miss : (v : ℕ) (owner : List ℕ) (b : ℕ) → b < length owner → (get_or owner b 0 ≡ v → ⊥)
    → take b owner ++ released_owner v (drop b owner) ≡ take (b + 1) owner ++ released_owner v (drop (b + 1) owner)
unfolding released_owner
clear_miss v owner b h n =
    rw (add-one, take-suc owner b 0 h, drop-cons owner b 0 h, ne_eqb (get_or owner b 0) v n)
    (sym (append_snoc (take b owner) (get_or owner b 0) (released_owner v (drop (suc b) owner))))

pub clear_done : (v : ℕ) (before owner : List ℕ) (b : ℕ) → length owner ≤ b → released_owner v before ≡ take b owner ++ released_owner v (drop b owner)
    → owner ≡ released_owner v before
unfolding released_owner
clear_done v before owner b h e = sym (e ∙ rw (drop_of_length-le owner {i = b} h, take_all b owner h) (append-nil owner))

-- a block past the last word of the map
pub marked_past : (map : List ℕ) (b : ℕ) → length map ≤ b / 64 → map ≡ marked map b
marked_past map b h = go (eqb (bit_at map b) 0)
  where
    go : (t : Bool) → map ≡ cond t (set map (b / 64) (get_or map (b / 64) 0 + 2 ^ (b % 64))) map
    go true = sym (set_out map (b / 64) (get_or map (b / 64) 0 + 2 ^ (b % 64)) h)
    go false = refl

pub mark_step : (v : ℕ) (owner map : List ℕ) (b : ℕ) → b < length owner
    → released_map v (drop b owner) b map ≡ released_map v (drop (b + 1) owner) (b + 1) (cond (eqb (get_or owner b 0) v) (marked map b) map)
unfolding released_map
mark_step v owner map b h = rw (add-one, drop-cons owner b 0)

-- ---- the check

pub within_step : (files : ℕ) (owner : List ℕ) (b : ℕ) → b < length owner → within files (drop b owner) ≡ (leb (get_or owner b 0) files && within files (drop (b + 1) owner))
unfolding within
within_step files owner b h = rw (add-one, drop-cons owner b 0)

pub within_end : (files : ℕ) (owner : List ℕ) (b : ℕ) → length owner ≤ b → within files (drop b owner) ≡ true
unfolding within
within_end files owner b h = rw (drop_of_length-le owner h)

pub and_none : (a : Bool) → a && false ≡ false
and_none true = refl
and_none false = refl

pub and_all : (a : Bool) → a && true ≡ a
and_all true = refl
and_all false = refl

pub map_is_step : (map owner : List ℕ) (i : ℕ) → i < length map
    → map_is (drop i map) (drop (64 * i) owner) ≡ (eqb (get_or map i 0) (word_of 64 (drop (64 * i) owner)) && map_is (drop (i + 1) map) (drop (64 * (i + 1)) owner))
unfolding map_is
map_is_step map owner i h =
    let e : 64 * (i + 1) ≡ 64 * i + 64 = omega arith in
    rw (e, ← drop-drop 64 (64 * i) owner, add-one, drop-cons map i 0)

-- ---- the word of the owners

pub word_step : (owner : List ℕ) (k b : ℕ) → b < length owner → word_of (suc k) (drop b owner) ≡ is_free (get_or owner b 0) + 2 * word_of k (drop (suc b) owner)
unfolding word_of
word_step owner k b h = rw (drop-cons owner b 0)

pub word_fits : (k : ℕ) (os : List ℕ) → k ≤ 64 → word_of k os < 2 ^ 64
word_fits k os h = le_trans (word_lt k os) (pow-le-pow_right (zero-lt-suc 1) h)

pub word_none : (k : ℕ) → word_of k [] ≡ 0
unfolding word_of
word_none zero = refl
word_none (suc k) = refl

-- before the first block from the end e down, and one block further down
pub word_start : (owner : List ℕ) (e b : ℕ) → b ≤ e → (b < e → b ≡ length owner) → 0 ≡ word_of (e - b) (drop b owner)
unfolding word_of
word_start owner e b h l =
    by_lt b e
    (λ q. sym (ap (word_of (e - b)) (drop_of_length-le owner (end (l q))) ∙ word_none (e - b)))
    (λ q. let z : e - b ≡ 0 = omega arith in ap (λ (k : ℕ). word_of k (drop b owner)) (sym z))
  where
    end : b ≡ length owner → length owner ≤ b
    end q = omega arith

pub word_down : (owner : List ℕ) (e b : ℕ) → 0 < b → b ≤ e → b ≤ length owner
    → word_of (e - (b - 1)) (drop (b - 1) owner) ≡ is_free (get_or owner (b - 1) 0) + 2 * word_of (e - b) (drop b owner)
word_down owner e b p h l =
    let m : e - (b - 1) ≡ suc (e - b) = omega arith in
    let n : suc (b - 1) ≡ b = omega arith in
    ap (λ (k : ℕ). word_of k (drop (b - 1) owner)) m ∙ word_step owner (e - b) (b - 1) (omega arith)
    ∙ ap (λ (k : ℕ). is_free (get_or owner (b - 1) 0) + 2 * word_of (e - b) (drop k owner)) n

pub map_get : (n : ℕ) (owner : List ℕ) (i : ℕ) → i < n → get_or (map_of n owner) i 0 ≡ word_of 64 (drop (64 * i) owner)
unfolding map_of
map_get zero owner i h = absurd (omega arith)
map_get (suc n) owner zero h = refl
map_get (suc n) owner (suc i) h =
    let e : 64 + 64 * i ≡ 64 * suc i = omega arith in
    map_get n (drop 64 owner) i (omega arith) ∙ ap (word_of 64) (drop-drop (64 * i) 64 owner ∙ ap (λ (k : ℕ). drop k owner) e)

-- ---- a run of bytes in the middle of a list

-- what a part that is lent and comes back as xs leaves
pub part_sets : (l xs : List ℕ) (s e : ℕ) → e ≡ s + length xs → e ≤ length l → take s l ++ (xs ++ drop (e - s) (drop s l)) ≡ sets l s xs
part_sets l xs s e q h =
    let n : s + (e - s) ≡ s + length xs = omega arith in
    rw drop-drop (rw n (sym (append_assoc (take s l) xs (drop (s + length xs) l)) ∙ sym (sets-eq xs l s (omega arith))))

pub part_put : (l xs run : List ℕ) (s n : ℕ) → xs ≡ run → n ≡ length run → s + length run ≤ length l → put_mid s n l xs ≡ sets l s run
part_put l xs run s n e q h =
    let k : s + n - s ≡ n = omega arith in
    ap₂ (λ (p : List ℕ) (m : ℕ). put_mid s m l p) e (sym k) ∙ part_sets l run s (s + n) (omega arith) (omega arith)

-- a run read into its place: the bytes read so far grow by it
pub run_read : (out run target : List ℕ) (i e : ℕ) → i ≤ e → e ≤ length out → length run ≡ e - i → take i out ≡ take i target → run ≡ take (e - i) (drop i target)
    → take e (take i out ++ (run ++ drop (e - i) (drop i out))) ≡ take e target
run_read out run target i e h k n t r =
    let m : i + (e - i) ≡ e = omega arith in
    let l : length (take i out ++ run) ≡ e = length-append (take i out) run ∙ sum (length-take-le i out (omega arith)) in
    ap (take e) (sym (append_assoc (take i out) run (drop (e - i) (drop i out)))) ∙ take_at (take i out ++ run) (drop (e - i) (drop i out)) e l
    ∙ ap₂ (λ (p q : List ℕ). p ++ q) t r ∙ sym (take-add i (e - i) target) ∙ ap (λ (z : ℕ). take z target) m
  where
    sum : length (take i out) ≡ i → length (take i out) + length run ≡ e
    sum q = omega arith

-- ---- reserving

-- the loop that takes n blocks, with `left` to go and all words before word i at 0
pub record Taking (map₀ owner₀ : List ℕ) (v n : ℕ) (map owner : List ℕ) (left i : ℕ) : Type 0 where
  pub words : length map ≡ length map₀
  pub size : length owner ≡ length owner₀
  pub few : length map₀ ≤ 64
  pub sized : Sized map
  pub at : i ≤ length map
  pub before : 64 * i + lowest (drop i map) ≡ lowest map
  pub room : left ≤ free_count map
  pub maps : reserved_map n map₀ ≡ reserved_map left map
  pub owners : reserved_owner v n map₀ owner₀ ≡ reserved_owner v left map owner

pub take_step : (map₀ owner₀ : List ℕ) (v n : ℕ) (map owner : List ℕ) (left i : ℕ) → Taking map₀ owner₀ v n map owner left i → 0 < left
    → (map' owner' : List ℕ) (i' : ℕ) → map' ≡ cleared map (lowest map) → owner' ≡ set owner (lowest map) v → i' ≡ lowest map / 64
    → Taking map₀ owner₀ v n map' owner' (left - 1) i'
unfolding reserved_map reserved_owner
take_step map₀ owner₀ v n map owner left i t p map' owner' i' em eo ei = go (left - 1) (omega arith) (taken_one map t.sized (omega (arith, t.room)))
  where
    go : (k : ℕ) → left ≡ suc k → TakenOne map → Taking map₀ owner₀ v n map' owner' k i'
    go k e o =
        rw (em, eo, ei) (record {
          words = o.words ∙ t.words;
          size = length-set owner (lowest map) v ∙ t.size;
          few = t.few;
          sized = o.sized;
          at = omega (arith, o.found, o.words);
          before = low_again map t.sized;
          room = omega (arith, t.room, o.fewer);
          maps = t.maps ∙ ap (λ (l : ℕ). reserved_map l map) e;
          owners = t.owners ∙ ap (λ (l : ℕ). reserved_owner v l map owner) e;
        })
