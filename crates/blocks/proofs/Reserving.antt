-- Laws of reserving and releasing where the map and the owners agree: both keep the agreement, change the blocks of their own place alone,
-- and undo each other.
use mathlib.Core.Path.{◌≡◌, refl, sym, ap, ◌∙◌, subst}
use mathlib.Core.Logic.{◌⊎◌, inl, inr, ⊎_elim}
use mathlib.Core.Bool.{Bool, true, false, cond}
use Prim.Native.Nat.{ℕ, zero, suc, ◌+◌, ◌-◌, ◌*◌, ◌/◌, ◌%◌, ◌^◌, ◌≤◌, ◌<◌}
use native.Mathlib.Nat.{zero-add}
use native.Mathlib.Omega.{arith}
use mathlib.Core.List.{List, [], ◌∷◌, ◌++◌}
use lib.ListN.{length, get_or, set, take, drop, length-set, length-append, get_or-eq_default}
use lib.Seq.{append_snoc, set-append_seam, get_or-append_seam}
use lib.Dec.{eqb, eqb-suc-zero, eqb-zero-suc}
use lib.Count.{ones}
use borrow.Author.Tests.{eq-eqb, ne_eqb, eqb-true}
use Rattle.blocks.specs.FreeMap.{free_count, bit_at, lowest, cleared, marked, reserved_map}
use Rattle.blocks.specs.Owners.{is_free, blocks, reserved_owner, released_owner, released_map}
use Rattle.blocks.specs.Contents.{held}
use Rattle.blocks.specs.Check.{words_for, Agrees}
use Rattle.blocks.proofs.Bits.{by_lt, put_lt, ones_clear, sum_to, free_sum}
use Rattle.blocks.proofs.Lowest.{low_bit, low_none}
use Rattle.blocks.proofs.Owners.{free_is_zero}
use Rattle.blocks.proofs.Agreement.{BitsAgree, Sized, agree_take, agree_free, sized_set, words_fit, same_map, free_blocks}

-- ---- the count after a block is taken, and that there is one to take

free_set : (map : List ℕ) (i w : ℕ) → i < length map → free_count (set map i w) + ones (get_or map i 0) ≡ free_count map + ones w
unfolding free_count
free_set [] i w h = absurd (omega arith)
free_set (x ∷ map) zero w h = omega arith
free_set (x ∷ map) (suc i) w h = omega (arith, free_set map i w (omega arith))

pub free_clear : (map : List ℕ) (b : ℕ) → b / 64 < length map → bit_at map b ≡ 1 → free_count (cleared map b) + 1 ≡ free_count map
free_clear map b h e = omega (arith, free_set map (b / 64) (get_or map (b / 64) 0 - 2 ^ (b % 64)) h, ones_clear (b % 64) (get_or map (b / 64) 0) e)

sum_zero : (n : ℕ) (f : ℕ → ℕ) → ((i : ℕ) → i < n → f i ≡ 0) → sum_to n f ≡ 0
unfolding sum_to
sum_zero zero f h = refl
sum_zero (suc n) f h = omega (arith, h 0 (omega arith), sum_zero n (λ i. f (suc i)) (λ i l. h (suc i) (omega arith)))

-- where a bit is 1, the lowest such block is in the map
pub lowest_in : (map : List ℕ) → Sized map → 0 < free_count map → lowest map < 64 * length map
lowest_in map w h =
    by_lt (lowest map) (64 * length map) (λ l. l)
    (λ l. absurd (none (free_sum map w ∙ sum_zero (64 * length map) (bit_at map) (λ i q. low_none map i (omega arith)))))
  where
    none : free_count map ≡ 0 → ⊥
    none e = omega arith

-- one block taken: one bit fewer, the same words, and each a 64-bit number
pub record TakenOne (map : List ℕ) : Type 0 where
  pub found : lowest map < 64 * length map
  pub bit : bit_at map (lowest map) ≡ 1
  pub fewer : free_count (cleared map (lowest map)) + 1 ≡ free_count map
  pub sized : Sized (cleared map (lowest map))
  pub words : length (cleared map (lowest map)) ≡ length map

pub taken_one : (map : List ℕ) → Sized map → 0 < free_count map → TakenOne map
taken_one map w h =
    let l : lowest map < 64 * length map = lowest_in map w h in
    let e : bit_at map (lowest map) ≡ 1 = low_bit map w l in
    record {
      found = l;
      bit = e;
      fewer = free_clear map (lowest map) (omega arith) e;
      sized = sized_set map (lowest map / 64) (get_or map (lowest map / 64) 0 - 2 ^ (lowest map % 64)) w (less (2 ^ (lowest map % 64)) (2 ^ 64) (w (lowest map / 64)));
      words = length-set map (lowest map / 64) (get_or map (lowest map / 64) 0 - 2 ^ (lowest map % 64));
    }
  where
    less : {x : ℕ} (y p : ℕ) → x < p → x - y < p
    less y p h = omega arith

-- ---- the n lowest free blocks

-- the n first owners that are 0 become v
unfoldable pub filled : ℕ → ℕ → List ℕ → List ℕ
filled v zero os = os
filled v (suc n) [] = []
filled v (suc n) (zero ∷ os) = v ∷ filled v n os
filled v (suc n) (suc o ∷ os) = suc o ∷ filled v (suc n) os

fill_past : (v n o : ℕ) (os : List ℕ) → filled v n (suc o ∷ os) ≡ suc o ∷ filled v n os
unfolding filled
fill_past v zero o os = refl
fill_past v (suc n) o os = refl

fill_step : (p n : ℕ) (owner : List ℕ) (b : ℕ) → get_or owner b 1 ≡ 0 → ((j : ℕ) → j < b → is_free (get_or owner j 1) ≡ 0)
    → filled (suc p) (suc n) owner ≡ filled (suc p) n (set owner b (suc p))
unfolding filled
fill_step p n [] b e h = absurd (omega arith)
fill_step p n (zero ∷ os) zero e h = sym (fill_past (suc p) n p os)
fill_step p n (zero ∷ os) (suc b) e h = absurd (omega (arith, h 0 (omega arith)))
fill_step p n (suc o ∷ os) zero e h = absurd (omega arith)
fill_step p n (suc o ∷ os) (suc b) e h =
    ap (λ (l : List ℕ). suc o ∷ l) (fill_step p n os b e (λ j l. h (suc j) (omega arith))) ∙ sym (fill_past (suc p) n o (set os b (suc p)))

-- a free bit is that of a block
free_in : (map owner : List ℕ) (b : ℕ) → BitsAgree map owner → bit_at map b ≡ 1 → b < length owner
free_in map owner b a e = by_lt b (length owner) (λ l. l) (λ l. absurd (clash (a b ∙ ap is_free (get_or-eq_default owner 1 l))))
  where
    clash : bit_at map b ≡ 0 → ⊥
    clash z = omega arith

-- where the map and the owners agree, reserving gives the n lowest free blocks to the place, and they agree afterwards
pub record Filled (map owner : List ℕ) (p n : ℕ) : Type 0 where
  pub owners : reserved_owner (suc p) n map owner ≡ filled (suc p) n owner
  pub bits : BitsAgree (reserved_map n map) (reserved_owner (suc p) n map owner)
  pub sized : Sized (reserved_map n map)
  pub words : length (reserved_map n map) ≡ length map

pub reserved_filled : (n p : ℕ) (map owner : List ℕ) → Sized map → BitsAgree map owner → n ≤ free_count map → Filled map owner p n
unfolding reserved_owner reserved_map filled
reserved_filled zero p map owner w a h = record { owners = refl; bits = a; sized = w; words = refl }
reserved_filled (suc n) p map owner w a h = go (taken_one map w (omega arith))
    (λ t l. reserved_filled n p (cleared map (lowest map)) (set owner (lowest map) (suc p)) t.sized
    (agree_take map owner (lowest map) p a l (omega (arith, t.found)) t.bit) (omega (arith, t.fewer)))
  where
    go : (t : TakenOne map) → ((t : TakenOne map) → lowest map < length owner → Filled (cleared map (lowest map)) (set owner (lowest map) (suc p)) p n)
        → Filled map owner p (suc n)
    go t ih =
        let l : lowest map < length owner = free_in map owner (lowest map) a t.bit in
        let f = ih t l in
        record {
          owners = f.owners ∙ sym (fill_step p n owner (lowest map) (free_is_zero (get_or owner (lowest map) 1) (sym (a (lowest map)) ∙ t.bit)) (λ j q. sym (a j) ∙ low_none map j q));
          bits = f.bits;
          sized = f.sized;
          words = f.words ∙ t.words;
        }

length_filled : (v n : ℕ) (owner : List ℕ) → length (filled v n owner) ≡ length owner
unfolding filled
length_filled v zero owner = refl
length_filled v (suc n) [] = refl
length_filled v (suc n) (zero ∷ os) = ap suc (length_filled v n os)
length_filled v (suc n) (suc o ∷ os) = ap suc (length_filled v (suc n) os)

filled_own : (p n : ℕ) (owner : List ℕ) → n ≤ blocks 0 owner → blocks (suc p) (filled (suc p) n owner) ≡ n + blocks (suc p) owner
unfolding filled blocks
filled_own p zero owner h = sym (zero-add (blocks (suc p) owner))
filled_own p (suc n) [] h = absurd (omega arith)
filled_own p (suc n) (zero ∷ os) h =
    rw (eq-eqb (suc p) (suc p) refl, eqb-zero-suc p) (omega (arith, filled_own p n os (omega arith)))
filled_own p (suc n) (suc o ∷ os) h =
    let g = rw (eqb-suc-zero o) at h in
    omega (arith, filled_own p (suc n) os (omega arith))

-- a block is as before, or was free and is now v's
filled_each : (v n : ℕ) (owner : List ℕ) (b : ℕ) → (get_or (filled v n owner) b 0 ≡ get_or owner b 0) ⊎ ((get_or owner b 0 ≡ 0) × (get_or (filled v n owner) b 0 ≡ v))
unfolding filled
filled_each v zero owner b = inl refl
filled_each v (suc n) [] b = inl refl
filled_each v (suc n) (zero ∷ os) zero = inr (refl, refl)
filled_each v (suc n) (zero ∷ os) (suc b) = filled_each v n os b
filled_each v (suc n) (suc o ∷ os) zero = inl refl
filled_each v (suc n) (suc o ∷ os) (suc b) = filled_each v (suc n) os b

filled_others : (u p n : ℕ) (owner : List ℕ) → (u ≡ 0 → ⊥) → (u ≡ suc p → ⊥) → blocks u (filled (suc p) n owner) ≡ blocks u owner
unfolding filled blocks
filled_others u p zero owner a b = refl
filled_others u p (suc n) [] a b = refl
filled_others u p (suc n) (zero ∷ os) a b =
    rw (ne_eqb 0 u (λ e. a (sym e)), ne_eqb (suc p) u (λ e. b (sym e))) (ap (λ (k : ℕ). 0 + k) (filled_others u p n os a b))
filled_others u p (suc n) (suc o ∷ os) a b = ap (λ (k : ℕ). cond (eqb (suc o) u) 1 0 + k) (filled_others u p (suc n) os a b)

filled_held : (u p n : ℕ) (owner disk : List ℕ) → (u ≡ 0 → ⊥) → (u ≡ suc p → ⊥) → held u (filled (suc p) n owner) disk ≡ held u owner disk
unfolding filled held
filled_held u p zero owner disk a b = refl
filled_held u p (suc n) [] disk a b = refl
filled_held u p (suc n) (zero ∷ os) disk a b =
    rw (ne_eqb 0 u (λ e. a (sym e)), ne_eqb (suc p) u (λ e. b (sym e))) (filled_held u p n os (drop 256 disk) a b)
filled_held u p (suc n) (suc o ∷ os) disk a b = ap (λ (l : List ℕ). cond (eqb (suc o) u) (take 256 disk) [] ++ l) (filled_held u p (suc n) os (drop 256 disk) a b)

-- What reserving n blocks for owner v leaves, where the map and the owners agreed and n blocks were free: they agree; v has n blocks more
-- and there are n free blocks fewer; any other file has the same blocks, and they hold the same bytes; a block is as before, or it was free
-- and is now v's.
pub record Reserves (map owner map' owner' : List ℕ) (files v n : ℕ) : Type 0 where
  pub agrees : Agrees map' owner' files
  pub size : length owner' ≡ length owner
  pub own : blocks v owner' ≡ n + blocks v owner
  pub free : free_count map' + n ≡ free_count map
  pub others : (u : ℕ) → (u ≡ 0 → ⊥) → (u ≡ v → ⊥) → blocks u owner' ≡ blocks u owner
  pub bytes : (u : ℕ) (disk : List ℕ) → (u ≡ 0 → ⊥) → (u ≡ v → ⊥) → held u owner' disk ≡ held u owner disk
  pub each : (b : ℕ) → (get_or owner' b 0 ≡ get_or owner b 0) ⊎ ((get_or owner b 0 ≡ 0) × (get_or owner' b 0 ≡ v))

-- reserving clears as many bits as it takes blocks, whatever the owners say
pub reserved_free : (n : ℕ) (map : List ℕ) → Sized map → n ≤ free_count map → free_count (reserved_map n map) + n ≡ free_count map
unfolding reserved_map
reserved_free zero map w h = omega arith
reserved_free (suc n) map w h = go (taken_one map w (omega arith)) (λ t. reserved_free n (cleared map (lowest map)) t.sized (omega (arith, t.fewer)))
  where
    go : (t : TakenOne map) → ((t : TakenOne map) → free_count (reserved_map n (cleared map (lowest map))) + n ≡ free_count (cleared map (lowest map)))
        → free_count (reserved_map n (cleared map (lowest map))) + suc n ≡ free_count map
    go t ih = omega (arith, ih t, t.fewer)

pub reserve_laws : (map owner : List ℕ) (files p n : ℕ) → Agrees map owner files → p < files → n ≤ free_count map
    → Reserves map owner (reserved_map n map) (reserved_owner (suc p) n map owner) files (suc p) n
reserve_laws map owner files p n a l h =
    let f = reserved_filled n p map owner a.sized a.bits h in
    let s : length (reserved_owner (suc p) n map owner) ≡ length owner = ap length f.owners ∙ length_filled (suc p) n owner in
    let e = each_block f.owners in
    record {
      agrees = record {
        words = f.words ∙ a.words ∙ ap words_for (sym s);
        sized = f.sized;
        bits = f.bits;
        places = λ b. ⊎_elim (λ k. subst (λ (x : ℕ). x ≤ files) (sym k) (a.places b)) (λ k. subst (λ (x : ℕ). x ≤ files) (sym k.1) (omega arith)) (e b);
      };
      size = s;
      own = ap (blocks (suc p)) f.owners ∙ filled_own p n owner (omega (arith, free_blocks map owner files a));
      free = reserved_free n map a.sized h;
      others = λ u z q. ap (blocks u) f.owners ∙ filled_others u p n owner z q;
      bytes = λ u disk z q. ap (λ (o : List ℕ). held u o disk) f.owners ∙ filled_held u p n owner disk z q;
      each = e;
    }
  where
    each_block : reserved_owner (suc p) n map owner ≡ filled (suc p) n owner → (b : ℕ)
        → (get_or (reserved_owner (suc p) n map owner) b 0 ≡ get_or owner b 0) ⊎ ((get_or owner b 0 ≡ 0) × (get_or (reserved_owner (suc p) n map owner) b 0 ≡ suc p))
    each_block q b = subst (λ (o : List ℕ). (get_or o b 0 ≡ get_or owner b 0) ⊎ ((get_or owner b 0 ≡ 0) × (get_or o b 0 ≡ suc p))) (sym q) (filled_each (suc p) n owner b)

-- ---- releasing

pub length_released : (v : ℕ) (owner : List ℕ) → length (released_owner v owner) ≡ length owner
unfolding released_owner
length_released v [] = refl
length_released v (o ∷ os) = ap suc (length_released v os)

released_each : (v : ℕ) (owner : List ℕ) (b : ℕ) → get_or (released_owner v owner) b 0 ≡ cond (eqb (get_or owner b 0) v) 0 (get_or owner b 0)
unfolding released_owner
released_each v [] b = sym (same (eqb 0 v))
  where
    same : (t : Bool) → ◌≡◌ {A = ℕ} (cond t 0 0) 0
    same true = refl
    same false = refl
released_each v (o ∷ os) zero = refl
released_each v (o ∷ os) (suc b) = released_each v os b

released_own : (p : ℕ) (owner : List ℕ) → blocks (suc p) (released_owner (suc p) owner) ≡ 0
unfolding released_owner blocks
released_own p [] = refl
released_own p (o ∷ os) = go (eqb o (suc p)) refl (released_own p os)
  where
    go : (t : Bool) → eqb o (suc p) ≡ t → blocks (suc p) (released_owner (suc p) os) ≡ 0
        → cond (eqb (cond t 0 o) (suc p)) 1 0 + blocks (suc p) (released_owner (suc p) os) ≡ 0
    go true e ih = rw (eqb-zero-suc p) (omega arith)
    go false e ih = rw e (omega arith)

released_free : (p : ℕ) (owner : List ℕ) → blocks 0 (released_owner (suc p) owner) ≡ blocks 0 owner + blocks (suc p) owner
unfolding released_owner blocks
released_free p [] = refl
released_free p (o ∷ os) = go o (eqb o (suc p)) refl (released_free p os)
  where
    go : (o : ℕ) (t : Bool) → eqb o (suc p) ≡ t → blocks 0 (released_owner (suc p) os) ≡ blocks 0 os + blocks (suc p) os
        → cond (eqb (cond t 0 o) 0) 1 0 + blocks 0 (released_owner (suc p) os) ≡ cond (eqb o 0) 1 0 + blocks 0 os + (cond t 1 0 + blocks (suc p) os)
    go zero true e ih = absurd (let z = eqb-true 0 (suc p) e in omega arith)
    go (suc o) true e ih = rw (eqb-suc-zero o) (omega arith)
    go zero false e ih = omega arith
    go (suc o) false e ih = rw (eqb-suc-zero o) (omega arith)

released_others : (u v : ℕ) (owner : List ℕ) → (u ≡ 0 → ⊥) → (u ≡ v → ⊥) → blocks u (released_owner v owner) ≡ blocks u owner
unfolding released_owner blocks
released_others u v [] a b = refl
released_others u v (o ∷ os) a b = go (eqb o v) refl (released_others u v os a b)
  where
    go : (t : Bool) → eqb o v ≡ t → blocks u (released_owner v os) ≡ blocks u os
        → cond (eqb (cond t 0 o) u) 1 0 + blocks u (released_owner v os) ≡ cond (eqb o u) 1 0 + blocks u os
    go true e ih = rw (ne_eqb 0 u (λ z. a (sym z)), ne_eqb o u (λ z. b (sym z ∙ eqb-true o v e))) (omega arith)
    go false e ih = ap (λ (k : ℕ). cond (eqb o u) 1 0 + k) ih

released_held : (u v : ℕ) (owner disk : List ℕ) → (u ≡ 0 → ⊥) → (u ≡ v → ⊥) → held u (released_owner v owner) disk ≡ held u owner disk
unfolding released_owner held
released_held u v [] disk a b = refl
released_held u v (o ∷ os) disk a b = go (eqb o v) refl (released_held u v os (drop 256 disk) a b)
  where
    go : (t : Bool) → eqb o v ≡ t → held u (released_owner v os) (drop 256 disk) ≡ held u os (drop 256 disk)
        → cond (eqb (cond t 0 o) u) (take 256 disk) [] ++ held u (released_owner v os) (drop 256 disk) ≡ cond (eqb o u) (take 256 disk) [] ++ held u os (drop 256 disk)
    go true e ih = rw (ne_eqb 0 u (λ z. a (sym z)), ne_eqb o u (λ z. b (sym z ∙ eqb-true o v e))) ih
    go false e ih = ap (λ (l : List ℕ). cond (eqb o u) (take 256 disk) [] ++ l) ih

-- the map of released blocks has the same words, each a 64-bit number
pub marked_words : (map : List ℕ) (b : ℕ) → length (marked map b) ≡ length map
marked_words map b = go (eqb (bit_at map b) 0)
  where
    go : (t : Bool) → length (cond t (set map (b / 64) (get_or map (b / 64) 0 + 2 ^ (b % 64))) map) ≡ length map
    go true = length-set map (b / 64) (get_or map (b / 64) 0 + 2 ^ (b % 64))
    go false = refl

pub marked_sized : (map : List ℕ) (b : ℕ) → Sized map → Sized (marked map b)
marked_sized map b w = go (eqb (bit_at map b) 0) refl
  where
    go : (t : Bool) → eqb (bit_at map b) 0 ≡ t → Sized (cond t (set map (b / 64) (get_or map (b / 64) 0 + 2 ^ (b % 64))) map)
    go true e = sized_set map (b / 64) (get_or map (b / 64) 0 + 2 ^ (b % 64)) w
        (put_lt 64 (b % 64) (get_or map (b / 64) 0) (omega arith) (w (b / 64)) (eqb-true (bit_at map b) 0 e))
    go false e = w

pub released_words : (v : ℕ) (os : List ℕ) (b : ℕ) (map : List ℕ) → length (released_map v os b map) ≡ length map
unfolding released_map
released_words v [] b map = refl
released_words v (o ∷ os) b map = released_words v os (suc b) (cond (eqb o v) (marked map b) map) ∙ go (eqb o v)
  where
    go : (t : Bool) → length (cond t (marked map b) map) ≡ length map
    go true = marked_words map b
    go false = refl

pub released_sized : (v : ℕ) (os : List ℕ) (b : ℕ) (map : List ℕ) → Sized map → Sized (released_map v os b map)
unfolding released_map
released_sized v [] b map w = w
released_sized v (o ∷ os) b map w = released_sized v os (suc b) (cond (eqb o v) (marked map b) map) (go (eqb o v))
  where
    go : (t : Bool) → Sized (cond t (marked map b) map)
    go true = marked_sized map b w
    go false = w

-- the blocks before block b are done, and those from it on are left
released_bits : (p : ℕ) (done os : List ℕ) (b : ℕ) (map : List ℕ) → length done ≡ b → length done + length os ≤ 64 * length map → BitsAgree map (done ++ os)
    → BitsAgree (released_map (suc p) os b map) (done ++ released_owner (suc p) os)
unfolding released_map released_owner
released_bits p done [] b map d l a = a
released_bits p done (o ∷ os) b map d l a =
    go (eqb o (suc p)) refl
    (λ m x w g. subst (λ (r : List ℕ). BitsAgree (released_map (suc p) os (suc b) m) r) (append_snoc done x (released_owner (suc p) os))
    (released_bits p (done ++ (x ∷ [])) os (suc b) m (simp length-append (omega arith)) (simp length-append (omega arith))
    (subst (λ (r : List ℕ). BitsAgree m r) (sym (append_snoc done x os)) g)))
  where
    go : (t : Bool) → eqb o (suc p) ≡ t
        → ((m : List ℕ) (x : ℕ) → length m ≡ length map → BitsAgree m (done ++ x ∷ os) → BitsAgree (released_map (suc p) os (suc b) m) (done ++ x ∷ released_owner (suc p) os))
        → BitsAgree (released_map (suc p) os (suc b) (cond t (marked map b) map)) (done ++ cond t 0 o ∷ released_owner (suc p) os)
    go false e ih = ih map o refl a
    go true e ih =
        let n : length (done ++ o ∷ os) ≡ length done + suc (length os) = length-append done (o ∷ os) in
        let h : b < length (done ++ o ∷ os) = omega arith in
        let g : get_or (done ++ o ∷ os) b 1 ≡ o = ap (λ (i : ℕ). get_or (done ++ o ∷ os) i 1) (sym d) ∙ get_or-append_seam done o os 1 in
        let z : bit_at map b ≡ 0 = a b ∙ ap is_free (g ∙ eqb-true o (suc p) e) in
        let s : set (done ++ o ∷ os) b 0 ≡ done ++ 0 ∷ os = ap (λ (i : ℕ). set (done ++ o ∷ os) i 0) (sym d) ∙ set-append_seam done o os 0 in
        ih (marked map b) 0 (marked_words map b)
        (subst (λ (r : List ℕ). BitsAgree (marked map b) r) s (agree_free map (done ++ o ∷ os) b a h (omega arith) z))

-- What releasing owner v leaves, where the map and the owners agreed: they agree; v has no block, and its blocks are free; any other file
-- has the same blocks, and they hold the same bytes; a block of v is free, and any other is as before.
pub record Releases (map owner map' owner' : List ℕ) (files v : ℕ) : Type 0 where
  pub agrees : Agrees map' owner' files
  pub size : length owner' ≡ length owner
  pub own : blocks v owner' ≡ 0
  pub free : free_count map' ≡ free_count map + blocks v owner
  pub others : (u : ℕ) → (u ≡ 0 → ⊥) → (u ≡ v → ⊥) → blocks u owner' ≡ blocks u owner
  pub bytes : (u : ℕ) (disk : List ℕ) → (u ≡ 0 → ⊥) → (u ≡ v → ⊥) → held u owner' disk ≡ held u owner disk
  pub each : (b : ℕ) → get_or owner' b 0 ≡ cond (eqb (get_or owner b 0) v) 0 (get_or owner b 0)

pub release_laws : (map owner : List ℕ) (files p : ℕ) → Agrees map owner files
    → Releases map owner (released_map (suc p) owner 0 map) (released_owner (suc p) owner) files (suc p)
release_laws map owner files p a =
    let s = length_released (suc p) owner in
    let g : Agrees (released_map (suc p) owner 0 map) (released_owner (suc p) owner) files = record {
      words = released_words (suc p) owner 0 map ∙ a.words ∙ ap words_for (sym s);
      sized = released_sized (suc p) owner 0 map a.sized;
      bits = released_bits p [] owner 0 map refl (omega (arith, words_fit map owner files a)) a.bits;
      places = λ b. subst (λ (x : ℕ). x ≤ files) (sym (released_each (suc p) owner b)) (less (eqb (get_or owner b 0) (suc p)) (a.places b));
    } in
    record {
      agrees = g;
      size = s;
      own = released_own p owner;
      free = free_blocks (released_map (suc p) owner 0 map) (released_owner (suc p) owner) files g ∙ released_free p owner
          ∙ ap (λ (k : ℕ). k + blocks (suc p) owner) (sym (free_blocks map owner files a));
      others = λ u z q. released_others u (suc p) owner z q;
      bytes = λ u disk z q. released_held u (suc p) owner disk z q;
      each = released_each (suc p) owner;
    }
  where
    less : (t : Bool) {x : ℕ} → x ≤ files → cond t 0 x ≤ files
    less true h = omega arith
    less false h = h

-- ---- releasing what was reserved gives back the same store

undone : (p n : ℕ) (owner : List ℕ) → blocks (suc p) owner ≡ 0 → released_owner (suc p) (filled (suc p) n owner) ≡ owner
unfolding filled released_owner blocks
undone p zero [] h = refl
undone p zero (o ∷ os) h = go (eqb o (suc p)) h (undone p zero os)
  where
    go : (t : Bool) → cond t 1 0 + blocks (suc p) os ≡ 0 → (blocks (suc p) os ≡ 0 → released_owner (suc p) os ≡ os) → cond t 0 o ∷ released_owner (suc p) os ≡ o ∷ os
    go true h ih = absurd (omega arith)
    go false h ih = ap (λ (l : List ℕ). o ∷ l) (ih (omega arith))
undone p (suc n) [] h = refl
undone p (suc n) (zero ∷ os) h =
    rw (eq-eqb (suc p) (suc p) refl) (ap (λ (l : List ℕ). 0 ∷ l) (undone p n os (omega arith)))
undone p (suc n) (suc o ∷ os) h = go (eqb (suc o) (suc p)) h (undone p (suc n) os)
  where
    go : (t : Bool) → cond t 1 0 + blocks (suc p) os ≡ 0 → (blocks (suc p) os ≡ 0 → released_owner (suc p) (filled (suc p) (suc n) os) ≡ os)
        → cond t 0 (suc o) ∷ released_owner (suc p) (filled (suc p) (suc n) os) ≡ suc o ∷ os
    go true h ih = absurd (omega arith)
    go false h ih = ap (λ (l : List ℕ). suc o ∷ l) (ih (omega arith))

pub reserve_release : (map owner : List ℕ) (files p n : ℕ) → Agrees map owner files → p < files → n ≤ free_count map → blocks (suc p) owner ≡ 0
    → (released_owner (suc p) (reserved_owner (suc p) n map owner) ≡ owner) × (released_map (suc p) (reserved_owner (suc p) n map owner) 0 (reserved_map n map) ≡ map)
reserve_release map owner files p n a l h z =
    let f = reserved_filled n p map owner a.sized a.bits h in
    let o : released_owner (suc p) (reserved_owner (suc p) n map owner) ≡ owner = ap (released_owner (suc p)) f.owners ∙ undone p n owner z in
    let r = release_laws (reserved_map n map) (reserved_owner (suc p) n map owner) files p (reserve_laws map owner files p n a l h).agrees in (
      o,
      same_map (released_map (suc p) (reserved_owner (suc p) n map owner) 0 (reserved_map n map)) map owner files
          (subst (λ (w : List ℕ). Agrees (released_map (suc p) (reserved_owner (suc p) n map owner) 0 (reserved_map n map)) w files) o r.agrees) a,
    )
