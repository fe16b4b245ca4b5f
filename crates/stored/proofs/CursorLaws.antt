-- Laws of a file that is read through a cursor: where the cursor stands, its bytes, the heads of its items. Assumes nothing.
use mathlib.Core.Path.{◌≡◌, refl, sym, ap, ap₂, ◌∙◌}
use mathlib.Core.Bool.{Bool, true, false, cond}
use mathlib.Core.List.{List, [], ◌∷◌}
use Prim.Native.Nat.{ℕ, suc, ◌+◌, ◌-◌, ◌*◌, ◌/◌, ◌%◌, ◌≤◌, ◌<◌}
use native.Mathlib.Omega.{arith}
use native.Mathlib.Numerals.{add-one}
use lib.Dec.{leb, eqb}
use lib.ListN.{length, get_or, take, drop, length-drop}
use lib.Seq.{length-take-le, get_or-take, get_or-drop, drop-drop}
use borrow.Author.Tests.{eq-eqb, ne_eqb}
use Rattle.numbers.specs.Numbers.{number}
use Rattle.blocks.specs.Owners.{blocks, nth, next_of}
use Rattle.blocks.specs.Contents.{held}
use Rattle.blocks.proofs.Owners.{nth_in, nth_next, nth_zero}
use Rattle.blocks.proofs.Held.{length_held, held_get}
use Rattle.header.specs.Items.{Field, head_of, walk, marked, fields_of}
use Rattle.header.specs.declared.items.Head.{Head}
use Rattle.header.specs.declared.items.Head.TheVariants.{Broken, End, Item}
use Rattle.header.proofs.Walk.{item_within, head_short, head_end, head_zero, head_over, head_item}
use Rattle.header.proofs.Written.{Bytes, bytes_all, bytes_drop}
use Rattle.equation.specs.Holds.{Relation}
use Rattle.equation.specs.Marks.{settled_by}
use Rattle.equation.proofs.Settled.{fields_short}
use Rattle.stored.proofs.Feeding.{cut, bytes_contents}
use Rattle.stored.specs.Answers.{file_at}
use Rattle.stored.specs.Cursor.{Lies, Stands}

-- ---- the cursor

-- the next block of the file
pub next_own : (owner : List ℕ) (place index block b : ℕ) → block ≡ nth (place + 1) owner index → b ≡ next_of (place + 1) owner (block + 1)
    → b ≡ nth (place + 1) owner (index + 1)
next_own owner place index block b e n =
    n ∙ ap (next_of (place + 1) owner) (add-one block) ∙ ap (λ (x : ℕ). next_of (place + 1) owner (suc x)) e
    ∙ sym (nth_next (place + 1) owner index) ∙ ap (nth (place + 1) owner) (sym (add-one index))

-- a cursor at the block of one byte stands for every later byte
pub stands_on : (owner : List ℕ) (place index block at to : ℕ) → index ≡ at / 256 → block ≡ nth (place + 1) owner (at / 256) → at ≤ to
    → Stands owner place index block to
stands_on owner place index block at to i b h = record { own = b ∙ ap (nth (place + 1) owner) (sym i); ahead = omega arith }

pub stands_later : (owner : List ℕ) (place index block at to : ℕ) → Stands owner place index block at → at ≤ to → Stands owner place index block to
stands_later owner place index block at to s h = record { own = s.own; ahead = omega (arith, s.ahead) }

pub first_stands : (owner : List ℕ) (place b : ℕ) → b ≡ next_of (place + 1) owner 0 → Stands owner place 0 b 0
first_stands owner place b e = record { own = e ∙ nth_zero (place + 1) owner; ahead = omega arith }

-- ---- the file's bytes

-- as many bytes as the place's blocks hold at most, and as many as are received and there
pub lies : (disk owner : List ℕ) (place count n : ℕ) → count ≡ blocks (place + 1) owner → length owner ≤ 4096 → 256 * length owner ≤ length disk
    → n ≤ 256 * count → Lies disk owner place n
lies disk owner place count n e few fits m = record { few = few; fits = fits; room = omega arith }

pub same_file : (disk owner : List ℕ) (place count received n : ℕ) → count ≡ blocks (place + 1) owner → 256 * length owner ≤ length disk
    → n ≤ received → n ≤ 256 * count → (n < 256 * count → n ≡ received) → file_at disk owner place n ≡ file_at disk owner place received
same_file disk owner place count received n e fits l m f = (cut (place + 1) owner disk received n fits l (omega arith) (λ h. f (omega arith))).same

module _ (disk owner : List ℕ) (place n : ℕ) (l : Lies disk owner place n) where
  pub file_length : length (file_at disk owner place n) ≡ n
  file_length = length-take-le n (held (place + 1) owner disk) (omega (arith, length_held (place + 1) owner disk l.fits, l.room))

  -- the block of a byte is on the disk
  pub block_there : (at b : ℕ) → at < n → b ≡ nth (place + 1) owner (at / 256) → 256 * b + 256 ≤ length disk
  block_there at b h e = let r = l.room in omega (arith, nth_in (place + 1) owner (at / 256) (omega arith), l.fits)

  pub byte_there : (at b : ℕ) → at < n → b ≡ nth (place + 1) owner (at / 256) → get_or disk (256 * b + at % 256) 0 ≡ get_or (file_at disk owner place n) at 0
  byte_there at b h e =
      ap (λ (x : ℕ). get_or disk (256 * x + at % 256) 0) e ∙ sym (held_get (place + 1) owner disk at l.fits (omega (arith, l.room)))
      ∙ sym (get_or-take n (held (place + 1) owner disk) at 0 h)

  pub window_length : (at size : ℕ) → at + size ≤ n → length (take size (drop at (file_at disk owner place n))) ≡ size
  window_length at size h =
      let k = file_length in length-take-le size (drop at (file_at disk owner place n)) (rw length-drop (omega arith))

-- byte i of a window of a file
pub window_get : (file : List ℕ) (at size i : ℕ) → i < size → get_or (take size (drop at file)) i 0 ≡ get_or file (at + i) 0
window_get file at size i l = get_or-take size (drop at file) i 0 l ∙ get_or-drop at file i 0

-- the length of a part from a list's start
pub part_length : (l : List ℕ) (k : ℕ) → k ≤ length l → length (take (k - 0) (drop 0 l)) ≡ k
part_length l k h = let e : k - 0 ≡ k = omega arith in rw e (length-take-le k l h)

-- ---- heads

pub file_short : (file : List ℕ) (n at : ℕ) → length file ≡ n → n < at + 3 → Broken ≡ head_of (drop at file)
file_short file n at l h = head_short file at (omega arith)

-- the head at a place by its three bytes
module _ (file : List ℕ) (n at a b m id : ℕ) (l : length file ≡ n) (h : at + 3 ≤ n)
    (p : a ≡ get_or file at 0) (q : b ≡ get_or file (at + 1) 0) (r : m ≡ get_or file (at + 2) 0) (e : id ≡ number (a ∷ b ∷ [])) where
  there : at + 3 ≤ length file
  there = omega arith

  left : length file - 3 - at ≡ n - 3 - at
  left = ap (λ (k : ℕ). k - 3 - at) l

  named : id ≡ number (get_or file at 0 ∷ get_or file (at + 1) 0 ∷ [])
  named = e ∙ ap₂ (λ (x y : ℕ). number (x ∷ y ∷ [])) p q

  pub file_end : id ≡ 0 → m ≡ 0 → End ≡ head_of (drop at file)
  file_end z w = head_end file at id there named z (sym r ∙ w)

  pub file_zero : id ≡ 0 → (m ≡ 0 → ⊥) → Broken ≡ head_of (drop at file)
  file_zero z w = head_zero file at id there named z (λ x. w (r ∙ x))

  pub file_over : (id ≡ 0 → ⊥) → n - 3 - at < m → Broken ≡ head_of (drop at file)
  file_over z w = head_over file at id there named z (omega (arith, left, r))

  pub file_item : (id ≡ 0 → ⊥) → m ≤ n - 3 - at → Item id m ≡ head_of (drop at file)
  file_item z w = ap (Item id) r ∙ head_item file at id there named z (omega (arith, left, r))

-- ---- items

-- an item's length is one byte
small : (bs : List ℕ) (i m : ℕ) → Bytes bs → head_of bs ≡ Item i m → m < 256
unfolding head_of
small [] i m v e = let z : ◌≡◌ {A = ℕ} 0 1 = cc in omega arith
small (a ∷ []) i m v e = let z : ◌≡◌ {A = ℕ} 0 1 = cc in omega arith
small (a ∷ b ∷ []) i m v e = let z : ◌≡◌ {A = ℕ} 0 1 = cc in omega arith
small (a ∷ b ∷ k ∷ bs) i m v e = go (eqb (a + 256 * b) 0) (eqb k 0) (leb k (length bs)) v.1.1.0 e
  where
    go : (x y z : Bool) → k < 256 → cond x (cond y End Broken) (cond z (Item (a + 256 * b) k) Broken) ≡ Item i m → m < 256
    go true true z l e = let w : ◌≡◌ {A = ℕ} 0 1 = cc in omega arith
    go true false z l e = let w : ◌≡◌ {A = ℕ} 0 1 = cc in omega arith
    go false y true l e = let same : k ≡ m = cc in omega arith
    go false y false l e = let w : ◌≡◌ {A = ℕ} 0 1 = cc in omega arith

-- the item met at byte `at`, counted from the first item: it lies inside the file, and its length is below 256
pub record Met (file : List ℕ) (n at i m : ℕ) : Type 0 where
  pub head : head_of (drop at (drop 2 file)) ≡ Item i m
  pub inside : at + 3 + m ≤ length (drop 2 file)
  pub room : 2 + at + 3 + m ≤ n
  pub little : m < 256

-- a place among the items, counted from the first item and from the file's first byte
pub item_head : (xs : List ℕ) (at : ℕ) (h r : Head) → r ≡ head_of (drop (2 + at) xs) → r ≡ h → head_of (drop at (drop 2 xs)) ≡ h
item_head xs at h r e q = ap head_of (drop-drop at 2 xs) ∙ sym e ∙ q

pub item_met : (file : List ℕ) (n at i m : ℕ) (r : Head) → length file ≡ n → Bytes file → r ≡ head_of (drop (2 + at) file) → r ≡ Item i m → Met file n at i m
item_met file n at i m r l f e q =
    let h = item_head file at (Item i m) r e q in
    let w = item_within (drop 2 file) at i m h in
    record {
      head = h;
      inside = w;
      room = omega (arith, length-drop 2 file);
      little = small (drop at (drop 2 file)) i m (bytes_drop at (drop 2 file) (bytes_drop 2 file f)) h;
    }

-- the bytes of a file are bytes
pub file_bytes : (disk owner : List ℕ) (place n : ℕ) → ((k : ℕ) → get_or disk k 0 < 256) → Bytes (file_at disk owner place n)
file_bytes disk owner place n f = bytes_contents (place + 1) owner disk n (bytes_all disk f)

pub item_bytes_law : (xs : List ℕ) (at m : ℕ) → take m (drop (2 + at + 3) xs) ≡ take (at + 3 + m - (at + 3)) (drop (at + 3) (drop 2 xs))
item_bytes_law xs at m =
    let d : at + 3 + m - (at + 3) ≡ m = omega arith in
    let q : 2 + at + 3 ≡ 2 + (at + 3) = omega arith in
    rw d (ap (take m) (ap (λ (k : ℕ). drop k xs) q ∙ sym (drop-drop (at + 3) 2 xs)))

-- ---- the mark

marked_fields : (file : List ℕ) → 2 ≤ length file → get_or file 0 0 ≡ 170 → get_or file 1 0 ≡ 85 → fields_of file ≡ (walk 0 (drop 2 file)).items
unfolding fields_of marked
marked_fields [] h e f = absurd (omega arith)
marked_fields (a ∷ []) h e f = absurd (omega arith)
marked_fields (a ∷ b ∷ bs) h e f = rw (eq-eqb a 170 e, eq-eqb b 85 f)

unmarked_first : (file : List ℕ) → (get_or file 0 0 ≡ 170 → ⊥) → fields_of file ≡ []
unfolding fields_of marked
unmarked_first [] e = refl
unmarked_first (a ∷ []) e = refl
unmarked_first (a ∷ b ∷ bs) e = rw (ne_eqb a 170 e)

unmarked_second : (file : List ℕ) → get_or file 0 0 ≡ 170 → (get_or file 1 0 ≡ 85 → ⊥) → fields_of file ≡ []
unfolding fields_of marked
unmarked_second [] e f = refl
unmarked_second (a ∷ []) e f = refl
unmarked_second (a ∷ b ∷ bs) e f = rw (eq-eqb a 170 e, ne_eqb b 85 f)

-- the marks of an equation's relations after the items of a file, by the file's first two bytes
module _ (file : List ℕ) (n : ℕ) (l : length file ≡ n) (rs : List Relation) (ms : List ℕ) where
  none_met : fields_of file ≡ [] → ms ≡ settled_by (fields_of file) rs ms
  unfolding settled_by
  none_met e = rw e

  pub met_short : n < 2 → ms ≡ settled_by (fields_of file) rs ms
  met_short h = none_met (fields_short file (omega arith))

  module _ (h : 2 ≤ n) (a : ℕ) (p : a ≡ get_or file 0 0) where
    pub met_first : (a ≡ 170 → ⊥) → ms ≡ settled_by (fields_of file) rs ms
    met_first e = none_met (unmarked_first file (λ z. e (p ∙ z)))

    module _ (e : a ≡ 170) (b : ℕ) (q : b ≡ get_or file 1 0) where
      pub met_second : (b ≡ 85 → ⊥) → ms ≡ settled_by (fields_of file) rs ms
      met_second f = none_met (unmarked_second file (sym p ∙ e) (λ z. f (q ∙ z)))

      pub met_items : b ≡ 85 → (ms' : List ℕ) → ms' ≡ settled_by (walk 0 (drop 2 file)).items rs ms → ms' ≡ settled_by (fields_of file) rs ms
      met_items f ms' g = g ∙ ap (λ (xs : List Field). settled_by xs rs ms) (sym (marked_fields file (omega arith) (sym p ∙ e) (sym q ∙ f)))
