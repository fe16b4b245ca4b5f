-- What each call leaves, by its answer: the laws that a caller cites after a call.
use mathlib.Core.Path.{◌≡◌, ap, ◌∙◌}
use Prim.Native.Nat.{ℕ, ◌+◌, ◌*◌, ◌<◌, ◌≤◌}
use native.Mathlib.Numerals.{add-one}
use native.Mathlib.Omega.{arith}
use mathlib.Core.List.{List}
use mathlib.Core.Bool.{cond}
use lib.ListN.{length, take, drop, replicate, length-drop}
use lib.Dec.{leb}
use lib.Seq.{sets, length-take-le, take_all}
use Rattle.blocks.specs.FreeMap.{free_count, reserved_map}
use Rattle.blocks.specs.Owners.{blocks, reserved_owner, released_owner, released_map, map_of}
use Rattle.blocks.specs.Contents.{held, stored}
use Rattle.blocks.specs.Check.{Agrees}
use Rattle.blocks.specs.Answers.{make_number, make_owner, make_map, reserve_number, reserve_map, reserve_owner, release_number, release_map, release_owner, window_number, write_disk, read_out}
use Rattle.blocks.proofs.Answers.{done, refused, make_done, reserve_done, window_done, StoreFits, DiskFits, fits_store, fits_disk}
use Rattle.blocks.proofs.Agreement.{made_agrees}
use Rattle.blocks.proofs.Held.{length_held, length_stored, held_stored, held_unstored, past_stored}
use Rattle.blocks.proofs.Reserving.{Reserves, Releases, reserve_laws, release_laws}

-- ---- which answer is given where the store is sound

-- a store of 1 to 4,096 blocks whose map and owners agree has the sizes of the table
pub sound_fits : (map owner : List ℕ) (files place : ℕ) → Agrees map owner files → 1 ≤ length owner → length owner ≤ 4096 → place < 256
    → StoreFits (length map) (length owner) place
sound_fits map owner files place a h k l =
    let w = a.words in
    record { some = h; words_most = omega arith; bits = omega arith; place_most = l }

-- so a reservation is refused only by 13, where fewer than n blocks are free, and a release never
pub reserve_answer : (map : List ℕ) (size place n : ℕ) → StoreFits (length map) size place → reserve_number map size place n ≡ cond (leb n (free_count map)) 0 13
reserve_answer map size place n f = rw (fits_store (length map) size place f)

pub release_answer : (words n place : ℕ) → StoreFits words n place → release_number words n place ≡ 0
release_answer words n place f = rw (fits_store words n place f)

-- and a window is refused only by 35, where it does not lie in the place's blocks
pub window_answer : (size : ℕ) (owner : List ℕ) (place at n : ℕ) → DiskFits size (length owner) place
    → window_number size owner place at n ≡ cond (leb (at + n) (256 * blocks (place + 1) owner)) 0 35
window_answer size owner place at n f = rw (fits_disk size (length owner) place f)

-- the number free, of a map within the table
pub free_whole : (map : List ℕ) → length map ≤ 64 → free_count (take 64 map) ≡ free_count map
free_whole map h = ap free_count (take_all 64 map h)

-- ---- make

pub make_leaves : (map owner : List ℕ) (files : ℕ) → make_number (length map) (length owner) ≡ 0
    → Agrees (make_map map owner) (make_owner map owner) files × (make_owner map owner ≡ replicate (length owner) 0)
unfolding make_map make_owner
make_leaves map owner files z =
    let n = make_number (length map) (length owner) in
    let o = done n (replicate (length owner) 0) owner z in
    let m = done n (map_of (length map) (replicate (length owner) 0)) map z ∙ ap (λ (k : ℕ). map_of k (replicate (length owner) 0)) (make_done (length map) (length owner) z).exact in
    (rw (o, m) (made_agrees (length owner) files), o)

pub make_refused : (map owner : List ℕ) → (make_number (length map) (length owner) ≡ 0 → ⊥) → (make_map map owner ≡ map) × (make_owner map owner ≡ owner)
unfolding make_map make_owner
make_refused map owner z =
    let n = make_number (length map) (length owner) in
    (refused n (map_of (length map) (replicate (length owner) 0)) map z, refused n (replicate (length owner) 0) owner z)

-- ---- reserve

pub reserve_leaves : (map owner : List ℕ) (files place n : ℕ) → Agrees map owner files → place < files → reserve_number map (length owner) place n ≡ 0
    → Reserves map owner (reserve_map map owner place n) (reserve_owner map owner place n) files (place + 1) n
unfolding reserve_map reserve_owner
reserve_leaves map owner files place n a l z =
    let k = reserve_number map (length owner) place n in
    let r = reserve_laws map owner files place n a l (reserve_done map (length owner) place n z).room in
    rw (done k (reserved_map n map) map z, done k (reserved_owner (place + 1) n map owner) owner z) (rw add-one r)

pub reserve_refused : (map owner : List ℕ) (place n : ℕ) → (reserve_number map (length owner) place n ≡ 0 → ⊥)
    → (reserve_map map owner place n ≡ map) × (reserve_owner map owner place n ≡ owner)
unfolding reserve_map reserve_owner
reserve_refused map owner place n z =
    let k = reserve_number map (length owner) place n in
    (refused k (reserved_map n map) map z, refused k (reserved_owner (place + 1) n map owner) owner z)

-- ---- release

pub release_leaves : (map owner : List ℕ) (files place : ℕ) → Agrees map owner files → release_number (length map) (length owner) place ≡ 0
    → Releases map owner (release_map map owner place) (release_owner map owner place) files (place + 1)
unfolding release_map release_owner
release_leaves map owner files place a z =
    let k = release_number (length map) (length owner) place in
    rw (done k (released_map (place + 1) owner 0 map) map z, done k (released_owner (place + 1) owner) owner z) (rw add-one (release_laws map owner files place a))

pub release_refused : (map owner : List ℕ) (place : ℕ) → (release_number (length map) (length owner) place ≡ 0 → ⊥)
    → (release_map map owner place ≡ map) × (release_owner map owner place ≡ owner)
unfolding release_map release_owner
release_refused map owner place z =
    let k = release_number (length map) (length owner) place in
    (refused k (released_map (place + 1) owner 0 map) map z, refused k (released_owner (place + 1) owner) owner z)

-- ---- write

-- What writing xs from byte `at` of owner v on leaves: what v holds has xs there and is else as before; what any other owner holds, what
-- the free blocks hold and the disk past the last block are as before.
pub record Writes (disk owner disk' : List ℕ) (v at : ℕ) (xs : List ℕ) : Type 0 where
  pub size : length disk' ≡ length disk
  pub own : held v owner disk' ≡ sets (held v owner disk) at xs
  pub others : (u : ℕ) → (u ≡ v → ⊥) → held u owner disk' ≡ held u owner disk
  pub past : drop (256 * length owner) disk' ≡ drop (256 * length owner) disk

pub write_leaves : (disk owner : List ℕ) (place at : ℕ) (xs : List ℕ) → window_number (length disk) owner place at (length xs) ≡ 0
    → Writes disk owner (write_disk disk owner place at xs) (place + 1) at xs
unfolding write_disk
write_leaves disk owner place at xs z =
    let w = window_done (length disk) owner place at (length xs) z in
    rw (done (window_number (length disk) owner place at (length xs)) (stored (place + 1) owner disk at xs) disk z) (record {
      size = length_stored (place + 1) owner disk at xs;
      own = held_stored (place + 1) owner disk at xs w.sizes.bytes w.room;
      others = λ u n. held_unstored u (place + 1) owner disk at xs n w.room;
      past = past_stored (place + 1) owner disk at xs w.room;
    })

pub write_refused : (disk owner : List ℕ) (place at : ℕ) (xs : List ℕ) → (window_number (length disk) owner place at (length xs) ≡ 0 → ⊥)
    → write_disk disk owner place at xs ≡ disk
unfolding write_disk
write_refused disk owner place at xs z = refused (window_number (length disk) owner place at (length xs)) (stored (place + 1) owner disk at xs) disk z

-- ---- read

pub read_gives : (disk owner : List ℕ) (place at : ℕ) (out : List ℕ) → window_number (length disk) owner place at (length out) ≡ 0
    → (read_out disk owner place at out ≡ take (length out) (drop at (held (place + 1) owner disk))) × (length (read_out disk owner place at out) ≡ length out)
unfolding read_out
read_gives disk owner place at out z =
    let w = window_done (length disk) owner place at (length out) z in
    let e = done (window_number (length disk) owner place at (length out)) (take (length out) (drop at (held (place + 1) owner disk))) out z in
    let h = length_held (place + 1) owner disk w.sizes.bytes in
    let r = w.room in
    (e, ap length e ∙ length-take-le (length out) (drop at (held (place + 1) owner disk)) (rw length-drop (omega arith)))

pub read_refused : (disk owner : List ℕ) (place at : ℕ) (out : List ℕ) → (window_number (length disk) owner place at (length out) ≡ 0 → ⊥)
    → read_out disk owner place at out ≡ out
unfolding read_out
read_refused disk owner place at out z =
    refused (window_number (length disk) owner place at (length out)) (take (length out) (drop at (held (place + 1) owner disk))) out z
