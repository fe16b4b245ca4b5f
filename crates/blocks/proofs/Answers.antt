-- What a call that is not refused has found, and what each answer leaves.
use mathlib.Core.Path.{◌≡◌, refl}
use mathlib.Core.Bool.{Bool, true, false, cond, ◌&&◌}
use Prim.Native.Nat.{ℕ, ◌+◌, ◌*◌, ◌≤◌, ◌<◌}
use native.Mathlib.Omega.{arith}
use mathlib.Core.List.{List}
use lib.ListN.{length}
use lib.Dec.{leb, ltb, eqb}
use borrow.Author.Tests.{leb-true, ltb-true, eqb-true, eq-eqb, ne_eqb, le-leb, lt-ltb}
use Rattle.blocks.specs.FreeMap.{free_count}
use Rattle.blocks.specs.Owners.{blocks}
use Rattle.blocks.specs.Check.{words_for}
use Rattle.blocks.specs.Answers.{make_number, store_fits, reserve_number, release_number, disk_fits, window_number}
use Rattle.blocks.proofs.Agreement.{both}

-- ---- the sizes

pub record StoreFits (words n place : ℕ) : Type 0 where
  pub some : 1 ≤ n
  pub words_most : words ≤ 64
  pub bits : n ≤ 64 * words
  pub place_most : place < 256

pub store_fits_law : (words n place : ℕ) → store_fits words n place ≡ true → StoreFits words n place
store_fits_law words n place e =
    let p = both (leb 1 n && leb words 64 && leb n (64 * words)) (ltb place 256) e in
    let q = both (leb 1 n && leb words 64) (leb n (64 * words)) p.0 in
    let r = both (leb 1 n) (leb words 64) q.0 in
    record { some = leb-true _ _ r.0; words_most = leb-true _ _ r.1; bits = leb-true _ _ q.1; place_most = ltb-true _ _ p.1 }

pub record DiskFits (size n place : ℕ) : Type 0 where
  pub some : 1 ≤ n
  pub most : n ≤ 4096
  pub bytes : 256 * n ≤ size
  pub place_most : place < 256

pub disk_fits_law : (size n place : ℕ) → disk_fits size n place ≡ true → DiskFits size n place
disk_fits_law size n place e =
    let p = both (leb 1 n && leb n 4096 && leb (256 * n) size) (ltb place 256) e in
    let q = both (leb 1 n && leb n 4096) (leb (256 * n) size) p.0 in
    let r = both (leb 1 n) (leb n 4096) q.0 in
    record { some = leb-true _ _ r.0; most = leb-true _ _ r.1; bytes = leb-true _ _ q.1; place_most = ltb-true _ _ p.1 }

-- sizes that fit pass the tests
pub fits_store : (words n place : ℕ) → StoreFits words n place → store_fits words n place ≡ true
fits_store words n place f = rw (le-leb 1 n f.some, le-leb words 64 f.words_most, le-leb n (64 * words) f.bits, lt-ltb place 256 f.place_most)

pub fits_disk : (size n place : ℕ) → DiskFits size n place → disk_fits size n place ≡ true
fits_disk size n place f = rw (le-leb 1 n f.some, le-leb n 4096 f.most, le-leb (256 * n) size f.bytes, lt-ltb place 256 f.place_most)

-- ---- what the answer 0 says

pub record MakeDone (words n : ℕ) : Type 0 where
  pub some : 1 ≤ n
  pub most : n ≤ 4096
  pub exact : words ≡ words_for n

pub make_done : (words n : ℕ) → make_number words n ≡ 0 → MakeDone words n
make_done words n e = go (leb 1 n && leb n 4096 && eqb words (words_for n)) refl e
  where
    go : (t : Bool) → (leb 1 n && leb n 4096 && eqb words (words_for n)) ≡ t → ◌≡◌ {A = ℕ} (cond t 0 33) 0 → MakeDone words n
    go true q e =
        let p = both (leb 1 n && leb n 4096) (eqb words (words_for n)) q in
        let r = both (leb 1 n) (leb n 4096) p.0 in
        record { some = leb-true _ _ r.0; most = leb-true _ _ r.1; exact = eqb-true _ _ p.1 }
    go false q e = absurd (omega arith)

pub record ReserveDone (map : List ℕ) (size place n : ℕ) : Type 0 where
  pub sizes : StoreFits (length map) size place
  pub room : n ≤ free_count map

pub reserve_done : (map : List ℕ) (size place n : ℕ) → reserve_number map size place n ≡ 0 → ReserveDone map size place n
reserve_done map size place n e = go (store_fits (length map) size place) refl (leb n (free_count map)) refl e
  where
    go : (t : Bool) → store_fits (length map) size place ≡ t → (u : Bool) → leb n (free_count map) ≡ u → ◌≡◌ {A = ℕ} (cond t (cond u 0 13) 33) 0 → ReserveDone map size place n
    go true q true r e = record { sizes = store_fits_law (length map) size place q; room = leb-true _ _ r }
    go true q false r e = absurd (omega arith)
    go false q u r e = absurd (omega arith)

pub release_done : (words n place : ℕ) → release_number words n place ≡ 0 → StoreFits words n place
release_done words n place e = go (store_fits words n place) refl e
  where
    go : (t : Bool) → store_fits words n place ≡ t → ◌≡◌ {A = ℕ} (cond t 0 33) 0 → StoreFits words n place
    go true q e = store_fits_law words n place q
    go false q e = absurd (omega arith)

pub record WindowDone (size : ℕ) (owner : List ℕ) (place at n : ℕ) : Type 0 where
  pub sizes : DiskFits size (length owner) place
  pub room : at + n ≤ 256 * blocks (place + 1) owner

pub window_done : (size : ℕ) (owner : List ℕ) (place at n : ℕ) → window_number size owner place at n ≡ 0 → WindowDone size owner place at n
window_done size owner place at n e = go (disk_fits size (length owner) place) refl (leb (at + n) (256 * blocks (place + 1) owner)) refl e
  where
    go : (t : Bool) → disk_fits size (length owner) place ≡ t → (u : Bool) → leb (at + n) (256 * blocks (place + 1) owner) ≡ u
        → ◌≡◌ {A = ℕ} (cond t (cond u 0 35) 33) 0 → WindowDone size owner place at n
    go true q true r e = record { sizes = disk_fits_law size (length owner) place q; room = leb-true _ _ r }
    go true q false r e = absurd (omega arith)
    go false q u r e = absurd (omega arith)

-- ---- what an answer leaves: by the number, the new contents or the old

pub done : (k : ℕ) (new old : List ℕ) → k ≡ 0 → cond (eqb k 0) new old ≡ new
done k new old e = rw (eq-eqb k 0 e)

pub refused : (k : ℕ) (new old : List ℕ) → (k ≡ 0 → ⊥) → cond (eqb k 0) new old ≡ old
refused k new old n = rw (ne_eqb k 0 n)
