-- The theorems of files in blocks: what setting the fields leaves, that an accepted file is still accepted and reads as set, that an equation by
-- its steps has the equation's truth, and that each answer depends on the file's contents alone. Assumes nothing.
use mathlib.Core.Path.{◌≡◌, refl, ap, ◌∙◌}
use mathlib.Core.Bool.{Bool, true, false, cond}
use mathlib.Core.List.{List}
use Prim.Native.Nat.{ℕ, ◌+◌, ◌*◌, ◌≤◌, ◌<◌}
use native.Mathlib.Omega.{arith}
use lib.Dec.{eqb, leb}
use lib.ListN.{length, drop, replicate}
use borrow.Author.Tests.{eqb-true, eq-eqb, leb-true, le-leb}
use Rattle.blocks.specs.Owners.{blocks}
use Rattle.blocks.specs.Contents.{held, stored}
use Rattle.blocks.proofs.Answers.{disk_fits_law}
use Rattle.header.specs.Items.{fields_of}
use Rattle.header.specs.Header.{verdict, check_items}
use Rattle.header.specs.Fields.{fields_set}
use Rattle.header.proofs.Written.{Bytes}
use Rattle.header.proofs.Set.{Reads, verdict_parts, set_length, set_verdict, set_reads}
use Rattle.equation.specs.Marks.{settled_by}
use Rattle.equation.specs.Answer.{answer_of}
use Rattle.equation.specs.Parsed.{relations_by, outcome_by, steps_of}
use Rattle.std.proofs.Common.{Result, Err}
use Rattle.equation.proofs.Depth.{at_most_64}
use Rattle.equation.proofs.Runs.{answer_by_law}
use Rattle.stored.specs.Answers.{file_at, sizes_fit, check_at, header_at, truth_at, truth_by, set_number, set_disk}
use Rattle.stored.proofs.Feeding.{bytes_contents}
use Rattle.stored.proofs.Disks.{Changed, changed_none, stored_changed, file_length}

-- ---- what the answer 0 says

pub record Sets (disk owner : List ℕ) (place received : ℕ) : Type 0 where
  pub sizes : sizes_fit disk owner place ≡ true
  pub room : received ≤ 256 * blocks (place + 1) owner
  pub items : check_items (file_at disk owner place received) ≡ 0

pub sets_of : (disk owner : List ℕ) (place received : ℕ) → set_number disk owner place received ≡ 0 → Sets disk owner place received
unfolding set_number
sets_of disk owner place received e =
    go (sizes_fit disk owner place) refl (leb received (256 * blocks (place + 1) owner)) refl e
  where
    go : (t : Bool) → sizes_fit disk owner place ≡ t → (u : Bool) → leb received (256 * blocks (place + 1) owner) ≡ u
        → cond t (cond u (check_items (file_at disk owner place received)) 35) 33 ≡ 0 → Sets disk owner place received
    go true p true q e = record { sizes = p; room = leb-true received (256 * blocks (place + 1) owner) q; items = e }
    go true p false q e = absurd (omega arith)
    go false p u q e = absurd (omega arith)

pub sets_number : (disk owner : List ℕ) (place received : ℕ) → Sets disk owner place received → set_number disk owner place received ≡ 0
unfolding set_number
sets_number disk owner place received s = rw (s.sizes, le-leb received (256 * blocks (place + 1) owner) s.room) s.items

-- ---- what setting the fields leaves

module _ (disk owner : List ℕ) (place received number time : ℕ) where
  done_disk : set_number disk owner place received ≡ 0
      → set_disk disk owner place received number time
      ≡ stored (place + 1) owner disk 0 (fields_set number time (file_at disk owner place received))
  unfolding set_disk
  done_disk e = rw (eq-eqb (set_number disk owner place received) 0 e)

  done_changed : set_number disk owner place received ≡ 0
      → Changed disk owner (set_disk disk owner place received number time) (place + 1) received (fields_set number time (file_at disk owner place received))
  done_changed e =
      let s = sets_of disk owner place received e in
      let b = (disk_fits_law (length disk) (length owner) place s.sizes).bytes in
      rw (done_disk e)
      (stored_changed disk owner (place + 1) received (fields_set number time (file_at disk owner place received)) b
      (set_length number time (file_at disk owner place received) ∙ file_length disk owner place received s.sizes b s.room disk refl) s.room)

  -- THE LAW of setting: the file's contents have the fields set
  pub set_contents : set_number disk owner place received ≡ 0
      → file_at (set_disk disk owner place received number time) owner place received ≡ fields_set number time (file_at disk owner place received)
  set_contents e = (done_changed e).own

  -- what every other place holds, what the free blocks hold and what is past the last block stays, whatever the answer, and so does the size
  pub record Kept (disk' : List ℕ) : Type 0 where
    pub size : length disk' ≡ length disk
    pub others : (u : ℕ) → (u ≡ place + 1 → ⊥) → held u owner disk' ≡ held u owner disk
    pub past : drop (256 * length owner) disk' ≡ drop (256 * length owner) disk
    pub tail : drop received (held (place + 1) owner disk') ≡ drop received (held (place + 1) owner disk)

  pub set_kept : Kept (set_disk disk owner place received number time)
  set_kept = go (eqb (set_number disk owner place received) 0) refl
    where
      of : (d file : List ℕ) → Changed disk owner d (place + 1) received file → Kept d
      of d file c = record { size = c.size; others = c.others; past = c.past; tail = c.tail }

      none : eqb (set_number disk owner place received) 0 ≡ false → set_disk disk owner place received number time ≡ disk
      none e = unfold set_disk in rw e

      go : (t : Bool) → eqb (set_number disk owner place received) 0 ≡ t → Kept (set_disk disk owner place received number time)
      go true e = of _ _ (done_changed (eqb-true (set_number disk owner place received) 0 e))
      go false e = rw (none e) (of disk _ (changed_none disk owner (place + 1) received))

-- ---- an accepted file

fits_of : (disk owner : List ℕ) (place received announced : ℕ) → check_at disk owner place received announced ≡ 0
    → (sizes_fit disk owner place ≡ true) × (verdict (file_at disk owner place received) announced ≡ 0)
unfolding check_at
fits_of disk owner place received announced e = go (sizes_fit disk owner place) refl e
  where
    go : (t : Bool) → sizes_fit disk owner place ≡ t → cond t (verdict (file_at disk owner place received) announced) 33 ≡ 0
        → (sizes_fit disk owner place ≡ true) × (verdict (file_at disk owner place received) announced ≡ 0)
    go true p e = (p, e)
    go false p e = absurd (omega arith)

fits_check : (disk owner : List ℕ) (place received announced : ℕ) → sizes_fit disk owner place ≡ true
    → verdict (file_at disk owner place received) announced ≡ 0 → check_at disk owner place received announced ≡ 0
unfolding check_at
fits_check disk owner place received announced s v = rw s v

-- its fields are set, it is accepted afterwards, and the fields read as set
pub record Accepted (disk owner : List ℕ) (place received announced number time : ℕ) : Type 0 where
  pub done : set_number disk owner place received ≡ 0
  pub still : check_at (set_disk disk owner place received number time) owner place received announced ≡ 0
  pub reads : Reads number time (file_at (set_disk disk owner place received number time) owner place received)

pub accepted : (disk owner : List ℕ) (place received announced number time : ℕ) → Bytes disk → received ≤ 256 * blocks (place + 1) owner
    → check_at disk owner place received announced ≡ 0 → number < 4294967296 → time < 4294967296
    → Accepted disk owner place received announced number time
accepted disk owner place received announced number time b room e n t =
    let f = fits_of disk owner place received announced e in
    let p = verdict_parts (file_at disk owner place received) announced f.1 in
    let z = sets_number disk owner place received (record { sizes = f.0; room = room; items = p.1 }) in
    let c = set_contents disk owner place received number time z in
    let v = bytes_contents (place + 1) owner disk received b in
    let k = set_kept disk owner place received number time in
    let s : sizes_fit (set_disk disk owner place received number time) owner place ≡ true = rw k.size f.0 in
    record {
      done = z;
      still = fits_check (set_disk disk owner place received number time) owner place received announced s (ap (λ (x : List ℕ). verdict x announced) c ∙ set_verdict number time (file_at disk owner place received) announced v f.1);
      reads = rw c (set_reads number time (file_at disk owner place received) v p.1 n t);
    }

-- ---- an equation by its steps

-- THE LAW of parsing once: by the steps of an equation its truth is the equation's
pub truth_by_law : (eq disk owner : List ℕ) (place received : ℕ) → truth_by eq (steps_of eq) disk owner place received ≡ truth_at eq disk owner place received
unfolding truth_by truth_at
truth_by_law eq disk owner place received = go (leb (length eq) 256) refl
  where
    go : (t : Bool) → leb (length eq) 256 ≡ t
        → cond t (cond (sizes_fit disk owner place) (outcome_by (steps_of eq) (settled_by (fields_of (file_at disk owner place received)) (relations_by eq (steps_of eq)) (replicate 64 0))) (Err 33)) (Err 33)
        ≡ cond t (cond (sizes_fit disk owner place) (answer_of eq (file_at disk owner place received)) (Err 33)) (Err 33)
    go true e =
        let h = leb-true (length eq) 256 e in
        ap (λ (a : Result Bool ℕ). cond (sizes_fit disk owner place) a (Err 33)) (answer_by_law eq (omega arith) (fields_of (file_at disk owner place received)) 64 (at_most_64 eq h))
    go false e = refl

-- ---- the answers depend on the contents alone

module _ (disk owner : List ℕ) (place received : ℕ) (disk' owner' : List ℕ) (place' received' : ℕ)
    (p : sizes_fit disk owner place ≡ true) (q : sizes_fit disk' owner' place' ≡ true)
    (same : file_at disk owner place received ≡ file_at disk' owner' place' received') where
  pub check_same : (announced : ℕ) → check_at disk owner place received announced ≡ check_at disk' owner' place' received' announced
  unfolding check_at
  check_same announced = rw (p, q, same)

  pub header_same : (want : ℕ) → header_at disk owner place received want ≡ header_at disk' owner' place' received' want
  unfolding header_at
  header_same want = rw (p, q, same)

  pub truth_same : (eq : List ℕ) → truth_at eq disk owner place received ≡ truth_at eq disk' owner' place' received'
  unfolding truth_at
  truth_same eq = rw (p, q, same)
