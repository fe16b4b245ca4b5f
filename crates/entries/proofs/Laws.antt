-- The theorems of entries in blocks: how long an entry can be, what a read leaves of the length that is lent, and that an entry depends on the file's
-- contents alone. Assumes nothing.
use mathlib.Core.Path.{◌≡◌, refl}
use mathlib.Core.Bool.{Bool, true, false, cond}
use mathlib.Core.List.{List, []}
use Prim.Native.Nat.{ℕ, ◌+◌, ◌≤◌}
use native.Mathlib.Omega.{arith}
use lib.ListN.{length, drop, length-append, length-take, length-drop}
use Rattle.blocks.specs.Contents.{held}
use Rattle.blocks.proofs.Answers.{disk_fits_law}
use Rattle.blocks.proofs.Owners.{blocks_le}
use Rattle.blocks.proofs.Held.{length_held}
use Rattle.header.specs.Entries.{entry_of}
use Rattle.header.proofs.EntryLaws.{entry_within}
use Rattle.stored.specs.Answers.{file_at, sizes_fit}
use Rattle.entries.specs.Entry.{entry_at, put_front, read_of}

module _ (long : Bool) (disk owner : List ℕ) (place received : ℕ) where
  -- an entry is not longer than what is received, nor than all blocks together
  pub record Short : Type 0 where
    pub within : length (entry_at long disk owner place received) ≤ received
    pub most : length (entry_at long disk owner place received) ≤ 1048576

  pub entry_short : Short
  entry_short = go (sizes_fit disk owner place) refl
    where
      entry : (t : Bool) → sizes_fit disk owner place ≡ t → entry_at long disk owner place received ≡ cond t (entry_of long (file_at disk owner place received)) []
      entry t f = unfold entry_at in rw f

      go : (t : Bool) → sizes_fit disk owner place ≡ t → Short
      go true f =
          let s = disk_fits_law (length disk) (length owner) place f in
          let m = s.most in
          let w = entry_within long (file_at disk owner place received) in
          let t = length-take received (held (place + 1) owner disk) in
          let h = length_held (place + 1) owner disk s.bytes in
          let b = blocks_le (place + 1) owner in
          record { within = rw (entry true f) (omega arith); most = rw (entry true f) (omega arith) }
      go false f = record { within = rw (entry false f) (omega arith); most = rw (entry false f) (omega arith) }

  -- the same contents have the same entry
  pub entry_same : (disk' owner' : List ℕ) (place' received' : ℕ)
      → sizes_fit disk owner place ≡ true
      → sizes_fit disk' owner' place' ≡ true
      → file_at disk owner place received ≡ file_at disk' owner' place' received'
      → entry_at long disk owner place received ≡ entry_at long disk' owner' place' received'
  unfolding entry_at
  entry_same disk' owner' place' received' p q e = rw (p, q, e)

-- what is lent keeps its length
pub put_length : (bytes out : List ℕ) → length (put_front bytes out) ≡ length out
put_length bytes out = rw (length-append, length-take, length-drop) (omega arith)

pub read_length : (long : Bool) (disk owner : List ℕ) (place received skip : ℕ) (out : List ℕ)
    → length (read_of long disk owner place received skip out).out ≡ length out
unfolding read_of
read_length long disk owner place received skip out = put_length (drop skip (entry_at long disk owner place received)) out
