-- The entries of a directory's files, one by one. Assumes nothing.
use mathlib.Core.Path.{◌≡◌, refl}
use mathlib.Core.Bool.{Bool, true, false, ◌&&◌}
use mathlib.Core.List.{List, []}
use Prim.Native.Nat.{ℕ, ◌*◌, ◌≤◌}
use lib.Dec.{leb}
use lib.ListN.{length, get_or, length-map, get_or-map}
use lib.Seq.{take-nil, drop-nil}
use borrow.Author.Tests.{le-ltb}
use Rattle.session.specs.declared.state.Listed.{Listed}
use Rattle.table.specs.declared.File.{File}
use Rattle.std.proofs.Common.{None}
use Rattle.stored.specs.Answers.{sizes_fit}
use Rattle.entries.specs.Entry.{entry_at, reads, read_of}
use Rattle.directory.specs.Directory.{found_in}
use Rattle.listing.specs.Listing.{entry_in, entries_of}
use Rattle.listing.specs.Progress.{put_from}

-- nothing of an entry without bytes is put anywhere
pub put_nothing : (skip : ℕ) (out : List ℕ) → reads 0 out ≡ put_from [] skip out
put_nothing skip out = rw (drop-nil {A = ℕ} skip, take-nil {A = ℕ} (length out))

module _ (long : Bool) (disk owner : List ℕ) where
  -- no file has a place from 256 on
  pub entry_outside : (place received : ℕ) → 256 ≤ place → entry_at long disk owner place received ≡ []
  unfolding entry_at
  entry_outside place received h = rw none
    where
      and_false : (b : Bool) → b && false ≡ false
      and_false true = refl
      and_false false = refl

      none : sizes_fit disk owner place ≡ false
      none = rw (le-ltb place 256 h) (and_false (leb 1 (length owner) && leb (length owner) 4096 && leb (256 * length owner) (length disk)))

  pub read_is : (place received skip : ℕ) (out : List ℕ)
      → read_of long disk owner place received skip out ≡ put_from (entry_at long disk owner place received) skip out
  unfolding read_of
  read_is place received skip out = refl

  module _ (listed : Listed) (next : ℕ) (fs : List File) (selected : List ℕ) where
    pub entries_count : length (entries_of listed long next disk owner fs selected) ≡ length (found_in listed next fs selected)
    entries_count = length-map (found_in listed next fs selected) (entry_in long disk owner fs)

    pub entry_of : (k : ℕ)
        → get_or (entries_of listed long next disk owner fs selected) k []
        ≡ entry_in long disk owner fs (get_or (found_in listed next fs selected) k None)
    unfolding entry_in
    entry_of k = get_or-map (entry_in long disk owner fs) (found_in listed next fs selected) k None
