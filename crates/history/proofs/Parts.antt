-- Parts of a lent slice: what is put back in the place of its front is the front afterwards, and the slice has its length.
use mathlib.Core.Path.{◌≡◌, ◌∙◌}
use mathlib.Core.List.{List, ◌++◌}
use Prim.Native.Nat.{ℕ, ◌+◌, ◌≤◌}
use native.Mathlib.Omega.{arith}
use lib.ListN.{length, take, drop, length-append, length-drop}
use lib.Seq.{length-take-le, take_at}
use Rattle.server.specs.State.{part}

-- ---- a part at the front

module _ (n : ℕ) (p l : List ℕ) (within : n ≤ length l) (same : length p ≡ length (take n l)) where
  front_size : length p ≡ n
  front_size = same ∙ length-take-le n l within

  pub front_back : take n (p ++ drop n l) ≡ p
  front_back = take_at p (drop n l) n front_size

  pub front_length : length (p ++ drop n l) ≡ length l
  front_length = length-append p (drop n l) ∙ rw (length-drop n l) (omega (arith, front_size))

-- ---- a part elsewhere

pub part_size : (a n : ℕ) (l : List ℕ) → a + n ≤ length l → length (part a n l) ≡ n
part_size a n l h = length-take-le n (drop a l) (rw (length-drop a l) (omega arith))
