-- A file that is read through a cursor: one of its blocks, by its index in the file and by its number. Assumes nothing.
use Rattle.std.specs.Prelude.{◌≡◌, List, ℕ, ◌+◌, ◌*◌, ◌/◌, ◌≤◌, length}
use Rattle.blocks.specs.Owners.{blocks, nth}

-- the place's blocks hold n bytes, and the disk has them
pub record Lies (disk owner : List ℕ) (place n : ℕ) : Type 0 where
  pub few : length owner ≤ 4096
  pub fits : 256 * length owner ≤ length disk
  pub room : n ≤ 256 * blocks (place + 1) owner

-- the cursor's block is the file's, and byte `at` stands in it or in a later one
pub record Stands (owner : List ℕ) (place index block at : ℕ) : Type 0 where
  pub own : block ≡ nth (place + 1) owner index
  pub ahead : index ≤ at / 256
