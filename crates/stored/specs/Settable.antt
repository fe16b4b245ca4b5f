-- What holds where the fields of a file are written. Assumes nothing.
use Rattle.std.specs.Prelude.{◌≡◌, true, List, ℕ, ◌+◌, ◌*◌, ◌≤◌}
use Rattle.blocks.specs.Owners.{blocks}
use Rattle.header.specs.Header.{check_items, place_of}
use Rattle.stored.specs.Answers.{file_at, sizes_fit}

-- the sizes fit, the place's blocks hold the bytes received, the items are not refused, and upload_time is at byte `at`
pub record Settable (disk owner : List ℕ) (place received at : ℕ) : Type 0 where
  pub sizes : sizes_fit disk owner place ≡ true
  pub room : received ≤ 256 * blocks (place + 1) owner
  pub items : check_items (file_at disk owner place received) ≡ 0
  pub upload : at ≡ (place_of 18 (file_at disk owner place received)).at
