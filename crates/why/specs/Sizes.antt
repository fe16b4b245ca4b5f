-- What the private functions ask: an equation that was parsed and not refused, and a store of sizes in the table. Assumes nothing.
use Rattle.std.specs.Prelude.{◌≡◌, List, ℕ, ◌*◌, ◌≤◌, length}
use Rattle.equation.specs.Answer.{validity_of}
use Rattle.equation.specs.Parsed.{steps_of}

-- the steps are those of an equation that is accepted
pub record Ready (eq steps : List ℕ) : Type 0 where
  pub listed : steps ≡ steps_of eq
  pub valid : validity_of eq ≡ 0

-- 1 to 4,096 blocks, and a disk that has them
pub record Store (disk owner : List ℕ) : Type 0 where
  pub some : 1 ≤ length owner
  pub most : length owner ≤ 4096
  pub bytes : 256 * length owner ≤ length disk
