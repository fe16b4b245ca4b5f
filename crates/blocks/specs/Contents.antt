-- What the blocks of an owner hold; a block is 256 bytes of the disk.
use Rattle.std.specs.Prelude.{ℕ, suc, ◌+◌, ◌*◌, ◌/◌, ◌%◌, cond, List, [], ◌∷◌, ◌++◌, set, take, drop, eqb}
use Rattle.blocks.specs.Owners.{nth}

-- the bytes of the blocks of owner v, the lowest block first
unfoldable pub held : ℕ → List ℕ → List ℕ → List ℕ
held v [] disk = []
held v (o ∷ os) disk = cond (eqb o v) (take 256 disk) [] ++ held v os (drop 256 disk)

-- the bytes of the blocks of owner v from block b on
abbrev pub held_from : ℕ → List ℕ → List ℕ → ℕ → List ℕ
held_from v owner disk b = held v (drop b owner) (drop (256 * b) disk)

-- a file's contents: of what its blocks hold, the bytes received
abbrev pub contents : ℕ → List ℕ → List ℕ → ℕ → List ℕ
contents v owner disk received = take received (held v owner disk)

-- where byte `at` of owner v stands on the disk
abbrev pub stands_at : ℕ → List ℕ → ℕ → ℕ
stands_at v owner at = 256 * nth v owner (at / 256) + at % 256

-- the disk after the bytes xs are stored from byte `at` of owner v on; all else stays
unfoldable pub stored : ℕ → List ℕ → List ℕ → ℕ → List ℕ → List ℕ
stored v owner disk at [] = disk
stored v owner disk at (x ∷ xs) = stored v owner (set disk (stands_at v owner at) x) (suc at) xs
