-- The number that each public function answers, 0 for done, and what it leaves. The numbers are those of the table of refusals:
-- 13 "fewer free blocks than needed"; 33 "a size or length outside the table .. or a lent buffer too short"; 35 "a length, offset
-- or name points at what the store lacks".
use Rattle.std.specs.Prelude.{ℕ, ◌+◌, ◌*◌, Bool, cond, ◌&&◌, List, length, take, drop, replicate, leb, ltb, eqb}
use Rattle.blocks.specs.FreeMap.{free_count, reserved_map}
use Rattle.blocks.specs.Owners.{blocks, reserved_owner, released_owner, released_map, map_of}
use Rattle.blocks.specs.Contents.{held, stored}
use Rattle.blocks.specs.Check.{words_for}

-- ---- making an empty store

-- 1 to 4,096 blocks, and a map of exactly their words
abbrev pub make_number : ℕ → ℕ → ℕ
make_number words n = cond (leb 1 n && leb n 4096 && eqb words (words_for n)) 0 33

-- every block is free, and the map is the one that belongs to that
unfoldable pub make_owner : List ℕ → List ℕ → List ℕ
make_owner map owner = cond (eqb (make_number (length map) (length owner)) 0) (replicate (length owner) 0) owner

unfoldable pub make_map : List ℕ → List ℕ → List ℕ
make_map map owner = cond (eqb (make_number (length map) (length owner)) 0) (map_of (length map) (replicate (length owner) 0)) map

-- ---- reserving and releasing

-- at least 1 block, at most 64 words and a bit for each block, so at most 4,096 blocks; a file place below 256
abbrev pub store_fits : ℕ → ℕ → ℕ → Bool
store_fits words n place = leb 1 n && leb words 64 && leb n (64 * words) && ltb place 256

abbrev pub reserve_number : List ℕ → ℕ → ℕ → ℕ → ℕ
reserve_number map size place n = cond (store_fits (length map) size place) (cond (leb n (free_count map)) 0 13) 33

unfoldable pub reserve_map : List ℕ → List ℕ → ℕ → ℕ → List ℕ
reserve_map map owner place n = cond (eqb (reserve_number map (length owner) place n) 0) (reserved_map n map) map

unfoldable pub reserve_owner : List ℕ → List ℕ → ℕ → ℕ → List ℕ
reserve_owner map owner place n = cond (eqb (reserve_number map (length owner) place n) 0) (reserved_owner (place + 1) n map owner) owner

abbrev pub release_number : ℕ → ℕ → ℕ → ℕ
release_number words n place = cond (store_fits words n place) 0 33

unfoldable pub release_map : List ℕ → List ℕ → ℕ → List ℕ
release_map map owner place = cond (eqb (release_number (length map) (length owner) place) 0) (released_map (place + 1) owner 0 map) map

unfoldable pub release_owner : List ℕ → List ℕ → ℕ → List ℕ
release_owner map owner place = cond (eqb (release_number (length map) (length owner) place) 0) (released_owner (place + 1) owner) owner

-- ---- writing and reading

-- 1 to 4,096 blocks of 256 bytes, a disk that has them, and a file place below 256
abbrev pub disk_fits : ℕ → ℕ → ℕ → Bool
disk_fits size n place = leb 1 n && leb n 4096 && leb (256 * n) size && ltb place 256

-- n bytes from byte `at` of the place's blocks on
abbrev pub window_number : ℕ → List ℕ → ℕ → ℕ → ℕ → ℕ
window_number size owner place at n =
    cond (disk_fits size (length owner) place) (cond (leb (at + n) (256 * blocks (place + 1) owner)) 0 35) 33

unfoldable pub write_disk : List ℕ → List ℕ → ℕ → ℕ → List ℕ → List ℕ
write_disk disk owner place at xs =
    cond (eqb (window_number (length disk) owner place at (length xs)) 0) (stored (place + 1) owner disk at xs) disk

unfoldable pub read_out : List ℕ → List ℕ → ℕ → ℕ → List ℕ → List ℕ
read_out disk owner place at out =
    cond (eqb (window_number (length disk) owner place at (length out)) 0) (take (length out) (drop at (held (place + 1) owner disk))) out
