-- What is read of files and of a packet's information, on the facts of a good state. Assumes nothing.
use mathlib.Core.Path.{◌≡◌, refl, sym, ap, ◌∙◌}
use mathlib.Core.Bool.{Bool, true, false, cond}
use mathlib.Core.List.{List}
use Prim.Native.Nat.{ℕ, ◌+◌, ◌-◌, ◌*◌, ◌≤◌, ◌<◌}
use native.Mathlib.Omega.{arith}
use native.Mathlib.Nat.{mod-eq_of_lt}
use borrow.Author.Tests.{le-leb, ltb-true, ltb-false}
use lib.Dec.{eqb, leb, ltb}
use lib.ListN.{length, get_or, take, drop, replicate, length-drop, length-replicate, take-append-drop, get_or-append}
use lib.Seq.{length-take-le, take_all, take-length, take-append_seam, take-append-le, drop-append-le}
use Rattle.numbers.specs.Numbers.{number}
use Rattle.packet.specs.Frame.{padded}
use Rattle.header.specs.Header.{check_items, header_of}
use Rattle.header.specs.declared.scan.Header.{Header}
use Rattle.std.proofs.Common.{Result}
use Rattle.blocks.specs.Owners.{blocks}
use Rattle.blocks.specs.Contents.{held}
use Rattle.blocks.specs.Answers.{window_number, read_out}
use Rattle.blocks.proofs.Owners.{blocks_le}
use Rattle.blocks.proofs.Held.{length_held}
use Rattle.blocks.proofs.Laws.{read_gives}
use Rattle.table.specs.declared.File.{File}
use Rattle.table.specs.Table.{files}
use Rattle.files.specs.Completion.{destinations_said, destinations_at}
use Rattle.files.proofs.Soundness.{file_fits_law, file_room, disk_is, place_most}
use Rattle.files.proofs.Completed.{destinations_is}
use Rattle.links.proofs.Facts.{CompleteAt}
use Rattle.decide.specs.Words.{word_at}
use Rattle.server.specs.declared.Server.{Server}
use Rattle.server.specs.State.{Lent, map_part, owner_part, table_part}
use Rattle.sending.specs.Sending.{least_of, bytes_from}
use Rattle.history.specs.Stored.{files_of}
use Rattle.history.proofs.GoodFacts.{Facts}
use Rattle.model.specs.Downlink.{destinations_in}

-- ---- information

-- all of it
pub take_padded : (info : List ℕ) → take (length info) (padded info) ≡ info
take_padded info = take-append_seam info (replicate (256 - length info) 0)

-- a number that lies within it
pub word_padded : (info : List ℕ) (at : ℕ) → at + 4 ≤ length info → word_at (padded info) at ≡ word_at info at
word_padded info at h =
    ap (λ (k : List ℕ). number (take 4 k)) (drop-append-le at info (replicate (256 - length info) 0) (omega arith))
    ∙ ap number (take-append-le 4 (drop at info) (replicate (256 - length info) 0) (rw (length-drop at info) (omega arith)))

-- a byte of it
pub byte_padded : (info : List ℕ) (at : ℕ) → at < length info → get_or (padded info) at 0 ≡ get_or info at 0
byte_padded info at h = get_or-append info (replicate (256 - length info) 0) 0 at h

-- ---- files

module _ (sv : Server) (l : Lent) (f : Facts sv l) (q : ℕ) (file : (files_of sv l q).file.number ≡ 0 → ⊥) where
  -- a file's bytes are as many as were received
  pub bytes_received : length (files_of sv l q).bytes ≡ (files_of sv l q).file.received
  bytes_received =
      let room = file_room (map_part sv l) (owner_part sv l) (table_part sv l) sv.last.number sv.last.time f.store q file in
      let fits = file_fits_law (map_part sv l) (owner_part sv l) (table_part sv l) sv.last.number sv.last.time f.store q file in
      length-take-le (files_of sv l q).file.received (held (q + 1) (owner_part sv l) l.disk)
      (omega (arith, room, fits.received, length_held (q + 1) (owner_part sv l) l.disk f.disk.bytes))

  -- and those of a complete file as many as announced
  pub bytes_whole : ((files_of sv l q).file.time ≡ 0 → ⊥) → length (files_of sv l q).bytes ≡ (files_of sv l q).file.size
  bytes_whole t =
      bytes_received
      ∙ (file_fits_law (map_part sv l) (owner_part sv l) (table_part sv l) sv.last.number sv.last.time f.store q file).whole t

  pub destinations_read : destinations_at l.disk (owner_part sv l) (table_part sv l) q ≡ destinations_in (files_of sv l q).bytes
  unfolding destinations_in header_of
  destinations_read =
      destinations_is (map_part sv l) l.disk (owner_part sv l) (table_part sv l) sv.last.number sv.last.time f.store f.disk
      q file
      ∙ go (eqb (check_items (files_of sv l q).bytes) 0) _ _
    where
      go : (t : Bool) (x y : Result Header ℕ) → destinations_said (cond t x y) ≡ cond t (destinations_said x) (destinations_said y)
      go true x y = refl
      go false x y = refl

-- ---- "up to 256 bytes, as full as can be"

pub least_length : (xs : List ℕ) → least_of (length xs) ≡ length (take 256 xs)
unfolding least_of
least_length xs = go (ltb (length xs) 256) refl
  where
    go : (t : Bool) → ltb (length xs) 256 ≡ t → cond t (length xs) 256 ≡ length (take 256 xs)
    go true e = ap length (sym (take_all 256 xs (omega (arith, ltb-true (length xs) 256 e))))
    go false e = sym (length-take-le 256 xs (ltb-false (length xs) 256 e))

least_take : (xs : List ℕ) → take (least_of (length xs)) xs ≡ take 256 xs
unfolding least_of
least_take xs = go (ltb (length xs) 256) refl
  where
    go : (t : Bool) → ltb (length xs) 256 ≡ t → take (cond t (length xs) 256) xs ≡ take 256 xs
    go true e = take-length xs ∙ sym (take_all 256 xs (omega (arith, ltb-true (length xs) 256 e)))
    go false e = refl

pub least_le : (n : ℕ) → least_of n ≤ n
unfolding least_of
least_le n = go (ltb n 256) refl
  where
    go : (t : Bool) → ltb n 256 ≡ t → cond t n 256 ≤ n
    go true e = omega arith
    go false e = ltb-false n 256 e

-- what lies in the front of a list
pub front_read : (l : List ℕ) (r at n : ℕ) → r ≤ length l → at + n ≤ r → take n (drop at l) ≡ take n (drop at (take r l))
front_read l r at n h k =
    ap (λ (x : List ℕ). take n (drop at x)) (sym (take-append-drop r l))
    ∙ ap (take n) (drop-append-le at (take r l) (drop r l) (omega (arith, length-take-le r l h)))
    ∙ take-append-le n (drop at (take r l)) (drop r l) (rw (length-drop at (take r l)) (omega (arith, length-take-le r l h)))

-- ---- what is read of a complete file

module _ (sv : Server) (l : Lent) (f : Facts sv l) (place : ℕ) (c : CompleteAt (files (table_part sv l)) place) where
  abbrev pub bytes : List ℕ
  bytes = (files_of sv l place).bytes

  abbrev file : File
  file = (files_of sv l place).file

  pub size_is : file.size ≡ length bytes
  size_is = sym (bytes_whole sv l f place c.number c.time)

  received_is : file.received ≡ length bytes
  received_is = sym (bytes_received sv l f place c.number)

  low : place < 256
  low = place_most (map_part sv l) (owner_part sv l) (table_part sv l) sv.last.number sv.last.time f.store place c.number

  room : file.size ≤ 256 * blocks (place + 1) (owner_part sv l)
  room = file_room (map_part sv l) (owner_part sv l) (table_part sv l) sv.last.number sv.last.time f.store place c.number

  -- 32 bits can count its bytes
  pub countable : length bytes ≤ 1048576
  countable = omega (arith, room, size_is, blocks_le (place + 1) (owner_part sv l), f.disk.most)

  window : (at n : ℕ) → at + n ≤ length bytes → window_number (length l.disk) (owner_part sv l) place at n ≡ 0
  window at n h =
      ap (λ (t : Bool). cond t (cond (leb (at + n) (256 * blocks (place + 1) (owner_part sv l))) 0 35) 33)
      (disk_is l.disk (owner_part sv l) f.disk place low)
      ∙ rw (le-leb (at + n) (256 * blocks (place + 1) (owner_part sv l)) (omega (arith, room, size_is)))

  read : (at n : ℕ) → at + n ≤ length bytes → bytes_from l.disk (owner_part sv l) place at n ≡ take n (drop at bytes)
  read at n h =
      ap (λ (p : ℕ). read_out l.disk (owner_part sv l) p at (replicate n 0)) (mod-eq_of_lt (omega (arith, low)))
      ∙ (read_gives l.disk (owner_part sv l) place at (replicate n 0) (rw (length-replicate {A = ℕ} n 0) (window at n h))).0
      ∙ ap (λ (k : ℕ). take k (drop at (held (place + 1) (owner_part sv l) l.disk))) (length-replicate {A = ℕ} n 0)
      ∙ front_read (held (place + 1) (owner_part sv l) l.disk) file.received at n
      (omega (arith, room, size_is, received_is, length_held (place + 1) (owner_part sv l) l.disk f.disk.bytes))
      (omega (arith, received_is))

  -- the information of the next DATA, and its length
  pub data_length : (at : ℕ) → least_of (file.size - at) ≡ length (take 256 (drop at bytes))
  data_length at = ap (λ (n : ℕ). least_of (n - at)) size_is ∙ ap least_of (sym (length-drop at bytes)) ∙ least_length (drop at bytes)

  pub data_read : (at : ℕ) → at < length bytes
      → bytes_from l.disk (owner_part sv l) place at (least_of (file.size - at)) ≡ take 256 (drop at bytes)
  data_read at h =
      ap (λ (n : ℕ). bytes_from l.disk (owner_part sv l) place at (least_of n)) left
      ∙ read at (least_of (length (drop at bytes))) (omega (arith, least_le (length (drop at bytes)), length-drop at bytes))
      ∙ least_take (drop at bytes)
    where
      left : file.size - at ≡ length (drop at bytes)
      left = ap (λ (n : ℕ). n - at) size_is ∙ sym (length-drop at bytes)
