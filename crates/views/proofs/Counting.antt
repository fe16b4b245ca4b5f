-- The sum over the files by number is the sum over the places: the blocks reserved are those held, and the files are as many as there are places in use.
use mathlib.Core.Path.{◌≡◌, refl, sym, ap, ap₂, ◌∙◌}
use mathlib.Core.Bool.{Bool, true, false, cond}
use mathlib.Core.List.{List, [], ◌∷◌, ◌++◌}
use mathlib.Core.Option.{none}
use Prim.Native.Nat.{ℕ, zero, suc, ◌+◌, ◌*◌, ◌≤◌}
use native.Mathlib.Omega.{arith}
use borrow.Author.Tests.{leb-true, leb-false, le-leb, lt-leb, lt-ltb, le-ltb}
use lib.Dec.{leb, ltb}
use lib.ListN.{length, length-append}
use lib.Seq.{length-take-le}
use Rattle.blocks.specs.FreeMap.{free_count}
use Rattle.blocks.specs.Owners.{blocks, held_count}
use Rattle.blocks.proofs.Bits.{sum_to, count_ext}
use Rattle.blocks.proofs.Owners.{held_sum}
use Rattle.blocks.proofs.Agreement.{free_and_held}
use Rattle.table.specs.declared.File as table
use Rattle.std.proofs.Common.{Option, Some, None}
use Rattle.table.specs.Table.{files, numbers, file_at, find_of, free_of}
use Rattle.table.specs.Given.{blocks_for}
use Rattle.table.specs.Fit.{Distinct}
use Rattle.table.proofs.Records.{length_files}
use Rattle.table.proofs.Finding.{by_equal, find_number_law, find_place, find_none, find_own, free_place, free_none}
use Rattle.table.proofs.Keeping.{number_le}
use Rattle.files.specs.Sound.{places}
use Rattle.files.proofs.Soundness.{file_blocks}
use Rattle.files.proofs.Soundness as soundness
use Rattle.server.specs.declared.Server.{Server}
use Rattle.server.specs.State.{Lent, map_part, owner_part, table_part}
use Rattle.history.specs.Good.{Good}
use Rattle.history.specs.Stored.{files_of}
use Rattle.model.specs.State.{File}
use Rattle.model.specs.Files.{reserved, free}
use Rattle.views.specs.View.{file_in, numbered, entry, listed, view}
use Rattle.views.proofs.Views.{facts}
use Rattle.views.proofs.Sums.{sum_moves, sum_zero, sum_ones, sum_below}

-- ---- by number and by place

module _ (fs : List table.File) (one : Distinct (numbers fs)) (w : table.File → ℕ) where
  -- of the file that is found
  abbrev pub weigh : Option ℕ → ℕ
  weigh None = 0
  weigh (Some q) = w (file_at fs q)

  -- of the numbers 1 to n
  unfoldable pub total : ℕ → ℕ
  total zero = 0
  total (suc n) = total n + weigh (find_of fs (suc n))

  -- of a place whose number is one of them
  abbrev pub within : ℕ → ℕ → ℕ
  within n q = cond (leb 1 (file_at fs q).number) (cond (leb (file_at fs q).number n) (w (file_at fs q)) 0) 0

  within_next : (n q : ℕ) → ((file_at fs q).number ≡ suc n → ⊥) → within (suc n) q ≡ within n q
  within_next n q h = ap (λ (b : Bool). cond (leb 1 (file_at fs q).number) (cond b (w (file_at fs q)) 0) 0) (go (leb (file_at fs q).number n) refl)
    where
      go : (b : Bool) → leb (file_at fs q).number n ≡ b → leb (file_at fs q).number (suc n) ≡ b
      go true e = le-leb (file_at fs q).number (suc n) (let k = leb-true (file_at fs q).number n e in omega arith)
      go false e = lt-leb (file_at fs q).number (suc n) (let k = leb-false (file_at fs q).number n e in omega arith)

  sum_next : (n : ℕ) → sum_to (length fs) (within (suc n)) ≡ sum_to (length fs) (within n) + weigh (find_of fs (suc n))
  sum_next n = go (find_of fs (suc n)) refl
    where
      go : (r : Option ℕ) → find_of fs (suc n) ≡ r → sum_to (length fs) (within (suc n)) ≡ sum_to (length fs) (within n) + weigh r
      go None e =
          let k = count_ext (length fs) (within (suc n)) (within n)
          (λ q h. within_next n q (λ z. find_none fs (suc n) e (λ y. omega arith) q z)) in
          omega arith
      go (Some p) e =
          let is = find_number_law fs (suc n) p e in
          let m = sum_moves (length fs) (within n) (within (suc n)) p (find_place fs (suc n) p e) (λ q ne. within_next n q (λ z. ne (apart p q is z))) in
          let a : within n p ≡ 0 = rw (is, le-leb 1 (suc n) (omega arith), lt-leb (suc n) n (omega arith)) in
          let b : within (suc n) p ≡ w (file_at fs p) = rw (is, le-leb 1 (suc n) (omega arith), le-leb (suc n) (suc n) (omega arith)) in
          omega arith
        where
          apart : (p q : ℕ) → (file_at fs p).number ≡ suc n → (file_at fs q).number ≡ suc n → q ≡ p
          apart p q x y =
              let a = find_own fs one q (λ z. omega arith) in
              let b = find_own fs one p (λ z. omega arith) in
              let c : Some q ≡ Some p = sym a ∙ ap (find_of fs) (y ∙ sym x) ∙ b in
              cc

  pub total_is : (n : ℕ) → total n ≡ sum_to (length fs) (within n)
  unfolding total
  total_is zero = sym (sum_zero (length fs) (within 0) (λ q. none q (leb 1 (file_at fs q).number) refl))
    where
      none : (q : ℕ) (b : Bool) → leb 1 (file_at fs q).number ≡ b → cond b (cond (leb (file_at fs q).number 0) (w (file_at fs q)) 0) 0 ≡ 0
      none q true e = rw (lt-leb (file_at fs q).number 0 (let k = leb-true 1 (file_at fs q).number e in omega arith))
      none q false e = refl
  total_is (suc n) = ap (λ (k : ℕ). k + weigh (find_of fs (suc n))) (total_is n) ∙ sym (sum_next n)

  -- a place with a file, and one without
  pub within_file : (n q : ℕ) → (file_at fs q).number ≤ n → ((file_at fs q).number ≡ 0 → ⊥) → within n q ≡ w (file_at fs q)
  within_file n q h z = rw (le-leb 1 (file_at fs q).number (omega arith), le-leb (file_at fs q).number n h)

  pub within_free : (n q : ℕ) → (file_at fs q).number ≡ 0 → within n q ≡ 0
  within_free n q z = rw (lt-leb 1 (file_at fs q).number (omega arith))

-- ---- the lists of the view

reserved_append : (xs ys : List File) → reserved (xs ++ ys) ≡ reserved xs + reserved ys
unfolding reserved
reserved_append [] ys = omega arith
reserved_append (x ∷ xs) ys = let e = reserved_append xs ys in omega arith

module _ (sv : Server) (l : Lent) (g : Good sv l) where
  abbrev fs : List table.File
  fs = files (table_part sv l)

  one : Distinct (numbers fs)
  one = (facts sv l g).store.files.numbers

  reserved_total : (n : ℕ) → reserved (listed n (numbered sv l)) ≡ total fs one (λ f. blocks_for f.size) n
  unfolding listed total reserved entry
  reserved_total zero = refl
  reserved_total (suc n) =
      reserved_append (listed n (numbered sv l)) (entry (numbered sv l (suc n))) ∙ ap₂ ◌+◌ (reserved_total n) (go (find_of fs (suc n)))
    where
      go : (r : Option ℕ) → reserved (entry (file_in (files_of sv l) r)) ≡ weigh fs one (λ f. blocks_for f.size) r
      go None = refl
      go (Some q) = omega arith

  length_total : (n : ℕ) → length (listed n (numbered sv l)) ≡ total fs one (λ f. 1) n
  unfolding listed total entry
  length_total zero = refl
  length_total (suc n) =
      length-append (listed n (numbered sv l)) (entry (numbered sv l (suc n))) ∙ ap₂ ◌+◌ (length_total n) (go (find_of fs (suc n)))
    where
      go : (r : Option ℕ) → length (entry (file_in (files_of sv l) r)) ≡ weigh fs one (λ f. 1) r
      go None = refl
      go (Some q) = refl

  known : (q : ℕ) → (file_at fs q).number ≤ sv.last.number
  known q = number_le sv.last.number sv.last.time _ fs (facts sv l g).store.files q

  size_fs : length fs ≡ sv.files
  size_fs = let t = length-take-le (4 * sv.files) l.table (facts sv l g).room.table in let k = length_files (table_part sv l) in omega arith

  -- ---- the blocks

  block_sum : (q : ℕ) → within fs one (λ f. blocks_for f.size) sv.last.number q ≡ blocks (suc q) (owner_part sv l)
  block_sum q =
      let s : q + 1 ≡ suc q = omega arith in
      by_equal (file_at fs q).number 0
      (λ z. within_free fs one (λ f. blocks_for f.size) sv.last.number q z
      ∙ sym (soundness.free_blocks (map_part sv l) (owner_part sv l) (table_part sv l) sv.last.number sv.last.time (facts sv l g).store q z)
      ∙ ap (λ (k : ℕ). blocks k (owner_part sv l)) s)
      (λ z. within_file fs one (λ f. blocks_for f.size) sv.last.number q (known q) z
      ∙ sym (file_blocks (map_part sv l) (owner_part sv l) (table_part sv l) sv.last.number sv.last.time (facts sv l g).store q z)
      ∙ ap (λ (k : ℕ). blocks k (owner_part sv l)) s)

  -- the blocks held are those reserved
  pub reserved_is : reserved (view sv l).files ≡ held_count (owner_part sv l)
  reserved_is =
      reserved_total sv.last.number
      ∙ total_is fs one (λ f. blocks_for f.size) sv.last.number
      ∙ count_ext (length fs) (within fs one (λ f. blocks_for f.size) sv.last.number) (λ q. blocks (suc q) (owner_part sv l)) (λ q h. block_sum q)
      ∙ ap (λ (n : ℕ). sum_to n (λ q. blocks (suc q) (owner_part sv l))) (length_files (table_part sv l))
      ∙ sym (held_sum (places (table_part sv l)) (owner_part sv l) (facts sv l g).store.blocks.places)

  -- "the number free is the count of its one bits": those that no file has reserved
  pub free_is : free (view sv l) ≡ free_count (map_part sv l)
  free_is =
      let a = free_and_held (map_part sv l) (owner_part sv l) (places (table_part sv l)) (facts sv l g).store.blocks in
      let b = length-take-le sv.blocks l.owner (facts sv l g).room.owner in
      let c = reserved_is in
      omega arith

  -- ---- the places

  counted : length (view sv l).files ≡ sum_to (length fs) (within fs one (λ f. 1) sv.last.number)
  counted = length_total sv.last.number ∙ total_is fs one (λ f. 1) sv.last.number

  at_most : (q : ℕ) → within fs one (λ f. 1) sv.last.number q ≤ 1
  at_most q =
      by_equal (file_at fs q).number 0
      (λ z. let e = within_free fs one (λ f. 1) sv.last.number q z in omega arith)
      (λ z. let e = within_file fs one (λ f. 1) sv.last.number q (known q) z in omega arith)

  -- no place is free
  pub places_full : free_of fs ≡ None → ltb (length (view sv l).files) sv.files ≡ false
  places_full e =
      let k = sum_ones (length fs) (within fs one (λ f. 1) sv.last.number)
      (λ q h. within_file fs one (λ f. 1) sv.last.number q (known q) (free_none fs e q h)) in
      le-ltb (length (view sv l).files) sv.files (omega (arith, counted, size_fs))

  pub places_left : (p : ℕ) → free_of fs ≡ Some p → ltb (length (view sv l).files) sv.files ≡ true
  places_left p e =
      let f = free_place fs p e in
      let k = sum_below (length fs) (within fs one (λ f. 1) sv.last.number) at_most p f.0 (within_free fs one (λ f. 1) sv.last.number p f.1) in
      lt-ltb (length (view sv l).files) sv.files (omega (arith, counted, size_fs))
