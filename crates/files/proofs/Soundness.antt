-- The test of the store is true exactly where the facts hold, and what the facts say of one place.
use mathlib.Core.Path.{◌≡◌, refl, sym, ap, ◌∙◌, subst}
use mathlib.Core.Bool.{Bool, true, false, cond, ◌&&◌}
use mathlib.Core.List.{List}
use Prim.Native.Nat.{ℕ, ◌+◌, ◌*◌, ◌/◌, ◌%◌, ◌≤◌, ◌<◌}
use native.Mathlib.Omega.{arith}
use lib.ListN.{length, get_or, take, get_or-eq_default}
use lib.Dec.{leb, eqb}
use borrow.Author.Tests.{leb-true, le-leb, eqb-true, eq-eqb, lt-ltb}
use Rattle.blocks.specs.Owners.{blocks, counts_of}
use Rattle.blocks.specs.Check.{Agrees, agrees_test}
use Rattle.blocks.specs.Answers.{store_fits, disk_fits}
use Rattle.blocks.proofs.Bits.{by_lt}
use Rattle.blocks.proofs.Owners.{blocks_none, counts_length, counts_entry}
use Rattle.blocks.proofs.Agreement.{both, check_facts, facts_check, words_fit}
use Rattle.table.specs.declared.File.{File}
use Rattle.table.specs.Table.{files, uploaded}
use Rattle.table.specs.Given.{blocks_for}
use Rattle.table.specs.Fit.{records_fit, distinct_of, FileFits}
use Rattle.table.specs.Fit as fit
use Rattle.table.proofs.Records.{length_files, no_file_law}
use Rattle.table.proofs.Fitting as fitting
use Rattle.table.proofs.Giving.{blocks_enough}
use Rattle.files.specs.View.{record_at, View}
use Rattle.files.specs.Sound.{places, table_fits, sound_test, Sound, Sizes}

-- ---- the test and the facts

pub sound_facts : (map owner table : List ℕ) (last latest : ℕ) → sound_test map owner table last latest ≡ true → Sound map owner table last latest
unfolding sound_test
sound_facts map owner table last latest e =
    let rows = records_fit last latest (counts_of owner) (files table) in
    let apart = distinct_of (files table) in
    let agree = agrees_test map owner (places table) in
    let p = both (table_fits table) (agree && (rows && apart)) e in
    let q = both (leb (places table) 256) (eqb (length table % 4) 0) p.0 in
    let r = both agree (rows && apart) p.1 in
    let s = both rows apart r.1 in
    record {
      most = leb-true (places table) 256 q.0;
      whole = eqb-true (length table % 4) 0 q.1;
      blocks = check_facts map owner (places table) r.0;
      files = fitting.sound_facts last latest (counts_of owner) (files table) s.0 s.1;
    }

pub facts_sound : (map owner table : List ℕ) (last latest : ℕ) → Sound map owner table last latest → sound_test map owner table last latest ≡ true
unfolding sound_test
facts_sound map owner table last latest s =
    rw (
      le-leb (places table) 256 s.most,
      eq-eqb (length table % 4) 0 s.whole,
      facts_check map owner (places table) s.blocks,
      fitting.sound_fits last latest (counts_of owner) (files table) s.files,
      fitting.sound_distinct last latest (counts_of owner) (files table) (omega (arith, s.most, length_files table)) s.files,
    )

-- the facts of a store with other slices of the same sizes
pub sound_of : (map owner table table' : List ℕ) (last latest : ℕ) (fs : List File) → length table' ≡ length table → places table ≤ 256 → length table % 4 ≡ 0
    → Agrees map owner (places table) → files table' ≡ fs → fit.Sound last latest (counts_of owner) fs → Sound map owner table' last latest
sound_of map owner table table' last latest fs l m w a e s =
    record {
      most = omega arith;
      whole = omega arith;
      blocks = subst (λ (n : ℕ). Agrees map owner (n / 4)) (sym l) a;
      files = subst (λ (gs : List File). fit.Sound last latest (counts_of owner) gs) (sym e) s;
    }

-- ---- document 01's sizes

pub store_is : (map owner table : List ℕ) (last latest : ℕ) → Sound map owner table last latest → 1 ≤ length owner → length owner ≤ 4096 → (p : ℕ) → p < 256
    → store_fits (length map) (length owner) p ≡ true
store_is map owner table last latest s some most p h =
    let w = s.blocks.words in
    rw (
      le-leb 1 (length owner) some,
      le-leb (length map) 64 (omega arith),
      le-leb (length owner) (64 * length map) (words_fit map owner (places table) s.blocks),
      lt-ltb p 256 h,
    )

pub disk_is : (disk owner : List ℕ) → Sizes disk owner → (p : ℕ) → p < 256 → disk_fits (length disk) (length owner) p ≡ true
disk_is disk owner z p h =
    rw (le-leb 1 (length owner) z.some, le-leb (length owner) 4096 z.most, le-leb (256 * length owner) (length disk) z.bytes, lt-ltb p 256 h)

-- ---- one place

-- the count of an owner's blocks depends on its blocks alone
pub counts_same : (owner owner' : List ℕ) (v : ℕ) → blocks v owner' ≡ blocks v owner → get_or (counts_of owner') v 0 ≡ get_or (counts_of owner) v 0
counts_same owner owner' v e =
    by_lt v 257
    (λ h. counts_entry owner' v (omega arith) ∙ e ∙ sym (counts_entry owner v (omega arith)))
    (λ h. get_or-eq_default (counts_of owner') 0 (omega (arith, counts_length 257 0 owner'))
    ∙ sym (get_or-eq_default (counts_of owner) 0 (omega (arith, counts_length 257 0 owner))))

pub view_same : (f g : File) (h k : List ℕ) → f ≡ g → h ≡ k
    → ◌≡◌ {A = View} (record { file = f; bytes = take f.received h }) (record { file = g; bytes = take g.received k })
view_same f g h k e d = rw (e, d)

-- a record has no upload time where there is no file, or a partial one
pub no_time : (f : File) → f.time ≡ 0 → uploaded f ≡ 0
no_time f e = go (eqb f.number 0)
  where
    go : (t : Bool) → cond t 0 f.time ≡ 0
    go true = refl
    go false = e

pub place_below : (table : List ℕ) (p : ℕ) → ((record_at table p).number ≡ 0 → ⊥) → p < length (files table)
place_below table p n =
    by_lt p (length (files table)) (λ h. h) (λ h. absurd (n (ap (λ (f : File). f.number) (no_file_law (files table) p h))))

module _ (map owner table : List ℕ) (last latest : ℕ) (s : Sound map owner table last latest) where
  pub files_most : length (files table) ≤ 256
  files_most = omega (arith, length_files table, s.most)

  pub place_most : (p : ℕ) → ((record_at table p).number ≡ 0 → ⊥) → p < 256
  place_most p n = omega (arith, place_below table p n, files_most)

  pub file_fits_law : (p : ℕ) → ((record_at table p).number ≡ 0 → ⊥) → FileFits last latest (get_or (counts_of owner) (p + 1) 0) (record_at table p)
  file_fits_law p n = (s.files.records p (place_below table p n)).file n

  -- a file has the blocks of its announced length, and so room for what was received
  pub file_blocks : (p : ℕ) → ((record_at table p).number ≡ 0 → ⊥) → blocks (p + 1) owner ≡ blocks_for (record_at table p).size
  file_blocks p n = sym (counts_entry owner (p + 1) (omega (arith, place_most p n))) ∙ (file_fits_law p n).blocks

  pub file_room : (p : ℕ) → ((record_at table p).number ≡ 0 → ⊥) → (record_at table p).size ≤ 256 * blocks (p + 1) owner
  file_room p n = omega (arith, file_blocks p n, blocks_enough (record_at table p).size)

  -- a place with no file has none
  pub free_blocks : (p : ℕ) → (record_at table p).number ≡ 0 → blocks (p + 1) owner ≡ 0
  free_blocks p z =
      by_lt p (length (files table))
      (λ h. sym (counts_entry owner (p + 1) (omega (arith, files_most))) ∙ (s.files.records p h).free z)
      (λ h. blocks_none (p + 1) owner (λ b. omega (arith, s.blocks.places b, length_files table)))
