-- The headers in a directory have the upload times of its files: entries that run on are read one by one, and each has the file's own upload_time. Assumes
-- nothing.
use mathlib.Core.Path.{◌≡◌, refl, sym, ap, ap₂, ◌∙◌}
use mathlib.Core.Bool.{Bool, true, false, cond}
use mathlib.Core.List.{List, [], ◌∷◌, ◌++◌, map}
use mathlib.Core.Option.{some}
use Prim.Native.Nat.{ℕ, zero, suc, ◌-◌}
use native.Mathlib.Omega.{arith}
use lib.Dec.{eqb}
use lib.ListN.{length, take, drop, length-map}
use lib.Seq.{drop_at}
use borrow.Author.Tests.{ne_eqb, eqb-true}
use Rattle.numbers.specs.Numbers.{number}
use Rattle.numbers.proofs.NumberLaws.{number_four}
use Rattle.header.specs.Items.{Field, fields_of}
use Rattle.header.specs.Header.{listed_length, header_length, check_items}
use Rattle.header.specs.Entries.{mandatory, long_entry, short_entry, entry_of, running_on}
use Rattle.header.proofs.EntryLaws.{upload_listed, entry_passed}
use Rattle.header.proofs.EntryReads.{short_reads, long_reads, entry_check, more_size, entry_whole, entry_first}
use Rattle.equation.specs.Holds.{bytes_of}
use Rattle.model.specs.State.{File, Session, Model, empty, session_at}
use Rattle.model.specs.Files.{find}
use Rattle.model.specs.Downlink.{entry_in, directory_of, next_ten}
use Rattle.model.specs.Step.{run}
use Rattle.steps.specs.Naming.{AllComplete}
use Rattle.steps.proofs.Found.{all_take, all_drop}
use Rattle.paging.specs.Paging.{Entry, entry, time_of, page_in}
use Rattle.paging.specs.Directories.{headers_in, times_in, entries_of, entries_next, times_of, TimesInDirectory, TimesOfPage}
use Rattle.paging.proofs.Known.{Known, found_low, known}

-- ---- one entry

-- upload_time is a mandatory item, so none of them is left out
uploads_kept : (is : List Field) → bytes_of 18 (mandatory is) ≡ bytes_of 18 is
unfolding bytes_of mandatory
uploads_kept [] = refl
uploads_kept (x ∷ xs) = go (eqb (listed_length x.id) 0) refl (uploads_kept xs)
  where
    go : (t : Bool) → eqb (listed_length x.id) 0 ≡ t → bytes_of 18 (mandatory xs) ≡ bytes_of 18 xs
        → bytes_of 18 (cond t (mandatory xs) (x ∷ mandatory xs)) ≡ cond (eqb x.id 18) (x.bytes ∷ bytes_of 18 xs) (bytes_of 18 xs)
    go true e ih =
        let n : x.id ≡ 18 → ⊥ = λ z. omega (arith, eqb-true (listed_length x.id) 0 e, ap listed_length z, upload_listed) in
        rw (ne_eqb x.id 18 n) ih
    go false e ih = ap (λ (l : List (List ℕ)). cond (eqb x.id 18) (x.bytes ∷ l) l) ih

-- THE LAW of an entry's upload times: they are the file's
entry_uploads : (long : Bool) (file : List ℕ) → check_items file ≡ 0 → bytes_of 18 (fields_of (entry_of long file)) ≡ bytes_of 18 (fields_of file)
entry_uploads long file e = rw (entry_passed long file e) (form long)
  where
    form : (b : Bool) → bytes_of 18 (fields_of (cond b (long_entry file) (short_entry file))) ≡ bytes_of 18 (fields_of file)
    form true = ap (bytes_of 18) (long_reads file e)
    form false = ap (bytes_of 18) (short_reads file) ∙ uploads_kept (fields_of file)

-- ---- entries that run on

-- whoever reads one knows where the next begins
next_begins : (long : Bool) (file more : List ℕ) → check_items file ≡ 0
    → drop (header_length (entry_of long file ++ more)) (entry_of long file ++ more) ≡ more
next_begins long file more e =
    drop_at (entry_of long file) more (header_length (entry_of long file ++ more))
    (sym (more_size (entry_of long file) more (entry_check file e long) ∙ entry_whole file e long))

-- ---- of complete files

module _ (m : Model) (k : Known m) (long : Bool) where
  -- what is read of one file
  abbrev read : List ℕ → List ℕ
  read header = map number (bytes_of 18 (fields_of header))

  one : (n : ℕ) (f : File) → find n m.files ≡ some f → (f.time ≡ 0 → ⊥) → read (entry_of long f.bytes) ≡ f.time ∷ []
  one n f e z =
      ap (map number) (entry_uploads long f.bytes (k.checked n f e z) ∙ k.stamped n f e z)
      ∙ ap (λ (t : ℕ). t ∷ []) (number_four f.time (omega (arith, k.small, (found_low m k.sound n f e).1)))

  all : (ns : List ℕ) → AllComplete m.files ns → times_in (length ns) (directory_of long ns m.files) ≡ times_of (entries_of m ns)
  unfolding times_in headers_in running_on
  all [] a = refl
  all (n ∷ ns) a = go a.0.file a.0.found a.0.time (all ns a.1)
    where
      rest : List ℕ
      rest = directory_of long ns m.files

      go : (f : File) → find n m.files ≡ some f → (f.time ≡ 0 → ⊥) → times_in (length ns) rest ≡ times_of (entries_of m ns)
          → times_in (suc (length ns)) (entry_in long (find n m.files) ++ rest) ≡ (time_of (find n m.files) ∷ []) ∷ times_of (entries_of m ns)
      go f e z ih =
          let c = k.checked n f e z in
          rw e
          (ap₂ (λ (x : List ℕ) (xs : List (List ℕ)). x ∷ xs) (ap read (entry_first f.bytes c long rest) ∙ one n f e z)
          (ap (times_in (length ns)) (next_begins long f.bytes rest c) ∙ ih))

-- THEOREM: a directory of complete files has their upload times
pub times_in_directory : TimesInDirectory
times_in_directory blocks places sessions maxsel h c long ns a =
    all (run (empty blocks places sessions maxsel) h) (known blocks places sessions maxsel h c) long ns a

-- ---- of the next files of the selection

map_take : (f : ℕ → Entry) (k : ℕ) (ns : List ℕ) → map f (take k ns) ≡ take k (map f ns)
map_take f zero ns = refl
map_take f (suc k) [] = refl
map_take f (suc k) (n ∷ ns) = ap (λ (l : List Entry). f n ∷ l) (map_take f k ns)

map_drop : (f : ℕ → Entry) (k : ℕ) (ns : List ℕ) → map f (drop k ns) ≡ drop k (map f ns)
map_drop f zero ns = refl
map_drop f (suc k) [] = refl
map_drop f (suc k) (n ∷ ns) = map_drop f k ns

-- THEOREM: that of the next files of the selection has the times of the page's entries
pub times_of_page : TimesOfPage
unfolding page_in
times_of_page blocks places sessions maxsel h c long session =
    ap (λ (n : ℕ). times_in n (directory_of long (next_ten s) m.files)) (ap length (sym shown) ∙ length-map (next_ten s) f)
    ∙ times_in_directory blocks places sessions maxsel h c long (next_ten s)
    (all_take 10 m.files (drop s.next s.selected) (all_drop s.next m.files s.selected (k.named.selected (session - 1))))
    ∙ ap times_of shown
  where
    m : Model
    m = run (empty blocks places sessions maxsel) h

    k : Known m
    k = known blocks places sessions maxsel h c

    s : Session
    s = session_at m (session - 1)

    f : ℕ → Entry
    f n = entry n (time_of (find n m.files))

    shown : entries_of m (next_ten s) ≡ entries_next m session
    shown = map_take f 10 (drop s.next s.selected) ∙ ap (take 10) (map_drop f s.next s.selected)
