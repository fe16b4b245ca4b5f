-- A directory in the view: the files that it names, by number; their entries as the blocks have them and as the machine has them; and a change of other
-- files leaves it.
use mathlib.Core.Path.{◌≡◌, refl, sym, ap, ap₂, ◌∙◌}
use mathlib.Core.Bool.{Bool}
use mathlib.Core.List.{List, [], ◌∷◌, map}
use mathlib.Core.Option.{Option, some}
use Prim.Native.Nat.{ℕ, zero, suc, ◌+◌, ◌≤◌, ◌<◌}
use native.Mathlib.Omega.{arith}
use lib.ListN.{length, get_or, take}
use Rattle.header.specs.Entries.{running_on}
use Rattle.session.specs.declared.state.Downlink.TheVariants as down
use Rattle.session.specs.declared.state.Listed.{Listed}
use Rattle.session.specs.declared.state.Listed.TheVariants as listed
use Rattle.table.specs.declared.File as table
use Rattle.std.proofs.Common.{Some}
use Rattle.std.specs.Prelude as std
use Rattle.table.specs.Table.{files, numbers, find_of}
use Rattle.table.specs.Fit.{Distinct}
use Rattle.table.proofs.Finding.{find_own}
use Rattle.files.specs.View.{View}
use Rattle.files.proofs.Soundness.{disk_is, place_most}
use Rattle.entries.specs.Entry.{entry_at}
use Rattle.directory.specs.Directory.{found_in}
use Rattle.listing.specs.Listing as listing
use Rattle.links.proofs.Facts.{CompleteAt, Selectable}
use Rattle.carry.specs.declared.turn.Last.{Last}
use Rattle.carry.specs.Turn.{Mem}
use Rattle.acts.proofs.Interface.{files_in, Stored}
use Rattle.history.proofs.Directories.{AllNamed, passed_named}
use Rattle.history.proofs.Others.{found_same}
use Rattle.model.specs.State as model
use Rattle.model.specs.State.{File}
use Rattle.model.specs.Downlink.{entry_in}
use Rattle.views.specs.View.{file_of, file_in, names_of, bytes_behind, down_of}
use Rattle.views.proofs.Stores.{by_number}
use Rattle.views.proofs.Order.{take_map}

-- the entry of the file of a number
abbrev pub entry_by : Mem → Bool → ℕ → List ℕ
entry_by m long n = entry_in long (by_number m n)

-- a session's selection and its place in it
module _ (m : Mem) (once : Distinct (numbers (files m.table))) (selected : List ℕ) (count next : ℕ) (few : next ≤ count)
    (names : (k : ℕ) → k < count → Selectable (files m.table) (get_or selected k 0)) where
  abbrev fs : List table.File
  fs = files m.table

  abbrev One : Listed → Type 0
  One l = (place : ℕ) → l ≡ listed.One place → CompleteAt (files m.table) place

  -- each number is that of a complete file
  pub names_named : (l : Listed) → One l → AllNamed (files m.table) (names_of (files_in m) selected next l)
  names_named (listed.One place) one zero h =
      let c = one place refl in record { place = place; found = find_own fs once place c.number; complete = c }
  names_named (listed.One place) one (suc k) h = absurd (omega arith)
  names_named (listed.Selected first) one k h = passed_named fs selected count next few names first k h

  found_names : (l : Listed) → One l → found_in l next fs selected ≡ map (find_of fs) (names_of (files_in m) selected next l)
  unfolding found_in
  found_names (listed.One place) one = ap (λ (x : std.Option ℕ). x ∷ []) (sym (find_own fs once place (one place refl).number))
  found_names (listed.Selected first) one = refl

  -- ---- the entries

  module _ (last : Last) (st : Stored m last) (long : Bool) where
    placed_entry : (place : ℕ) → CompleteAt fs place
        → listing.entry_in long m.disk m.owner fs (Some place) ≡ entry_in long (file_in (files_in m) (Some place))
    unfolding listing.entry_in entry_at
    placed_entry place c =
        rw (disk_is m.disk m.owner st.sizes place
        (place_most m.map m.owner m.table last.number last.time st.sound place c.number))

    entry_is : (n : ℕ) → Selectable fs n → listing.entry_in long m.disk m.owner fs (find_of fs n) ≡ entry_by m long n
    entry_is n h =
        ap (listing.entry_in long m.disk m.owner fs) h.found ∙ placed_entry h.place h.complete
        ∙ ap (λ (x : std.Option ℕ). entry_in long (file_in (files_in m) x)) (sym h.found)

    all_entries : (ns : List ℕ) → AllNamed fs ns
        → map (listing.entry_in long m.disk m.owner fs) (map (find_of fs) ns) ≡ map (entry_by m long) ns
    all_entries [] f = refl
    all_entries (n ∷ ns) f =
        ap₂ (λ (x : List ℕ) (xs : List (List ℕ)). x ∷ xs) (entry_is n (f 0 (omega arith))) (all_entries ns (λ k h. f (suc k) (omega arith)))

    -- those that a filling takes are those of the machine
    pub entries_are : (l : Listed) → One l
        → listing.entries_of l long next m.disk m.owner fs selected ≡ map (entry_by m long) (names_of (files_in m) selected next l)
    entries_are l one =
        ap (map (listing.entry_in long m.disk m.owner fs)) (found_names l one)
        ∙ all_entries (names_of (files_in m) selected next l) (names_named l one)

    pub behind_is : (l : Listed) → One l → (done sent : ℕ)
        → bytes_behind (by_number m) long (names_of (files_in m) selected next l) done sent
        ≡ length (running_on (take done (listing.entries_of l long next m.disk m.owner fs selected))) + sent
    behind_is l one done sent =
        ap (λ (es : List (List ℕ)). length (running_on es) + sent)
        (sym (ap (take done) (entries_are l one) ∙ take_map (entry_by m long) done (names_of (files_in m) selected next l)))

  -- ---- another store, in which the complete files are as they were

  module _ (m' : Mem) (once' : Distinct (numbers (files m'.table)))
      (stays : (q : ℕ) → CompleteAt (files m.table) q → files_in m' q ≡ files_in m q) where
    number_stays : (n : ℕ) → Selectable fs n → by_number m' n ≡ by_number m n
    number_stays n h =
        ap (file_in (files_in m')) (found_same fs (files m'.table) (λ q c. ap (λ (v : View). v.file) (stays q c)) once' n h ∙ h.found)
        ∙ ap (λ (v : View). some (file_of v)) (stays h.place h.complete)
        ∙ ap (file_in (files_in m)) (sym h.found)

    names_stay : (l : Listed) → One l → names_of (files_in m') selected next l ≡ names_of (files_in m) selected next l
    names_stay (listed.One place) one = ap (λ (v : View). v.file.number ∷ []) (stays place (one place refl))
    names_stay (listed.Selected first) one = refl

    front_stays : (long : Bool) (done : ℕ) (ns : List ℕ) → AllNamed fs ns
        → map (entry_by m' long) (take done ns) ≡ map (entry_by m long) (take done ns)
    front_stays long zero ns f = refl
    front_stays long (suc done) [] f = refl
    front_stays long (suc done) (n ∷ ns) f =
        ap₂ (λ (x : Option File) (xs : List (List ℕ)). entry_in long x ∷ xs) (number_stays n (f 0 (omega arith)))
        (front_stays long done ns (λ k h. f (suc k) (omega arith)))

    pub listing_stays : (l : Listed) → One l → (long : Bool) (done sent : ℕ)
        → down_of (files_in m') (by_number m') selected next (down.Listing l long done sent)
        ≡ down_of (files_in m) (by_number m) selected next (down.Listing l long done sent)
    listing_stays l one long done sent =
        ap (λ (ns : List ℕ). model.listing long ns (bytes_behind (by_number m') long ns done sent)) (names_stay l one)
        ∙ ap (λ (es : List (List ℕ)). model.listing long (names_of (files_in m) selected next l) (length (running_on es) + sent))
        (front_stays long done (names_of (files_in m) selected next l) (names_named l one))
