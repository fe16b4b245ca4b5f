-- Directory entries read back: the short form has the twelve mandatory items, the long form all, and DATA_END refuses the items of neither. Assumes nothing.
use Rattle.std.proofs.Common.{◌≡◌, ℕ, zero, suc, ◌+◌, ◌/◌, ◌%◌, ◌<◌, ◌≤◌, Bool, true, false, cond, eqb, ltb, leb, List, [], ◌∷◌, ◌++◌, map, length, take, drop, sym, refl, ap, ◌∙◌, append_assoc, append-nil, arith, take_all, ltb-true, lt-ltb, ne_eqb, eqb-true, le-leb, leb-false, leb-true}
use lib.Seq.{take-append-le}
use borrow.Author.Tests.{eqb-false}
use Rattle.header.specs.Items.{Field, Walk, walk, marked, fields_of}
use Rattle.header.specs.Header.{listed, every, count_if, times, bytes_of, length_in, listed_length, fits, ordered, proper, complete, header_length, check_items}
use Rattle.header.specs.Entries.{item_bytes, items_bytes, mandatory, long_entry, short_entry, entry_of}
use Rattle.header.proofs.Machine.{clash}
use Rattle.header.proofs.Written.{raw, written, Named}
use Rattle.header.proofs.Spelled.{spelled_walk, spelled_front, spelled_append}
use Rattle.header.proofs.Order.{low, Chain, complete_parts, proper_parts, proper_ok, every_here, some_length, times_hit, times_miss}
use Rattle.header.proofs.Verdict.{file_of, file_fields, file_length, file_items}
use Rattle.header.proofs.EntryLaws.{passed, header_within, long_length, passed_check, marked_front, marked_fields, passed_spelled, passed_size, mandatory_listed, mandatory_other, none_mandatory, high, unlisted, upload_listed, entry_passed}

-- ---- the mandatory items alone

zero_unlisted : listed_length 0 ≡ 0
unfolding listed length_in
zero_unlisted = refl

-- a listed id is one of 01 to 0b, or 12 hex
listed_id : (i : ℕ) → 1 ≤ listed_length i → (0 < i) × (i ≤ 18)
listed_id zero h = absurd (omega (arith, zero_unlisted))
listed_id (suc i) h = go (leb (suc i) 11) refl (eqb (suc i) 18) refl
  where
    go : (t : Bool) → leb (suc i) 11 ≡ t → (u : Bool) → eqb (suc i) 18 ≡ u → (0 < suc i) × (suc i ≤ 18)
    go true e u f = let l = leb-true (suc i) 11 e in (omega arith, omega arith)
    go false e true f = let l = eqb-true (suc i) 18 f in (omega arith, omega arith)
    go false e false f = absurd (omega (arith, unlisted (suc i) (leb-false (suc i) 11 e) (eqb-false (suc i) 18 f)))

upload_some : 1 ≤ listed_length 18
upload_some = omega (arith, upload_listed)

-- what holds of the mandatory items, one by one: each is there or it is not listed
module _ (P : List Field → List Field → Type 0) (none : P [] [])
    (more : (x : Field) (xs : List Field) → 1 ≤ listed_length x.id → P xs (mandatory xs) → P (x ∷ xs) (x ∷ mandatory xs))
    (other : (x : Field) (xs : List Field) → listed_length x.id ≡ 0 → P xs (mandatory xs) → P (x ∷ xs) (mandatory xs)) where
  by_mandatory : (is : List Field) → P is (mandatory is)
  by_mandatory [] = unfold mandatory in none
  by_mandatory (x ∷ xs) = go (eqb (listed_length x.id) 0) refl (by_mandatory xs)
    where
      go : (t : Bool) → eqb (listed_length x.id) 0 ≡ t → P xs (mandatory xs) → P (x ∷ xs) (mandatory (x ∷ xs))
      go true e ih =
          let z = eqb-true (listed_length x.id) 0 e in rw (mandatory_other x xs z) (other x xs z ih)
      go false e ih =
          let n = eqb-false (listed_length x.id) 0 e in
          let l : 1 ≤ listed_length x.id = omega arith in
          rw (mandatory_listed x xs l) (more x xs l ih)

abbrev Listed : List Field → Type 0
Listed [] = Unit {0}
Listed (x ∷ xs) = (1 ≤ listed_length x.id) × Listed xs

all_listed : (is : List Field) → Listed (mandatory is)
all_listed = by_mandatory (λ is js. Listed js) tt (λ x xs l ih. (l, ih)) (λ x xs z ih. ih)

listed_named : (js : List Field) → Listed js → Named js
listed_named [] l = tt
listed_named (x ∷ xs) l = ((λ z. omega (arith, listed_id x.id l.0)), listed_named xs l.1)

-- they are written as the short form has them
listed_written : (js : List Field) → Listed js → items_bytes js ++ 0 ∷ 0 ∷ 0 ∷ [] ≡ written js
unfolding items_bytes written raw
listed_written [] l = refl
listed_written (x ∷ xs) l =
    let i = listed_id x.id l.0 in
    let q : x.id / 256 % 256 ≡ x.id / 256 = omega (arith, i.1) in
    append_assoc (item_bytes x) (items_bytes xs) (0 ∷ 0 ∷ 0 ∷ [])
    ∙ ap (λ (r : List ℕ). item_bytes x ++ r) (listed_written xs l.1)
    ∙ ap (λ (b : ℕ). x.id % 256 ∷ b ∷ length x.bytes ∷ (x.bytes ++ written xs)) q

short_file : (file : List ℕ) → short_entry file ≡ file_of (mandatory (fields_of file)) []
short_file file =
    ap (λ (l : List ℕ). 170 ∷ 85 ∷ l)
    (listed_written (mandatory (fields_of file)) (all_listed (fields_of file)) ∙ sym (append-nil (written (mandatory (fields_of file)))))

-- THE LAW of the short form's items: they are the file's mandatory ones, in their order
pub short_reads : (file : List ℕ) → fields_of (short_entry file) ≡ mandatory (fields_of file)
short_reads file =
    ap fields_of (short_file file)
    ∙ file_fields (mandatory (fields_of file)) [] (listed_named (mandatory (fields_of file)) (all_listed (fields_of file)))

-- ---- they are still proper and complete

-- how often a listed id is there
same_times : (i : ℕ) → 1 ≤ listed_length i → (is : List Field) → times i (mandatory is) ≡ times i is
same_times i l = by_mandatory (λ is js. times i js ≡ times i is) refl keep past
  where
    keep : (x : Field) (xs : List Field) → 1 ≤ listed_length x.id → times i (mandatory xs) ≡ times i xs → times i (x ∷ mandatory xs) ≡ times i (x ∷ xs)
    keep x xs h ih = unfold count_if in rw ih

    past : (x : Field) (xs : List Field) → listed_length x.id ≡ 0 → times i (mandatory xs) ≡ times i xs → times i (mandatory xs) ≡ times i (x ∷ xs)
    past x xs z ih = ih ∙ sym (times_miss i x xs (λ e. omega (arith, ap (λ (k : ℕ). listed_length k) e)))

bytes_miss : (i : ℕ) (x : Field) (xs : List Field) → (x.id ≡ i → ⊥) → bytes_of i (x ∷ xs) ≡ bytes_of i xs
unfolding bytes_of
bytes_miss i x xs n = rw (ne_eqb x.id i n)

bytes_tail : (i : ℕ) (x : Field) (xs ys : List Field) → bytes_of i xs ≡ bytes_of i ys → bytes_of i (x ∷ xs) ≡ bytes_of i (x ∷ ys)
unfolding bytes_of
bytes_tail i x xs ys e = rw e

-- the data of a listed id
pub same_bytes : (i : ℕ) → 1 ≤ listed_length i → (is : List Field) → bytes_of i (mandatory is) ≡ bytes_of i is
same_bytes i l =
    by_mandatory (λ is js. bytes_of i js ≡ bytes_of i is) refl (λ x xs h ih. bytes_tail i x (mandatory xs) xs ih)
    (λ x xs z ih. ih ∙ sym (bytes_miss i x xs (λ e. omega (arith, ap (λ (k : ℕ). listed_length k) e))))

keep_fits : (is : List Field) → every fits is ≡ true → every fits (mandatory is) ≡ true
keep_fits =
    by_mandatory (λ is js. every fits is ≡ true → every fits js ≡ true) (λ e. e)
    (λ x xs l ih e. let p = every_here x xs e in unfold every in rw p.0 (ih p.1)) (λ x xs z ih e. ih (every_here x xs e).1)

-- a list in order after an id is one after a lower id
ordered_below : (low high : ℕ) (is : List Field) → low ≤ high → ordered high is ≡ true → ordered low is ≡ true
unfolding ordered
ordered_below low high [] h o = refl
ordered_below low high (x ∷ xs) h o = go (leb x.id 11) (ltb high x.id) refl o
  where
    go : (t u : Bool) → ltb high x.id ≡ u → cond t (cond u (ordered x.id xs) false) (ordered 11 xs) ≡ true
        → cond t (cond (ltb low x.id) (ordered x.id xs) false) (ordered 11 xs) ≡ true
    go true true e o = rw (lt-ltb low x.id (omega (arith, ltb-true high x.id e))) o
    go true false e o = absurd (clash (sym o))
    go false u e o = o

keep_ordered : (is : List Field) (last : ℕ) → last ≤ 11 → ordered last is ≡ true → ordered last (mandatory is) ≡ true
keep_ordered =
    by_mandatory (λ is js. (last : ℕ) → last ≤ 11 → ordered last is ≡ true → ordered last js ≡ true) (λ last h o. unfold ordered in refl) keep past
  where
    keep : (x : Field) (xs : List Field) → 1 ≤ listed_length x.id
        → ((last : ℕ) → last ≤ 11 → ordered last xs ≡ true → ordered last (mandatory xs) ≡ true)
        → (last : ℕ) → last ≤ 11 → ordered last (x ∷ xs) ≡ true → ordered last (x ∷ mandatory xs) ≡ true
    keep x xs l ih last h o = unfold ordered in go (leb x.id 11) refl (ltb last x.id) o
      where
        go : (t : Bool) → leb x.id 11 ≡ t → (u : Bool) → cond t (cond u (ordered x.id xs) false) (ordered 11 xs) ≡ true
            → cond t (cond u (ordered x.id (mandatory xs)) false) (ordered 11 (mandatory xs)) ≡ true
        go true e true o = ih x.id (leb-true x.id 11 e) o
        go true e false o = o
        go false e u o = ih 11 (omega arith) o

    past : (x : Field) (xs : List Field) → listed_length x.id ≡ 0
        → ((last : ℕ) → last ≤ 11 → ordered last xs ≡ true → ordered last (mandatory xs) ≡ true)
        → (last : ℕ) → last ≤ 11 → ordered last (x ∷ xs) ≡ true → ordered last (mandatory xs) ≡ true
    past x xs z ih last h o = go (leb x.id 11) refl (ltb last x.id) refl (unfold ordered in o)
      where
        go : (t : Bool) → leb x.id 11 ≡ t → (u : Bool) → ltb last x.id ≡ u
            → cond t (cond u (ordered x.id xs) false) (ordered 11 xs) ≡ true → ordered last (mandatory xs) ≡ true
        go true e true f o =
            let i = ltb-true last x.id f in
            ordered_below last x.id (mandatory xs) (omega arith) (ih x.id (leb-true x.id 11 e) o)
        go true e false f o = absurd (clash (sym o))
        go false e u f o = ordered_below last 11 (mandatory xs) h (ih 11 (omega arith) o)

-- tests that agree on the listed ids agree on the table
every_listed : (p q : ℕ → Bool) → ((i : ℕ) → 1 ≤ listed_length i → p i ≡ q i) → every (λ row. p row.0) listed ≡ every (λ row. q row.0) listed
unfolding every listed length_in
every_listed p q h =
    rw (
      h 1 (omega arith),
      h 2 (omega arith),
      h 3 (omega arith),
      h 4 (omega arith),
      h 5 (omega arith),
      h 6 (omega arith),
      h 7 (omega arith),
      h 8 (omega arith),
      h 9 (omega arith),
      h 10 (omega arith),
      h 11 (omega arith),
      h 18 (omega arith),
    )

same_complete : (is : List Field) → complete (mandatory is) ≡ complete is
unfolding complete
same_complete is = every_listed (λ i. leb 1 (times i (mandatory is))) (λ i. leb 1 (times i is)) (λ i l. ap (λ (n : ℕ). leb 1 n) (same_times i l is))

keep_proper : (is : List Field) → proper is ≡ true → proper (mandatory is) ≡ true
keep_proper is p =
    let q = proper_parts is p in
    let o = keep_ordered is 0 (omega arith) q.order in
    proper_ok (mandatory is) o (keep_fits is q.fit) ∙ le-leb (times 18 (mandatory is)) 1 (let u = q.upload in omega (arith, same_times 18 upload_some is))

-- ---- the twelve

-- the ids after `last`, k of them, and upload_time's
abbrev ids_after : ℕ → ℕ → List ℕ
ids_after zero last = 18 ∷ []
ids_after (suc k) last = suc last ∷ ids_after k (suc last)

abbrev pub ids_of : List Field → List ℕ
ids_of is = map (λ x. x.id) is

upload_alone : (is : List Field) → count_if low is ≡ 0 → times 18 is ≡ 1 → ids_of (mandatory is) ≡ 18 ∷ []
upload_alone [] l t = unfold count_if in absurd (omega arith)
upload_alone (x ∷ xs) l t = go (eqb x.id 18) refl (upload_alone xs)
  where
    go : (u : Bool) → eqb x.id 18 ≡ u → (count_if low xs ≡ 0 → times 18 xs ≡ 1 → ids_of (mandatory xs) ≡ 18 ∷ []) → ids_of (mandatory (x ∷ xs)) ≡ 18 ∷ []
    go true e ih =
        let i = eqb-true x.id 18 e in
        ap ids_of (mandatory_listed x xs (rw i upload_some)
        ∙ ap (λ (l : List Field). x ∷ l) (none_mandatory xs (high x xs l).1 (omega (arith, times_hit 18 x xs i))))
        ∙ ap (λ (j : ℕ). j ∷ []) i
    go false e ih =
        let n = eqb-false x.id 18 e in
        let h = high x xs l in
        ap ids_of (mandatory_other x xs (unlisted x.id h.0 n)) ∙ ih h.1 (omega (arith, times_miss 18 x xs n))

chain_ids : (k last : ℕ) (is : List Field) → last + k ≡ 11 → Chain k last is → times 18 is ≡ 1 → ids_of (mandatory is) ≡ ids_after k last
chain_ids zero last is h c t = upload_alone is c t
chain_ids (suc k) last [] h c t = absurd c
chain_ids (suc k) last (x ∷ xs) h c t =
    let i = c.0 in
    let some = some_length (suc last) (omega arith) (omega arith) in
    let l : 1 ≤ listed_length x.id = rw i (omega arith) in
    let n : (x.id ≡ 18 → ⊥) = (λ z. omega arith) in
    ap ids_of (mandatory_listed x xs l) ∙ rw (i, chain_ids k (suc last) xs (omega arith) c.1 (omega (arith, times_miss 18 x xs n)))

module _ (file : List ℕ) (e : check_items file ≡ 0) where
  -- the items of the short form are the twelve of the table, each once and in its order
  pub short_twelve : ids_of (mandatory (fields_of file)) ≡ map (λ row. row.0) listed
  unfolding listed
  short_twelve =
      let p = passed file e in
      let c = complete_parts (fields_of file) p.proper p.complete in
      chain_ids 11 0 (fields_of file) refl c.chain c.upload

  -- and DATA_END does not refuse them
  pub short_check : check_items (short_entry file) ≡ 0
  short_check =
      let p = passed file e in
      ap check_items (short_file file)
      ∙ file_items (mandatory (fields_of file)) [] (listed_named (mandatory (fields_of file)) (all_listed (fields_of file)))
      ∙ rw (keep_proper (fields_of file) p.proper, same_complete (fields_of file), p.complete)

  -- ---- the long form

  long_is : long_entry file ≡ 170 ∷ 85 ∷ take (length (written (fields_of file))) (drop 2 file)
  long_is =
      let n : header_length file ≡ suc (suc (length (written (fields_of file)))) = omega (arith, passed_size file e) in
      ap (λ (k : ℕ). take k file) n ∙ ap (take (suc (suc (length (written (fields_of file)))))) (marked_front file (passed file e).mark)

  long_walk : walk 0 (drop 2 (long_entry file)) ≡ record { items = fields_of file; whole = true; size = length (written (fields_of file)) }
  long_walk =
      ap (λ (l : List ℕ). walk 0 (drop 2 l)) long_is
      ∙ spelled_walk (fields_of file) (take (length (written (fields_of file))) (drop 2 file))
      (spelled_front (fields_of file) (drop 2 file) (passed_spelled file e))

  long_marked : marked (long_entry file) ≡ true
  long_marked = ap marked long_is ∙ (unfold marked in refl)

  -- THE LAW of the long form's items: they are the file's
  pub long_reads : fields_of (long_entry file) ≡ fields_of file
  long_reads = marked_fields (long_entry file) long_marked ∙ ap (λ (w : Walk). w.items) long_walk

  pub long_check : check_items (long_entry file) ≡ 0
  long_check =
      let p = passed file e in
      passed_check (long_entry file) (record {
        mark = long_marked;
        whole = ap (λ (w : Walk). w.whole) long_walk;
        proper = ap proper long_reads ∙ p.proper;
        complete = ap complete long_reads ∙ p.complete;
      })

  -- ---- both forms

  module _ (long : Bool) where
    -- an entry's items are not refused either, so it begins AA 55 and ends with the end mark
    pub entry_check : check_items (entry_of long file) ≡ 0
    entry_check = rw (entry_passed long file e) (form long)
      where
        form : (b : Bool) → check_items (cond b (long_entry file) (short_entry file)) ≡ 0
        form true = long_check
        form false = short_check

    pub entry_mark : take 2 (entry_of long file) ≡ 170 ∷ 85 ∷ []
    entry_mark = ap (take 2) (marked_front (entry_of long file) (passed (entry_of long file) entry_check).mark)

    -- a mandatory item in it has the file's data
    pub entry_data : (i : ℕ) → 1 ≤ listed_length i → bytes_of i (fields_of (entry_of long file)) ≡ bytes_of i (fields_of file)
    entry_data i l = rw (entry_passed long file e) (form long)
      where
        form : (b : Bool) → bytes_of i (fields_of (cond b (long_entry file) (short_entry file))) ≡ bytes_of i (fields_of file)
        form true = ap (bytes_of i) long_reads
        form false = ap (bytes_of i) (short_reads file) ∙ same_bytes i l (fields_of file)

    -- so upload_time, by which files are paged, is the file's
    pub entry_upload : bytes_of 18 (fields_of (entry_of long file)) ≡ bytes_of 18 (fields_of file)
    entry_upload = entry_data 18 upload_some

-- ---- entries that run on

-- what follows a header changes nothing of it
module _ (file more : List ℕ) (e : check_items file ≡ 0) where
  more_front : file ++ more ≡ 170 ∷ 85 ∷ (drop 2 file ++ more)
  more_front = ap (λ (l : List ℕ). l ++ more) (marked_front file (passed file e).mark)

  more_walk : walk 0 (drop 2 (file ++ more)) ≡ record { items = fields_of file; whole = true; size = length (written (fields_of file)) }
  more_walk =
      ap (λ (l : List ℕ). walk 0 (drop 2 l)) more_front
      ∙ spelled_walk (fields_of file) (drop 2 file ++ more) (spelled_append (fields_of file) (drop 2 file) more (passed_spelled file e))

  more_marked : marked (file ++ more) ≡ true
  more_marked = ap marked more_front ∙ (unfold marked in refl)

  pub more_reads : fields_of (file ++ more) ≡ fields_of file
  more_reads = marked_fields (file ++ more) more_marked ∙ ap (λ (w : Walk). w.items) more_walk

  pub more_size : header_length (file ++ more) ≡ header_length file
  more_size = ap (λ (w : Walk). 2 + w.size) more_walk ∙ sym (passed_size file e)

  pub more_check : check_items (file ++ more) ≡ 0
  more_check =
      let p = passed file e in
      passed_check (file ++ more) (record {
        mark = more_marked;
        whole = ap (λ (w : Walk). w.whole) more_walk;
        proper = ap proper more_reads ∙ p.proper;
        complete = ap complete more_reads ∙ p.complete;
      })

  pub more_long : long_entry (file ++ more) ≡ long_entry file
  more_long = ap (λ (n : ℕ). take n (file ++ more)) more_size ∙ take-append-le (header_length file) file more (header_within file e)

-- an entry is a header and no body
module _ (file : List ℕ) (e : check_items file ≡ 0) (long : Bool) where
  pub entry_whole : header_length (entry_of long file) ≡ length (entry_of long file)
  entry_whole = rw (entry_passed long file e) (form long)
    where
      form : (b : Bool) → header_length (cond b (long_entry file) (short_entry file)) ≡ length (cond b (long_entry file) (short_entry file))
      form true =
          ap (λ (w : Walk). 2 + w.size) (long_walk file e) ∙ sym (long_length file e ∙ passed_size file e)
      form false =
          ap header_length (short_file file)
          ∙ file_length (mandatory (fields_of file)) [] (listed_named (mandatory (fields_of file)) (all_listed (fields_of file)))
          ∙ sym (ap length (short_file file) ∙ ap (λ (l : List ℕ). length (170 ∷ 85 ∷ l)) (append-nil (written (mandatory (fields_of file)))) ∙ (omega arith))

  -- THE LAW of running on: whoever reads the header at the front of entries that run on reads the first of them, and knows where the next begins
  pub entry_first : (more : List ℕ) → long_entry (entry_of long file ++ more) ≡ entry_of long file
  entry_first more =
      let c = entry_check file e long in
      more_long (entry_of long file) more c ∙ take_all (header_length (entry_of long file)) (entry_of long file) (omega (arith, entry_whole))
