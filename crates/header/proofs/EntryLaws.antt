-- Laws on directory entries: where the bytes of the short form stand in the file, how long both forms are, and that both read back. Assumes nothing.
use Rattle.std.proofs.Common.{◌≡◌, ℕ, zero, suc, ◌+◌, ◌-◌, ◌*◌, ◌/◌, ◌%◌, ◌<◌, ◌≤◌, Bool, true, false, cond, eqb, leb, List, [], ◌∷◌, ◌++◌, length, take, drop, sym, refl, ap, ◌∙◌, ap₂, append_assoc, append-nil, arith, length-append, length-drop, length-take-le, take_at, drop_at, eq-eqb, ne_eqb, eqb-true, leb-false}
use lib.Seq.{take-append-add}
use borrow.Author.Tests.{eqb-false}
use Rattle.header.specs.Items.{Field, head_number, walk, marked, fields_of}
use Rattle.header.specs.Header.{listed, every, count_if, times, length_in, listed_length, fits, proper, complete, header_length, check_items, place_from, place_of}
use Rattle.header.specs.Fields.{before}
use Rattle.header.specs.Entries.{item_bytes, items_bytes, mandatory, long_entry, short_entry, entry_of}
use Rattle.header.specs.declared.items.Head.TheVariants.{Broken}
use Rattle.header.proofs.Machine.{clash}
use Rattle.header.proofs.Written.{written}
use Rattle.header.proofs.Spelled.{Spelled, spelled_walk, walk_spelled, spelled_length}
use Rattle.header.proofs.Order.{low, Chain, some_length, length_of, Complete, complete_parts, proper_parts, every_here, chain_length, fit_length, times_hit, times_miss}
use Rattle.header.proofs.Places.{place_inside, place_miss, place_past}

-- ---- a file whose items DATA_END does not refuse, of any bytes

pub record Passed (file : List ℕ) : Type 0 where
  pub mark : marked file ≡ true
  pub whole : (walk 0 (drop 2 file)).whole ≡ true
  pub proper : proper (fields_of file) ≡ true
  pub complete : complete (fields_of file) ≡ true

pub passed : (file : List ℕ) → check_items file ≡ 0 → Passed file
unfolding check_items
passed file e = go (marked file) refl (walk 0 (drop 2 file)).whole refl (proper (fields_of file)) refl (complete (fields_of file)) refl e
  where
    go : (a : Bool) → marked file ≡ a → (b : Bool) → (walk 0 (drop 2 file)).whole ≡ b → (c : Bool) → proper (fields_of file) ≡ c → (d : Bool)
        → complete (fields_of file) ≡ d → cond a (cond b (cond c (cond d 0 6) 14) (head_number Broken)) 7 ≡ 0 → Passed file
    go true m true w true p true c e = record { mark = m; whole = w; proper = p; complete = c }
    go true m true w true p false c e = absurd (omega arith)
    go true m true w false p d c e = absurd (omega arith)
    go true m false w c p d q e = absurd (omega arith)
    go false m b w c p d q e = absurd (omega arith)

pub passed_check : (file : List ℕ) → Passed file → check_items file ≡ 0
unfolding check_items
passed_check file p = rw (p.mark, p.whole, p.proper, p.complete)

-- it begins AA 55
pub marked_front : (file : List ℕ) → marked file ≡ true → file ≡ 170 ∷ 85 ∷ drop 2 file
unfolding marked
marked_front [] e = absurd (clash (sym e))
marked_front (a ∷ []) e = absurd (clash (sym e))
marked_front (a ∷ b ∷ bs) e = go (eqb a 170) refl (eqb b 85) refl e
  where
    go : (t : Bool) → eqb a 170 ≡ t → (u : Bool) → eqb b 85 ≡ u → cond t u false ≡ true → a ∷ b ∷ bs ≡ 170 ∷ 85 ∷ bs
    go true p true q e = rw (eqb-true a 170 p, eqb-true b 85 q)
    go true p false q e = absurd (clash (sym e))
    go false p u q e = absurd (clash (sym e))

pub marked_fields : (file : List ℕ) → marked file ≡ true → fields_of file ≡ (walk 0 (drop 2 file)).items
unfolding fields_of
marked_fields file e = rw e

module _ (file : List ℕ) (e : check_items file ≡ 0) where
  -- its items are spelled behind that
  pub passed_spelled : Spelled (fields_of file) (drop 2 file)
  passed_spelled =
      let p = passed file e in
      rw (marked_fields file p.mark) (walk_spelled (length (drop 2 file)) (drop 2 file) (omega arith) p.whole)

  pub passed_size : header_length file ≡ 2 + length (written (fields_of file))
  passed_size = rw (spelled_walk (fields_of file) (drop 2 file) passed_spelled)

  passed_complete : Complete (fields_of file)
  passed_complete = let p = passed file e in complete_parts (fields_of file) p.proper p.complete

  passed_fit : every fits (fields_of file) ≡ true
  passed_fit = (proper_parts (fields_of file) (passed file e).proper).fit

  -- the header lies within the file
  pub header_within : header_length file ≤ length file
  header_within =
      let f = ap length (marked_front file (passed file e).mark) in
      omega (arith, passed_size, spelled_length (fields_of file) (drop 2 file) passed_spelled)

-- ---- the mandatory items

-- above 0b only upload_time is listed
pub unlisted : (i : ℕ) → 11 < i → (i ≡ 18 → ⊥) → listed_length i ≡ 0
unfolding listed length_in
unlisted i h n =
    rw (
      ne_eqb i 1 (λ z. omega arith),
      ne_eqb i 2 (λ z. omega arith),
      ne_eqb i 3 (λ z. omega arith),
      ne_eqb i 4 (λ z. omega arith),
      ne_eqb i 5 (λ z. omega arith),
      ne_eqb i 6 (λ z. omega arith),
      ne_eqb i 7 (λ z. omega arith),
      ne_eqb i 8 (λ z. omega arith),
      ne_eqb i 9 (λ z. omega arith),
      ne_eqb i 10 (λ z. omega arith),
      ne_eqb i 11 (λ z. omega arith),
      ne_eqb i 18 n,
    )

pub upload_listed : listed_length 18 ≡ 4
unfolding listed length_in
upload_listed = refl

module _ (x : Field) (xs : List Field) where
  pub mandatory_listed : 1 ≤ listed_length x.id → mandatory (x ∷ xs) ≡ x ∷ mandatory xs
  unfolding mandatory
  mandatory_listed h = rw (ne_eqb (listed_length x.id) 0 (λ z. omega arith))

  pub mandatory_other : listed_length x.id ≡ 0 → mandatory (x ∷ xs) ≡ mandatory xs
  unfolding mandatory
  mandatory_other h = rw (eq-eqb (listed_length x.id) 0 h)

  -- an item above 0b
  pub high : count_if low (x ∷ xs) ≡ 0 → (11 < x.id) × (count_if low xs ≡ 0)
  unfolding count_if
  high e = go (leb x.id 11) refl e
    where
      go : (t : Bool) → leb x.id 11 ≡ t → cond t 1 0 + count_if low xs ≡ 0 → (11 < x.id) × (count_if low xs ≡ 0)
      go true p e = absurd (omega arith)
      go false p e = (leb-false x.id 11 p, omega arith)

-- where neither one of 01 to 0b nor upload_time is
pub none_mandatory : (is : List Field) → count_if low is ≡ 0 → times 18 is ≡ 0 → mandatory is ≡ []
none_mandatory [] l t = unfold mandatory in refl
none_mandatory (x ∷ xs) l t =
    let h = high x xs l in
    let n : (x.id ≡ 18 → ⊥) = (λ z. omega (arith, times_hit 18 x xs z)) in
    mandatory_other x xs (unlisted x.id h.0 n) ∙ none_mandatory xs h.1 (omega (arith, times_miss 18 x xs n))

-- an item with a small id: the two bytes that stand for the id are the id's own
own_bytes : (x : Field) (a b : ℕ) (rest : List ℕ)
    → x.id ≡ a + 256 * b
    → x.id < 256
    → item_bytes x ++ rest ≡ a ∷ b ∷ length x.bytes ∷ (x.bytes ++ rest)
own_bytes x a b rest e h =
    let p : x.id % 256 ≡ a = omega arith in
    let q : x.id / 256 % 256 ≡ b = omega arith in
    ap₂ (λ (c d : ℕ). c ∷ d ∷ length x.bytes ∷ (x.bytes ++ rest)) p q

place_hit : (i at : ℕ) (x : Field) (xs : List Field) → x.id ≡ i → (place_from i at (x ∷ xs)).at ≡ at + 3
unfolding place_from
place_hit i at x xs e = rw (eq-eqb x.id i e)

-- ---- the short form's bytes in the file

-- upload_time's item, where none of 01 to 0b is left
upload_bytes : (at : ℕ) (is : List Field) (pre bs : List ℕ)
    → length pre ≡ at
    → Spelled is bs
    → count_if low is ≡ 0
    → times 18 is ≡ 1
    → every fits is ≡ true
    → items_bytes (mandatory is) ≡ take 7 (drop ((place_from 18 at is).at - 3) (pre ++ bs))
unfolding items_bytes
upload_bytes at [] pre bs l s w t f = unfold count_if in absurd (omega arith)
upload_bytes at (x ∷ xs) pre bs l s w t f =
    go (eqb x.id 18) refl
    (upload_bytes (at + (3 + length x.bytes)) xs (pre ++ (s.0 ∷ s.1 ∷ length x.bytes ∷ x.bytes)) s.2)
  where
    go : (u : Bool)
        → eqb x.id 18 ≡ u
        → (length (pre ++ (s.0 ∷ s.1 ∷ length x.bytes ∷ x.bytes)) ≡ at + (3 + length x.bytes)
        → Spelled xs s.2
        → count_if low xs ≡ 0
        → times 18 xs ≡ 1
        → every fits xs ≡ true
        → items_bytes (mandatory xs)
        ≡ take 7 (drop ((place_from 18 (at + (3 + length x.bytes)) xs).at - 3) ((pre ++ (s.0 ∷ s.1 ∷ length x.bytes ∷ x.bytes)) ++ s.2)))
        → items_bytes (mandatory (x ∷ xs)) ≡ take 7 (drop ((place_from 18 at (x ∷ xs)).at - 3) (pre ++ bs))
    go true e ih =
        let i = eqb-true x.id 18 e in
        let n : listed_length x.id ≡ 4 = rw i upload_listed in
        let m : mandatory (x ∷ xs) ≡ x ∷ [] =
        mandatory_listed x xs (omega arith) ∙ ap (λ (l : List Field). x ∷ l) (none_mandatory xs (high x xs w).1 (omega (arith, times_hit 18 x xs i))) in
        let k : length x.bytes ≡ 4 = fit_length x 18 3 i upload_listed (every_here x xs f).0 in
        let p : (place_from 18 at (x ∷ xs)).at - 3 ≡ at = omega (arith, place_hit 18 at x xs i) in
        ap items_bytes m ∙ own_bytes x s.0 s.1 [] s.4 (omega arith)
        ∙ ap (λ (l : List ℕ). s.0 ∷ s.1 ∷ length x.bytes ∷ l) (append-nil x.bytes ∙ sym (take_at x.bytes s.2 4 k))
        ∙ sym (rw (p, drop_at pre bs at l, s.3))
    go false e ih =
        let n = eqb-false x.id 18 e in
        let h = high x xs w in
        let k : length (pre ++ (s.0 ∷ s.1 ∷ length x.bytes ∷ x.bytes)) ≡ at + (3 + length x.bytes) = rw length-append (omega arith) in
        let again : (pre ++ (s.0 ∷ s.1 ∷ length x.bytes ∷ x.bytes)) ++ s.2 ≡ pre ++ bs = rw (append_assoc, s.3) in
        ap items_bytes (mandatory_other x xs (unlisted x.id h.0 n))
        ∙ ih k s.6 h.1 (omega (arith, times_miss 18 x xs n)) (every_here x xs f).1
        ∙ rw (again, place_miss 18 at x xs n)

-- 01 to 0b from the front on, and upload_time's item
chain_bytes : (k last at : ℕ) (is : List Field) (pre bs : List ℕ)
    → last + k ≡ 11
    → length pre ≡ at
    → Spelled is bs
    → Chain k last is
    → times 18 is ≡ 1
    → every fits is ≡ true
    → items_bytes (mandatory is) ≡ take (before k last) bs ++ take 7 (drop ((place_from 18 at is).at - 3) (pre ++ bs))
unfolding items_bytes before
chain_bytes zero last at is pre bs h l s c t f = upload_bytes at is pre bs l s c t f
chain_bytes (suc k) last at [] pre bs h l s c t f = absurd c
chain_bytes (suc k) last at (x ∷ xs) pre bs h l s c t f =
    let i = c.0 in
    let g = every_here x xs f in
    let n = chain_length x last k h i g.0 in
    let e : (x.id ≡ 18 → ⊥) = (λ z. omega arith) in
    let mid : List ℕ = s.0 ∷ s.1 ∷ length x.bytes ∷ x.bytes in
    let m : length (pre ++ mid) ≡ at + (3 + length x.bytes) = rw length-append (omega arith) in
    let again : (pre ++ mid) ++ s.2 ≡ pre ++ bs = rw (append_assoc, s.3) in
    let r = chain_bytes k (suc last) (at + (3 + length x.bytes)) xs (pre ++ mid) s.2 (omega arith) m s.6 c.1
    (omega (arith, times_miss 18 x xs e)) g.1 in
    let some = some_length (suc last) (omega arith) (omega arith) in
    let j : 1 ≤ listed_length x.id = rw i (omega arith) in
    let q : 3 + listed_length (suc last) + before k (suc last) ≡ suc (suc (suc (length x.bytes + before k (suc last)))) = omega arith in
    let tail : List ℕ = take 7 (drop ((place_from 18 at (x ∷ xs)).at - 3) (pre ++ bs)) in
    let r' : items_bytes (mandatory xs) ≡ take (before k (suc last)) s.2 ++ tail = r ∙ rw (again, place_miss 18 at x xs e) in
    let front : take (3 + listed_length (suc last) + before k (suc last)) bs
    ≡ s.0 ∷ s.1 ∷ length x.bytes ∷ (x.bytes ++ take (before k (suc last)) s.2) =
    ap₂ (λ (m : ℕ) (l : List ℕ). take m l) q s.3 ∙ rw (take-append-add x.bytes s.2 (before k (suc last))) in
    ap items_bytes (mandatory_listed x xs j) ∙ own_bytes x s.0 s.1 (items_bytes (mandatory xs)) s.4 (omega arith)
    ∙ ap (λ (l : List ℕ). s.0 ∷ s.1 ∷ length x.bytes ∷ (x.bytes ++ l)) r'
    ∙ ap (λ (l : List ℕ). s.0 ∷ s.1 ∷ length x.bytes ∷ l) (sym (append_assoc x.bytes (take (before k (suc last)) s.2) tail))
    ∙ ap (λ (l : List ℕ). l ++ tail) (sym front)

before_upload_law : before 11 0 ≡ 68
unfolding before listed length_in
before_upload_law = refl

-- upload_time's item stands behind 01 to 0b and before the end mark
pub record Uploaded (file : List ℕ) : Type 0 where
  pub after : 73 ≤ (place_of 18 file).at
  pub within : (place_of 18 file).at + 7 ≤ header_length file

module _ (file : List ℕ) (e : check_items file ≡ 0) where
  pub uploaded : Uploaded file
  uploaded =
      let is : List Field = fields_of file in
      let c = passed_complete file e in
      let u = c.upload in
      let t : 1 ≤ times 18 is = omega arith in
      let i = place_inside 18 2 is t in
      let w = i.within in
      let n = length_of 18 3 is upload_listed (passed_fit file e) t in
      let s = passed_size file e in
      let p = place_past 11 0 18 2 is refl (omega arith) c.chain (passed_fit file e) t in
      let b = before_upload_law in
      record { after = omega arith; within = omega arith }

  -- THE LAW of the short form: the first 70 bytes of the file, the 7 of upload_time's item, and the end mark
  pub short_is : short_entry file ≡ take 70 file ++ (take 7 (drop ((place_of 18 file).at - 3) file) ++ 0 ∷ 0 ∷ 0 ∷ [])
  short_is =
      let is : List Field = fields_of file in
      let bs : List ℕ = drop 2 file in
      let c = passed_complete file e in
      let m = marked_front file (passed file e).mark in
      let k : items_bytes (mandatory is) ≡ take 68 bs ++ take 7 (drop ((place_from 18 2 is).at - 3) file) =
      chain_bytes 11 0 2 is (170 ∷ 85 ∷ []) bs refl refl (passed_spelled file e) c.chain c.upload (passed_fit file e)
      ∙ ap₂ (λ (n : ℕ) (l : List ℕ). take n bs ++ take 7 (drop ((place_from 18 2 is).at - 3) l)) before_upload_law (sym m) in
      let front : take 70 file ≡ 170 ∷ 85 ∷ take 68 bs = ap (take 70) m in
      ap (λ (l : List ℕ). 170 ∷ 85 ∷ (l ++ 0 ∷ 0 ∷ 0 ∷ [])) k
      ∙ ap (λ (l : List ℕ). 170 ∷ 85 ∷ l) (append_assoc (take 68 bs) (take 7 (drop ((place_from 18 2 is).at - 3) file)) (0 ∷ 0 ∷ 0 ∷ []))
      ∙ ap (λ (l : List ℕ). l ++ (take 7 (drop ((place_of 18 file).at - 3) file) ++ 0 ∷ 0 ∷ 0 ∷ [])) (sym front)

  -- the mandatory items alone are 80 bytes, and no header has fewer
  pub header_least : 80 ≤ header_length file
  header_least = let u = uploaded in omega (arith, u.after, u.within)

  pub short_length : length (short_entry file) ≡ 80
  short_length =
      let u = uploaded in
      let a = u.after in
      let b = u.within in
      let h = header_within file e in
      let p : length (take 70 file) ≡ 70 = length-take-le 70 file (omega arith) in
      let q : length (take 7 (drop ((place_of 18 file).at - 3) file)) ≡ 7 =
      length-take-le 7 (drop ((place_of 18 file).at - 3) file) (rw length-drop (omega arith)) in
      ap length short_is ∙ rw (length-append, length-append, p, q)

  pub long_length : length (long_entry file) ≡ header_length file
  long_length = length-take-le (header_length file) file (header_within file e)

-- ---- the entry of any file

module _ (long : Bool) (file : List ℕ) where
  pub entry_passed : check_items file ≡ 0 → entry_of long file ≡ cond long (long_entry file) (short_entry file)
  unfolding entry_of
  entry_passed e = rw (eq-eqb (check_items file) 0 e)

  pub entry_refused : (check_items file ≡ 0 → ⊥) → entry_of long file ≡ []
  unfolding entry_of
  entry_refused n = rw (ne_eqb (check_items file) 0 n)

  -- no entry is longer than its file
  pub entry_within : length (entry_of long file) ≤ length file
  entry_within = go (eqb (check_items file) 0) refl
    where
      go : (t : Bool) → eqb (check_items file) 0 ≡ t → length (entry_of long file) ≤ length file
      go false f = rw (entry_refused (eqb-false (check_items file) 0 f)) (omega arith)
      go true f =
          let e = eqb-true (check_items file) 0 f in
          let h = header_within file e in
          let l = header_least file e in
          rw (entry_passed e) (form long (omega (arith, long_length file e)) (omega (arith, short_length file e)))
        where
          form : (b : Bool) → length (long_entry file) ≤ length file → length (short_entry file) ≤ length file
              → length (cond b (long_entry file) (short_entry file)) ≤ length file
          form true x y = x
          form false x y = y

  -- an entry of a file that DATA_END accepted is never empty
  pub entry_least : check_items file ≡ 0 → 80 ≤ length (entry_of long file)
  entry_least e =
      let l = header_least file e in
      rw (entry_passed e) (form long (omega (arith, long_length file e)) (omega (arith, short_length file e)))
    where
      form : (b : Bool) → 80 ≤ length (long_entry file) → 80 ≤ length (short_entry file) → 80 ≤ length (cond b (long_entry file) (short_entry file))
      form true x y = x
      form false x y = y
