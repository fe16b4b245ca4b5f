-- Laws on the fields that the server sets: where they are, that they read back, and that the file is still accepted. Assumes nothing.
use Rattle.std.proofs.Common.{◌≡◌, ℕ, zero, suc, ◌+◌, ◌-◌, ◌%◌, ◌<◌, ◌≤◌, Bool, true, false, cond, eqb, ltb, leb, ◌⊎◌, List, [], ◌∷◌, ◌++◌, length, get_or, take, drop, set, replicate, Result, Ok, Err, sym, refl, ap, ◌∙◌, subst, ap₂, ⊎_elim, arith, length-append, get_or-set_other, ltb-false, ltb-true, eq-eqb, ne_eqb, eqb-true, leb-true}
use lib.Seq.{sets, length-sets, take-append_seam}
use borrow.Author.Tests.{eqb-false}
use Rattle.numbers.specs.Numbers.{number, two, four, stored_at}
use Rattle.numbers.specs.Hex.{eight}
use Rattle.numbers.proofs.NumberLaws.{number_two, number_four, stored_at_law}
use Rattle.numbers.proofs.HexLaws.{digit_byte}
use Rattle.header.specs.Items.{Field, fields_of}
use Rattle.header.specs.Header.{listed, every, times, bytes_of, length_in, listed_length, proper, complete, sum_of, header_length, header_sum, check_items, check_values, verdict, place_from, place_of, header_of, refused_with}
use Rattle.header.specs.Fields.{server_set, with_fields, with_sum, fields_set, before, place_in, row_of, row_at, Settable}
use Rattle.header.specs.declared.fields.FieldRow.{FieldRow}
use Rattle.header.specs.declared.scan.Place.{Place}
use Rattle.header.specs.declared.scan.Header.{Header}
use Rattle.header.proofs.Written.{Bytes, written, Named}
use Rattle.header.proofs.Order.{complete_parts, proper_parts, length_of, place_chain}
use Rattle.header.proofs.Values.{sum_of_law}
use Rattle.header.proofs.Verdict.{Shape, shape, no_mark, no_end, header, file_of, file_fields, file_length, file_header, file_body, file_items, file_sum, passed_both}
use Rattle.header.proofs.Places.{place_inside, place_data}
use Rattle.header.proofs.Replace.{with_bytes, Alike, alike_self, alike_trans, alike_count, alike_place, alike_named, alike_written, alike_bytes, alike_proper, alike_complete, alike_with, with_same, with_other, with_own, with_sum_law, place_store}

-- ---- a file whose items DATA_END does not refuse

pub record Parts (file : List ℕ) : Type 0 where
  pub is : List Field
  pub rest : List ℕ
  pub named : Named is
  pub split : file ≡ file_of is rest
  pub proper : proper is ≡ true
  pub complete : complete is ≡ true

no : (n k : ℕ) → suc n ≡ k → k ≡ 0 → ⊥
no n k e f = omega arith

parts_of_law : (file : List ℕ) → check_items file ≡ 0 → Shape 0 file → Parts file
parts_of_law file e (no_mark m u) = let k : check_items file ≡ 7 = unfold check_items in rw m in absurd (no 6 (check_items file) (sym k) e)
parts_of_law file e (no_end m t s) = let k : check_items file ≡ 14 = unfold check_items in rw (m, t) in absurd (no 13 (check_items file) (sym k) e)
parts_of_law file e (header is rest named f s) =
    let p = passed_both is (check_items (file_of is rest)) (sym (file_items is rest named)) (sym (ap check_items f) ∙ e) in
    record { is = is; rest = rest; named = named; split = f; proper = p.0; complete = p.1 }

pub parts : (file : List ℕ) → Bytes file → check_items file ≡ 0 → Parts file
parts file v e = parts_of_law file e (shape 0 file v)

-- what holds of each such file as written holds of each such file
by_parts : (P : List ℕ → Type 0)
    → ((is : List Field) (rest : List ℕ) → Named is → proper is ≡ true → complete is ≡ true → P (file_of is rest))
    → (file : List ℕ)
    → Bytes file
    → check_items file ≡ 0
    → P file
by_parts P f file v e =
    let q = parts file v e in subst P (sym q.split) (f q.is q.rest q.named q.proper q.complete)

-- ---- rows of fields

-- the row's item is there, and its data as long as the row's
abbrev pub Fits : List Field → Field → Type 0
Fits is row = (1 ≤ times row.id is) × (length row.bytes ≡ length (bytes_of row.id is))

abbrev pub AllFit : List Field → List Field → Type 0
AllFit is [] = Unit {0}
AllFit is (row ∷ rows) = Fits is row × AllFit is rows

pub alike_fits : (i n : ℕ) (is js : List Field) → Alike is js → (1 ≤ times i js) × (n ≡ length (bytes_of i js)) → (1 ≤ times i is) × (n ≡ length (bytes_of i is))
alike_fits i n is js a f = (rw (alike_count (λ k. eqb k i) is js a) f.0, f.1 ∙ sym (alike_bytes i is js a))

pub alike_fit : (is js rows : List Field) → Alike is js → AllFit js rows → AllFit is rows
alike_fit is js [] a f = tt
alike_fit is js (row ∷ rows) a f = (alike_fits row.id (length row.bytes) is js a f.0, alike_fit is js rows a f.1)

unfoldable pub items_with : List Field → List Field → List Field
items_with [] is = is
items_with (row ∷ rows) is = items_with rows (with_bytes row.id row.bytes is)

pub alike_rows : (rows is : List Field) → AllFit is rows → Alike (items_with rows is) is
unfolding items_with
alike_rows [] is f = alike_self is
alike_rows (row ∷ rows) is f =
    let js : List Field = with_bytes row.id row.bytes is in
    let a = alike_with row.id row.bytes is f.0.1 in
    alike_trans (items_with rows js) js is (alike_rows rows js (alike_fit js is rows a f.1)) a

store_row : (i : ℕ) (bs : List ℕ) (is : List Field) (rest : List ℕ)
    → Named is
    → 1 ≤ times i is
    → length bs ≡ length (bytes_of i is)
    → sets (file_of is rest) (place_of i (file_of is rest)).at bs ≡ file_of (with_bytes i bs is) rest
store_row i bs is rest n h l = rw (file_fields is rest n) (place_store i 2 bs is (170 ∷ 85 ∷ []) rest refl h l)

store_rows : (rows is : List Field) (rest : List ℕ) → Named is → AllFit is rows → with_fields rows (file_of is rest) ≡ file_of (items_with rows is) rest
unfolding items_with with_fields
store_rows [] is rest n f = refl
store_rows (row ∷ rows) is rest n f =
    let js : List Field = with_bytes row.id row.bytes is in
    let a = alike_with row.id row.bytes is f.0.1 in
    ap (with_fields rows) (store_row row.id row.bytes is rest n f.0.0 f.0.1)
    ∙ store_rows rows js rest (alike_named js is a n) (alike_fit js is rows a f.1)

-- the rows stored at the places that the file as it was gives them
unfoldable pub stored_rows : List Field → List ℕ → List ℕ → List ℕ
stored_rows [] file now = now
stored_rows (row ∷ rows) file now = stored_rows rows file (sets now (place_of row.id file).at row.bytes)

alike_placed : (i : ℕ) (js is : List Field) (rest : List ℕ) → Named is → Alike js is → place_of i (file_of js rest) ≡ place_of i (file_of is rest)
alike_placed i js is rest n a =
    ap (place_from i 2) (file_fields js rest (alike_named js is a n)) ∙ alike_place i 2 js is a ∙ sym (ap (place_from i 2) (file_fields is rest n))

stored_rows_law : (rows js is : List Field) (rest : List ℕ)
    → Named is
    → Alike js is
    → AllFit js rows
    → with_fields rows (file_of js rest) ≡ stored_rows rows (file_of is rest) (file_of js rest)
unfolding with_fields stored_rows
stored_rows_law [] js is rest n a f = refl
stored_rows_law (row ∷ rows) js is rest n a f =
    let ks : List Field = with_bytes row.id row.bytes js in
    let b = alike_with row.id row.bytes js f.0.1 in
    let h : sets (file_of js rest) (place_of row.id (file_of js rest)).at row.bytes ≡ file_of ks rest =
    store_row row.id row.bytes js rest (alike_named js is a n) f.0.0 f.0.1 in
    let o : sets (file_of js rest) (place_of row.id (file_of is rest)).at row.bytes ≡ file_of ks rest =
    ap (λ (p : Place). sets (file_of js rest) p.at row.bytes) (sym (alike_placed row.id js is rest n a)) ∙ h in
    ap (with_fields rows) h ∙ stored_rows_law rows ks is rest n (alike_trans ks js is b a) (alike_fit ks js rows b f.1)
    ∙ sym (ap (stored_rows rows (file_of is rest)) o)

-- the data of the rows' items, and of the others
abbrev pub NotIn : ℕ → List Field → Type 0
NotIn j [] = Unit {0}
NotIn j (row ∷ rows) = (j ≡ row.id → ⊥) × NotIn j rows

abbrev pub Distinct : List Field → Type 0
Distinct [] = Unit {0}
Distinct (row ∷ rows) = NotIn row.id rows × Distinct rows

abbrev pub AllThere : List Field → List Field → Type 0
AllThere is [] = Unit {0}
AllThere is (row ∷ rows) = (bytes_of row.id is ≡ row.bytes) × AllThere is rows

rows_other : (j : ℕ) (rows is : List Field) → NotIn j rows → bytes_of j (items_with rows is) ≡ bytes_of j is
unfolding items_with
rows_other j [] is f = refl
rows_other j (row ∷ rows) is f =
    rows_other j rows (with_bytes row.id row.bytes is) f.1 ∙ with_other row.id j row.bytes is f.0

pub rows_data : (rows is : List Field) → AllFit is rows → Distinct rows → AllThere (items_with rows is) rows
unfolding items_with
rows_data [] is f d = tt
rows_data (row ∷ rows) is f d =
    let js : List Field = with_bytes row.id row.bytes is in
    let a = alike_with row.id row.bytes is f.0.1 in
    (rows_other row.id rows js d.0 ∙ with_same row.id row.bytes is f.0.0, rows_data rows js (alike_fit js is rows a f.1) d.1)

there_with : (i : ℕ) (bs : List ℕ) (is rows : List Field) → NotIn i rows → AllThere is rows → AllThere (with_bytes i bs is) rows
there_with i bs is [] n f = tt
there_with i bs is (row ∷ rows) n f =
    (with_other i row.id bs is (λ e. n.0 (sym e)) ∙ f.0, there_with i bs is rows n.1 f.1)

-- rows that are there already change nothing
rows_there : (rows is : List Field) → AllThere is rows → items_with rows is ≡ is
unfolding items_with
rows_there [] is f = refl
rows_there (row ∷ rows) is f = ap (items_with rows) (with_own row.id row.bytes is f.0) ∙ rows_there rows is f.1

-- ---- rows that can be set

-- the row's item is mandatory and not header_checksum, and the row has as many bytes as the item's listed length
unfoldable pub fit_row : Field → Bool
fit_row row =
    cond (eqb row.id 10) false (cond (eqb (length row.bytes) 0) false (eqb (listed_length row.id) (length row.bytes)))

-- no row has the id
unfoldable pub absent : ℕ → List Field → Bool
absent j [] = true
absent j (row ∷ rows) = cond (eqb j row.id) false (absent j rows)

-- each row is such a row, and no two have the same id
unfoldable pub settable : List Field → Bool
settable [] = true
settable (row ∷ rows) = cond (fit_row row) (cond (absent row.id rows) (settable rows) false) false

-- the server's rows can be set
pub server_rows : (n t : ℕ) → settable (server_set n t) ≡ true
unfolding settable fit_row absent listed length_in
server_rows n t = refl

clash : {A : Type 0} → false ≡ true → A
clash e = absurd (let z : ◌≡◌ {A = ℕ} 0 1 = cc e in omega arith)

record Mandatory (row : Field) : Type 0 where
  listed_size : listed_length row.id ≡ length row.bytes
  some : 1 ≤ length row.bytes
  no_sum : row.id ≡ 10 → ⊥

mandatory : (row : Field) → fit_row row ≡ true → Mandatory row
unfolding fit_row
mandatory row e = go (eqb row.id 10) refl (eqb (length row.bytes) 0) refl e
  where
    go : (a : Bool) → eqb row.id 10 ≡ a → (b : Bool) → eqb (length row.bytes) 0 ≡ b
        → cond a false (cond b false (eqb (listed_length row.id) (length row.bytes))) ≡ true
        → Mandatory row
    go true p b q e = clash e
    go false p true q e = clash e
    go false p false q e =
        let z = eqb-false (length row.bytes) 0 q in
        record {
          listed_size = eqb-true (listed_length row.id) (length row.bytes) e;
          some = positive (length row.bytes) z;
          no_sum = eqb-false row.id 10 p;
        }
      where
        positive : (n : ℕ) → (n ≡ 0 → ⊥) → 1 ≤ n
        positive zero z = absurd (z refl)
        positive (suc n) z = omega arith

absent_in : (j : ℕ) (rows : List Field) → absent j rows ≡ true → NotIn j rows
unfolding absent
absent_in j [] e = tt
absent_in j (row ∷ rows) e = go (eqb j row.id) refl e (absent_in j rows)
  where
    go : (a : Bool) → eqb j row.id ≡ a → cond a false (absent j rows) ≡ true → (absent j rows ≡ true → NotIn j rows) → (j ≡ row.id → ⊥) × NotIn j rows
    go true p e ih = clash e
    go false p e ih = (eqb-false j row.id p, ih e)

record Can (row : Field) (rows : List Field) : Type 0 where
  fit : Mandatory row
  apart : NotIn row.id rows
  rest : settable rows ≡ true

can : (row : Field) (rows : List Field) → settable (row ∷ rows) ≡ true → Can row rows
unfolding settable
can row rows e = go (fit_row row) refl (absent row.id rows) refl e
  where
    go : (a : Bool) → fit_row row ≡ a → (b : Bool) → absent row.id rows ≡ b → cond a (cond b (settable rows) false) false ≡ true → Can row rows
    go true p true q e = record { fit = mandatory row p; apart = absent_in row.id rows q; rest = e }
    go true p false q e = clash e
    go false p b q e = clash e

pub rows_distinct : (rows : List Field) → settable rows ≡ true → Distinct rows
rows_distinct [] e = tt
rows_distinct (row ∷ rows) e = let q = can row rows e in (q.apart, rows_distinct rows q.rest)

rows_no_sum : (rows : List Field) → settable rows ≡ true → NotIn 10 rows
rows_no_sum [] e = tt
rows_no_sum (row ∷ rows) e = let q = can row rows e in ((λ z. q.fit.no_sum (sym z)), rows_no_sum rows q.rest)

-- a listed item is among those that are there
listed_times : (is : List Field) (rows : List (ℕ × ℕ)) (i k : ℕ)
    → every (λ row. leb 1 (times row.0 is)) rows ≡ true
    → length_in rows i ≡ suc k
    → 1 ≤ times i is
unfolding every length_in
listed_times is [] i k e l = absurd (omega arith)
listed_times is (row ∷ rows) i k e l = go (leb 1 (times row.0 is)) refl (eqb i row.0) refl e l (listed_times is rows i k)
  where
    go : (a : Bool) → leb 1 (times row.0 is) ≡ a → (b : Bool) → eqb i row.0 ≡ b
        → cond a (every (λ row. leb 1 (times row.0 is)) rows) false ≡ true
        → cond b row.1 (length_in rows i) ≡ suc k
        → (every (λ row. leb 1 (times row.0 is)) rows ≡ true → length_in rows i ≡ suc k → 1 ≤ times i is)
        → 1 ≤ times i is
    go true p true q e l ih = rw (eqb-true i row.0 q) (leb-true 1 (times row.0 is) p)
    go true p false q e l ih = ih e l
    go false p b q e l ih = clash e

-- a listed item is there, with the listed length
listed_there : (is : List Field) (i n : ℕ)
    → proper is ≡ true
    → complete is ≡ true
    → listed_length i ≡ n
    → 1 ≤ n
    → (1 ≤ times i is) × (n ≡ length (bytes_of i is))
unfolding complete
listed_there is i zero p c l h = absurd (omega arith)
listed_there is i (suc k) p c l h =
    let t = listed_times is listed i k c l in (t, sym (length_of i k is l (proper_parts is p).fit t))

pub rows_fit_in : (rows is : List Field) → settable rows ≡ true → proper is ≡ true → complete is ≡ true → AllFit is rows
rows_fit_in [] is e p c = tt
rows_fit_in (row ∷ rows) is e p c =
    let q = can row rows e in
    (listed_there is row.id (length row.bytes) p c q.fit.listed_size q.fit.some, rows_fit_in rows is q.rest p c)

-- ---- the checks by the items

file_values : (is : List Field) (rest : List ℕ) → Named is → (announced : ℕ)
    → check_values (file_of is rest) announced
    ≡ cond (eqb (number (bytes_of 11 is)) (2 + length (written is)))
    (cond (eqb (number (bytes_of 4 is)) announced)
    (cond (eqb (header_sum (file_of is rest)) (number (bytes_of 10 is))) (cond (eqb (sum_of rest % 65536) (number (bytes_of 9 is))) 0 16) 15)
    14)
    14
unfolding check_values
file_values is rest m announced = rw (file_length is rest m, file_body is rest m, file_fields is rest m)

-- the four tests that none of 14, 15 and 16 is given by
values_parts : (a b c d : Bool)
    → ◌≡◌ {A = ℕ} (cond a (cond b (cond c (cond d 0 16) 15) 14) 14) 0
    → (a ≡ true) × (b ≡ true) × (d ≡ true)
values_parts true true true true e = (refl, refl, refl)
values_parts true true true false e = absurd (omega arith)
values_parts true true false d e = absurd (omega arith)
values_parts true false c d e = absurd (omega arith)
values_parts false b c d e = absurd (omega arith)

value_tests : (is : List Field) (rest : List ℕ)
    → Named is
    → (announced : ℕ)
    → check_values (file_of is rest) announced ≡ 0
    → (eqb (number (bytes_of 11 is)) (2 + length (written is)) ≡ true)
    × (eqb (number (bytes_of 4 is)) announced ≡ true)
    × (eqb (sum_of rest % 65536) (number (bytes_of 9 is)) ≡ true)
value_tests is rest m announced e =
    values_parts
    (eqb (number (bytes_of 11 is)) (2 + length (written is)))
    (eqb (number (bytes_of 4 is)) announced)
    (eqb (header_sum (file_of is rest)) (number (bytes_of 10 is)))
    (eqb (sum_of rest % 65536) (number (bytes_of 9 is)))
    (sym (file_values is rest m announced) ∙ e)

values_join : (a b c d : Bool)
    → a ≡ true
    → b ≡ true
    → c ≡ true
    → d ≡ true
    → ◌≡◌ {A = ℕ} (cond a (cond b (cond c (cond d 0 16) 15) 14) 14) 0
values_join a b c d e f g h = rw (e, f, g, h)

pub verdict_parts : (file : List ℕ) (announced : ℕ)
    → verdict file announced ≡ 0
    → (ltb (length file) announced ≡ false) × (check_items file ≡ 0) × (check_values file announced ≡ 0)
unfolding verdict
verdict_parts file announced e = go (ltb (length file) announced) (eqb (check_items file) 0) refl e
  where
    go : (a b : Bool)
        → eqb (check_items file) 0 ≡ b
        → cond a 16 (cond b (check_values file announced) (check_items file)) ≡ 0
        → (a ≡ false) × (check_items file ≡ 0) × (check_values file announced ≡ 0)
    go true b f e = absurd (omega arith)
    go false true f e = (refl, eqb-true (check_items file) 0 f, e)
    go false false f e = absurd (eqb-false (check_items file) 0 f e)

pub verdict_join : (file : List ℕ) (announced : ℕ)
    → ltb (length file) announced ≡ false
    → check_items file ≡ 0
    → check_values file announced ≡ 0
    → verdict file announced ≡ 0
unfolding verdict
verdict_join file announced a b c = rw (a, b) c

-- items alike are refused alike
alike_check : (is js : List Field) (rest : List ℕ) → Named js → Alike is js → check_items (file_of is rest) ≡ check_items (file_of js rest)
alike_check is js rest n a =
    file_items is rest (alike_named is js a n) ∙ rw (alike_proper is js a, alike_complete is js a) (sym (file_items js rest n))

-- ---- the fields set

pub sum_there : (is : List Field) → proper is ≡ true → complete is ≡ true → (1 ≤ times 10 is) × (2 ≡ length (bytes_of 10 is))
unfolding listed length_in
sum_there is p c = listed_there is 10 2 p c refl (omega arith)

module _ (n t : ℕ) (is : List Field) (rest : List ℕ) (named : Named is) (p : proper is ≡ true) (c : complete is ≡ true) where
  rows_fit : AllFit is (server_set n t)
  rows_fit = rows_fit_in (server_set n t) is (server_rows n t) p c

  -- the items with the given fields, and with the sum too
  abbrev given : List Field
  given = items_with (server_set n t) is

  abbrev own : ℕ
  own = header_sum (file_of given rest)

  abbrev final : List Field
  final = with_bytes 10 (two own) given

  given_alike : Alike given is
  given_alike = alike_rows (server_set n t) is rows_fit

  sum_fit : (1 ≤ times 10 given) × (2 ≡ length (bytes_of 10 given))
  sum_fit = alike_fits 10 2 given is given_alike (sum_there is p c)

  final_alike : Alike final is
  final_alike = alike_trans final given is (alike_with 10 (two own) given sum_fit.1) given_alike

  given_named : Named given
  given_named = alike_named given is given_alike named

  final_named : Named final
  final_named = alike_named final is final_alike named

  given_file : with_fields (server_set n t) (file_of is rest) ≡ file_of given rest
  given_file = store_rows (server_set n t) is rest named rows_fit

  passes : check_items (file_of is rest) ≡ 0
  passes = file_items is rest named ∙ rw (p, c)

  sum_stored : fields_set n t (file_of is rest) ≡ sets (file_of given rest) (place_of 10 (file_of given rest)).at (two own)
  unfolding fields_set with_sum
  sum_stored = rw (passes, given_file)

  set_file : fields_set n t (file_of is rest) ≡ file_of final rest
  set_file = sum_stored ∙ store_row 10 (two own) given rest given_named sum_fit.0 sum_fit.1

  -- the sum of the header is not changed by its own field
  sum_same : header_sum (file_of final rest) ≡ own
  sum_same =
      let a = with_sum_law 10 (two own) given sum_fit.0 sum_fit.1 in
      let b = ap sum_of (with_same 10 (two own) given sum_fit.0) in
      let d = sum_of_law 10 given in
      let e = sum_of_law 10 final in
      let q : 255 + sum_of (written final) - sum_of (bytes_of 10 final) ≡ 255 + sum_of (written given) - sum_of (bytes_of 10 given) = omega arith in
      file_sum final rest final_named ∙ ap (λ (k : ℕ). k % 65536) q ∙ sym (file_sum given rest given_named)

  -- the data of the items
  final_own : bytes_of 10 final ≡ two own
  final_own = with_same 10 (two own) given sum_fit.0

  final_there : AllThere final (server_set n t)
  final_there = there_with 10 (two own) given (server_set n t) (rows_no_sum (server_set n t) (server_rows n t))
      (rows_data (server_set n t) is rows_fit (rows_distinct (server_set n t) (server_rows n t)))

  final_other : (j : ℕ) → NotIn j (server_set n t) → (j ≡ 10 → ⊥) → bytes_of j final ≡ bytes_of j is
  final_other j a b = with_other 10 j (two own) given b ∙ rows_other j (server_set n t) is a

  final_check : check_items (file_of final rest) ≡ 0
  final_check = alike_check final is rest named final_alike ∙ passes

  final_values : (announced : ℕ) → check_values (file_of is rest) announced ≡ 0 → check_values (file_of final rest) announced ≡ 0
  final_values announced e =
      let q = value_tests is rest named announced e in
      let o11 = final_other 11 (absent_in 11 (server_set n t) (unfold absent in refl)) (λ e. omega arith) in
      let o4 = final_other 4 (absent_in 4 (server_set n t) (unfold absent in refl)) (λ e. omega arith) in
      let o9 = final_other 9 (absent_in 9 (server_set n t) (unfold absent in refl)) (λ e. omega arith) in
      let l = alike_written final is final_alike in
      let s : own < 65536 = omega arith in
      file_values final rest final_named announced
      ∙ values_join
      (eqb (number (bytes_of 11 final)) (2 + length (written final)))
      (eqb (number (bytes_of 4 final)) announced)
      (eqb (header_sum (file_of final rest)) (number (bytes_of 10 final)))
      (eqb (sum_of rest % 65536) (number (bytes_of 9 final)))
      (ap₂ (λ (b : List ℕ) (k : ℕ). eqb (number b) (2 + k)) o11 l ∙ q.0)
      (ap (λ (b : List ℕ). eqb (number b) announced) o4 ∙ q.1)
      (eq-eqb (header_sum (file_of final rest)) (number (bytes_of 10 final)) (sum_same ∙ sym (ap number final_own ∙ number_two own s)))
      (ap (λ (b : List ℕ). eqb (sum_of rest % 65536) (number b)) o9 ∙ q.2)

-- ---- THE LAWS of setting

-- a file and its setting have the same length
pub with_length : (rows : List Field) (file : List ℕ) → length (with_fields rows file) ≡ length file
unfolding with_fields
with_length [] file = refl
with_length (row ∷ rows) file =
    with_length rows (sets file (place_of row.id file).at row.bytes) ∙ length-sets file (place_of row.id file).at row.bytes

sum_length : (file : List ℕ) → length (with_sum file) ≡ length file
unfolding with_sum
sum_length file = length-sets file (place_of 10 file).at (two (header_sum file))

pub set_length : (n t : ℕ) (file : List ℕ) → length (fields_set n t file) ≡ length file
unfolding fields_set
set_length n t file = go (eqb (check_items file) 0)
  where
    go : (b : Bool) → length (cond b (with_sum (with_fields (server_set n t) file)) file) ≡ length file
    go true = sum_length (with_fields (server_set n t) file) ∙ with_length (server_set n t) file
    go false = refl

pub record Reads (n t : ℕ) (file : List ℕ) : Type 0 where
  pub file_number : number (bytes_of 1 (fields_of file)) ≡ n
  pub file_name : bytes_of 2 (fields_of file) ≡ eight t
  pub modified_time : number (bytes_of 6 (fields_of file)) ≡ t
  pub upload_time_law : number (bytes_of 18 (fields_of file)) ≡ t
  pub checksum : number (bytes_of 10 (fields_of file)) ≡ header_sum file

-- a file that is refused is left as it is
pub set_refused : (n t : ℕ) (file : List ℕ) → (check_items file ≡ 0 → ⊥) → fields_set n t file ≡ file
unfolding fields_set
set_refused n t file h = rw (ne_eqb (check_items file) 0 h)

module _ (n t : ℕ) where
  -- the items are still accepted, with the same places and the same length
  pub set_check : (file : List ℕ) → Bytes file → check_items file ≡ 0 → check_items (fields_set n t file) ≡ 0
  set_check =
      by_parts (λ file. check_items (fields_set n t file) ≡ 0) (λ is rest m p c. rw (set_file n t is rest m p c) (final_check n t is rest m p c))

  pub set_place : (i : ℕ) (file : List ℕ) → Bytes file → check_items file ≡ 0 → place_of i (fields_set n t file) ≡ place_of i file
  set_place i =
      by_parts (λ file. place_of i (fields_set n t file) ≡ place_of i file)
      (λ is rest m p c. rw (set_file n t is rest m p c) (alike_placed i (final n t is rest m p c) is rest m (final_alike n t is rest m p c)))

  pub set_size : (file : List ℕ) → Bytes file → check_items file ≡ 0 → header_length (fields_set n t file) ≡ header_length file
  set_size =
      by_parts (λ file. header_length (fields_set n t file) ≡ header_length file)
      (λ is rest m p c. rw (set_file n t is rest m p c)
      (file_length (final n t is rest m p c) rest (final_named n t is rest m p c)
      ∙ ap (λ (k : ℕ). 2 + k) (alike_written (final n t is rest m p c) is (final_alike n t is rest m p c))
      ∙ sym (file_length is rest m)))

  -- the body is untouched
  pub set_body : (file : List ℕ) → Bytes file → check_items file ≡ 0 → drop (header_length file) (fields_set n t file) ≡ drop (header_length file) file
  set_body =
      by_parts (λ file. drop (header_length file) (fields_set n t file) ≡ drop (header_length file) file)
      (λ is rest m p c. rw (set_file n t is rest m p c, file_length is rest m, file_body is rest m)
      (ap (λ (k : ℕ). drop (2 + k) (file_of (final n t is rest m p c) rest)) (sym (alike_written (final n t is rest m p c) is (final_alike n t is rest m p c)))
      ∙ file_body (final n t is rest m p c) rest (final_named n t is rest m p c)))

  -- the fields read back as they were set
  pub set_there : (file : List ℕ) → Bytes file → check_items file ≡ 0 → AllThere (fields_of (fields_set n t file)) (server_set n t)
  set_there =
      by_parts (λ file. AllThere (fields_of (fields_set n t file)) (server_set n t))
      (λ is rest m p c. subst (λ (js : List Field). AllThere js (server_set n t))
      (sym (ap fields_of (set_file n t is rest m p c) ∙ file_fields (final n t is rest m p c) rest (final_named n t is rest m p c)))
      (final_there n t is rest m p c))

  -- header_checksum is the sum of the header as it then is
  pub set_sum : (file : List ℕ)
      → Bytes file
      → check_items file ≡ 0
      → bytes_of 10 (fields_of (fields_set n t file)) ≡ two (header_sum (fields_set n t file))
  set_sum =
      by_parts (λ file. bytes_of 10 (fields_of (fields_set n t file)) ≡ two (header_sum (fields_set n t file)))
      (λ is rest m p c. rw (set_file n t is rest m p c)
      (ap (bytes_of 10) (file_fields (final n t is rest m p c) rest (final_named n t is rest m p c))
      ∙ final_own n t is rest m p c
      ∙ ap two (sym (sum_same n t is rest m p c))))

  -- the numbers that a reader of the file finds
  pub set_reads : (file : List ℕ) → Bytes file → check_items file ≡ 0 → n < 4294967296 → t < 4294967296 → Reads n t (fields_set n t file)
  set_reads file v e a b =
      let s : header_sum (fields_set n t file) < 65536 = omega arith in
      let r = set_there file v e in
      record {
        file_number = ap number r.0 ∙ number_four n a;
        file_name = r.1.0;
        modified_time = ap number r.1.1.0 ∙ number_four t b;
        upload_time_law = ap number r.1.1.1.0 ∙ number_four t b;
        checksum = ap number (set_sum file v e) ∙ number_two (header_sum (fields_set n t file)) s;
      }

  -- and every other item has the data it had
  pub set_other : (j : ℕ)
      → NotIn j (server_set n t)
      → (j ≡ 10 → ⊥)
      → (file : List ℕ)
      → Bytes file
      → check_items file ≡ 0
      → bytes_of j (fields_of (fields_set n t file)) ≡ bytes_of j (fields_of file)
  set_other j a b =
      by_parts (λ file. bytes_of j (fields_of (fields_set n t file)) ≡ bytes_of j (fields_of file))
      (λ is rest m p c. rw (set_file n t is rest m p c)
      (ap (bytes_of j) (file_fields (final n t is rest m p c) rest (final_named n t is rest m p c))
      ∙ final_other n t is rest m p c j a b
      ∙ sym (ap (bytes_of j) (file_fields is rest m))))

  -- the file is still accepted
  pub set_verdict : (file : List ℕ) (announced : ℕ) → Bytes file → verdict file announced ≡ 0 → verdict (fields_set n t file) announced ≡ 0
  set_verdict file announced v e =
      let q = verdict_parts file announced e in
      verdict_join (fields_set n t file) announced
      (ap (λ (k : ℕ). ltb k announced) (set_length n t file) ∙ q.0)
      (set_check file v q.1)
      (by_parts (λ l. check_values l announced ≡ 0 → check_values (fields_set n t l) announced ≡ 0)
      (λ is rest m p c z. rw (set_file n t is rest m p c) (final_values n t is rest m p c announced z)) file v q.1 q.2)

  -- setting again at the same values changes nothing
  again_written : (is : List Field) (rest : List ℕ) (m : Named is) (p : proper is ≡ true) (c : complete is ≡ true)
      → fields_set n t (file_of (final n t is rest m p c) rest) ≡ file_of (final n t is rest m p c) rest
  again_written is rest m p c =
      again (final n t is rest m p c) (final_alike n t is rest m p c) (final_named n t is rest m p c)
      (final_there n t is rest m p c) (final_own n t is rest m p c ∙ ap two (sym (sum_same n t is rest m p c)))
    where
      again : (js : List Field)
          → Alike js is
          → Named js
          → AllThere js (server_set n t)
          → bytes_of 10 js ≡ two (header_sum (file_of js rest))
          → fields_set n t (file_of js rest) ≡ file_of js rest
      again js a m₂ f o =
          let p₂ = alike_proper js is a ∙ p in
          let c₂ = alike_complete js is a ∙ c in
          let g : items_with (server_set n t) js ≡ js = rows_there (server_set n t) js f in
          set_file n t js rest m₂ p₂ c₂
          ∙ ap (λ (ks : List Field). file_of (with_bytes 10 (two (header_sum (file_of ks rest))) ks) rest) g
          ∙ ap (λ (ks : List Field). file_of ks rest) (with_own 10 (two (header_sum (file_of js rest))) js o)

  pub set_again : (file : List ℕ) → Bytes file → fields_set n t (fields_set n t file) ≡ fields_set n t file
  set_again file v = go (eqb (check_items file) 0) refl
    where
      go : (b : Bool) → eqb (check_items file) 0 ≡ b → fields_set n t (fields_set n t file) ≡ fields_set n t file
      go true e =
          by_parts (λ l. fields_set n t (fields_set n t l) ≡ fields_set n t l)
          (λ is rest m p c. rw (set_file n t is rest m p c) (again_written is rest m p c)) file v (eqb-true (check_items file) 0 e)
      go false e = ap (fields_set n t) (set_refused n t file (eqb-false (check_items file) 0 e))

-- ---- where the fields are

abbrev pub place_at : ℕ → ℕ → Place
place_at at size = record { found = true; at = at; size = size }

fixed : (d : ℕ) → d < 11 → (file : List ℕ) → Bytes file → check_items file ≡ 0 → place_of (suc d) file ≡ place_at (2 + before d 0 + 3) (listed_length (suc d))
fixed d h =
    by_parts (λ file. place_of (suc d) file ≡ place_at (2 + before d 0 + 3) (listed_length (suc d)))
    (λ is rest m p c.
    let z : 0 + suc d ≡ suc d = omega arith in
    ap (place_from (suc d) 2) (file_fields is rest m) ∙ (rw z at (place_chain 11 0 d 2 is refl h (complete_parts is p c).chain (proper_parts is p).fit)))

-- header_checksum's
pub place_sum : (file : List ℕ) → Bytes file → check_items file ≡ 0 → place_of 10 file ≡ place_at 63 2
unfolding before listed length_in
place_sum = fixed 9 (omega arith)

-- a mandatory item: it is where the code stores it, has the listed length, and lies inside the file
pub record Standing (i n : ℕ) (file : List ℕ) : Type 0 where
  pub place : (place_of i file).at ≡ place_in (place_of 18 file).at i
  pub size : (place_of i file).size ≡ n
  pub inside : (place_of i file).at + n ≤ length file

-- a listed item above 0b is upload_time
past_low : (d : ℕ) → 11 ≤ d → 1 ≤ listed_length (suc d) → suc d ≡ 18
unfolding listed length_in
past_low d h l =
    go (eqb (suc d) 18) refl
    (rw (
      ne_eqb (suc d) 1 (λ z. omega arith),
      ne_eqb (suc d) 2 (λ z. omega arith),
      ne_eqb (suc d) 3 (λ z. omega arith),
      ne_eqb (suc d) 4 (λ z. omega arith),
      ne_eqb (suc d) 5 (λ z. omega arith),
      ne_eqb (suc d) 6 (λ z. omega arith),
      ne_eqb (suc d) 7 (λ z. omega arith),
      ne_eqb (suc d) 8 (λ z. omega arith),
      ne_eqb (suc d) 9 (λ z. omega arith),
      ne_eqb (suc d) 10 (λ z. omega arith),
      ne_eqb (suc d) 11 (λ z. omega arith),
    ) at l)
  where
    go : (t : Bool) → eqb (suc d) 18 ≡ t → 1 ≤ cond t 4 0 → suc d ≡ 18
    go true e l = eqb-true (suc d) 18 e
    go false e l = absurd (omega arith)

place_code : (i : ℕ) (file : List ℕ) → Bytes file → check_items file ≡ 0 → 1 ≤ listed_length i → (place_of i file).at ≡ place_in (place_of 18 file).at i
unfolding place_in
place_code zero file v e l = unfold listed in unfold length_in in absurd (omega arith)
place_code (suc d) file v e l = go (ltb d 11) refl
  where
    go : (t : Bool) → ltb d 11 ≡ t → (place_of (suc d) file).at ≡ cond t (2 + before d 0 + 3) (place_of 18 file).at
    go true h = ap (λ (p : Place). p.at) (fixed d (ltb-true d 11 h) file v e)
    go false h = ap (λ (i : ℕ). (place_of i file).at) (past_low d (ltb-false d 11 h) l)

pub standing : (i n : ℕ) → listed_length i ≡ n → 1 ≤ n → (file : List ℕ) → Bytes file → check_items file ≡ 0 → Standing i n file
standing i n l h file v e =
    let q = within file v e in
    record { place = place_code i file v e (omega arith); size = q.0; inside = q.1 }
  where
    within : (file : List ℕ) → Bytes file → check_items file ≡ 0 → ((place_of i file).size ≡ n) × ((place_of i file).at + n ≤ length file)
    within =
        by_parts (λ file. ((place_of i file).size ≡ n) × ((place_of i file).at + n ≤ length file))
        (λ is rest m p c.
        let f = listed_there is i n p c l h in
        let r = place_inside i 2 is f.0 in
        let w = r.within in
        let k = length-append (written is) rest in
        rw (file_fields is rest m) ((r.size ∙ sym f.1, omega (arith, f.1))))

-- ---- setting as stores of bytes at those places

-- what a file with its rows stored is
pub record Stamped (n t : ℕ) (file now : List ℕ) : Type 0 where
  pub check : check_items now ≡ 0
  pub rows : with_fields (server_set n t) file ≡ now
  pub set : fields_set n t file ≡ sets now 63 (two (header_sum now))

stamped_written : (n t : ℕ) (is : List Field) (rest : List ℕ) (m : Named is) (p : proper is ≡ true) (c : complete is ≡ true)
    → Bytes (file_of is rest)
    → Stamped n t (file_of is rest) (stored_rows (server_set n t) (file_of is rest) (file_of is rest))
stamped_written n t is rest m p c v =
    let g = given_file n t is rest m p c in
    let s = stored_rows_law (server_set n t) is is rest m (alike_self is) (rows_fit n t is rest m p c) in
    let a = given_alike n t is rest m p c in
    let w : place_of 10 (file_of (given n t is rest m p c) rest) ≡ place_at 63 2 =
    alike_placed 10 (given n t is rest m p c) is rest m a ∙ place_sum (file_of is rest) v (passes n t is rest m p c) in
    subst (λ (now : List ℕ). Stamped n t (file_of is rest) now) (sym g ∙ s)
    (record {
      check = alike_check (given n t is rest m p c) is rest m a ∙ passes n t is rest m p c;
      rows = g;
      set = sum_stored n t is rest m p c ∙ ap (λ (q : Place). sets (file_of (given n t is rest m p c) rest) q.at (two (header_sum (file_of (given n t is rest m p c) rest)))) w;
    })

-- THE LAW for a setter in pieces: the rows at the places that the file as it was gives them, then the sum of that at 63
pub set_stored : (n t : ℕ) (file : List ℕ) → Bytes file → check_items file ≡ 0 → Stamped n t file (stored_rows (server_set n t) file file)
set_stored n t file v e =
    by_parts (λ l. Bytes l → Stamped n t l (stored_rows (server_set n t) l l)) (λ is rest m p c. stamped_written n t is rest m p c) file v e v

-- one row more, as the code stores it
pub record Next (n t upload k : ℕ) (file : List ℕ) : Type 0 where
  pub size : (row_at upload k (server_set n t)).size ≤ length (row_at upload k (server_set n t)).bytes
  pub inside : (row_at upload k (server_set n t)).at + length (take (row_at upload k (server_set n t)).size (row_at upload k (server_set n t)).bytes) ≤ length file
  pub stored : stored_at (stored_rows (take k (server_set n t)) file file) (row_at upload k (server_set n t)).at
      (take (row_at upload k (server_set n t)).size (row_at upload k (server_set n t)).bytes)
      ≡ stored_rows (take (suc k) (server_set n t)) file file

record NextIn (rows : List Field) (upload k : ℕ) (file now : List ℕ) : Type 0 where
  size : (row_at upload k rows).size ≤ length (row_at upload k rows).bytes
  inside : (row_at upload k rows).at + length (take (row_at upload k rows).size (row_at upload k rows).bytes) ≤ length file
  stored : stored_at (stored_rows (take k rows) file now) (row_at upload k rows).at (take (row_at upload k rows).size (row_at upload k rows).bytes)
      ≡ stored_rows (take (suc k) rows) file now

next_in : (rows : List Field) (k : ℕ) (file now : List ℕ) → settable rows ≡ true → k < length rows → Bytes file → check_items file ≡ 0
    → length now ≡ length file
    → NextIn rows (place_of 18 file).at k file now
unfolding row_at stored_rows
next_in [] k file now s h v e l = absurd (omega arith)
next_in (row ∷ rows) zero file now s h v e l =
    let q = (can row rows s).fit in
    let g = standing row.id (length row.bytes) q.listed_size q.some file v e in
    let b : take (length row.bytes) (row.bytes ++ replicate (8 - length row.bytes) 0) ≡ row.bytes =
    take-append_seam row.bytes (replicate (8 - length row.bytes) 0) in
    let i = g.inside in
    record {
      size = rw length-append (omega arith);
      inside = rw (b, ← g.place) i;
      stored = rw (b, ← g.place) (stored_at_law now (place_of row.id file).at row.bytes (omega arith));
    }
next_in (row ∷ rows) (suc k) file now s h v e l =
    let r = next_in rows k file (sets now (place_of row.id file).at row.bytes) (can row rows s).rest (omega arith) v e
    (length-sets now (place_of row.id file).at row.bytes ∙ l) in
    record { size = r.size; inside = r.inside; stored = r.stored }

-- THE LAW of a row: what the code stores for row k, in a file with the rows before it, makes the file with row k too
pub next_row : (n t upload k : ℕ) (file : List ℕ) → Settable file upload → Bytes file → k < 4 → Next n t upload k file
next_row n t upload k file w v h =
    let r = next_in (server_set n t) k file file (server_rows n t) h v w.items refl in
    subst (λ (u : ℕ). Next n t u k file) (sym w.place) (record { size = r.size; inside = r.inside; stored = r.stored })

module _ (n t upload : ℕ) (file : List ℕ) (w : Settable file upload) (v : Bytes file) (k : ℕ) where
  pub row_size : (row : FieldRow) → row ≡ row_at upload k (server_set n t) → k < 4 → row.size ≤ length row.bytes
  row_size row e h = subst (λ (x : FieldRow). x.size ≤ length x.bytes) (sym e) (next_row n t upload k file w v h).size

  pub rows_step : (row : FieldRow) (now then : List ℕ)
      → row ≡ row_at upload k (server_set n t)
      → now ≡ stored_rows (take k (server_set n t)) file file
      → then ≡ stored_at now row.at (take row.size row.bytes)
      → k < 4
      → then ≡ stored_rows (take (k + 1) (server_set n t)) file file
  rows_step row now then e o r h =
      r
      ∙ ap₂ (λ (x : FieldRow) (l : List ℕ). stored_at l x.at (take x.size x.bytes)) e o
      ∙ (next_row n t upload k file w v h).stored
      ∙ ap (λ (j : ℕ). stored_rows (take j (server_set n t)) file file) (let z : suc k ≡ k + 1 = omega arith in z)

  pub rows_done : (now : List ℕ) → now ≡ stored_rows (take k (server_set n t)) file file → k ≡ 4 → now ≡ with_fields (server_set n t) file
  rows_done now o z =
      o ∙ ap (λ (j : ℕ). stored_rows (take j (server_set n t)) file file) z ∙ sym (set_stored n t file v w.items).rows

-- past the last row
pub no_row : (upload k : ℕ) (rows : List Field) → length rows ≤ k → row_at upload k rows ≡ row_of 0 []
unfolding row_at
no_row upload k [] h = refl
no_row upload zero (row ∷ rows) h = absurd (omega arith)
no_row upload (suc k) (row ∷ rows) h = no_row upload k rows (omega arith)

-- ---- the header read, by its parts

-- the number in an answer, 0 where nothing is refused
abbrev number_in : {A : Type 0} → Result A ℕ → ℕ
number_in (Ok a) = 0
number_in (Err n) = n

-- the header in an answer, or another
abbrev header_or : Header → Result Header ℕ → Header
header_or other (Ok h) = h
header_or other (Err n) = other

header_number : (w : ℕ) (file : List ℕ) → number_in (header_of w file) ≡ check_items file
unfolding header_of
header_number w file = go (eqb (check_items file) 0) refl
  where
    go : (b : Bool)
        → eqb (check_items file) 0 ≡ b
        → number_in (cond b (Ok (record { size = header_length file; sum = header_sum file; destinations = times 20 (fields_of file); place = place_of w file })) (refused_with (check_items file)))
        ≡ check_items file
    go true e = sym (eqb-true (check_items file) 0 e)
    go false e = refl

pub header_passed : (w : ℕ) (file : List ℕ)
    → check_items file ≡ 0
    → header_of w file
    ≡ Ok (record { size = header_length file; sum = header_sum file; destinations = times 20 (fields_of file); place = place_of w file })
unfolding header_of
header_passed w file e = rw e

-- a header that is refused is so by the number of its items' refusal
pub header_refused : (w n : ℕ) (file : List ℕ) → Err n ≡ header_of w file → n ≡ check_items file
header_refused w n file a = ap number_in a ∙ header_number w file

-- a header that is read is not refused, and says what its definition says
pub header_accepted : (w : ℕ) (file : List ℕ) (h : Header) → Ok h ≡ header_of w file → check_items file ≡ 0
header_accepted w file h a = sym (header_number w file) ∙ ap number_in (sym a)

pub header_read : (w : ℕ) (file : List ℕ) (h : Header)
    → Ok h ≡ header_of w file
    → h ≡ record { size = header_length file; sum = header_sum file; destinations = times 20 (fields_of file); place = place_of w file }
header_read w file h a = ap (header_or h) (a ∙ header_passed w file (header_accepted w file h a))

-- a header that is read names where upload_time is
pub settable_of : (file : List ℕ) (h : Header) → Ok h ≡ header_of 18 file → Settable file h.place.at
settable_of file h a =
    record { items = header_accepted 18 file h a; place = ap (λ (x : Header). x.place.at) (header_read 18 file h a) }

-- header_checksum lies inside the file
pub sum_inside : (file : List ℕ) → Bytes file → check_items file ≡ 0 → 65 ≤ length file
sum_inside file v e =
    let s = (standing 10 2 (unfold listed in unfold length_in in refl) (omega arith) file v e).inside in
    let p = ap (λ (x : Place). x.at) (place_sum file v e) in
    omega arith

-- THE LAW of the sum: what a setter does that has stored the rows, reads the header and stores its sum
pub sum_step : (n t : ℕ) (file f₁ f₂ : List ℕ) (k : ℕ)
    → Bytes file
    → check_items file ≡ 0
    → f₁ ≡ with_fields (server_set n t) file
    → k ≡ header_sum f₁
    → f₂ ≡ stored_at f₁ 63 (two k)
    → f₂ ≡ fields_set n t file
sum_step n t file f₁ f₂ k v e r m d =
    let u = set_stored n t file v e in
    let q = subst (λ (l : List ℕ). Stamped n t file l) (sym (r ∙ u.rows)) u in
    let s = sum_inside file v e in
    let l = ap length r ∙ with_length (server_set n t) file in
    d ∙ stored_at_law f₁ 63 (two k) (omega arith) ∙ ap (λ (x : ℕ). sets f₁ 63 (two x)) m ∙ sym q.set

-- the items are still not refused once the rows are stored
pub still_accepted : (n t : ℕ) (file f₁ : List ℕ)
    → Bytes file
    → check_items file ≡ 0
    → f₁ ≡ with_fields (server_set n t) file
    → check_items f₁ ≡ 0
still_accepted n t file f₁ v e r =
    let u = set_stored n t file v e in
    (subst (λ (l : List ℕ). Stamped n t file l) (sym (r ∙ u.rows)) u).check

-- ---- which bytes change

-- byte k is none of the m bytes from `at` on
abbrev pub Apart : ℕ → ℕ → ℕ → Type 0
Apart k at m = (k < at) ⊎ (at + m ≤ k)

sets_below : (vs l : List ℕ) (i k : ℕ) → k < i → get_or (sets l i vs) k 0 ≡ get_or l k 0
sets_below [] l i k h = refl
sets_below (v ∷ vs) l i k h = sets_below vs (set l i v) (suc i) k (omega arith) ∙ get_or-set_other l i k v 0 (λ e. omega arith)

sets_above : (vs l : List ℕ) (i k : ℕ) → i + length vs ≤ k → get_or (sets l i vs) k 0 ≡ get_or l k 0
sets_above [] l i k h = refl
sets_above (v ∷ vs) l i k h = sets_above vs (set l i v) (suc i) k (omega arith) ∙ get_or-set_other l i k v 0 (λ e. omega arith)

sets_apart : (vs l : List ℕ) (i k : ℕ) → Apart k i (length vs) → get_or (sets l i vs) k 0 ≡ get_or l k 0
sets_apart vs l i k a = ⊎_elim (λ h. sets_below vs l i k h) (λ h. sets_above vs l i k h) a

-- byte k is none of an item's data
abbrev pub Outside : ℕ → Place → Type 0
Outside k p = (k < p.at) ⊎ (p.at + p.size ≤ k)

-- nor of any row's
abbrev pub OutsideRows : ℕ → List ℕ → List Field → Type 0
OutsideRows k file [] = Unit {0}
OutsideRows k file (row ∷ rows) = Outside k (place_of row.id file) × OutsideRows k file rows

rows_kept : (rows : List Field) (file now : List ℕ) (k : ℕ) → settable rows ≡ true → Bytes file → check_items file ≡ 0 → OutsideRows k file rows
    → get_or (stored_rows rows file now) k 0 ≡ get_or now k 0
unfolding stored_rows
rows_kept [] file now k s v e o = refl
rows_kept (row ∷ rows) file now k s v e o =
    let q = can row rows s in
    let z = (standing row.id (length row.bytes) q.fit.listed_size q.fit.some file v e).size in
    rows_kept rows file (sets now (place_of row.id file).at row.bytes) k q.rest v e o.1
    ∙ sets_apart row.bytes now (place_of row.id file).at k
    (subst (λ (m : ℕ). (k < (place_of row.id file).at) ⊎ ((place_of row.id file).at + m ≤ k)) z o.0)

-- only the bytes of the rows and of header_checksum
pub set_kept : (n t : ℕ) (file : List ℕ)
    → Bytes file
    → check_items file ≡ 0
    → (k : ℕ)
    → OutsideRows k file (server_set n t)
    → Outside k (place_of 10 file)
    → get_or (fields_set n t file) k 0 ≡ get_or file k 0
set_kept n t file v e k a b =
    let now : List ℕ = stored_rows (server_set n t) file file in
    ap (λ (l : List ℕ). get_or l k 0) (set_stored n t file v e).set
    ∙ sets_apart (two (header_sum now)) now 63 k (subst (Outside k) (place_sum file v e) b)
    ∙ rows_kept (server_set n t) file file k (server_rows n t) v e a

-- ---- bytes stay bytes

bytes_set : (l : List ℕ) (i b : ℕ) → Bytes l → b < 256 → Bytes (set l i b)
bytes_set [] i b v h = tt
bytes_set (x ∷ xs) zero b v h = (h, v.1)
bytes_set (x ∷ xs) (suc i) b v h = (v.0, bytes_set xs i b v.1 h)

pub bytes_sets : (vs l : List ℕ) (i : ℕ) → Bytes l → Bytes vs → Bytes (sets l i vs)
bytes_sets [] l i v w = v
bytes_sets (x ∷ xs) l i v w = bytes_sets xs (set l i x) (suc i) (bytes_set l i x v w.0) w.1

abbrev AllBytes : List Field → Type 0
AllBytes [] = Unit {0}
AllBytes (row ∷ rows) = Bytes row.bytes × AllBytes rows

bytes_rows : (rows : List Field) (file now : List ℕ) → AllBytes rows → Bytes now → Bytes (stored_rows rows file now)
unfolding stored_rows
bytes_rows [] file now w v = v
bytes_rows (row ∷ rows) file now w v =
    bytes_rows rows file (sets now (place_of row.id file).at row.bytes) w.1 (bytes_sets row.bytes now (place_of row.id file).at v w.0)

bytes_four : (n : ℕ) → Bytes (four n)
bytes_four n = (omega arith, (omega arith, (omega arith, (omega arith, tt))))

bytes_two : (n : ℕ) → Bytes (two n)
bytes_two n = (omega arith, (omega arith, tt))

bytes_eight : (n : ℕ) → Bytes (eight n)
bytes_eight n = (digit_byte _, (digit_byte _, (digit_byte _, (digit_byte _, (digit_byte _, (digit_byte _, (digit_byte _, (digit_byte _, tt))))))))

server_bytes : (n t : ℕ) → AllBytes (server_set n t)
server_bytes n t = (bytes_four n, (bytes_eight t, (bytes_four t, (bytes_four t, tt))))

pub set_bytes : (n t : ℕ) (file : List ℕ) → Bytes file → Bytes (fields_set n t file)
set_bytes n t file v = go (eqb (check_items file) 0) refl
  where
    go : (b : Bool) → eqb (check_items file) 0 ≡ b → Bytes (fields_set n t file)
    go true e =
        let now : List ℕ = stored_rows (server_set n t) file file in
        rw (set_stored n t file v (eqb-true (check_items file) 0 e)).set
        (bytes_sets (two (header_sum now)) now 63 (bytes_rows (server_set n t) file file (server_bytes n t) v) (bytes_two (header_sum now)))
    go false e = rw (set_refused n t file (eqb-false (check_items file) 0 e)) v

-- ---- the data at a place

pub found_data : (i : ℕ) (file : List ℕ)
    → Bytes file
    → check_items file ≡ 0
    → 1 ≤ times i (fields_of file)
    → take (place_of i file).size (drop (place_of i file).at file) ≡ bytes_of i (fields_of file)
found_data i =
    by_parts (λ file. 1 ≤ times i (fields_of file) → take (place_of i file).size (drop (place_of i file).at file) ≡ bytes_of i (fields_of file))
    (λ is rest m p c. rw (file_fields is rest m) (λ h. place_data i 2 is (170 ∷ 85 ∷ []) rest refl h))

-- ---- the header's sum in the paper's words

-- "the header's takes its own two bytes as zero": the sum of the header with zeros there
pub sum_as_zero : (file : List ℕ)
    → Bytes file
    → check_items file ≡ 0
    → header_sum file ≡ sum_of (take (header_length file) (sets file (place_of 10 file).at (0 ∷ 0 ∷ []))) % 65536
sum_as_zero =
    by_parts (λ file. header_sum file ≡ sum_of (take (header_length file) (sets file (place_of 10 file).at (0 ∷ 0 ∷ []))) % 65536) zeros
  where
    zeros : (is : List Field) (rest : List ℕ)
        → Named is
        → proper is ≡ true
        → complete is ≡ true
        → header_sum (file_of is rest)
        ≡ sum_of (take (header_length (file_of is rest)) (sets (file_of is rest) (place_of 10 (file_of is rest)).at (0 ∷ 0 ∷ []))) % 65536
    zeros is rest m p c =
        let r = sum_there is p c in
        let js : List Field = with_bytes 10 (0 ∷ 0 ∷ []) is in
        let a = alike_with 10 (0 ∷ 0 ∷ []) is r.1 in
        let s : sets (file_of is rest) (place_of 10 (file_of is rest)).at (0 ∷ 0 ∷ []) ≡ file_of js rest = store_row 10 (0 ∷ 0 ∷ []) is rest m r.0 r.1 in
        let l : header_length (file_of is rest) ≡ 2 + length (written js) = file_length is rest m ∙ ap (λ (k : ℕ). 2 + k) (sym (alike_written js is a)) in
        let h : take (header_length (file_of is rest)) (file_of js rest) ≡ 170 ∷ 85 ∷ written js =
        ap (λ (k : ℕ). take k (file_of js rest)) l ∙ file_header js rest (alike_named js is a m) in
        file_sum is rest m
        ∙ ap (λ (k : ℕ). k % 65536) (same (written is) (written js) (bytes_of 10 is) (with_sum_law 10 (0 ∷ 0 ∷ []) is r.0 r.1) (sum_of_law 10 is))
        ∙ sym (ap (λ (x : List ℕ). sum_of (take (header_length (file_of is rest)) x) % 65536) s ∙ ap (λ (x : List ℕ). sum_of x % 65536) h)
      where
        same : (w u b : List ℕ) → sum_of u + sum_of b ≡ sum_of w + sum_of (0 ∷ 0 ∷ []) → sum_of b ≤ sum_of w → 255 + sum_of w - sum_of b ≡ sum_of (170 ∷ 85 ∷ u)
        same w u b e l = unfold sum_of in omega arith
