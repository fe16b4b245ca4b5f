-- Laws on the rows of the table of names, and on the search of a name. Assumes nothing.
use Rattle.std.proofs.Common.{Ok, Err}
use mathlib.Core.Path.{◌≡◌, refl, sym, ap, ◌∙◌}
use mathlib.Core.Bool.{Bool, true, false, cond}
use mathlib.Core.List.{List, [], ◌∷◌, map}
use mathlib.Core.Logic.{◌⊎◌, inl, inr}
use Prim.Native.Nat.{ℕ, zero, suc, ◌+◌, ◌-◌, ◌≤◌, ◌<◌, max}
use native.Mathlib.Omega.{arith}
use native.Mathlib.Numerals.{add-one}
use lib.Dec.{eqb, ltb}
use lib.ListN.{length, get_or, take, drop, replicate, length-map, length-append, get_or-eq_default, get_or-map, drop_of_length-le}
use lib.Seq.{drop-cons, take_at}
use borrow.Author.Tests.{eq-eqb, ne_eqb, lt-ltb, ltb-true, ltb-false}
use Rattle.packet.specs.Names.{bytes_of}
use Rattle.text.specs.Match.{lower}
use Rattle.names.specs.Names.{Named, items, small, width_in, usual_width}
use Rattle.names.specs.Rows.{in23, row_for, nameless, row_at, row_in, row_of, shared, found_in, found}
use Rattle.names.specs.declared.table.Row.{Row}

-- ---- the rows

pub no_row : (k : ℕ) → 27 < k → record { letters = replicate 23 0; size = 0; id = 0; width = 1 } ≡ row_at k
unfolding row_at row_for items bytes_of
no_row k h = rw (get_or-eq_default items nameless {n = k} (omega arith))

unfoldable pub letters : Named → List ℕ
letters x = in23 (bytes_of x.name)

unfoldable pub size : Named → ℕ
size x = length (bytes_of x.name)

abbrev pub id : Named → ℕ
id x = x.id

abbrev pub width : Named → ℕ
width x = x.width

within : {A : Type 0} (l : List A) (n : ℕ) (d e : A) → n < length l → get_or l n d ≡ get_or l n e
within [] n d e h = absurd (omega arith)
within (x ∷ l) zero d e h = refl
within (x ∷ l) (suc n) d e h = within l n d e (omega arith)

column : {A : Type 0} (f : Named → A) (k : ℕ) (d : A) → k ≤ 27 → get_or (map f items) k d ≡ f (get_or items k nameless)
column f k d h = within (map f items) k d (f nameless) (unfold items in omega arith) ∙ get_or-map f items k nameless

pub rows : (k : ℕ) → k ≤ 27
    → record { letters = get_or (map letters items) k []; size = get_or (map size items) k 0; id = get_or (map id items) k 0; width = get_or (map width items) k 0 } ≡ row_at k
unfolding row_at row_for
rows k h = rw (column letters k [] h, column size k 0 h, column id k 0 h, column width k 0 h) (unfold letters size in refl)

-- the table from a row on
pub rows_from_law : (k : ℕ) → k < 28 → drop k items ≡ get_or items k nameless ∷ drop (suc k) items
rows_from_law k h = drop-cons items k nameless (unfold items in omega arith)

pub no_rows : (k : ℕ) → 28 ≤ k → drop k items ≡ []
no_rows k h = drop_of_length-le items {i = k} (unfold items in omega arith)

pub row_id : (k : ℕ) (r : Row) → r ≡ row_at k → r.id ≡ (get_or items k nameless).id
unfolding row_at row_for
row_id k r e = rw e

-- ---- the row of an id

module _ (wanted k : ℕ) (r : Row) (e : r ≡ row_at k) where
  pub row_is : k < 28 → r.id ≡ wanted → row_of wanted ≡ row_in (drop k items) wanted → r ≡ row_of wanted
  unfolding row_in row_at
  row_is h i inv =
      let z : eqb (get_or items k nameless).id wanted ≡ true = eq-eqb (get_or items k nameless).id wanted (sym (row_id k r e) ∙ i) in
      e ∙ sym (inv ∙ rw (rows_from_law k h, z))

  pub row_next : k < 28 → (r.id ≡ wanted → ⊥) → row_of wanted ≡ row_in (drop k items) wanted → row_of wanted ≡ row_in (drop (k + 1) items) wanted
  unfolding row_in row_at
  row_next h i inv =
      let z : eqb (get_or items k nameless).id wanted ≡ false = ne_eqb (get_or items k nameless).id wanted (λ y. i (row_id k r e ∙ y)) in
      inv ∙ rw (rows_from_law k h, z, add-one k)

pub row_none : (wanted k : ℕ) (r : Row) → r ≡ row_at 28 → 28 ≤ k → row_of wanted ≡ row_in (drop k items) wanted → r ≡ row_of wanted
unfolding row_in row_at
row_none wanted k r e h inv = e ∙ rw (get_or-eq_default items nameless {n = 28} (unfold items in omega arith)) (sym (inv ∙ rw (no_rows k h)))

-- the width of an id's row is its usual one
width_in_law : (xs : List Named) (wanted : ℕ) → (row_in xs wanted).width ≡ width_in xs wanted
unfolding row_in width_in row_for
width_in_law [] wanted = refl
width_in_law (x ∷ xs) wanted = by (width_in_law xs wanted) (eqb x.id wanted)
  where
    by : (row_in xs wanted).width ≡ width_in xs wanted → (t : Bool) → (cond t (row_for x) (row_in xs wanted)).width ≡ cond t x.width (width_in xs wanted)
    by ih true = refl
    by ih false = ih

pub row_width : (wanted : ℕ) → (row_of wanted).width ≡ usual_width wanted
row_width wanted = width_in_law items wanted

-- ---- letters shared with a name

pub sharing_more : (name text more rest : List ℕ) (c b : ℕ) → name ≡ c ∷ more → text ≡ b ∷ rest → lower b ≡ lower c
    → shared (map lower name) text ≡ suc (shared (map lower more) rest)
unfolding shared
sharing_more name text more rest c b n t e = rw (n, t, eq-eqb (lower b) (lower c) e)

pub sharing_stops : (name text more rest : List ℕ) (c b : ℕ) → name ≡ c ∷ more → text ≡ b ∷ rest → (lower b ≡ lower c → ⊥)
    → shared (map lower name) text ≡ 0
unfolding shared
sharing_stops name text more rest c b n t e = rw (n, t, ne_eqb (lower b) (lower c) e)

pub sharing_ends : (name text : List ℕ) → (name ≡ []) ⊎ (text ≡ []) → shared (map lower name) text ≡ 0
unfolding shared
sharing_ends name text (inl e) = rw e refl
sharing_ends [] text (inr e) = refl
sharing_ends (c ∷ cs) text (inr e) = rw e refl

-- ---- first letters

-- no name is empty
unfoldable pub filled : List Named → Bool
filled [] = true
filled (x ∷ xs) = cond (ltb 0 (length (small x))) (filled xs) false

filled_first : (x : Named) (xs : List Named) → filled (x ∷ xs) ≡ true → (0 < length (small x)) × (filled xs ≡ true)
unfolding filled
filled_first x xs f = by (ltb 0 (length (small x))) refl f
  where
    by : (t : Bool) → ltb 0 (length (small x)) ≡ t → cond t (filled xs) false ≡ true → (0 < length (small x)) × (filled xs ≡ true)
    by true e f = (ltb-true 0 (length (small x)) e, f)
    by false e f = let z : ◌≡◌ {A = ℕ} 0 1 = cc in absurd (omega arith)

filled_at : (xs : List Named) (k : ℕ) → filled xs ≡ true → k < length xs → 0 < length (small (get_or xs k nameless))
filled_at [] k f h = absurd (omega arith)
filled_at (x ∷ xs) zero f h = (filled_first x xs f).0
filled_at (x ∷ xs) (suc k) f h = filled_at xs k (filled_first x xs f).1 (omega arith)

pub named_at_law : (k : ℕ) → k ≤ 27 → 0 < length (small (get_or items k nameless))
named_at_law k h = filled_at items k (unfold filled items small bytes_of in refl) (unfold items in omega arith)

unfoldable pub first_of : Named → ℕ
first_of x = get_or (small x) 0 0

first_letter : (name text : List ℕ) → 0 < length name → 0 < length text → eqb (lower (get_or text 0 0)) (get_or name 0 0) ≡ ltb 0 (shared name text)
unfolding shared
first_letter [] text h i = absurd (omega arith)
first_letter (c ∷ cs) [] h i = absurd (omega arith)
first_letter (c ∷ cs) (b ∷ bs) h i = by (eqb (lower b) c)
  where
    by : (t : Bool) → t ≡ ltb 0 (cond t (suc (shared cs bs)) 0)
    by true = sym (lt-ltb 0 (suc (shared cs bs)) (omega arith))
    by false = refl

-- a text shares a letter with a name exactly where its first letter is the name's
pub first_shared : (k : ℕ) (text : List ℕ) → k ≤ 27 → 0 < length text
    → eqb (lower (get_or text 0 0)) (get_or (map first_of items) k 0) ≡ ltb 0 (shared (small (get_or items k nameless)) text)
first_shared k text h i = rw (column first_of k 0 h) (unfold first_of in first_letter (small (get_or items k nameless)) text (named_at_law k h) i)

pub nothing_shared : (name text : List ℕ) → length text ≡ 0 → false ≡ ltb 0 (shared name text)
unfolding shared
nothing_shared [] text h = refl
nothing_shared (c ∷ cs) [] h = refl
nothing_shared (c ∷ cs) (b ∷ bs) h = absurd (omega arith)

-- ---- the search

-- the letters of a row are its name
pub row_letters : (k : ℕ) (r : Row) → r ≡ row_at k → map lower (take r.size r.letters) ≡ small (get_or items k nameless)
unfolding row_at row_for small
row_letters k r e = rw e (ap (map lower) (take_at (bytes_of (get_or items k nameless).name) _ (length (bytes_of (get_or items k nameless).name)) refl))

pub row_size : (k : ℕ) (r : Row) → r ≡ row_at k → r.size ≡ length (small (get_or items k nameless))
unfolding row_at row_for small
row_size k r e = rw e (sym (length-map (bytes_of (get_or items k nameless).name) lower))

pub row_room : (k : ℕ) (r : Row) → r ≡ row_at k → r.size ≤ length r.letters
unfolding row_at row_for
row_room k r e =
    let name : List ℕ = bytes_of (get_or items k nameless).name in
    rw e (omega (arith, length-append name (replicate (23 - length name) 0)))

module _ (text : List ℕ) (k most same : ℕ) (r : Row) (e : r ≡ row_at k) (h : k < 28) (inv : found text ≡ found_in (drop k items) most text)
    (s : same ≡ shared (map lower (take r.size r.letters)) text) where
  here : same ≡ shared (small (get_or items k nameless)) text
  here = s ∙ ap (λ (l : List ℕ). shared l text) (row_letters k r e)

  pub name_known : same ≡ r.size → Ok (r.id, r.size) ≡ found text
  unfolding found_in
  name_known i =
      let z : eqb (shared (small (get_or items k nameless)) text) (length (small (get_or items k nameless))) ≡ true =
      eq-eqb _ _ (sym here ∙ i ∙ row_size k r e) in
      rw (row_size k r e, row_id k r e) (sym (inv ∙ rw (rows_from_law k h, z)))

  pub name_other : (same ≡ r.size → ⊥) → (new : ℕ) → new ≡ max most same → found text ≡ found_in (drop (k + 1) items) new text
  unfolding found_in
  name_other i new n =
      let z : eqb (shared (small (get_or items k nameless)) text) (length (small (get_or items k nameless))) ≡ false =
      ne_eqb _ _ (λ y. i (here ∙ y ∙ sym (row_size k r e))) in
      inv ∙ rw (rows_from_law k h, z, add-one k, n, here)

pub name_unknown : (text : List ℕ) (k most : ℕ) → 28 ≤ k → found text ≡ found_in (drop k items) most text → Err most ≡ found text
unfolding found_in
name_unknown text k most h inv = sym (inv ∙ rw (no_rows k h))

-- a name that shares no letter with the text is passed over
pub name_passed : (text : List ℕ) (k most : ℕ) → k < 28 → found text ≡ found_in (drop k items) most text
    → ltb 0 (shared (small (get_or items k nameless)) text) ≡ false → found text ≡ found_in (drop (k + 1) items) most text
unfolding found_in
name_passed text k most h inv f =
    let n : ℕ = shared (small (get_or items k nameless)) text in
    let none : n ≡ 0 = omega (arith, ltb-false 0 n f) in
    let other : eqb n (length (small (get_or items k nameless))) ≡ false = ne_eqb n _ (λ y. omega (arith, named_at_law k (omega arith))) in
    let same : max most n ≡ most = omega arith in
    inv ∙ rw (rows_from_law k h, other, add-one k, same)
