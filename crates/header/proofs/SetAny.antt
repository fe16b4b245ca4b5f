-- The fields that the server sets, in a file of any bytes: its items are the same with other data in these fields, and are still not refused. Assumes
-- nothing.
use Rattle.std.proofs.Common.{◌≡◌, ℕ, zero, suc, ◌+◌, ◌*◌, ◌<◌, ◌≤◌, Bool, true, false, cond, eqb, leb, List, [], ◌∷◌, ◌++◌, length, take, drop, sym, refl, ap, ◌∙◌, subst, append_assoc, arith, length-append, length-drop, take-append-drop, length-take-le, take_at, drop_at, le-leb, leb-true}
use lib.Seq.{sets}
use borrow.Author.Tests.{eqb-false}
use Rattle.numbers.specs.Numbers.{two}
use Rattle.header.specs.Items.{Field, Walk, head_of, walk, marked, fields_of}
use Rattle.header.specs.Header.{count_if, times, bytes_of, proper, complete, header_sum, check_items, place_from, place_of}
use Rattle.header.specs.Fields.{server_set, with_fields, with_sum, fields_set}
use Rattle.header.proofs.Walk.{walk_broken, walk_end, walk_item}
use Rattle.header.proofs.Order.{times_miss}
use Rattle.header.proofs.EntryLaws.{passed, passed_check}
use Rattle.header.proofs.Replace.{with_bytes, Alike, alike_trans, alike_proper, alike_complete, alike_with, sets_mid}
use Rattle.header.proofs.Set.{AllFit, alike_fit, alike_fits, items_with, alike_rows, rows_fit_in, server_rows, sum_there}

-- ---- one item's data replaced

-- the walk of an item and what follows it
walked : (a b n : ℕ) (cs : List ℕ) → eqb (a + 256 * b) 0 ≡ false → n ≤ length cs
    → walk 0 (a ∷ b ∷ n ∷ cs)
    ≡ record {
      items = record { id = a + 256 * b; bytes = take n cs } ∷ (walk 0 (drop n cs)).items;
      whole = (walk 0 (drop n cs)).whole;
      size = 3 + n + (walk 0 (drop n cs)).size;
    }
unfolding head_of
walked a b n cs e h =
    let far : drop (0 + 3 + n) (a ∷ b ∷ n ∷ cs) ≡ drop n cs =
    ap (λ (k : ℕ). drop k (a ∷ b ∷ n ∷ cs)) (let q : 0 + 3 + n ≡ suc (suc (suc n)) = omega arith in q) in
    walk_item (a ∷ b ∷ n ∷ cs) 0 (a + 256 * b) n (rw (e, le-leb n (length cs) h)) ∙ rw far

-- the bytes with the first item's data replaced: those before the header's items, and the items' bytes with what follows
record Put (i at : ℕ) (new pre bs : List ℕ) : Type 0 where
  rest : List ℕ
  stored : sets (pre ++ bs) (place_from i at (walk 0 bs).items).at new ≡ pre ++ rest
  items : (walk 0 rest).items ≡ with_bytes i new (walk 0 bs).items
  whole : (walk 0 rest).whole ≡ (walk 0 bs).whole

module _ (i at : ℕ) (new pre : List ℕ) (a b n : ℕ) (cs : List ℕ) (some : eqb (a + 256 * b) 0 ≡ false) (fit : n ≤ length cs)
    (here : length pre ≡ at) where
  abbrev item : Field
  item = record { id = a + 256 * b; bytes = take n cs }

  abbrev later : List Field
  later = (walk 0 (drop n cs)).items

  -- it is the item at the front
  put_here : eqb (a + 256 * b) i ≡ true → length new ≡ n → Put i at new pre (a ∷ b ∷ n ∷ cs)
  unfolding place_from with_bytes
  put_here e l =
      record {
        rest = a ∷ b ∷ n ∷ (new ++ drop n cs);
        stored =
            rw (walked a b n cs some fit, e)
            (ap (λ (f : List ℕ). sets f (at + 3) new)
            (ap (λ (f : List ℕ). pre ++ a ∷ b ∷ n ∷ f) (sym (take-append-drop n cs))
            ∙ sym (append_assoc pre (a ∷ b ∷ n ∷ []) (take n cs ++ drop n cs)))
            ∙ sets_mid (pre ++ a ∷ b ∷ n ∷ []) (take n cs) (drop n cs) new (at + 3)
            (length-append pre (a ∷ b ∷ n ∷ []) ∙ ap (λ (k : ℕ). k + 3) here) (l ∙ sym (length-take-le n cs fit))
            ∙ append_assoc pre (a ∷ b ∷ n ∷ []) (new ++ drop n cs));
        items =
            rw (walked a b n cs some fit, e)
            (ap (λ (w : Walk). w.items) (walked a b n (new ++ drop n cs) some (rw (length-append new (drop n cs)) (omega arith)))
            ∙ rw (take_at new (drop n cs) n l, drop_at new (drop n cs) n l));
        whole =
            ap (λ (w : Walk). w.whole) (walked a b n (new ++ drop n cs) some (rw (length-append new (drop n cs)) (omega arith)))
            ∙ ap (λ (r : List ℕ). (walk 0 r).whole) (drop_at new (drop n cs) n l)
            ∙ sym (ap (λ (w : Walk). w.whole) (walked a b n cs some fit));
      }

  -- it is a later one
  put_later : eqb (a + 256 * b) i ≡ false → Put i (at + (3 + n)) new (pre ++ a ∷ b ∷ n ∷ take n cs) (drop n cs) → Put i at new pre (a ∷ b ∷ n ∷ cs)
  unfolding place_from with_bytes
  put_later e p =
      let size : length (take n cs) ≡ n = length-take-le n cs fit in
      record {
        rest = a ∷ b ∷ n ∷ (take n cs ++ p.rest);
        stored =
            rw (walked a b n cs some fit, e, size)
            (ap (λ (f : List ℕ). sets f (place_from i (at + (3 + n)) later).at new)
            (ap (λ (f : List ℕ). pre ++ a ∷ b ∷ n ∷ f) (sym (take-append-drop n cs)) ∙ sym (append_assoc pre (a ∷ b ∷ n ∷ take n cs) (drop n cs)))
            ∙ p.stored ∙ append_assoc pre (a ∷ b ∷ n ∷ take n cs) p.rest);
        items =
            rw (walked a b n cs some fit, e)
            (ap (λ (w : Walk). w.items) (walked a b n (take n cs ++ p.rest) some (rw (length-append (take n cs) p.rest) (omega arith)))
            ∙ rw (take_at (take n cs) p.rest n size, drop_at (take n cs) p.rest n size) (ap (λ (f : List Field). item ∷ f) p.items));
        whole =
            ap (λ (w : Walk). w.whole) (walked a b n (take n cs ++ p.rest) some (rw (length-append (take n cs) p.rest) (omega arith)))
            ∙ ap (λ (r : List ℕ). (walk 0 r).whole) (drop_at (take n cs) p.rest n size) ∙ p.whole
            ∙ sym (ap (λ (w : Walk). w.whole) (walked a b n cs some fit));
      }

no_item : (i : ℕ) (bs : List ℕ) → (walk 0 bs).items ≡ [] → 1 ≤ times i (walk 0 bs).items → ⊥
unfolding count_if
no_item i bs e h = let z : times i (walk 0 bs).items ≡ 0 = ap (times i) e in omega arith

-- what stands at the front of bytes of which the walk finds an item
record Front (bs : List ℕ) : Type 0 where
  a : ℕ
  b : ℕ
  n : ℕ
  cs : List ℕ
  split : bs ≡ a ∷ b ∷ n ∷ cs
  some : eqb (a + 256 * b) 0 ≡ false
  fit : n ≤ length cs

front : (i : ℕ) (bs : List ℕ) → 1 ≤ times i (walk 0 bs).items → Front bs
unfolding head_of
front i [] h = absurd (no_item i [] (ap (λ (w : Walk). w.items) (walk_broken [] 0 refl)) h)
front i (a ∷ []) h = absurd (no_item i (a ∷ []) (ap (λ (w : Walk). w.items) (walk_broken (a ∷ []) 0 refl)) h)
front i (a ∷ b ∷ []) h = absurd (no_item i (a ∷ b ∷ []) (ap (λ (w : Walk). w.items) (walk_broken (a ∷ b ∷ []) 0 refl)) h)
front i (a ∷ b ∷ n ∷ cs) h = go (eqb (a + 256 * b) 0) refl (eqb n 0) refl (leb n (length cs)) refl
  where
    go : (x : Bool) → eqb (a + 256 * b) 0 ≡ x → (y : Bool) → eqb n 0 ≡ y → (z : Bool) → leb n (length cs) ≡ z → Front (a ∷ b ∷ n ∷ cs)
    go true x true y z w =
        absurd (no_item i (a ∷ b ∷ n ∷ cs) (ap (λ (w : Walk). w.items) (walk_end (a ∷ b ∷ n ∷ cs) 0 (rw (x, y)))) h)
    go true x false y z w =
        absurd (no_item i (a ∷ b ∷ n ∷ cs) (ap (λ (w : Walk). w.items) (walk_broken (a ∷ b ∷ n ∷ cs) 0 (rw (x, y)))) h)
    go false x y v false w =
        absurd (no_item i (a ∷ b ∷ n ∷ cs) (ap (λ (w : Walk). w.items) (walk_broken (a ∷ b ∷ n ∷ cs) 0 (rw (x, w)))) h)
    go false x y v true w = record { a = a; b = b; n = n; cs = cs; split = refl; some = x; fit = leb-true n (length cs) w }

put : (k i at : ℕ) (new pre bs : List ℕ) → length bs < k → length pre ≡ at → 1 ≤ times i (walk 0 bs).items
    → length new ≡ length (bytes_of i (walk 0 bs).items) → Put i at new pre bs
put zero i at new pre bs s l h e = absurd (omega arith)
put (suc k) i at new pre bs s l h e = on (front i bs h) (put k)
  where
    on : Front bs
        → ((i at : ℕ) (new pre bs : List ℕ) → length bs < k → length pre ≡ at → 1 ≤ times i (walk 0 bs).items
        → length new ≡ length (bytes_of i (walk 0 bs).items) → Put i at new pre bs)
        → Put i at new pre bs
    on f ih = subst (λ (l : List ℕ). Put i at new pre l) (sym f.split) (go (eqb (f.a + 256 * f.b) i) refl)
      where
        items : (walk 0 bs).items ≡ record { id = f.a + 256 * f.b; bytes = take f.n f.cs } ∷ (walk 0 (drop f.n f.cs)).items
        items = ap (λ (l : List ℕ). (walk 0 l).items) f.split ∙ ap (λ (w : Walk). w.items) (walked f.a f.b f.n f.cs f.some f.fit)

        first : eqb (f.a + 256 * f.b) i ≡ true → length new ≡ f.n
        first t = e ∙ ap (λ (is : List Field). length (bytes_of i is)) items ∙ unfold bytes_of in rw t (length-take-le f.n f.cs f.fit)

        go : (t : Bool) → eqb (f.a + 256 * f.b) i ≡ t → Put i at new pre (f.a ∷ f.b ∷ f.n ∷ f.cs)
        go true t = put_here i at new pre f.a f.b f.n f.cs f.some f.fit l t (first t)
        go false t =
            put_later i at new pre f.a f.b f.n f.cs f.some f.fit l t
            (ih i (at + (3 + f.n)) new (pre ++ f.a ∷ f.b ∷ f.n ∷ take f.n f.cs) (drop f.n f.cs)
            (let z = ap length f.split in omega (arith, length-drop f.n f.cs))
            (length-append pre (f.a ∷ f.b ∷ f.n ∷ take f.n f.cs) ∙ (let z = length-take-le f.n f.cs f.fit in omega arith))
            (let z : times i (walk 0 bs).items ≡ times i (walk 0 (drop f.n f.cs)).items = ap (times i) items
            ∙ times_miss i _ _ (eqb-false (f.a + 256 * f.b) i t) in omega arith)
            (e ∙ ap (λ (is : List Field). length (bytes_of i is)) items ∙ unfold bytes_of in rw t))

-- ---- the fields set

-- a file with these items, and the end mark behind them
record Holds (file : List ℕ) (is : List Field) : Type 0 where
  mark : marked file ≡ true
  fields : fields_of file ≡ is
  whole : (walk 0 (drop 2 file)).whole ≡ true

-- one of them is set
set_one : (file : List ℕ) (is : List Field) (i : ℕ) (new : List ℕ) → Holds file is → (1 ≤ times i is) × (length new ≡ length (bytes_of i is))
    → Holds (sets file (place_of i file).at new) (with_bytes i new is)
unfolding marked fields_of
set_one [] is i new h p = absurd (let z : ◌≡◌ {A = ℕ} 0 1 = cc h.mark in omega arith)
set_one (a ∷ []) is i new h p = absurd (let z : ◌≡◌ {A = ℕ} 0 1 = cc h.mark in omega arith)
set_one (a ∷ b ∷ bs) is i new h p = go (put (suc (length bs)) i 2 new (a ∷ b ∷ []) bs (omega arith) refl there long)
  where
    items : (walk 0 bs).items ≡ is
    items = sym (ap (λ (t : Bool). cond t (walk 0 bs).items []) h.mark) ∙ h.fields

    there : 1 ≤ times i (walk 0 bs).items
    there = let z = ap (times i) items in let y = p.0 in omega arith

    long : length new ≡ length (bytes_of i (walk 0 bs).items)
    long = rw items p.1

    go : Put i 2 new (a ∷ b ∷ []) bs → Holds (sets (a ∷ b ∷ bs) (place_of i (a ∷ b ∷ bs)).at new) (with_bytes i new is)
    go q =
        let same : sets (a ∷ b ∷ bs) (place_of i (a ∷ b ∷ bs)).at new ≡ a ∷ b ∷ q.rest =
        ap (λ (is : List Field). sets (a ∷ b ∷ bs) (place_from i 2 is).at new) (h.fields ∙ sym items) ∙ q.stored in
        subst (λ (f : List ℕ). Holds f (with_bytes i new is)) (sym same)
        (record {
          mark = h.mark;
          fields = ap (λ (t : Bool). cond t (walk 0 q.rest).items []) h.mark ∙ q.items ∙ ap (with_bytes i new) items;
          whole = q.whole ∙ h.whole;
        })

-- one row after the other
set_rows : (rows is : List Field) (file : List ℕ) → Holds file is → AllFit is rows → Holds (with_fields rows file) (items_with rows is)
unfolding with_fields items_with
set_rows [] is file h f = h
set_rows (row ∷ rows) is file h f =
    let js : List Field = with_bytes row.id row.bytes is in
    set_rows rows js (sets file (place_of row.id file).at row.bytes) (set_one file is row.id row.bytes h f.0)
    (alike_fit js is rows (alike_with row.id row.bytes is f.0.1) f.1)

module _ (n t : ℕ) (file : List ℕ) (e : check_items file ≡ 0) where
  abbrev pub rows : List Field
  rows = server_set n t

  holds_own : Holds file (fields_of file)
  holds_own = record { mark = (passed file e).mark; fields = refl; whole = (passed file e).whole }

  pub fit : AllFit (fields_of file) rows
  fit = rows_fit_in rows (fields_of file) (server_rows n t) (passed file e).proper (passed file e).complete

  -- the items with the rows, and with the sum too
  abbrev pub given : List Field
  given = items_with rows (fields_of file)

  abbrev pub sum : List ℕ
  sum = two (header_sum (with_fields rows file))

  abbrev pub final : List Field
  final = with_bytes 10 sum given

  given_alike : Alike given (fields_of file)
  given_alike = alike_rows rows (fields_of file) fit

  sum_fit : (1 ≤ times 10 given) × (2 ≡ length (bytes_of 10 given))
  sum_fit = alike_fits 10 2 given (fields_of file) given_alike (sum_there (fields_of file) (passed file e).proper (passed file e).complete)

  final_holds : Holds (fields_set n t file) final
  unfolding fields_set with_sum
  final_holds = rw e (set_one (with_fields rows file) given 10 sum (set_rows rows (fields_of file) file holds_own fit) sum_fit)

  pub final_alike : Alike final (fields_of file)
  final_alike = alike_trans final given (fields_of file) (alike_with 10 sum given sum_fit.1) given_alike

  -- THE LAWS: its items are these, and they are not refused
  pub any_items : fields_of (fields_set n t file) ≡ final
  any_items = final_holds.fields

  pub any_check : check_items (fields_set n t file) ≡ 0
  any_check =
      passed_check (fields_set n t file) (record {
        mark = final_holds.mark;
        whole = final_holds.whole;
        proper = ap proper final_holds.fields ∙ alike_proper final (fields_of file) final_alike ∙ (passed file e).proper;
        complete = ap complete final_holds.fields ∙ alike_complete final (fields_of file) final_alike ∙ (passed file e).complete;
      })
