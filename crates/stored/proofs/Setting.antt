-- Setting the fields of a file in blocks: the code's steps, and its answers. Assumes nothing.
use mathlib.Core.Path.{◌≡◌, refl, sym, ap, ◌∙◌, subst}
use mathlib.Core.Bool.{true, false}
use mathlib.Core.List.{List}
use Rattle.std.proofs.Common.{Ok, Err}
use Prim.Native.Nat.{ℕ, suc, ◌+◌, ◌*◌, ◌≤◌, ◌<◌}
use native.Mathlib.Omega.{arith}
use lib.ListN.{length, take}
use borrow.Author.Tests.{eq-eqb, ne_eqb, le-leb, lt-leb}
use Rattle.numbers.specs.Numbers.{two, stored_at}
use Rattle.blocks.specs.Owners.{blocks}
use Rattle.blocks.specs.Contents.{stored}
use Rattle.blocks.specs.Answers.{write_disk}
use Rattle.blocks.proofs.Answers.{disk_fits_law}
use Rattle.header.specs.Header.{check_items, header_sum, header_of}
use Rattle.header.specs.Items.{Field}
use Rattle.header.specs.Fields.{server_set, with_fields, fields_set, row_at}
use Rattle.header.specs.Fields as header
use Rattle.header.specs.declared.fields.FieldRow.{FieldRow}
use Rattle.header.specs.declared.scan.Header.{Header}
use Rattle.header.proofs.Written.{Bytes}
use Rattle.header.proofs.Set.{stored_rows, with_length, set_length, next_row, row_size, rows_done, sum_inside, sum_step, still_accepted, header_refused, header_accepted, header_read}
use Rattle.stored.specs.Answers.{file_at, sizes_fit, set_number, set_disk}
use Rattle.stored.specs.Settable.{Settable}
use Rattle.stored.proofs.Feeding.{bytes_contents}
use Rattle.stored.proofs.Disks.{Changed, changed_one, changed_none, changed_write, stored_changed, file_length}

-- ---- the steps of writing

module _ (disk owner : List ℕ) (place received at : ℕ) (s : Settable disk owner place received at) (b : Bytes disk) where
  bytes : 256 * length owner ≤ length disk
  bytes = (disk_fits_law (length disk) (length owner) place s.sizes).bytes

  size : length (file_at disk owner place received) ≡ received
  size = file_length disk owner place received s.sizes bytes s.room disk refl

  abbrev file : List ℕ
  file = file_at disk owner place received

  file_bytes : Bytes file
  file_bytes = bytes_contents (place + 1) owner disk received b

  in_header_law : header.Settable file at
  in_header_law = record { items = s.items; place = s.upload }

  module _ (number time : ℕ) where
    abbrev rows : List Field
    rows = server_set number time

    -- no row is written yet
    pub rows_begun : Changed disk owner disk (place + 1) received (stored_rows (take 0 rows) file file)
    unfolding stored_rows
    rows_begun = changed_none disk owner (place + 1) received

    -- the row has its bytes
    pub row_fits : (k : ℕ) (row : FieldRow) → row ≡ row_at at k rows → k < 4 → row.size ≤ length row.bytes
    row_fits k row e h = row_size number time at file in_header_law file_bytes k row e h

    -- row k is written behind those before it
    pub row_written : (k : ℕ) (d d' : List ℕ) (row : FieldRow)
        → row ≡ row_at at k rows
        → d' ≡ write_disk d owner place row.at (take row.size row.bytes)
        → k < 4
        → Changed disk owner d (place + 1) received (stored_rows (take k rows) file file)
        → Changed disk owner d' (place + 1) received (stored_rows (take (k + 1) rows) file file)
    row_written k d d' row e w h c =
        let q = next_row number time at k file in_header_law file_bytes h in
        let i = q.inside in
        let l = size in
        let z : suc k ≡ k + 1 = omega arith in
        let c' = changed_write disk owner place received s.sizes bytes s.room d (stored_rows (take k rows) file file) (row_at at k rows).at
        (take (row_at at k rows).size (row_at at k rows).bytes) c (omega arith) in
        subst (λ (x : List ℕ). Changed disk owner x (place + 1) received (stored_rows (take (k + 1) rows) file file))
        (sym (w ∙ ap (λ (x : FieldRow). write_disk d owner place x.at (take x.size x.bytes)) e))
        (subst (λ (x : List ℕ). Changed disk owner (write_disk d owner place (row_at at k rows).at (take (row_at at k rows).size (row_at at k rows).bytes)) (place + 1) received x)
        (q.stored ∙ ap (λ (j : ℕ). stored_rows (take j rows) file file) z) c')

    -- the disk with all rows written
    with_rows : Changed disk owner (stored (place + 1) owner disk 0 (with_fields rows file)) (place + 1) received (with_fields rows file)
    with_rows = stored_changed disk owner (place + 1) received (with_fields rows file) bytes (with_length rows file ∙ size) s.room

    pub rows_written : (k : ℕ) (d : List ℕ)
        → Changed disk owner d (place + 1) received (stored_rows (take k rows) file file)
        → k ≡ 4
        → d ≡ stored (place + 1) owner disk 0 (with_fields rows file)
    rows_written k d c z =
        changed_one disk owner d (stored (place + 1) owner disk 0 (with_fields rows file)) (place + 1) received (with_fields rows file) bytes
        (subst (λ (x : List ℕ). Changed disk owner d (place + 1) received x)
        (rows_done number time at file in_header_law file_bytes k (stored_rows (take k rows) file file) refl z) c)
        with_rows

    -- the items are not refused then either
    pub items_still : (d : List ℕ) → d ≡ stored (place + 1) owner disk 0 (with_fields rows file) → check_items (file_at d owner place received) ≡ 0
    items_still d e =
        let c = subst (λ (x : List ℕ). Changed disk owner x (place + 1) received (with_fields rows file)) (sym e) with_rows in
        ap check_items c.own ∙ still_accepted number time file (with_fields rows file) file_bytes s.items refl

    -- then the header's sum leaves the disk with the file stored anew
    pub sum_written : (d₁ d₂ : List ℕ) (k : ℕ)
        → d₁ ≡ stored (place + 1) owner disk 0 (with_fields rows file)
        → k ≡ header_sum (file_at d₁ owner place received)
        → d₂ ≡ write_disk d₁ owner place 63 (two k)
        → d₂ ≡ stored (place + 1) owner disk 0 (fields_set number time file)
    sum_written d₁ d₂ k e h w =
        let c₁ = subst (λ (x : List ℕ). Changed disk owner x (place + 1) received (with_fields rows file)) (sym e) with_rows in
        let i = sum_inside file file_bytes s.items in
        let l = size in
        let c₂ = changed_write disk owner place received s.sizes bytes s.room d₁ (with_fields rows file) 63 (two k) c₁ (omega arith) in
        let r = sum_step number time file (with_fields rows file) (stored_at (with_fields rows file) 63 (two k)) k file_bytes s.items refl
        (h ∙ ap header_sum c₁.own) refl in
        w ∙ changed_one disk owner (write_disk d₁ owner place 63 (two k)) (stored (place + 1) owner disk 0 (fields_set number time file)) (place + 1) received
        (fields_set number time file) bytes
        (subst (λ (x : List ℕ). Changed disk owner (write_disk d₁ owner place 63 (two k)) (place + 1) received x) r c₂)
        (stored_changed disk owner (place + 1) received (fields_set number time file) bytes (set_length number time file ∙ size) s.room)

-- ---- the answers

module _ (disk owner : List ℕ) (place received number time : ℕ) where
  -- a refusal writes nothing
  refused : (k : ℕ) → k ≡ set_number disk owner place received → (k ≡ 0 → ⊥)
      → (k ≡ set_number disk owner place received) × (disk ≡ set_disk disk owner place received number time)
  unfolding set_disk
  refused k e n = (e, rw (ne_eqb (set_number disk owner place received) 0 (λ z. n (e ∙ z))))

  pub refused_sizes : sizes_fit disk owner place ≡ false
      → (33 ≡ set_number disk owner place received) × (disk ≡ set_disk disk owner place received number time)
  refused_sizes e = refused 33 (unfold set_number in rw e) (λ z. omega arith)

  module _ (e : sizes_fit disk owner place ≡ true) where
    pub refused_length : 256 * blocks (place + 1) owner < received
        → (35 ≡ set_number disk owner place received) × (disk ≡ set_disk disk owner place received number time)
    refused_length h = refused 35 (unfold set_number in rw (e, lt-leb received (256 * blocks (place + 1) owner) h)) (λ z. omega arith)

    module _ (h : received ≤ 256 * blocks (place + 1) owner) where
      number_items : set_number disk owner place received ≡ check_items (file_at disk owner place received)
      unfolding set_number
      number_items = rw (e, le-leb received (256 * blocks (place + 1) owner) h)

      pub refused_items : (n : ℕ) → 0 < n
          → Err n ≡ header_of 18 (file_at disk owner place received)
          → (n ≡ set_number disk owner place received) × (disk ≡ set_disk disk owner place received number time)
      refused_items n p g =
          refused n (header_refused 18 n (file_at disk owner place received) g ∙ sym number_items) (λ z. omega arith)

      module _ (w : Header) (g : Ok w ≡ header_of 18 (file_at disk owner place received)) where
        items : check_items (file_at disk owner place received) ≡ 0
        items = header_accepted 18 (file_at disk owner place received) w g

        pub settable : Settable disk owner place received w.place.at
        settable =
            record {
              sizes = e;
              room = h;
              items = items;
              upload = ap (λ (x : Header). x.place.at) (header_read 18 (file_at disk owner place received) w g);
            }

        pub fields_done : (d : List ℕ) → d ≡ stored (place + 1) owner disk 0 (fields_set number time (file_at disk owner place received))
            → (0 ≡ set_number disk owner place received) × (d ≡ set_disk disk owner place received number time)
        unfolding set_disk
        fields_done d q =
            (sym items ∙ sym number_items, rw (eq-eqb (set_number disk owner place received) 0 (number_items ∙ items)) q)
