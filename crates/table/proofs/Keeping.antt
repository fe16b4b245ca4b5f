-- Each change that the store makes to a record keeps the table sound.
use mathlib.Core.Path.{◌≡◌, refl, sym, ap, ◌∙◌}
use mathlib.Core.Bool.{Bool, true, false, cond}
use mathlib.Core.List.{List, ◌∷◌, [], ◌++◌}
use Prim.Native.Nat.{ℕ, ◌+◌, ◌≤◌, ◌<◌}
use native.Mathlib.Omega.{arith}
use lib.ListN.{length, replicate, get_or, set, length-set, length-map}
use lib.Seq.{get_or-set_same, get_or-set_other}
use lib.Dec.{eqb, ltb}
use borrow.Author.Tests.{eqb-false, ne_eqb, ltb-true, ltb-false}
use Rattle.table.specs.declared.File.{File}
use Rattle.table.specs.declared.Key.{Key}
use Rattle.table.specs.declared.Key.TheVariants.{Number, Time}
use Rattle.table.specs.Table.{no_file, file_at, uploaded, key_of, keys, numbers}
use Rattle.table.specs.Given.{blocks_for}
use Rattle.table.specs.Order.{in_order}
use Rattle.table.specs.Fit.{FileFits, Fits, Distinct, Sound}
use Rattle.table.proofs.Records.{no_file_law, key_at, keys_set, empty_at, uploaded_file, uploaded_time}
use Rattle.table.proofs.Ordering.{in_order_last}
use Rattle.table.proofs.Finding.{by_equal, within}

-- a value that no other place has keeps the values distinct, and so does 0
pub distinct_set : (xs : List ℕ) → Distinct xs → (p v : ℕ) → p < length xs
    → ((k : ℕ) → (k ≡ p → ⊥) → (v ≡ 0 → ⊥) → get_or xs k 0 ≡ v → ⊥) → Distinct (set xs p v)
distinct_set xs d p v h new i j n e =
    by_equal i p
    (λ a. by_equal j p (λ b. a ∙ sym b) (λ b. absurd (new j b (λ z. n (at i a ∙ z)) (sym (other j b) ∙ sym e ∙ at i a))))
    (λ a.
    by_equal j p (λ b. absurd (new i a (λ z. n (e ∙ at j b ∙ z)) (sym (other i a) ∙ e ∙ at j b)))
    (λ b. d i j (λ z. n (other i a ∙ z)) (sym (other i a) ∙ e ∙ other j b)))
  where
    at : (k : ℕ) → k ≡ p → get_or (set xs p v) k 0 ≡ v
    at k e = ap (λ (m : ℕ). get_or (set xs p v) m 0) e ∙ get_or-set_same xs p v 0 h

    other : (k : ℕ) → (k ≡ p → ⊥) → get_or (set xs p v) k 0 ≡ get_or xs k 0
    other k ne = get_or-set_other xs p k v 0 ne

pub fits_more : (last latest last' latest' held : ℕ) (f : File) → last ≤ last' → latest ≤ latest' → Fits last latest held f → Fits last' latest' held f
fits_more last latest last' latest' held f h k s =
    record {
      free = s.free;
      file = λ z.
          let g = s.file z in
          record {
            number = omega (arith, g.number);
            received = g.received;
            blocks = g.blocks;
            time = omega (arith, g.time);
            whole = g.whole;
          };
    }

module _ (last latest : ℕ) (counts : List ℕ) (fs : List File) (s : Sound last latest counts fs) where
  -- every number is at most the last one given, and every upload time at most the latest
  pub number_le : (k : ℕ) → (file_at fs k).number ≤ last
  number_le k = go (ltb k (length fs)) refl
    where
      go : (t : Bool) → ltb k (length fs) ≡ t → (file_at fs k).number ≤ last
      go true e =
          by_equal (file_at fs k).number 0 (λ z. omega arith)
          (λ z. ((s.records k (ltb-true k (length fs) e)).file z).number)
      go false e = rw (no_file_law fs k (ltb-false k (length fs) e)) (omega arith)

  pub time_le : (k : ℕ) → uploaded (file_at fs k) ≤ latest
  time_le k = go (ltb k (length fs)) refl (eqb (file_at fs k).number 0) refl
    where
      go : (t : Bool) → ltb k (length fs) ≡ t → (u : Bool) → eqb (file_at fs k).number 0 ≡ u → cond u 0 (file_at fs k).time ≤ latest
      go true e true d = omega arith
      go true e false d = ((s.records k (ltb-true k (length fs) e)).file (eqb-false (file_at fs k).number 0 d)).time
      go false e true d = omega arith
      go false e false d = absurd (eqb-false (file_at fs k).number 0 d (ap (λ (f : File). f.number) (no_file_law fs k (ltb-false k (length fs) e))))

  -- a complete file has all its bytes
  pub complete_whole : (p : ℕ) → (uploaded (file_at fs p) ≡ 0 → ⊥) → (file_at fs p).received ≡ (file_at fs p).size
  complete_whole p h =
      let n = uploaded_file (file_at fs p) h in
      ((s.records p (omega (arith, within (numbers fs) p (λ z. n (sym (key_at Number fs p) ∙ z)), length-map fs (key_of Number)))).file n).whole
      (λ z. h (uploaded_time (file_at fs p) n ∙ z))

  -- a record that fits, with a number and an upload time that no other place has
  module _ (p : ℕ) (f : File) (h : p < length fs) (last' latest' : ℕ) (counts' : List ℕ) (lasts : last ≤ last') (latests : latest ≤ latest')
      (others : (k : ℕ) → (k ≡ p → ⊥) → get_or counts' (k + 1) 0 ≡ get_or counts (k + 1) 0) (fits : Fits last' latest' (get_or counts' (p + 1) 0) f)
      (new : (key : Key) (k : ℕ) → (k ≡ p → ⊥) → (key_of key f ≡ 0 → ⊥) → key_of key (file_at fs k) ≡ key_of key f → ⊥) where
    kept : (key : Key) → Distinct (keys key fs) → Distinct (keys key (set fs p f))
    kept key d =
        rw (keys_set key fs p f)
        (distinct_set (keys key fs) d p (key_of key f) (omega (arith, length-map fs (key_of key)))
        (λ k n z e. new key k n z (sym (key_at key fs k) ∙ e)))

    fitting : (k : ℕ) → k < length fs → Fits last' latest' (get_or counts' (k + 1) 0) (file_at (set fs p f) k)
    fitting k l =
        by_equal k p (λ e. rw (e, get_or-set_same fs p f no_file h) fits)
        (λ e.
        rw (get_or-set_other fs p k f no_file e, others k e)
        (fits_more last latest last' latest' (get_or counts (k + 1) 0) (file_at fs k) lasts latests (s.records k l)))

    pub sound_put : Sound last' latest' counts' (set fs p f)
    sound_put =
        record {
          records = λ k l. fitting k (omega (arith, length-set fs p f));
          numbers = kept Number s.numbers;
          times = kept Time s.times;
        }

  -- ---- the changes of the store

  -- UPLOAD_CMD for a new file: a number above the last one given, the blocks of its length, no byte received
  pub sound_new : (p number size : ℕ) (counts' : List ℕ) → p < length fs → last < number
      → ((k : ℕ) → (k ≡ p → ⊥) → get_or counts' (k + 1) 0 ≡ get_or counts (k + 1) 0) → get_or counts' (p + 1) 0 ≡ blocks_for size
      → Sound number latest counts' (set fs p (record { number = number; size = size; received = 0; time = 0 }))
  sound_new p number size counts' h n others b =
      sound_put p (record { number = number; size = size; received = 0; time = 0 }) h number latest counts' (omega arith) (omega arith) others
      (record {
        free = λ z. absurd (omega arith);
        file = λ z. record { number = omega arith; received = omega arith; blocks = b; time = omega arith; whole = λ y. absurd (y refl) };
      })
      new
    where
      new : (key : Key) (k : ℕ) → (k ≡ p → ⊥) → (key_of key (record { number = number; size = size; received = 0; time = 0 }) ≡ 0 → ⊥)
          → key_of key (file_at fs k) ≡ key_of key (record { number = number; size = size; received = 0; time = 0 }) → ⊥
      new Number k e z y = omega (arith, number_le k)
      new Time k e z y = absurd (z (rw (ne_eqb number 0 (λ (o : number ≡ 0). omega arith))))

  -- a file of this place keeps its number and its length
  module _ (p : ℕ) (file : (file_at fs p).number ≡ 0 → ⊥) where
    here : p < length fs
    here = go (ltb p (length fs)) refl
      where
        go : (t : Bool) → ltb p (length fs) ≡ t → p < length fs
        go true e = ltb-true p (length fs) e
        go false e = absurd (file (ap (λ (f : File). f.number) (no_file_law fs p (ltb-false p (length fs) e))))

    old : FileFits last latest (get_or counts (p + 1) 0) (file_at fs p)
    old = (s.records p here).file file

    other_number : (k : ℕ) → (k ≡ p → ⊥) → (file_at fs k).number ≡ (file_at fs p).number → ⊥
    other_number k e y = e (s.numbers k p (λ z. file (sym y ∙ sym (key_at Number fs k) ∙ z)) (key_at Number fs k ∙ y ∙ sym (key_at Number fs p)))

    -- DATA: more bytes of a partial file are received
    pub sound_received : (received : ℕ) → received ≤ (file_at fs p).size
        → Sound last latest counts (set fs p (record { number = (file_at fs p).number; size = (file_at fs p).size; received = received; time = 0 }))
    sound_received received h =
        sound_put p (record { number = (file_at fs p).number; size = (file_at fs p).size; received = received; time = 0 }) here last latest counts
        (omega arith) (omega arith) (λ k e. refl)
        (record {
          free = λ z. absurd (file z);
          file = λ z.
              record { number = old.number; received = h; blocks = old.blocks; time = omega arith; whole = λ y. absurd (y refl) };
        })
        new
      where
        new : (key : Key) (k : ℕ) → (k ≡ p → ⊥)
            → (key_of key (record { number = (file_at fs p).number; size = (file_at fs p).size; received = received; time = 0 }) ≡ 0 → ⊥)
            → key_of key (file_at fs k) ≡ key_of key (record { number = (file_at fs p).number; size = (file_at fs p).size; received = received; time = 0 }) → ⊥
        new Number k e z y = other_number k e y
        new Time k e z y = absurd (z (rw (ne_eqb (file_at fs p).number 0 file)))

    -- DATA_END: all bytes are there and the file gets an upload time above the latest
    pub sound_completed : (time : ℕ) → latest < time → (file_at fs p).received ≡ (file_at fs p).size
        → Sound last time counts
        (set fs p (record { number = (file_at fs p).number; size = (file_at fs p).size; received = (file_at fs p).received; time = time }))
    sound_completed time h w =
        sound_put p (record { number = (file_at fs p).number; size = (file_at fs p).size; received = (file_at fs p).received; time = time }) here last
        time counts (omega arith) (omega arith) (λ k e. refl)
        (record {
          free = λ z. absurd (file z);
          file = λ z.
              record { number = old.number; received = old.received; blocks = old.blocks; time = omega arith; whole = λ y. w };
        })
        new
      where
        new : (key : Key) (k : ℕ) → (k ≡ p → ⊥)
            → (key_of key (record { number = (file_at fs p).number; size = (file_at fs p).size; received = (file_at fs p).received; time = time }) ≡ 0 → ⊥)
            → key_of key (file_at fs k)
            ≡ key_of key (record { number = (file_at fs p).number; size = (file_at fs p).size; received = (file_at fs p).received; time = time }) → ⊥
        new Number k e z y = other_number k e y
        new Time k e z y =
            let u : uploaded (file_at fs k) ≡ time = y ∙ rw (ne_eqb (file_at fs p).number 0 file) in
            omega (arith, time_le k)

    -- and comes last in the order of upload times, which is so the order of completion
    pub order_completed : (after time : ℕ) → after < time → latest < time → uploaded (file_at fs p) ≡ 0
        → in_order after (set fs p (record { number = (file_at fs p).number; size = (file_at fs p).size; received = (file_at fs p).received; time = time }))
        ≡ in_order after fs ++ p ∷ []
    order_completed after time h l free =
        let f : File = record { number = (file_at fs p).number; size = (file_at fs p).size; received = (file_at fs p).received; time = time } in
        let u : uploaded f ≡ time = uploaded_time f file in
        in_order_last after fs p f here free (λ k. omega (arith, time_le k, u)) (omega (arith, u))

  -- a record is cleared: its blocks are released
  pub sound_cleared : (p : ℕ) (counts' : List ℕ) → p < length fs
      → ((k : ℕ) → (k ≡ p → ⊥) → get_or counts' (k + 1) 0 ≡ get_or counts (k + 1) 0) → get_or counts' (p + 1) 0 ≡ 0
      → Sound last latest counts' (set fs p no_file)
  sound_cleared p counts' h others b =
      sound_put p no_file h last latest counts' (omega arith) (omega arith) others
      (record { free = λ z. b; file = λ z. absurd (z refl) })
      new
    where
      new : (key : Key) (k : ℕ) → (k ≡ p → ⊥) → (key_of key no_file ≡ 0 → ⊥) → key_of key (file_at fs k) ≡ key_of key no_file → ⊥
      new Number k e z y = z refl
      new Time k e z y = z refl

-- ---- the empty store

no_keys : (key : Key) (n p : ℕ) → get_or (keys key (replicate n no_file)) p 0 ≡ 0
no_keys Number n p = key_at Number (replicate n no_file) p ∙ ap (key_of Number) (empty_at n p)
no_keys Time n p = key_at Time (replicate n no_file) p ∙ ap (key_of Time) (empty_at n p)

-- a table with no file is sound where no block is held and nothing was given
pub sound_empty : (n : ℕ) (counts : List ℕ) → ((p : ℕ) → get_or counts (p + 1) 0 ≡ 0) → Sound 0 0 counts (replicate n no_file)
sound_empty n counts h =
    record {
      records = λ p l. rw (empty_at n p) (record { free = λ z. h p; file = λ z. absurd (z refl) });
      numbers = λ p q z e. absurd (z (no_keys Number n p));
      times = λ p q z e. absurd (z (no_keys Time n p));
    }
