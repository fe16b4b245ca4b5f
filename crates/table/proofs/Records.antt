-- The table as a list of records: its length, reading and storing a record, and what storing does to the numbers and the times.
use mathlib.Core.Path.{◌≡◌, refl, sym, ap, ◌∙◌}
use mathlib.Core.Bool.{Bool, true, false, cond, not, ◌&&◌}
use mathlib.Core.List.{List, [], ◌∷◌, ◌++◌}
use Prim.Native.Nat.{ℕ, zero, suc, ◌+◌, ◌*◌, ◌/◌, ◌≤◌, ◌<◌}
use native.Mathlib.Omega.{arith}
use native.Mathlib.Numerals.{add-one}
use lib.ListN.{length, replicate, get_or, set, take, drop, length-map, get_or-map, get_or-eq_default, drop_of_length-le}
use lib.Seq.{drop-cons, take_all, take-suc, take-suc-set, sets, length-sets, set_out, get_or-set_same, get_or-set_other, map-set_same}
use lib.Dec.{ltb, eqb}
use borrow.Author.Tests.{ltb-true, ltb-false, lt-ltb, le-ltb, eqb-false, eq-eqb, ne_eqb}
use Rattle.table.specs.declared.File.{File}
use Rattle.table.specs.declared.Key.{Key}
use Rattle.table.specs.declared.Key.TheVariants.{Number, Time}
use Rattle.table.specs.Table.{no_file, words, files, file_at, put_table, uploaded, key_of, keys, is_complete, count_of}

pub length_files : (table : List ℕ) → length (files table) ≡ length table / 4
unfolding files
length_files [] = refl
length_files (a ∷ []) = refl
length_files (a ∷ b ∷ []) = refl
length_files (a ∷ b ∷ c ∷ []) = refl
length_files (a ∷ b ∷ c ∷ d ∷ rest) = omega (arith, length_files rest)

-- the record of a place has its four words
pub file_words : (table : List ℕ) (p : ℕ) → p < length table / 4
    → file_at (files table) p
    ≡ record {
      number = get_or table (4 * p) 0;
      size = get_or table (4 * p + 1) 0;
      received = get_or table (4 * p + 2) 0;
      time = get_or table (4 * p + 3) 0;
    }
unfolding files
file_words [] p h = absurd (omega arith)
file_words (a ∷ []) p h = absurd (omega arith)
file_words (a ∷ b ∷ []) p h = absurd (omega arith)
file_words (a ∷ b ∷ c ∷ []) p h = absurd (omega arith)
file_words (a ∷ b ∷ c ∷ d ∷ rest) zero h = refl
file_words (a ∷ b ∷ c ∷ d ∷ rest) (suc p) h =
    let e0 : 4 * suc p ≡ suc (suc (suc (suc (4 * p)))) = omega arith in
    let e1 : 4 * suc p + 1 ≡ suc (suc (suc (suc (4 * p + 1)))) = omega arith in
    let e2 : 4 * suc p + 2 ≡ suc (suc (suc (suc (4 * p + 2)))) = omega arith in
    let e3 : 4 * suc p + 3 ≡ suc (suc (suc (suc (4 * p + 3)))) = omega arith in
    rw (e1, e2, e3, e0) (file_words rest p (omega arith))

-- past the last place there is no file
pub no_file_law : (fs : List File) (p : ℕ) → length fs ≤ p → file_at fs p ≡ no_file
no_file_law fs p h = get_or-eq_default fs no_file h

stored : (table : List ℕ) (p : ℕ) (f : File) → p < length table / 4 → files (sets table (4 * p) (words f)) ≡ set (files table) p f
unfolding files
stored [] p f h = absurd (omega arith)
stored (a ∷ []) p f h = absurd (omega arith)
stored (a ∷ b ∷ []) p f h = absurd (omega arith)
stored (a ∷ b ∷ c ∷ []) p f h = absurd (omega arith)
stored (a ∷ b ∷ c ∷ d ∷ rest) zero f h = refl
stored (a ∷ b ∷ c ∷ d ∷ rest) (suc p) f h =
    let e : 4 * suc p ≡ suc (suc (suc (suc (4 * p)))) = omega arith in
    rw e (ap (λ (fs : List File). record { number = a; size = b; received = c; time = d } ∷ fs) (stored rest p f (omega arith)))

-- a record stored at a place is the record of that place and leaves the others; past the last place nothing changes
pub files_put : (table : List ℕ) (p : ℕ) (f : File) → files (put_table table p f) ≡ set (files table) p f
unfolding put_table
files_put table p f = go (ltb p (length table / 4)) refl
  where
    go : (t : Bool) → ltb p (length table / 4) ≡ t
        → files (cond t (sets table (4 * p) (words f)) table) ≡ set (files table) p f
    go true e = stored table p f (ltb-true p (length table / 4) e)
    go false e = sym (set_out (files table) p f (omega (arith, ltb-false p (length table / 4) e, length_files table)))

-- four stores are one record stored; past the last place nothing changes
pub put_here : (table : List ℕ) (p : ℕ) (f : File) → p < length table / 4
    → set (set (set (set table (4 * p) f.number) (4 * p + 1) f.size) (4 * p + 2) f.received) (4 * p + 3) f.time ≡ put_table table p f
unfolding put_table
put_here table p f h =
    let e1 : 4 * p + 1 ≡ suc (4 * p) = omega arith in
    let e2 : 4 * p + 2 ≡ suc (suc (4 * p)) = omega arith in
    let e3 : 4 * p + 3 ≡ suc (suc (suc (4 * p))) = omega arith in
    rw (lt-ltb p (length table / 4) h, e1, e2, e3)

pub put_none : (table : List ℕ) (p : ℕ) (f : File) → length table / 4 ≤ p → table ≡ put_table table p f
unfolding put_table
put_none table p f h = rw (le-ltb p (length table / 4) h)

pub length_put : (table : List ℕ) (p : ℕ) (f : File) → length (put_table table p f) ≡ length table
unfolding put_table
length_put table p f = go (ltb p (length table / 4))
  where
    go : (t : Bool) → length (cond t (sets table (4 * p) (words f)) table) ≡ length table
    go true = length-sets table (4 * p) (words f)
    go false = refl

pub get_put : (table : List ℕ) (p : ℕ) (f : File) → p < length (files table) → file_at (files (put_table table p f)) p ≡ f
get_put table p f h = rw (files_put table p f) (get_or-set_same (files table) p f no_file h)

pub get_put_other : (table : List ℕ) (p : ℕ) (f : File) (q : ℕ) → (q ≡ p → ⊥)
    → file_at (files (put_table table p f)) q ≡ file_at (files table) q
get_put_other table p f q h = rw (files_put table p f) (get_or-set_other (files table) p q f no_file h)

-- ---- numbers and times

pub key_at : (key : Key) (fs : List File) (p : ℕ) → get_or (keys key fs) p 0 ≡ key_of key (file_at fs p)
key_at Number fs p = get_or-map (key_of Number) fs p no_file
key_at Time fs p = get_or-map (key_of Time) fs p no_file

pub keys_set : (key : Key) (fs : List File) (p : ℕ) (f : File) → keys key (set fs p f) ≡ set (keys key fs) p (key_of key f)
keys_set key [] p f = refl
keys_set key (g ∷ fs) zero f = refl
keys_set key (g ∷ fs) (suc p) f = ap (λ (ks : List ℕ). key_of key g ∷ ks) (keys_set key fs p f)

-- storing a record with the same key changes no key
pub keys_same : (key : Key) (fs : List File) (p : ℕ) (f : File) → key_of key f ≡ key_of key (file_at fs p) → keys key (set fs p f) ≡ keys key fs
keys_same key fs p f e = map-set_same (key_of key) fs p f no_file e

-- the keys of the places up to p, in a row of values, with one more
pub keys_next : (key : Key) (fs : List File) (values : List ℕ) (p : ℕ) (f : File) (v : ℕ) → p < length fs → p < length values → f ≡ file_at fs p
    → v ≡ key_of key f → take p values ≡ take p (keys key fs) → take (p + 1) (set values p v) ≡ take (p + 1) (keys key fs)
keys_next key fs values p f v h l e w t =
    rw (add-one, take-suc-set values p v l, t, take-suc (keys key fs) p 0 (omega (arith, length-map fs (key_of key))))
    (ap (λ (x : ℕ). take p (keys key fs) ++ (x ∷ [])) (w ∙ ap (key_of key) e ∙ sym (key_at key fs p)))

pub keys_all : (key : Key) (fs : List File) → take (length fs) (keys key fs) ≡ keys key fs
keys_all key fs = take_all (length fs) (keys key fs) (omega (arith, length-map fs (key_of key)))

-- ---- counting

module _ (test : File → Bool) (fs : List File) where
  count_step : (p : ℕ) → p < length fs
      → count_of test (drop p fs) ≡ cond (test (file_at fs p)) 1 0 + count_of test (drop (p + 1) fs)
  unfolding count_of
  count_step p h = rw (add-one, drop-cons fs p no_file h, count_of)

  -- with the record at place p counted too
  pub count_next : (p n m : ℕ) (t : Bool) → p < length fs → test (file_at fs p) ≡ t → m ≡ n + cond t 1 0
      → n + count_of test (drop p fs) ≡ count_of test fs → m + count_of test (drop (p + 1) fs) ≡ count_of test fs
  count_next p n m t h e o i = let s = rw e at (count_step p h) in omega (arith, s, o, i)

  pub count_end : (p : ℕ) → length fs ≤ p → count_of test (drop p fs) ≡ 0
  unfolding count_of
  count_end p h = rw (drop_of_length-le fs h)

pub count_bound : (test : File → Bool) (fs : List File) → count_of test fs ≤ length fs
unfolding count_of
count_bound test [] = omega arith
count_bound test (f ∷ fs) = go (test f) (count_bound test fs)
  where
    go : (t : Bool) → count_of test fs ≤ length fs → cond t 1 0 + count_of test fs ≤ suc (length fs)
    go true h = omega arith
    go false h = omega arith

-- ---- files

-- the upload time of a file is its record's time; a place with no file has none
pub uploaded_time : (f : File) → (f.number ≡ 0 → ⊥) → uploaded f ≡ f.time
uploaded_time f n = rw (ne_eqb f.number 0 n)

pub uploaded_none : (f : File) → f.number ≡ 0 → uploaded f ≡ 0
uploaded_none f e = rw (eq-eqb f.number 0 e)

-- what has an upload time is a file
pub uploaded_file : (f : File) → (uploaded f ≡ 0 → ⊥) → f.number ≡ 0 → ⊥
uploaded_file f h e = h (uploaded_none f e)

-- a complete file is one with an upload time
pub complete_uploaded : (f : File) → is_complete f ≡ true → uploaded f ≡ 0 → ⊥
complete_uploaded f = go (eqb f.number 0) (eqb f.time 0) refl
  where
    go : (x y : Bool) → eqb f.time 0 ≡ y → not x && not y ≡ true → cond x 0 f.time ≡ 0 → ⊥
    go true y d e z = let u : ◌≡◌ {A = ℕ} 0 1 = cc in omega arith
    go false true d e z = let u : ◌≡◌ {A = ℕ} 0 1 = cc in omega arith
    go false false d e z = eqb-false f.time 0 d z

pub uploaded_complete : (f : File) → (uploaded f ≡ 0 → ⊥) → is_complete f ≡ true
uploaded_complete f h =
    let n = uploaded_file f h in
    rw (ne_eqb f.number 0 n, ne_eqb f.time 0 (λ (z : f.time ≡ 0). h (uploaded_time f n ∙ z)))

-- ---- the empty table

-- a table of zeros has no file at any place
pub files_empty : (n : ℕ) → files (replicate (4 * n) 0) ≡ replicate n no_file
unfolding files
files_empty zero = refl
files_empty (suc n) =
    let e : 4 * suc n ≡ suc (suc (suc (suc (4 * n)))) = omega arith in
    rw e (ap (λ (fs : List File). no_file ∷ fs) (files_empty n))

pub empty_at : (n p : ℕ) → file_at (replicate n no_file) p ≡ no_file
empty_at zero p = refl
empty_at (suc n) zero = refl
empty_at (suc n) (suc p) = empty_at n p
