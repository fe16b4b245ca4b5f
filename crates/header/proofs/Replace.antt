-- Items with the data of one replaced: what stays, what changes, and that it is a store at the item's place. Assumes nothing.
use Rattle.std.proofs.Common.{◌≡◌, ℕ, ◌+◌, ◌/◌, ◌%◌, ◌≤◌, Bool, true, false, cond, eqb, leb, List, [], ◌∷◌, ◌++◌, length, take, drop, sym, refl, ap, ◌∙◌, append_assoc, arith, length-append, drop-drop, take_at, drop_at, ne_eqb, eqb-true}
use lib.Seq.{sets, sets-eq, drop-append_seam}
use borrow.Author.Tests.{eqb-false}
use Rattle.header.specs.Items.{Field}
use Rattle.header.specs.Header.{listed, every, count_if, times, bytes_of, fits, ordered, proper, complete, sum_of, place_from}
use Rattle.header.proofs.Written.{raw, written, Named, length_raw}
use Rattle.header.proofs.Order.{times_miss}
use Rattle.header.proofs.Values.{sum_append}

-- the first item with the id has other data
unfoldable pub with_bytes : ℕ → List ℕ → List Field → List Field
with_bytes i bs [] = []
with_bytes i bs (x ∷ xs) = cond (eqb x.id i) (record { id = x.id; bytes = bs } ∷ xs) (x ∷ with_bytes i bs xs)

-- the same ids and lengths
abbrev pub Alike : List Field → List Field → Type 0
Alike [] [] = Unit {0}
Alike [] (y ∷ ys) = ⊥
Alike (x ∷ xs) [] = ⊥
Alike (x ∷ xs) (y ∷ ys) = (x.id ≡ y.id) × (length x.bytes ≡ length y.bytes) × Alike xs ys

pub alike_self : (is : List Field) → Alike is is
alike_self [] = tt
alike_self (x ∷ xs) = (refl, refl, alike_self xs)

pub alike_trans : (is js ks : List Field) → Alike is js → Alike js ks → Alike is ks
alike_trans [] [] ks a b = b
alike_trans [] (y ∷ ys) ks a b = absurd a
alike_trans (x ∷ xs) [] ks a b = absurd a
alike_trans (x ∷ xs) (y ∷ ys) [] a b = absurd b
alike_trans (x ∷ xs) (y ∷ ys) (z ∷ zs) a b = (a.0 ∙ b.0, a.1 ∙ b.1, alike_trans xs ys zs a.2 b.2)

-- ---- what depends on ids and lengths only

pub alike_count : (t : ℕ → Bool) (is js : List Field) → Alike is js → count_if t is ≡ count_if t js
unfolding count_if
alike_count t [] [] a = refl
alike_count t [] (y ∷ ys) a = absurd a
alike_count t (x ∷ xs) [] a = absurd a
alike_count t (x ∷ xs) (y ∷ ys) a = rw (a.0, alike_count t xs ys a.2)

alike_ordered : (last : ℕ) (is js : List Field) → Alike is js → ordered last is ≡ ordered last js
unfolding ordered
alike_ordered last [] [] a = refl
alike_ordered last [] (y ∷ ys) a = absurd a
alike_ordered last (x ∷ xs) [] a = absurd a
alike_ordered last (x ∷ xs) (y ∷ ys) a =
    rw (a.0, alike_ordered y.id xs ys a.2, alike_ordered 11 xs ys a.2)

alike_fits : (is js : List Field) → Alike is js → every fits is ≡ every fits js
unfolding every
alike_fits [] [] a = refl
alike_fits [] (y ∷ ys) a = absurd a
alike_fits (x ∷ xs) [] a = absurd a
alike_fits (x ∷ xs) (y ∷ ys) a = rw (a.0, a.1, alike_fits xs ys a.2)

pub alike_place : (i at : ℕ) (is js : List Field) → Alike is js → place_from i at is ≡ place_from i at js
unfolding place_from
alike_place i at [] [] a = refl
alike_place i at [] (y ∷ ys) a = absurd a
alike_place i at (x ∷ xs) [] a = absurd a
alike_place i at (x ∷ xs) (y ∷ ys) a = rw (a.0, a.1, alike_place i (at + (3 + length y.bytes)) xs ys a.2)

pub alike_named : (is js : List Field) → Alike is js → Named js → Named is
alike_named [] [] a n = tt
alike_named [] (y ∷ ys) a n = absurd a
alike_named (x ∷ xs) [] a n = absurd a
alike_named (x ∷ xs) (y ∷ ys) a n = ((λ e. n.0 (sym a.0 ∙ e)), alike_named xs ys a.2 n.1)

pub alike_written : (is js : List Field) → Alike is js → length (written is) ≡ length (written js)
unfolding written
alike_written [] [] a = refl
alike_written [] (y ∷ ys) a = absurd a
alike_written (x ∷ xs) [] a = absurd a
alike_written (x ∷ xs) (y ∷ ys) a =
    let l = a.1 in
    let r = alike_written xs ys a.2 in
    simp length-append (omega (arith, length_raw x, length_raw y))

pub alike_bytes : (i : ℕ) (is js : List Field) → Alike is js → length (bytes_of i is) ≡ length (bytes_of i js)
unfolding bytes_of
alike_bytes i [] [] a = refl
alike_bytes i [] (y ∷ ys) a = absurd a
alike_bytes i (x ∷ xs) [] a = absurd a
alike_bytes i (x ∷ xs) (y ∷ ys) a = rw a.0 (go (eqb y.id i) (alike_bytes i xs ys a.2))
  where
    go : (t : Bool) → length (bytes_of i xs) ≡ length (bytes_of i ys) → length (cond t x.bytes (bytes_of i xs)) ≡ length (cond t y.bytes (bytes_of i ys))
    go true e = a.1
    go false e = e

every_same : {A : Type 0} (p q : A → Bool) → ((x : A) → p x ≡ q x) → (xs : List A) → every p xs ≡ every q xs
unfolding every
every_same p q e [] = refl
every_same p q e (x ∷ xs) = rw (e x, every_same p q e xs)

pub alike_proper : (is js : List Field) → Alike is js → proper is ≡ proper js
unfolding proper
alike_proper is js a =
    rw (alike_fits is js a, alike_ordered 0 is js a, every_same (λ row. leb (times row.0 is) 1) (λ row. leb (times row.0 js) 1) (λ row. ap (λ (n : ℕ). leb n 1) (alike_count (λ n. eqb n row.0) is js a)) listed)

pub alike_complete : (is js : List Field) → Alike is js → complete is ≡ complete js
unfolding complete
alike_complete is js a =
    every_same (λ row. leb 1 (times row.0 is)) (λ row. leb 1 (times row.0 js)) (λ row. ap (λ (n : ℕ). leb 1 n) (alike_count (λ n. eqb n row.0) is js a)) listed

-- ---- data of the same length

pub alike_with : (i : ℕ) (bs : List ℕ) (is : List Field) → length bs ≡ length (bytes_of i is) → Alike (with_bytes i bs is) is
unfolding with_bytes bytes_of
alike_with i bs [] l = tt
alike_with i bs (x ∷ xs) l = go (eqb x.id i) l (alike_with i bs xs)
  where
    go : (t : Bool)
        → length bs ≡ length (cond t x.bytes (bytes_of i xs))
        → (length bs ≡ length (bytes_of i xs) → Alike (with_bytes i bs xs) xs)
        → Alike (cond t (record { id = x.id; bytes = bs } ∷ xs) (x ∷ with_bytes i bs xs)) (x ∷ xs)
    go true l ih = (refl, l, alike_self xs)
    go false l ih = (refl, refl, ih l)

-- it is the item's data then
pub with_same : (i : ℕ) (bs : List ℕ) (is : List Field) → 1 ≤ times i is → bytes_of i (with_bytes i bs is) ≡ bs
unfolding with_bytes bytes_of
with_same i bs [] h = unfold count_if in absurd (omega arith)
with_same i bs (x ∷ xs) h = go (eqb x.id i) refl (with_same i bs xs)
  where
    go : (t : Bool)
        → eqb x.id i ≡ t
        → (1 ≤ times i xs → bytes_of i (with_bytes i bs xs) ≡ bs)
        → bytes_of i (cond t (record { id = x.id; bytes = bs } ∷ xs) (x ∷ with_bytes i bs xs)) ≡ bs
    go true e ih = rw e
    go false e ih = rw e (ih (omega (arith, times_miss i x xs (eqb-false x.id i e))))

-- and the others keep theirs
pub with_other : (i j : ℕ) (bs : List ℕ) (is : List Field) → (j ≡ i → ⊥) → bytes_of j (with_bytes i bs is) ≡ bytes_of j is
unfolding with_bytes bytes_of
with_other i j bs [] n = refl
with_other i j bs (x ∷ xs) n = go (eqb x.id i) refl (with_other i j bs xs n)
  where
    skip : eqb x.id j ≡ false → cond (eqb x.id j) bs (bytes_of j xs) ≡ cond (eqb x.id j) x.bytes (bytes_of j xs)
    skip m = rw m

    go : (t : Bool)
        → eqb x.id i ≡ t
        → bytes_of j (with_bytes i bs xs) ≡ bytes_of j xs
        → bytes_of j (cond t (record { id = x.id; bytes = bs } ∷ xs) (x ∷ with_bytes i bs xs)) ≡ cond (eqb x.id j) x.bytes (bytes_of j xs)
    go true e ih = let m : eqb x.id j ≡ false = ne_eqb x.id j (λ z. n (sym z ∙ eqb-true x.id i e)) in skip m
    go false e ih = rw ih

-- data put back changes nothing
pub with_own : (i : ℕ) (bs : List ℕ) (is : List Field) → bytes_of i is ≡ bs → with_bytes i bs is ≡ is
unfolding with_bytes bytes_of
with_own i bs [] e = refl
with_own i bs (x ∷ xs) e = go (eqb x.id i) e (with_own i bs xs)
  where
    go : (t : Bool)
        → cond t x.bytes (bytes_of i xs) ≡ bs
        → (bytes_of i xs ≡ bs → with_bytes i bs xs ≡ xs)
        → cond t (record { id = x.id; bytes = bs } ∷ xs) (x ∷ with_bytes i bs xs) ≡ x ∷ xs
    go true e ih = ap (λ (b : List ℕ). record { id = x.id; bytes = b } ∷ xs) (sym e)
    go false e ih = ap (λ (l : List Field). x ∷ l) (ih e)

-- the sum changes by the item's data
pub with_sum_law : (i : ℕ) (bs : List ℕ) (is : List Field)
    → 1 ≤ times i is
    → length bs ≡ length (bytes_of i is)
    → sum_of (written (with_bytes i bs is)) + sum_of (bytes_of i is) ≡ sum_of (written is) + sum_of bs
unfolding with_bytes bytes_of written
with_sum_law i bs [] h l = unfold count_if in absurd (omega arith)
with_sum_law i bs (x ∷ xs) h l = go (eqb x.id i) refl l (with_sum_law i bs xs)
  where
    go : (t : Bool)
        → eqb x.id i ≡ t
        → length bs ≡ length (cond t x.bytes (bytes_of i xs))
        → (1 ≤ times i xs → length bs ≡ length (bytes_of i xs) → sum_of (written (with_bytes i bs xs)) + sum_of (bytes_of i xs) ≡ sum_of (written xs) + sum_of bs)
        → sum_of (written (cond t (record { id = x.id; bytes = bs } ∷ xs) (x ∷ with_bytes i bs xs))) + sum_of (cond t x.bytes (bytes_of i xs))
        ≡ sum_of (raw x ++ written xs) + sum_of bs
    go true e l ih =
        unfold raw in unfold sum_of in omega (arith, l, sum_append bs (written xs), sum_append x.bytes (written xs))
    go false e l ih =
        let r = ih (omega (arith, times_miss i x xs (eqb-false x.id i e))) l in
        omega (arith, sum_append (raw x) (written (with_bytes i bs xs)), sum_append (raw x) (written xs))

-- ---- a store at the item's place

pub sets_mid : (p old q new : List ℕ) (n : ℕ) → length p ≡ n → length new ≡ length old → sets (p ++ (old ++ q)) n new ≡ p ++ (new ++ q)
sets_mid p old q new n l e =
    let a : length (p ++ (old ++ q)) ≡ length p + (length old + length q) = simp length-append in
    let t : take n (p ++ (old ++ q)) ≡ p = take_at p (old ++ q) n l in
    let d : drop (n + length new) (p ++ (old ++ q)) ≡ q =
    sym (drop-drop (length new) n (p ++ (old ++ q))) ∙ ap (drop (length new)) (drop_at p (old ++ q) n l) ∙ ap (λ (k : ℕ). drop k (old ++ q)) e ∙ drop-append_seam old q in
    sets-eq new (p ++ (old ++ q)) n (omega arith) ∙ rw (t, d) (append_assoc p new q)

-- an item by its head and its data
abbrev head_bytes : Field → List ℕ
head_bytes x = (x.id % 256) ∷ (x.id / 256) ∷ length x.bytes ∷ []

raw_parts : (pre : List ℕ) (x : Field) (ys rest : List ℕ) → pre ++ ((raw x ++ ys) ++ rest) ≡ (pre ++ head_bytes x) ++ (x.bytes ++ (ys ++ rest))
unfolding raw
raw_parts pre x ys rest = simp append_assoc

-- THE LAW of replacing: the bytes stored at the place of the first item with the id are that item's data
pub place_store : (i at : ℕ) (bs : List ℕ) (is : List Field) (pre rest : List ℕ)
    → length pre ≡ at
    → 1 ≤ times i is
    → length bs ≡ length (bytes_of i is)
    → sets (pre ++ (written is ++ rest)) (place_from i at is).at bs ≡ pre ++ (written (with_bytes i bs is) ++ rest)
unfolding with_bytes bytes_of written place_from
place_store i at bs [] pre rest l h m = unfold count_if in absurd (omega arith)
place_store i at bs (x ∷ xs) pre rest l h m =
    go (eqb x.id i) refl m (place_store i (at + (3 + length x.bytes)) bs xs (pre ++ raw x) rest)
  where
    go : (t : Bool)
        → eqb x.id i ≡ t
        → length bs ≡ length (cond t x.bytes (bytes_of i xs))
        → (length (pre ++ raw x) ≡ at + (3 + length x.bytes)
        → 1 ≤ times i xs
        → length bs ≡ length (bytes_of i xs)
        → sets ((pre ++ raw x) ++ (written xs ++ rest)) (place_from i (at + (3 + length x.bytes)) xs).at bs ≡ (pre ++ raw x) ++ (written (with_bytes i bs xs) ++ rest))
        → sets (pre ++ ((raw x ++ written xs) ++ rest)) (cond t (record { found = true; at = at + 3; size = length x.bytes }) (place_from i (at + (3 + length x.bytes)) xs)).at bs
        ≡ pre ++ (written (cond t (record { id = x.id; bytes = bs } ∷ xs) (x ∷ with_bytes i bs xs)) ++ rest)
    go true e m ih =
        let n : length (pre ++ head_bytes x) ≡ at + 3 = rw length-append (omega arith) in
        let y : Field = record { id = x.id; bytes = bs } in
        let heads : head_bytes y ≡ head_bytes x = ap (λ (k : ℕ). (x.id % 256) ∷ (x.id / 256) ∷ k ∷ []) m in
        rw (raw_parts pre x (written xs) rest) (sets_mid (pre ++ head_bytes x) x.bytes (written xs ++ rest) bs (at + 3) n m ∙ ap (λ (h : List ℕ). (pre ++ h) ++ (bs ++ (written xs ++ rest))) (sym heads) ∙ sym (raw_parts pre y (written xs) rest))
    go false e m ih =
        let a : pre ++ ((raw x ++ written xs) ++ rest) ≡ (pre ++ raw x) ++ (written xs ++ rest) = simp append_assoc in
        let b : (pre ++ raw x) ++ (written (with_bytes i bs xs) ++ rest) ≡ pre ++ ((raw x ++ written (with_bytes i bs xs)) ++ rest) = simp append_assoc in
        let n : length (pre ++ raw x) ≡ at + (3 + length x.bytes) = rw length-append (omega (arith, length_raw x)) in
        rw a (ih n (omega (arith, times_miss i x xs (eqb-false x.id i e))) m ∙ b)
