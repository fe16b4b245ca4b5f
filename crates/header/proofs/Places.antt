-- Where the data of an item stands: inside the header, behind 01 to 0b where it is another, and with the item's bytes. Assumes nothing.
use Rattle.std.proofs.Common.{◌≡◌, ℕ, zero, suc, ◌+◌, ◌<◌, ◌≤◌, Bool, true, false, cond, eqb, List, [], ◌∷◌, ◌++◌, length, take, drop, refl, ap, ◌∙◌, append_assoc, arith, length-append, ne_eqb}
use lib.Seq.{take-append_seam, drop-append-add}
use borrow.Author.Tests.{eqb-false}
use Rattle.header.specs.Items.{Field}
use Rattle.header.specs.Header.{every, times, count_if, bytes_of, fits, place_from}
use Rattle.header.specs.Fields.{before}
use Rattle.header.specs.declared.scan.Place.{Place}
use Rattle.header.proofs.Written.{raw, written, length_raw, written_three}
use Rattle.header.proofs.Order.{Chain, times_miss, every_here, chain_length}

-- an item that is there is found: its data lies between the first item's head and the end mark
pub record Inside (p : Place) (n first end : ℕ) : Type 0 where
  pub found : p.found ≡ true
  pub size : p.size ≡ n
  pub after : first + 3 ≤ p.at
  pub within : p.at + n + 3 ≤ end

pub place_inside : (i at : ℕ) (is : List Field) → 1 ≤ times i is → Inside (place_from i at is) (length (bytes_of i is)) at (at + length (written is))
unfolding place_from bytes_of written
place_inside i at [] h = unfold count_if in absurd (omega arith)
place_inside i at (x ∷ xs) h =
    let l : length (raw x ++ written xs) ≡ 3 + length x.bytes + length (written xs) = rw (length-append, length_raw) in
    go (eqb x.id i) refl l (written_three xs) (place_inside i (at + (3 + length x.bytes)) xs)
  where
    go : (t : Bool)
        → eqb x.id i ≡ t
        → length (raw x ++ written xs) ≡ 3 + length x.bytes + length (written xs)
        → 3 ≤ length (written xs)
        → (1 ≤ times i xs
        → Inside (place_from i (at + (3 + length x.bytes)) xs) (length (bytes_of i xs)) (at + (3 + length x.bytes)) (at + (3 + length x.bytes) + length (written xs)))
        → Inside
        (cond t (record { found = true; at = at + 3; size = length x.bytes }) (place_from i (at + (3 + length x.bytes)) xs))
        (length (cond t x.bytes (bytes_of i xs)))
        at
        (at + length (raw x ++ written xs))
    go true e l w ih = record { found = refl; size = refl; after = omega arith; within = omega arith }
    go false e l w ih =
        let r = ih (omega (arith, times_miss i x xs (eqb-false x.id i e))) in
        let a = r.after in
        let b = r.within in
        record { found = r.found; size = r.size; after = omega arith; within = omega arith }

pub place_miss : (i at : ℕ) (x : Field) (xs : List Field) → (x.id ≡ i → ⊥) → place_from i at (x ∷ xs) ≡ place_from i (at + (3 + length x.bytes)) xs
unfolding place_from
place_miss i at x xs e = rw (ne_eqb x.id i e)

-- an item with an id above 0b comes behind those up to 0b
pub place_past : (k last i at : ℕ) (is : List Field)
    → last + k ≡ 11
    → 11 < i
    → Chain k last is
    → every fits is ≡ true
    → 1 ≤ times i is
    → at + before k last + 3 ≤ (place_from i at is).at
unfolding before
place_past zero last i at is h a c f m = let r = place_inside i at is m in let q = r.after in omega arith
place_past (suc k) last i at [] h a c f m = absurd c
place_past (suc k) last i at (x ∷ xs) h a c f m =
    let j = c.0 in
    let n = chain_length x last k h j (every_here x xs f).0 in
    let e : (x.id ≡ i → ⊥) = (λ z. omega arith) in
    let r = place_past k (suc last) i (at + (3 + length x.bytes)) xs (omega arith) a c.1 (every_here x xs f).1 (omega (arith, times_miss i x xs e)) in
    rw (place_miss i at x xs e) (omega arith)

item_bytes_law : (x : Field) (ys rest : List ℕ) → take (length x.bytes) (drop 3 ((raw x ++ ys) ++ rest)) ≡ x.bytes
unfolding raw
item_bytes_law x ys rest = ap (take (length x.bytes)) (append_assoc x.bytes ys rest) ∙ take-append_seam x.bytes (ys ++ rest)

-- THE LAW of places: what stands there is the data of the first item with the id
pub place_data : (i at : ℕ) (is : List Field) (pre rest : List ℕ)
    → length pre ≡ at
    → 1 ≤ times i is
    → take (place_from i at is).size (drop (place_from i at is).at (pre ++ (written is ++ rest))) ≡ bytes_of i is
unfolding place_from written bytes_of
place_data i at [] pre rest l h = unfold count_if in absurd (omega arith)
place_data i at (x ∷ xs) pre rest l h =
    go (eqb x.id i) refl (place_data i (at + (3 + length x.bytes)) xs (pre ++ raw x) rest)
  where
    next : ℕ
    next = at + (3 + length x.bytes)

    here : take (length x.bytes) (drop (at + 3) (pre ++ ((raw x ++ written xs) ++ rest))) ≡ x.bytes
    here =
        let q : at + 3 ≡ length pre + 3 = omega arith in
        rw (q, drop-append-add pre ((raw x ++ written xs) ++ rest) 3) (item_bytes_law x (written xs) rest)

    again : pre ++ ((raw x ++ written xs) ++ rest) ≡ (pre ++ raw x) ++ (written xs ++ rest)
    again = simp append_assoc

    long : length (pre ++ raw x) ≡ at + (3 + length x.bytes)
    long = rw length-append (omega (arith, length_raw x))

    go : (t : Bool)
        → eqb x.id i ≡ t
        → (length (pre ++ raw x) ≡ at + (3 + length x.bytes)
        → 1 ≤ times i xs
        → take (place_from i (at + (3 + length x.bytes)) xs).size (drop (place_from i (at + (3 + length x.bytes)) xs).at ((pre ++ raw x) ++ (written xs ++ rest))) ≡ bytes_of i xs)
        → take (cond t (record { found = true; at = at + 3; size = length x.bytes }) (place_from i (at + (3 + length x.bytes)) xs)).size
        (drop (cond t (record { found = true; at = at + 3; size = length x.bytes }) (place_from i (at + (3 + length x.bytes)) xs)).at (pre ++ ((raw x ++ written xs) ++ rest)))
        ≡ cond t x.bytes (bytes_of i xs)
    go true e ih = here
    go false e ih = rw again (ih long (omega (arith, times_miss i x xs (eqb-false x.id i e))))
