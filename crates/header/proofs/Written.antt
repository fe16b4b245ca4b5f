-- The bytes of items: what a walk reads is what they are written as, and the other way round. Assumes nothing.
use Rattle.std.proofs.Common.{◌≡◌, ℕ, zero, suc, ◌+◌, ◌*◌, ◌/◌, ◌%◌, ◌<◌, ◌≤◌, true, false, eqb, leb, List, [], ◌∷◌, ◌++◌, length, get_or, take, drop, refl, ap, ◌∙◌, append_assoc, arith, length-append, ne_eqb, le-leb}
use lib.Seq.{take-append_seam, drop-append_seam}
use Rattle.header.specs.Items.{Field, Walk, head_of, after, walk}
use Rattle.header.proofs.Walk.{walk_skip}

-- all are bytes
abbrev pub Bytes : List ℕ → Type 0
Bytes [] = Unit {0}
Bytes (b ∷ bs) = (b < 256) × Bytes bs

pub bytes_all : (xs : List ℕ) → ((k : ℕ) → get_or xs k 0 < 256) → Bytes xs
bytes_all [] f = tt
bytes_all (x ∷ xs) f = (f 0, bytes_all xs (λ k. f (suc k)))

pub bytes_drop : (n : ℕ) (l : List ℕ) → Bytes l → Bytes (drop n l)
bytes_drop zero l a = a
bytes_drop (suc n) [] a = tt
bytes_drop (suc n) (x ∷ l) a = bytes_drop n l a.1

pub bytes_take : (n : ℕ) (l : List ℕ) → Bytes l → Bytes (take n l)
bytes_take zero l a = tt
bytes_take (suc n) [] a = tt
bytes_take (suc n) (x ∷ l) a = (a.0, bytes_take n l a.1)

pub bytes_append : (xs ys : List ℕ) → Bytes (xs ++ ys) → Bytes xs × Bytes ys
bytes_append [] ys v = (tt, v)
bytes_append (x ∷ xs) ys v = let r = bytes_append xs ys v.1 in ((v.0, r.0), r.1)

pub bytes_join : (xs ys : List ℕ) → Bytes xs → Bytes ys → Bytes (xs ++ ys)
bytes_join [] ys v w = w
bytes_join (x ∷ xs) ys v w = (v.0, bytes_join xs ys v.1 w)

-- ---- items as bytes

unfoldable pub raw : Field → List ℕ
raw x = (x.id % 256) ∷ (x.id / 256) ∷ length x.bytes ∷ x.bytes

-- the items and the end mark
unfoldable pub written : List Field → List ℕ
written [] = 0 ∷ 0 ∷ 0 ∷ []
written (x ∷ xs) = raw x ++ written xs

-- id 0 is no item's
abbrev pub Named : List Field → Type 0
Named [] = Unit {0}
Named (x ∷ xs) = (x.id ≡ 0 → ⊥) × Named xs

pub length_raw : (x : Field) → length (raw x) ≡ 3 + length x.bytes
unfolding raw
length_raw x = omega arith

pub length_written : (is : List Field) → length is ≤ length (written is)
unfolding written raw
length_written [] = omega arith
length_written (x ∷ xs) = simp length-append (omega (arith, length_written xs))

pub written_three : (is : List Field) → 3 ≤ length (written is)
unfolding written raw
written_three [] = omega arith
written_three (x ∷ xs) = omega arith

-- ---- the walk by its first bytes

-- a walk with one item more in front
abbrev pub with_item : Field → Walk → Walk
with_item x r = record { items = x ∷ r.items; whole = r.whole; size = 3 + length x.bytes + r.size }

two_past : (n b m : ℕ) (bs : List ℕ) → walk (2 + n) (b ∷ m ∷ bs) ≡ walk 0 (drop n bs)
two_past n b m bs = let q : 2 + n ≡ suc (suc n) = omega arith in rw q (unfold walk in walk_skip n bs)

module _ (a b n : ℕ) (bs : List ℕ) where
  pub front_end : eqb (a + 256 * b) 0 ≡ true → eqb n 0 ≡ true → walk 0 (a ∷ b ∷ n ∷ bs) ≡ record { items = []; whole = true; size = 3 }
  unfolding walk head_of after
  front_end e f = rw (e, f)

  pub front_zero : eqb (a + 256 * b) 0 ≡ true → eqb n 0 ≡ false → walk 0 (a ∷ b ∷ n ∷ bs) ≡ record { items = []; whole = false; size = 0 }
  unfolding walk head_of after
  front_zero e f = rw (e, f)

  pub front_over : eqb (a + 256 * b) 0 ≡ false
      → leb n (length bs) ≡ false
      → walk 0 (a ∷ b ∷ n ∷ bs) ≡ record { items = []; whole = false; size = 0 }
  unfolding walk head_of after
  front_over e f = rw (e, f)

  pub front_item : (xs : List ℕ)
      → length xs ≡ n
      → take n bs ≡ xs
      → eqb (a + 256 * b) 0 ≡ false
      → leb n (length bs) ≡ true
      → walk 0 (a ∷ b ∷ n ∷ bs) ≡ with_item (record { id = a + 256 * b; bytes = xs }) (walk 0 (drop n bs))
  unfolding walk head_of after
  front_item xs l t e f = rw (e, f, two_past n b n bs, t, l)

-- ---- round trip

-- THE LAW of writing: written items are read back as they are, whatever follows the end mark
pub walk_written : (is : List Field) (rest : List ℕ)
    → Named is
    → walk 0 (written is ++ rest) ≡ record { items = is; whole = true; size = length (written is) }
unfolding written raw
walk_written [] rest v = front_end 0 0 0 rest refl refl
walk_written (x ∷ xs) rest v =
    let i : x.id % 256 + 256 * (x.id / 256) ≡ x.id = omega arith in
    let q : 3 + length x.bytes + length (written xs) ≡ suc (suc (suc (length x.bytes + length (written xs)))) = omega arith in
    let bs : List ℕ = (x.bytes ++ written xs) ++ rest in
    let l : length bs ≡ length x.bytes + (length (written xs) + length rest) = rw append_assoc (simp length-append) in
    let t : take (length x.bytes) bs ≡ x.bytes = ap (take (length x.bytes)) (append_assoc x.bytes (written xs) rest) ∙ take-append_seam x.bytes (written xs ++ rest) in
    let d : drop (length x.bytes) bs ≡ written xs ++ rest = ap (drop (length x.bytes)) (append_assoc x.bytes (written xs) rest) ∙ drop-append_seam x.bytes (written xs ++ rest) in
    let z : eqb (x.id % 256 + 256 * (x.id / 256)) 0 ≡ false = rw i (ne_eqb x.id 0 v.0) in
    front_item (x.id % 256) (x.id / 256) (length x.bytes) bs x.bytes refl t z (le-leb (length x.bytes) (length bs) (omega arith))
    ∙ rw (i, d, walk_written xs rest v.1, length-append x.bytes (written xs)) (ap (λ (k : ℕ). record { items = x ∷ xs; whole = true; size = k }) q)
