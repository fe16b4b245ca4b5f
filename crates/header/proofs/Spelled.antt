-- The bytes that a walk reads, whatever they are: an item's two bytes stand for its id, and they are the id's own two bytes where the id is listed.
-- Assumes nothing.
use Rattle.std.proofs.Common.{◌≡◌, ℕ, zero, suc, ◌+◌, ◌*◌, ◌≤◌, Bool, true, false, eqb, leb, List, [], ◌∷◌, ◌++◌, length, take, drop, sym, refl, ap, ◌∙◌, append_assoc, arith, length-append, length-drop, take-append-drop, length-take-le, ne_eqb, eqb-true, le-leb, leb-true}
use lib.Seq.{take-append_seam, drop-append_seam, take-append-add}
use borrow.Author.Tests.{eqb-false}
use Rattle.header.specs.Items.{Field, Walk, head_of, after, walk}
use Rattle.header.proofs.Machine.{clash}
use Rattle.header.proofs.Written.{raw, written, length_raw, front_end, front_zero, front_over, front_item}

-- the bytes spell the items and the end mark
abbrev pub Spelled : List Field → List ℕ → Type 0
Spelled [] bs = (rest : List ℕ) × (bs ≡ 0 ∷ 0 ∷ 0 ∷ rest)
Spelled (x ∷ xs) bs =
    (a : ℕ) × (b : ℕ) × (rest : List ℕ) × (bs ≡ a ∷ b ∷ length x.bytes ∷ (x.bytes ++ rest)) × (x.id ≡ a + 256 * b) × (x.id ≡ 0 → ⊥) × Spelled xs rest

-- what spells items is read as them
pub spelled_walk : (is : List Field) (bs : List ℕ) → Spelled is bs → walk 0 bs ≡ record { items = is; whole = true; size = length (written is) }
unfolding written raw
spelled_walk [] bs s = ap (walk 0) s.1 ∙ front_end 0 0 0 s.0 refl refl
spelled_walk (x ∷ xs) bs s =
    let a = s.0 in
    let b = s.1 in
    let rest = s.2 in
    let z : eqb (a + 256 * b) 0 ≡ false = ne_eqb (a + 256 * b) 0 (λ q. s.5 (s.4 ∙ q)) in
    let l : leb (length x.bytes) (length (x.bytes ++ rest)) ≡ true =
    le-leb (length x.bytes) (length (x.bytes ++ rest)) (omega (arith, length-append x.bytes rest)) in
    let q : 3 + length x.bytes + length (written xs) ≡ suc (suc (suc (length (x.bytes ++ written xs)))) =
    omega (arith, length-append x.bytes (written xs)) in
    ap (walk 0) s.3
    ∙ front_item a b (length x.bytes) (x.bytes ++ rest) x.bytes refl (take-append_seam x.bytes rest) z l
    ∙ rw (drop-append_seam x.bytes rest, spelled_walk xs rest s.6, q, ← s.4)

-- a walk that comes to the end mark reads what is spelled
pub walk_spelled : (fuel : ℕ) (bs : List ℕ) → length bs ≤ fuel → (walk 0 bs).whole ≡ true → Spelled (walk 0 bs).items bs
walk_spelled zero [] h e = unfold walk in absurd (clash (sym e))
walk_spelled zero (a ∷ bs) h e = absurd (omega arith)
walk_spelled (suc fuel) [] h e = unfold walk in absurd (clash (sym e))
walk_spelled (suc fuel) (a ∷ []) h e = unfold walk head_of after in absurd (clash (sym e))
walk_spelled (suc fuel) (a ∷ b ∷ []) h e = unfold walk head_of after in absurd (clash (sym e))
walk_spelled (suc fuel) (a ∷ b ∷ n ∷ bs) h e =
    go (eqb (a + 256 * b) 0) refl (eqb n 0) refl (leb n (length bs)) refl (walk_spelled fuel (drop n bs) (rw length-drop (omega arith)))
  where
    whole : (w : Walk) → walk 0 (a ∷ b ∷ n ∷ bs) ≡ w → w.whole ≡ true
    whole w q = ap (λ (v : Walk). v.whole) (sym q) ∙ e

    go : (t : Bool) → eqb (a + 256 * b) 0 ≡ t → (u : Bool) → eqb n 0 ≡ u → (v : Bool) → leb n (length bs) ≡ v
        → ((walk 0 (drop n bs)).whole ≡ true → Spelled (walk 0 (drop n bs)).items (drop n bs))
        → Spelled (walk 0 (a ∷ b ∷ n ∷ bs)).items (a ∷ b ∷ n ∷ bs)
    go true p true q v r ih =
        let i = eqb-true (a + 256 * b) 0 p in
        let a₀ : a ≡ 0 = omega arith in
        let b₀ : b ≡ 0 = omega arith in
        let n₀ : n ≡ 0 = eqb-true n 0 q in
        rw (front_end a b n bs p q) (bs, rw (a₀, b₀, n₀))
    go true p false q v r ih = absurd (clash (sym (whole _ (front_zero a b n bs p q))))
    go false p u q false r ih = absurd (clash (sym (whole _ (front_over a b n bs p r))))
    go false p u q true r ih =
        let l : length (take n bs) ≡ n = length-take-le n bs (leb-true n (length bs) r) in
        let f = front_item a b n bs (take n bs) l refl p r in
        rw f (a, b, drop n bs, rw (l, take-append-drop n bs), refl, eqb-false (a + 256 * b) 0 p, ih (whole _ f))

-- they are as many bytes as the items are written in
pub spelled_length : (is : List Field) (bs : List ℕ) → Spelled is bs → length (written is) ≤ length bs
unfolding written
spelled_length [] bs s = rw s.1 (omega arith)
spelled_length (x ∷ xs) bs s =
    let h = spelled_length xs s.2 s.6 in
    rw s.3 (omega (arith, length-append (raw x) (written xs), length_raw x, length-append x.bytes s.2))

-- and the bytes after them are none of theirs
pub spelled_front : (is : List Field) (bs : List ℕ) → Spelled is bs → Spelled is (take (length (written is)) bs)
unfolding written
spelled_front [] bs s = ([], rw s.1)
spelled_front (x ∷ xs) bs s =
    let n : length (raw x ++ written xs) ≡ suc (suc (suc (length x.bytes + length (written xs)))) =
    omega (arith, length-append (raw x) (written xs), length_raw x) in (
      s.0,
      s.1,
      take (length (written xs)) s.2,
      rw (s.3, n, take-append-add x.bytes s.2 (length (written xs))),
      s.4,
      s.5,
      spelled_front xs s.2 s.6,
    )

pub spelled_append : (is : List Field) (bs more : List ℕ) → Spelled is bs → Spelled is (bs ++ more)
spelled_append [] bs more s = (s.0 ++ more, rw s.1)
spelled_append (x ∷ xs) bs more s =
    (s.0, s.1, s.2 ++ more, rw (s.3, append_assoc x.bytes s.2 more), s.4, s.5, spelled_append xs s.2 more s.6)
