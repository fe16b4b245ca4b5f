-- Laws on numbers of up to four bytes, for the comparison of an item with a constant. Assumes nothing.
use Rattle.std.proofs.Common.{◌-◌, reverse}
use Rattle.std.proofs.lemmas.List.{get_or-reverse, length-reverse}
use mathlib.Core.Path.{◌≡◌, refl, ap, ◌∙◌}
use mathlib.Core.Bool.{Bool, true, false, cond}
use mathlib.Core.List.{List, [], ◌∷◌}
use Prim.Native.Nat.{ℕ, suc, ◌+◌, ◌*◌, ◌≤◌, ◌<◌}
use native.Mathlib.Omega.{arith}
use lib.Dec.{eqb}
use lib.ListN.{length, get_or, drop, length-drop, drop_of_length-le}
use lib.Seq.{get_or-drop, drop-cons}
use borrow.Author.Tests.{eqb-true}
use Rattle.numbers.specs.Numbers.{number}
use Rattle.equation.specs.Relation.{width}

-- a number has at most four bytes
pub width_le : (n : ℕ) → width n ≡ true → n ≤ 4
unfolding width
width_le n e = go (eqb n 1) refl (eqb n 2) refl (eqb n 4) refl e
  where
    go : (a : Bool) → eqb n 1 ≡ a → (b : Bool) → eqb n 2 ≡ b → (d : Bool) → eqb n 4 ≡ d → cond a true (cond b true d) ≡ true → n ≤ 4
    go true e b f d g h = omega (arith, eqb-true n 1 e)
    go false e true f d g h = omega (arith, eqb-true n 2 f)
    go false e false f d g h = omega (arith, eqb-true n 4 (g ∙ h))

few : (xs : List ℕ) → length xs ≤ 3 → ((k : ℕ) → get_or xs k 0 < 256) → number xs < 16777216
unfolding number
few [] h f = omega arith
few (a ∷ []) h f = omega (arith, f 0)
few (a ∷ b ∷ []) h f = omega (arith, f 0, f 1)
few (a ∷ b ∷ d ∷ []) h f = omega (arith, f 0, f 1, f 2)
few (a ∷ b ∷ d ∷ e ∷ xs) h f = let z : ⊥ = omega arith in absurd z

pub value_none : (s : List ℕ) → 0 ≡ number (drop (length s - 0) s)
unfolding number
value_none s = rw (drop_of_length-le s {i = length s - 0} (omega arith))

pub value_all : (s : List ℕ) (n v : ℕ) → v ≡ number (drop (length s - n) s) → n ≡ length (reverse s) → v ≡ number s
value_all s n v e f = let z : length s - n ≡ 0 = omega (arith, f, length-reverse s) in rw z at e

-- a number of which n bytes are read, the last byte first; b is the next one
module _ (s : List ℕ) (n v b : ℕ) (e : v ≡ number (drop (length s - n) s)) (t : (n < length (reverse s)) × (b ≡ get_or (reverse s) n b)) where
  left : n < length s
  left = omega (arith, length-reverse s, t.0)

  -- before its last byte, a number of four bytes is below 2 ^ 24
  pub value_small : length s ≤ 4 → ((k : ℕ) → get_or s k 0 < 256) → v < 16777216
  value_small p f = rw e (few (drop (length s - n) s) (omega (arith, left, length-drop (length s - n) s)) (λ k. rw (get_or-drop (length s - n) s k 0) (f (length s - n + k))))

  pub value_more : b + 256 * v ≡ number (drop (length s - (n + 1)) s)
  unfolding number
  value_more =
      let i : length s - n ≡ suc (length s - (n + 1)) = omega (arith, left) in
      let g : b ≡ get_or s (length s - (n + 1)) b = t.1 ∙ get_or-reverse s n b left ∙ ap (λ k. get_or s k b) (omega (arith, left)) in
      rw (drop-cons s (length s - (n + 1)) b (omega (arith, left)), ← g, e, i)
