-- Bytes put one after the other. Assumes nothing.
use mathlib.Core.Path.{◌≡◌, refl, ap, ◌∙◌}
use mathlib.Core.List.{List, [], ◌∷◌, ◌++◌}
use Prim.Native.Nat.{ℕ, suc, ◌+◌, ◌<◌}
use native.Mathlib.Omega.{arith}
use lib.ListN.{length, set}
use lib.Seq.{sets, set_comm}
use Rattle.lines.proofs.Writing.{joined}

pub put_more : (out now later : List ℕ) (n m : ℕ) (xs : List ℕ) (b : ℕ) → now ≡ sets out n xs → m ≡ n + length xs → later ≡ set now m b → later ≡ sets out n
    (xs ++ b ∷ [])
put_more out now later n m xs b e h f = f ∙ rw (e, h) (joined out n xs (b ∷ []))

pub put_all : (out now later : List ℕ) (n m : ℕ) (xs ys : List ℕ) → now ≡ sets out n xs → m ≡ n + length xs → later ≡ sets now m ys → later ≡ sets out n
    (xs ++ ys)
put_all out now later n m xs ys e h f = f ∙ rw (e, h) (joined out n xs ys)

-- a byte before those put last may be put after them
pub put_before : (l : List ℕ) (i j : ℕ) (b : ℕ) (xs : List ℕ) → i < j → set (sets l j xs) i b ≡ sets (set l i b) j xs
put_before l i j b [] h = refl
put_before l i j b (x ∷ xs) h = put_before (set l j x) i (suc j) b xs (omega arith) ∙ ap (λ (m : List ℕ). sets m (suc j) xs)
    (set_comm l j i x b (λ z. omega arith))
