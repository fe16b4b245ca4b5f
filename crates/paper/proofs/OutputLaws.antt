-- Bytes put one after the other, and the result's delivery. Assumes nothing.
use Rattle.std.proofs.Common.{Ok, Err}
use mathlib.Core.Path.{◌≡◌, refl}
use mathlib.Core.Bool.{Bool, true, false, cond}
use mathlib.Core.List.{List, [], ◌∷◌, ◌++◌}
use Prim.Native.Nat.{ℕ, ◌+◌, ◌≤◌}
use native.Mathlib.Omega.{arith}
use lib.Dec.{leb, eqb}
use lib.ListN.{length, set, take, drop}
use lib.Seq.{sets, sets-eq, take_at}
use borrow.Author.Tests.{leb-true, eqb-true}
use Rattle.equation.specs.Relation.{width}
use Rattle.readings.proofs.PutLaws as puts
use Rattle.paper.specs.Answer.{answers, delivered, delivered_from}
use Rattle.paper.specs.declared.Answer.TheVariants as answer

-- ---- bytes

module _ (out : List ℕ) (n w x y z : ℕ) (o1 o2 o3 o4 : List ℕ) (a b c d : ℕ) (ha : a ≡ n + 1) (e1 : o1 ≡ set out n w) where
  pub two_puts : b ≡ a + 1 → o2 ≡ set o1 a x → o2 ≡ sets out n (w ∷ x ∷ [])
  two_puts hb e2 = puts.put_more out o1 o2 n a (w ∷ []) x e1 ha e2

  pub four_puts : b ≡ a + 1 → c ≡ b + 1 → o2 ≡ set o1 a x → o3 ≡ set o2 b y → o4 ≡ set o3 c z → o4 ≡ sets out n (w ∷ x ∷ y ∷ z ∷ [])
  four_puts hb hc e2 e3 e4 =
      puts.put_more out o3 o4 n c (w ∷ x ∷ y ∷ []) z (puts.put_more out o2 o3 n b (w ∷ x ∷ []) y (two_puts hb e2) (omega arith) e3) (omega arith) e4

-- a width is 4 where it is neither 1 nor 2
pub four_wide : (w : ℕ) → width w ≡ true → (w ≡ 1 → ⊥) → (w ≡ 2 → ⊥) → w ≡ 4
unfolding width
four_wide w h i j = by (eqb w 1) refl h
  where
    by2 : (t : Bool) → eqb w 2 ≡ t → cond t true (eqb w 4) ≡ true → w ≡ 4
    by2 true e z = absurd (j (eqb-true w 2 e))
    by2 false e z = eqb-true w 4 z

    by : (t : Bool) → eqb w 1 ≡ t → cond t true (cond (eqb w 2) true (eqb w 4)) ≡ true → w ≡ 4
    by true e z = absurd (i (eqb-true w 1 e))
    by false e z = by2 (eqb w 2) refl z

-- ---- the delivery

-- what the buffer holds is delivered as the bytes that were put
pub from_buffer : (buffer bytes out : List ℕ) (m : ℕ) → length buffer ≡ 256 → m ≡ length bytes → delivered_from (sets buffer 0 bytes) m out ≡ delivered bytes out
unfolding delivered_from delivered
from_buffer buffer bytes out m l e = rw e (by (leb (length bytes) 256) refl)
  where
    by : (t : Bool) → leb (length bytes) 256 ≡ t
        → cond t (cond (leb (length bytes) (length out)) (answers (Ok (answer.Bytes (length bytes)))
        (take (length bytes) (sets buffer 0 bytes) ++ drop (length bytes) out)) (answers (Err 33) out)) (answers (Ok answer.Long) out)
        ≡ cond t (cond (leb (length bytes) (length out)) (answers (Ok (answer.Bytes (length bytes))) (bytes ++ drop (length bytes) out))
        (answers (Err 33) out)) (answers (Ok answer.Long) out)
    by false h = refl
    by true h =
        let fit : 0 + length bytes ≤ length buffer = omega (arith, leb-true (length bytes) 256 h) in
        let s : take (length bytes) (sets buffer 0 bytes) ≡ bytes = rw (sets-eq bytes buffer 0 fit)
        (take_at bytes (drop (0 + length bytes) buffer) (length bytes) refl) in
        rw s
