-- 256 bytes hold at most 64 relations, so the depth of the stack is never what refuses an equation there. Assumes nothing.
use mathlib.Core.Path.{◌≡◌, refl}
use mathlib.Core.List.{List, [], ◌∷◌}
use mathlib.Core.Option.{Option, none}
use Prim.Native.Nat.{ℕ, suc, ◌+◌, ◌≤◌}
use native.Mathlib.Omega.{arith}
use lib.ListN.{length}
use borrow.Author.Tests.{lt-ltb}
use Rattle.equation.specs.Holds.{Relation}
use Rattle.equation.specs.Symbols.{Symbol, rel, and, or, bad, symbols, relations}
use Rattle.equation.specs.Tree.{pushed, joined, result, bind, run, leaf, both, either, parse}
use Rattle.equation.specs.Marks.{relations_of}
use Rattle.equation.proofs.SymbolLaws.{few_relations}

pub at_most_64 : (eq : List ℕ) → length eq ≤ 256 → length (relations_of eq) ≤ 64
at_most_64 eq h = omega (arith, few_relations eq)

module _ {A : Type 0} (l : ℕ → Relation → A) (b e : A → A → A) where
  -- the run on a stack without a limit
  pub run_free : ℕ → List Symbol → List A → Option A
  run_free k [] st = result st
  run_free k (rel r ∷ ss) st = run_free (suc k) ss (l k r ∷ st)
  run_free k (and ∷ ss) st = bind (joined b st) (run_free k ss)
  run_free k (or ∷ ss) st = bind (joined e st) (run_free k ss)
  run_free k (bad ∷ ss) st = none

  -- with room for every relation the limit is not met
  pub free : (k : ℕ) (ss : List Symbol) (st : List A) → length st + length (relations ss) ≤ 100 → run l b e k ss st ≡ run_free k ss st
  unfolding run run_free pushed joined bind relations
  free k [] st h = refl
  free k (rel r ∷ ss) st h = rw (lt-ltb (length st) 100 (omega arith)) (free (suc k) ss (l k r ∷ st) (omega arith))
  free k (and ∷ ss) [] h = refl
  free k (and ∷ ss) (y ∷ []) h = refl
  free k (and ∷ ss) (y ∷ x ∷ st) h = free k ss (b x y ∷ st) (omega arith)
  free k (or ∷ ss) [] h = refl
  free k (or ∷ ss) (y ∷ []) h = refl
  free k (or ∷ ss) (y ∷ x ∷ st) h = free k ss (e x y ∷ st) (omega arith)
  free k (bad ∷ ss) st h = refl

-- up to 256 bytes an equation's tree is that of the run without a limit
pub no_depth : (eq : List ℕ) → length eq ≤ 256 → parse eq ≡ run_free leaf both either 0 (symbols eq) []
unfolding parse
no_depth eq h = free leaf both either 0 (symbols eq) [] (omega (arith, at_most_64 eq h))
