-- The tree of an equation, and its truth (document 01, "Equations": "Postfix."). Assumes nothing.
use Rattle.std.specs.Prelude.{Bool, ◌&&◌, ◌||◌, cond, List, [], ◌∷◌, ℕ, suc, ltb, length}
use Rattle.std.proofs.Math.Option.{Option, none, some}
use Rattle.header.specs.Items.{Field}
use Rattle.equation.specs.Holds.{Relation, holds}
use Rattle.equation.specs.Symbols.{Symbol, rel, and, or, bad, symbols}

-- a stack is its results, the last one first; "the stack runs empty or past 100" refuses, and so does "not exactly one result is left"
unfoldable pub pushed : {A : Type 0} → A → List A → Option (List A)
pushed a st = cond (ltb (length st) 100) (some (a ∷ st)) none

-- the last two results become one; the first operand was pushed first
unfoldable pub joined : {A : Type 0} → (A → A → A) → List A → Option (List A)
joined f [] = none
joined f (b ∷ []) = none
joined f (b ∷ a ∷ st) = some (f a b ∷ st)

unfoldable pub result : {A : Type 0} → List A → Option A
result [] = none
result (a ∷ []) = some a
result (a ∷ b ∷ st) = none

unfoldable pub bind : {A B : Type 0} → Option A → (A → Option B) → Option B
bind none f = none
bind (some a) f = f a

-- the run of symbols on a stack, over results of any kind; `leaf` gives that of a relation by its number, and k is the next relation's
module _ {A : Type 0} (leaf : ℕ → Relation → A) (both either : A → A → A) where
  unfoldable pub run : ℕ → List Symbol → List A → Option A
  run k [] st = result st
  run k (rel r ∷ ss) st = bind (pushed (leaf k r) st) (run (suc k) ss)
  run k (and ∷ ss) st = bind (joined both st) (run k ss)
  run k (or ∷ ss) st = bind (joined either st) (run k ss)
  run k (bad ∷ ss) st = none

-- an equation as a tree: relations with their numbers, AND, OR
pub data Tree : Type 0 where
  leaf : ℕ → Relation → Tree
  both : Tree → Tree → Tree
  either : Tree → Tree → Tree

-- the tree of an equation; none exactly where document 01 gives 8
unfoldable pub parse : List ℕ → Option Tree
parse bs = run leaf both either 0 (symbols bs) []

-- the truth of a tree, from that of its relations
unfoldable pub truth : (ℕ → Relation → Bool) → Tree → Bool
truth f (leaf k r) = f k r
truth f (both a b) = truth f a && truth f b
truth f (either a b) = truth f a || truth f b

-- the truth of a tree on the items of a header
abbrev pub truth_on : List Field → Tree → Bool
truth_on fields t = truth (λ k r. holds r fields) t
