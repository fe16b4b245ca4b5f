-- THE REASONS for an equation's truth (document 02, A5): the tool "names, by their numbers in the equation from 1, rising, the relations that
-- decided. For a true AND or a false OR it gives the reasons of both sides; for a false AND or a true OR only those of the first operand that
-- settles it." Assumes nothing.
use Rattle.std.specs.Prelude.{Bool, ◌&&◌, ◌||◌, cond, List, [], ◌∷◌, ◌++◌, ℕ, ◌+◌}
use Rattle.equation.specs.Holds.{Relation}
use Rattle.equation.specs.Tree.{Tree, leaf, both, either, truth}

-- the numbers of the relations that decided, with the truth of each relation given; the operands of a connective stand in the order of the bytes
unfoldable pub reasons : (ℕ → Relation → Bool) → Tree → List ℕ
reasons f (leaf k r) = (k + 1) ∷ []
reasons f (both a b) =
    cond (truth f a && truth f b) (reasons f a ++ reasons f b) (cond (truth f a) (reasons f b) (reasons f a))
reasons f (either a b) =
    cond (truth f a || truth f b) (cond (truth f a) (reasons f a) (reasons f b)) (reasons f a ++ reasons f b)
