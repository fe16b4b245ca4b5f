-- The marks of an equation's relations after the items of a stored file's header. Assumes nothing.
use Rattle.std.specs.Prelude.{cond, List, ℕ}
use Rattle.header.specs.Items.{fields_of}
use Rattle.equation.specs.Marks.{settled_by}
use Rattle.equation.specs.Parsed.{relations_by}
use Rattle.stored.specs.Answers.{file_at, sizes_fit}

-- 33, "a size or length outside the table"
unfoldable pub settle_number : List ℕ → List ℕ → ℕ → ℕ
settle_number disk owner place = cond (sizes_fit disk owner place) 0 33

-- the items settle the marks in turn; a refusal leaves them
unfoldable pub settled_at : List ℕ → List ℕ → List ℕ → List ℕ → ℕ → ℕ → List ℕ → List ℕ
settled_at eq steps disk owner place received marks =
    cond (sizes_fit disk owner place) (settled_by (fields_of (file_at disk owner place received)) (relations_by eq steps) marks) marks
