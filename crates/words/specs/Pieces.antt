-- Pieces of a line, put one behind the other. Assumes nothing.
use Rattle.std.specs.Prelude.{◌≡◌, List, [], ◌∷◌, ◌++◌, ℕ, ◌+◌, length}
use Rattle.std.proofs.lemmas.List.Edits.{sets}
use Rattle.packet.specs.Names.{bytes_of}
use Rattle.lines.specs.Text.{decimal_of}

-- a piece was put behind the first n bytes, and the place behind it is known
pub record Pushed (out : List ℕ) (n : ℕ) (piece : List ℕ) (r : ℕ) (now : List ℕ) : Type 0 where
  pub end : r ≡ n + length piece
  pub is : now ≡ sets out n piece

-- the word and the file's number, in front of what is told
unfoldable pub front_of : ℕ → List ℕ
front_of number = bytes_of "why\t" ++ (decimal_of number ++ (9 ∷ []))
