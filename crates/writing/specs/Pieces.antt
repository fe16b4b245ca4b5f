-- A piece of text put before a place: what the functions that write an equation's text do. Assumes nothing.
use Rattle.std.specs.Prelude.{◌≡◌, List, ℕ, ◌+◌, length}
use Rattle.std.proofs.lemmas.List.Edits.{sets}

-- a text was put before place n, and begins at place r
pub record Piece (text : List ℕ) (n : ℕ) (out : List ℕ) (r : ℕ) (now : List ℕ) : Type 0 where
  pub place : r + length text ≡ n
  pub bytes : now ≡ sets out r text
