-- What the writer's private functions work on: the steps of an equation (crates/equation) as the symbols of a formula in postfix order. Assumes
-- nothing.
use Rattle.std.specs.Prelude.{◌≡◌, cond, List, ◌++◌, ℕ, ◌≤◌, eqb, length, take}
use Rattle.equation.specs.Symbols.{Symbol}
use Rattle.equation.specs.Parsed.{symbols_by}
use Rattle.grammar.specs.Formula.{Formula, symbols_of}
use Rattle.writing.specs.Text.{text_of}
use Rattle.writing.specs.Places.{text_at, AllStand}
use Rattle.writing.specs.Pieces.{Piece}
use Rattle.back.specs.declared.Place.{Place}
use Rattle.back.specs.declared.Nesting.{Nesting}

-- how close the connective of a step binds: AND as 1, OR as 0
unfoldable pub binding_of : ℕ → ℕ
binding_of s = cond (eqb s 2048) 1 0

-- the first e steps end with those of a formula
pub record Ready (bytes steps : List ℕ) (e : ℕ) : Type 0 where
  pub formula : Formula
  pub before : List Symbol
  pub fits : e ≤ length steps
  pub is : symbols_by bytes (take e steps) ≡ before ++ symbols_of formula

-- and its text has room before place n
pub record Room (bytes steps : List ℕ) (e level n : ℕ) : Type 0 where
  pub ready : Ready bytes steps e
  pub stand : AllStand bytes steps
  pub room : length (text_at level ready.formula) ≤ n

-- the text of a formula was put before place n, and the steps of the formula begin at a place
pub record Wrote (text : List ℕ) (before : List Symbol) (n : ℕ) (out : List ℕ) (r : Place) (now : List ℕ) : Type 0 where
  pub at : r.at ≡ length before
  pub piece : Piece text n out r.n now

-- so it is for every formula whose steps end there
abbrev pub FormulaPut : List ℕ → List ℕ → ℕ → ℕ → ℕ → List ℕ → Place → List ℕ → Type 0
FormulaPut bytes steps e level n out r now =
    (w : Room bytes steps e level n) → Wrote (text_at level w.ready.formula) w.ready.before n out r now

-- how deep brackets are nested in the text of a formula, and where its steps begin
pub record Measured (nested : ℕ) (before : List Symbol) (r : Nesting) : Type 0 where
  pub at : r.at ≡ length before
  pub deep : r.deep ≡ nested

-- an accepted equation with its steps; the text of 256 bytes of equation has room in 2,560 bytes
pub record Accepted (bytes steps : List ℕ) : Type 0 where
  pub formula : Formula
  pub is : symbols_by bytes steps ≡ symbols_of formula
  pub stand : AllStand bytes steps
  pub short : length bytes ≤ 256 → length (text_of formula) ≤ 2560
