-- A formula by its last symbol: a relation, or two operands, with the text and the nesting that they make. Assumes nothing.
use mathlib.Core.Path.{◌≡◌, refl}
use mathlib.Core.Bool.{Bool, true, false, cond}
use mathlib.Core.List.{List, [], ◌∷◌, ◌++◌, append_assoc, append-nil}
use Prim.Native.Nat.{ℕ, zero, suc, ◌+◌, ◌≤◌, max}
use native.Mathlib.Omega.{arith}
use lib.Dec.{ltb}
use lib.ListN.{length, length-append}
use borrow.Author.Tests.{lt-ltb}
use Rattle.packet.specs.Names.{bytes_of}
use Rattle.equation.specs.Symbols.{Symbol, rel, and, or, bad}
use Rattle.equation.specs.Holds.{Relation}
use Rattle.grammar.specs.Formula.{Formula, relation, both, either, symbols_of}
use Rattle.writing.specs.Text.{relation_text, text_of, productText, factorText, nesting, productNesting, factorNesting}
use Rattle.writing.specs.Places.{text_at, nesting_at, connective_text, opening, closing}

-- ---- a formula of two operands: AND where the test holds, else OR

abbrev pub join : Bool → Formula → Formula → Formula
join t a b = cond t (both a b) (either a b)

abbrev pub binds : Bool → ℕ
binds t = cond t 1 0

pub join_text : (t : Bool) (level : ℕ) (a b : Formula)
    → text_at level (join t a b) ≡ opening (binds t) level
    ++ (text_at (binds t) a ++ (connective_text (binds t) ++ (text_at (binds t + 1) b ++ closing (binds t) level)))
unfolding text_at text_of productText factorText opening closing connective_text
join_text true zero a b = simp append-nil
join_text true (suc zero) a b = simp append-nil
join_text true (suc (suc k)) a b = rw (lt-ltb 1 (suc (suc k)) (omega arith)) (simp append_assoc)
join_text false zero a b = simp append-nil
join_text false (suc zero) a b = simp append_assoc
join_text false (suc (suc k)) a b = rw (lt-ltb 0 (suc (suc k)) (omega arith)) (simp append_assoc)

pub join_nesting : (t : Bool) (level : ℕ) (a b : Formula)
    → nesting_at level (join t a b)
    ≡ cond (ltb (binds t) level) (max (nesting_at (binds t) a) (nesting_at (binds t + 1) b) + 1) (max (nesting_at (binds t) a) (nesting_at (binds t + 1) b))
unfolding nesting_at nesting productNesting factorNesting
join_nesting true zero a b = refl
join_nesting true (suc zero) a b = refl
join_nesting true (suc (suc k)) a b = rw (lt-ltb 1 (suc (suc k)) (omega arith)) (omega arith)
join_nesting false zero a b = refl
join_nesting false (suc zero) a b = omega arith
join_nesting false (suc (suc k)) a b = rw (lt-ltb 0 (suc (suc k)) (omega arith)) (omega arith)

pub connective_length : (t : Bool) → length (connective_text (binds t)) ≡ 4
unfolding connective_text bytes_of
connective_length true = refl
connective_length false = refl

pub relation_text_law : (level : ℕ) (r : Relation) → text_at level (relation r) ≡ relation_text r
unfolding text_at text_of productText factorText
relation_text_law zero r = refl
relation_text_law (suc zero) r = refl
relation_text_law (suc (suc k)) r = refl

pub relation_nesting : (level : ℕ) (r : Relation) → nesting_at level (relation r) ≡ 0
unfolding nesting_at nesting productNesting factorNesting
relation_nesting zero r = refl
relation_nesting (suc zero) r = refl
relation_nesting (suc (suc k)) r = refl

-- a formula is nested less deep than it has steps
record Few (f : Formula) : Type 0 where
  whole : nesting f ≤ length (symbols_of f)
  product : productNesting f ≤ length (symbols_of f)
  factor : factorNesting f ≤ length (symbols_of f)

few : (f : Formula) → Few f
unfolding nesting productNesting factorNesting symbols_of
few (relation r) = omega arith
few (both a b) =
    let x = few a in let y = few b in
    omega (arith, length-append (symbols_of a) (symbols_of b ++ and ∷ []), length-append (symbols_of b) (and ∷ []))
few (either a b) =
    let x = few a in let y = few b in
    omega (arith, length-append (symbols_of a) (symbols_of b ++ or ∷ []), length-append (symbols_of b) (or ∷ []))

pub few_at : (level : ℕ) (f : Formula) → nesting_at level f ≤ length (symbols_of f)
unfolding nesting_at
few_at zero f = (few f).whole
few_at (suc zero) f = (few f).product
few_at (suc (suc k)) f = (few f).factor

-- ---- the last symbol

unfoldable pub last_of : Formula → Symbol
last_of (relation r) = rel r
last_of (both a b) = and
last_of (either a b) = or

unfoldable pub init_of : Formula → List Symbol
init_of (relation r) = []
init_of (both a b) = symbols_of a ++ symbols_of b
init_of (either a b) = symbols_of a ++ symbols_of b

pub split : (f : Formula) → symbols_of f ≡ init_of f ++ last_of f ∷ []
unfolding symbols_of init_of last_of
split (relation r) = refl
split (both a b) = simp append_assoc
split (either a b) = simp append_assoc

no_snoc : (ys : List Symbol) (b : Symbol) → ◌≡◌ {A = List Symbol} [] (ys ++ b ∷ []) → ⊥
no_snoc [] b e = let z : ◌≡◌ {A = ℕ} 0 1 = cc in omega arith
no_snoc (y ∷ ys) b e = let z : ◌≡◌ {A = ℕ} 0 1 = cc in omega arith

pub snoc_same : (xs ys : List Symbol) (a b : Symbol) → xs ++ a ∷ [] ≡ ys ++ b ∷ [] → (xs ≡ ys) × (a ≡ b)
snoc_same [] [] a b e = (refl, cc)
snoc_same [] (y ∷ ys) a b e = let z : ◌≡◌ {A = List Symbol} [] (ys ++ b ∷ []) = cc in absurd (no_snoc ys b z)
snoc_same (x ∷ xs) [] a b e = let z : ◌≡◌ {A = List Symbol} [] (xs ++ a ∷ []) = cc in absurd (no_snoc xs a z)
snoc_same (x ∷ xs) (y ∷ ys) a b e =
    let p : x ≡ y = cc in
    let q : xs ++ a ∷ [] ≡ ys ++ b ∷ [] = cc in
    let r = snoc_same xs ys a b q in
    (rw (p, r.0), r.1)

pub is_relation : (f : Formula) (r : Relation) → last_of f ≡ rel r → f ≡ relation r
unfolding last_of
is_relation (relation q) r h = let z : q ≡ r = cc in rw z
is_relation (both a b) r h = let z : ◌≡◌ {A = ℕ} 0 1 = cc in absurd (omega arith)
is_relation (either a b) r h = let z : ◌≡◌ {A = ℕ} 0 1 = cc in absurd (omega arith)

pub record Joined (t : Bool) (f : Formula) : Type 0 where
  pub a : Formula
  pub b : Formula
  pub is : f ≡ join t a b

pub is_join : (f : Formula) (t q : Bool) → last_of f ≡ cond t and (cond q or bad) → Joined t f
unfolding last_of
is_join (relation r) true q h = let z : ◌≡◌ {A = ℕ} 0 1 = cc in absurd (omega arith)
is_join (relation r) false true h = let z : ◌≡◌ {A = ℕ} 0 1 = cc in absurd (omega arith)
is_join (relation r) false false h = let z : ◌≡◌ {A = ℕ} 0 1 = cc in absurd (omega arith)
is_join (both a b) true q h = record { a = a; b = b; is = refl }
is_join (both a b) false true h = let z : ◌≡◌ {A = ℕ} 0 1 = cc in absurd (omega arith)
is_join (both a b) false false h = let z : ◌≡◌ {A = ℕ} 0 1 = cc in absurd (omega arith)
is_join (either a b) true q h = let z : ◌≡◌ {A = ℕ} 0 1 = cc in absurd (omega arith)
is_join (either a b) false true h = record { a = a; b = b; is = refl }
is_join (either a b) false false h = let z : ◌≡◌ {A = ℕ} 0 1 = cc in absurd (omega arith)

pub join_init : (t : Bool) (a b : Formula) → init_of (join t a b) ≡ symbols_of a ++ symbols_of b
unfolding init_of
join_init true a b = refl
join_init false a b = refl
