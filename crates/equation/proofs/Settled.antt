-- What the marks say once every item of a header has been met: each relation's truth on the header. Assumes nothing.
use mathlib.Core.Path.{◌≡◌, refl, sym, ap, ◌∙◌}
use mathlib.Core.Bool.{Bool, true, false, ◌||◌, cond}
use mathlib.Core.List.{List, [], ◌∷◌, ◌++◌, map}
use Prim.Native.Nat.{ℕ, zero, suc, ◌+◌, ◌-◌, ◌≤◌, ◌<◌}
use native.Mathlib.Omega.{arith}
use native.Mathlib.Numerals.{add-one}
use lib.Dec.{eqb}
use lib.ListN.{length, get_or, take, drop, replicate, length-drop}
use Rattle.std.proofs.lemmas.Bool.Decides.{nat_tests}
use lib.Seq.{drop-drop, get_or-drop, take_all}
use Rattle.std.specs.List.{starts_with}
use Rattle.header.specs.Items.{Field, walk, marked, fields_of}
use Rattle.equation.specs.Holds.{Relation, met_by, holds}
use Rattle.equation.specs.Marks.{mark_after, settled, settled_by, relations_of, marked_true}
use Rattle.equation.specs.Answer.{outcome_of, answer_on}
use Rattle.equation.proofs.MarkLaws.{settled_length}
use Rattle.equation.proofs.Trees.{Agree, answer_same}

-- items met in two parts
pub settled_append : (xs ys : List Field) (rs : List Relation) (ms : List ℕ) → settled_by (xs ++ ys) rs ms ≡ settled_by ys rs (settled_by xs rs ms)
unfolding settled_by
settled_append [] ys rs ms = refl
settled_append (x ∷ xs) ys rs ms = settled_append xs ys rs (settled x rs ms)

pub settled_by_length : (xs : List Field) (rs : List Relation) (ms : List ℕ) → length (settled_by xs rs ms) ≡ length ms
unfolding settled_by
settled_by_length [] rs ms = refl
settled_by_length (x ∷ xs) rs ms = settled_by_length xs rs (settled x rs ms) ∙ settled_length x rs ms

-- ---- the mark of one relation

-- the mark of a relation after each of several items
abbrev pub mark_by : List Field → Relation → ℕ → ℕ
mark_by [] r m = m
mark_by (x ∷ xs) r m = mark_by xs r (mark_after r x m)

pub by_relation : (xs : List Field) (r : Relation) (rs : List Relation) (m : ℕ) (ms : List ℕ)
    → settled_by xs (r ∷ rs) (m ∷ ms) ≡ mark_by xs r m ∷ settled_by xs rs ms
unfolding settled_by settled
by_relation [] r rs m ms = refl
by_relation (x ∷ xs) r rs m ms = by_relation xs r rs (mark_after r x m) (settled x rs ms)

-- a relation that is met stays so
pub after_met : (r : Relation) (x : Field) → mark_after r x 1 ≡ 1
unfolding mark_after
after_met r x = go (met_by r x)
  where
    go : (met : Bool) → ◌≡◌ {A = ℕ} (cond met 1 1) 1
    go true = refl
    go false = refl

pub mark_stays : (xs : List Field) (r : Relation) → mark_by xs r 1 ≡ 1
mark_stays [] r = refl
mark_stays (x ∷ xs) r = rw (after_met r x) (mark_stays xs r)

-- a mark is 1 exactly where the relation holds
pub mark_holds : (r : Relation) (xs : List Field) → eqb (mark_by xs r 0) 1 ≡ holds r xs
unfolding holds
mark_holds r [] = refl
mark_holds r (x ∷ xs) = go (mark_holds r xs) (met_by r x) refl
  where
    go : eqb (mark_by xs r 0) 1 ≡ holds r xs → (met : Bool) → met_by r x ≡ met → eqb (mark_by xs r (mark_after r x 0)) 1 ≡ met || holds r xs
    go ih false e = unfold mark_after in rw e ih
    go ih true e = unfold mark_after in rw (e, mark_stays xs r)

-- ---- the marks of all relations

none_left : (xs : List Field) (ms : List ℕ) → settled_by xs [] ms ≡ ms
unfolding settled_by settled
none_left [] ms = refl
none_left (x ∷ xs) ms = none_left xs ms

-- exactly the marks of the relations, in order
pub settled_marks : (xs : List Field) (rs : List Relation) (n : ℕ)
    → settled_by xs rs (replicate (length rs + n) 0) ≡ map (λ r. mark_by xs r 0) rs ++ replicate n 0
settled_marks xs [] n = let z : 0 + n ≡ n = omega arith in rw z (none_left xs (replicate n 0))
settled_marks xs (r ∷ rs) n =
    let z : suc (length rs) + n ≡ suc (length rs + n) = omega arith in
    rw z (by_relation xs r rs 0 (replicate (length rs + n) 0) ∙ ap (λ (l : List ℕ). mark_by xs r 0 ∷ l) (settled_marks xs rs n))

-- the marks of relations say which of them hold, from the relation of number k on
module _ (xs : List Field) where
  pub agree : (ms : List ℕ) (rs : List Relation) (k m : ℕ)
      → length rs ≤ m
      → drop k ms ≡ settled_by xs rs (replicate m 0)
      → Agree (λ j r. marked_true ms j) (λ j r. holds r xs) k rs
  agree ms [] k m h e = tt
  agree ms (r ∷ rs) k zero h e = let z : ⊥ = omega arith in absurd z
  agree ms (r ∷ rs) k (suc m) h e =
      let f : drop k ms ≡ mark_by xs r 0 ∷ settled_by xs rs (replicate m 0) = e ∙ by_relation xs r rs 0 (replicate m 0) in
      let z : k + 0 ≡ k = omega arith in
      let first : get_or ms k 0 ≡ mark_by xs r 0 = rw z at (sym (get_or-drop k ms 0 0) ∙ ap (λ (l : List ℕ). get_or l 0 0) f) in
      let others : drop (suc k) ms ≡ settled_by xs rs (replicate m 0) = rw (add-one k) at (sym (drop-drop 1 k ms) ∙ ap (λ (l : List ℕ). drop 1 l) f) in
      (rw first (mark_holds r xs), agree ms rs (suc k) m (omega arith) others)

-- the outcome of the marks is the equation's truth on the items
pub settled_outcome : (eq : List ℕ) (xs : List Field) (n : ℕ)
    → length (relations_of eq) ≤ n
    → outcome_of eq (settled_by xs (relations_of eq) (replicate n 0)) ≡ answer_on eq xs
settled_outcome eq xs n h =
    answer_same (λ k r. marked_true (settled_by xs (relations_of eq) (replicate n 0)) k) (λ k r. holds r xs) eq
    (agree xs (settled_by xs (relations_of eq) (replicate n 0)) (relations_of eq) 0 n h refl)

-- ---- the items of a file, by its first two bytes

pub fields_short : (file : List ℕ) → length file < 2 → fields_of file ≡ []
unfolding fields_of marked
fields_short [] h = refl
fields_short (a ∷ []) h = refl
fields_short (a ∷ b ∷ bs) h = let z : ⊥ = omega arith in absurd z

-- whether a file begins with the mark, as the code asks it
begins : (file : List ℕ) → starts_with eqb file (170 ∷ 85 ∷ []) ≡ marked file
unfolding marked
begins [] = refl
begins (a ∷ []) = grind arith
begins (a ∷ b ∷ bs) = grind (arith, nat_tests)

pub fields_at : (file : List ℕ) (b : Bool)
    → b ≡ starts_with eqb file (170 ∷ 85 ∷ [])
    → fields_of file ≡ cond b (walk 0 (take (length file - 2) (drop 2 file))).items []
unfolding fields_of
fields_at file b e = rw (e, begins file, take_all (length file - 2) (drop 2 file) (omega (arith, length-drop 2 file)))
