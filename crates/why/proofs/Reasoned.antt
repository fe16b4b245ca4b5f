-- The run over results with their reasons is the tree's truth and its reasons; and on a file's marks they are those of the file.
use mathlib.Core.Path.{◌≡◌, refl, sym, ap, ◌∙◌}
use mathlib.Core.Bool.{Bool, true, false, not, ◌&&◌, ◌||◌, cond}
use mathlib.Core.List.{List, [], ◌∷◌, ◌++◌}
use mathlib.Core.Option.{some}
use Prim.Native.Nat.{ℕ, suc, ◌+◌, ◌≤◌}
use native.Mathlib.Omega.{arith}
use lib.Dec.{ltb, eqb}
use lib.ListN.{length, replicate}
use Rattle.header.specs.Items.{Field}
use Rattle.equation.specs.Holds.{Relation, holds}
use Rattle.equation.specs.Symbols.{Symbol, rel, and, or, bad, symbols, relations}
use Rattle.equation.specs.Tree.{pushed, joined, run, Tree, leaf, both, either, parse, truth}
use Rattle.equation.specs.Marks.{settled_by, relations_of, marked_true}
use Rattle.equation.specs.Parsed.{relation_from, symbol_at, symbols_by, relations_by}
use Rattle.equation.proofs.Trees.{map_o, run_map, bind_same, Agree, run_same, accepted}
use Rattle.equation.proofs.StepLaws.{symbols_by_law, relations_by_law}
use Rattle.equation.proofs.Settled.{agree}
use Rattle.why.specs.Reasons.{reasons}
use Rattle.why.specs.Sizes.{Ready}
use Rattle.why.specs.Run.{Result, result, deciding, join_of, leaf_of, rest, result_by, result_on}
use Rattle.why.proofs.Settling.{at_most_511}

-- ---- a tree's result

-- with the truth of each relation given
abbrev pub reasoned : (ℕ → Relation → Bool) → Tree → Result
reasoned f t = result (truth f t) (reasons f t)

abbrev pub leaf_with : (ℕ → Relation → Bool) → ℕ → Relation → Result
leaf_with f k r = result (f k r) ((k + 1) ∷ [])

-- AND and OR in one form, by what settles them
join_and : (a b : Bool) (xs ys : List ℕ)
    → result (a && b) (cond (a && b) (xs ++ ys) (cond a ys xs)) ≡ result (cond (not a) a b) (deciding (not a) (not b) xs ys)
join_and true true xs ys = refl
join_and true false xs ys = refl
join_and false b xs ys = refl

join_or : (a b : Bool) (xs ys : List ℕ) → result (a || b) (cond (a || b) (cond a xs ys) (xs ++ ys)) ≡ result (cond a a b) (deciding a b xs ys)
join_or true b xs ys = refl
join_or false true xs ys = refl
join_or false false xs ys = refl

pub reasoned_run : (f : ℕ → Relation → Bool) (eq : List ℕ)
    → map_o (reasoned f) (parse eq) ≡ run (leaf_with f) (join_of true) (join_of false) 0 (symbols eq) []
unfolding parse truth reasons join_of
reasoned_run f eq =
    run_map (reasoned f) leaf both either (leaf_with f) (join_of true) (join_of false) (λ k r. refl)
    (λ a b. join_and (truth f a) (truth f b) (reasons f a) (reasons f b)) (λ a b. join_or (truth f a) (truth f b) (reasons f a) (reasons f b)) 0 (symbols eq) []

-- ---- by steps and marks

-- which relations the steps name does not matter to a run by marks
run_any : (ms eq steps : List ℕ) (k : ℕ) (st : List Result)
    → run (leaf_of ms) (join_of true) (join_of false) k (symbols_by [] steps) st ≡ run (leaf_of ms) (join_of true) (join_of false) k (symbols_by eq steps) st
unfolding run symbol_at
run_any ms eq [] k st = refl
run_any ms eq (s ∷ steps) k st = go (run_any ms eq steps) (ltb s 2048) (eqb s 2048) (eqb s 2049)
  where
    go : ((k : ℕ) (st : List Result)
        → run (leaf_of ms) (join_of true) (join_of false) k (symbols_by [] steps) st ≡ run (leaf_of ms) (join_of true) (join_of false) k (symbols_by eq steps) st)
        → (p q w : Bool)
        → run (leaf_of ms) (join_of true) (join_of false) k (cond p (rel (relation_from [] s)) (cond q and (cond w or bad)) ∷ symbols_by [] steps) st
        ≡ run (leaf_of ms) (join_of true) (join_of false) k (cond p (rel (relation_from eq s)) (cond q and (cond w or bad)) ∷ symbols_by eq steps) st
    go ih true q w = bind_same (pushed (leaf_of ms k (relation_from [] s)) st) _ _ (ih (suc k))
    go ih false true w = bind_same (joined (join_of true) st) _ _ (ih k)
    go ih false false true = bind_same (joined (join_of false) st) _ _ (ih k)
    go ih false false false = refl

count_any : (eq steps : List ℕ) → length (relations_by [] steps) ≡ length (relations_by eq steps)
unfolding relations symbol_at
count_any eq [] = refl
count_any eq (s ∷ steps) = go (count_any eq steps) (ltb s 2048) (eqb s 2048) (eqb s 2049)
  where
    go : length (relations_by [] steps) ≡ length (relations_by eq steps)
        → (p q w : Bool)
        → length (relations (cond p (rel (relation_from [] s)) (cond q and (cond w or bad)) ∷ symbols_by [] steps))
        ≡ length (relations (cond p (rel (relation_from eq s)) (cond q and (cond w or bad)) ∷ symbols_by eq steps))
    go ih true q w = ap suc ih
    go ih false true w = ih
    go ih false false true = ih
    go ih false false false = ih

pub leaves_agree : (f g : ℕ → Relation → Bool) (k : ℕ) (rs : List Relation) → Agree f g k rs → Agree (leaf_with f) (leaf_with g) k rs
leaves_agree f g k [] a = tt
leaves_agree f g k (r ∷ rs) a = (ap (λ (b : Bool). result b ((k + 1) ∷ [])) a.0, leaves_agree f g (suc k) rs a.1)

module _ (eq steps : List ℕ) (ready : Ready eq steps) where
  fits : length eq ≤ 2047
  fits = (accepted eq ready.valid).fits

  pub few_relations_by : length (relations_by [] steps) ≤ 511
  few_relations_by =
      let n = at_most_511 eq fits in
      omega (arith, count_any eq steps, ap (λ (ss : List ℕ). length (relations_by eq ss)) ready.listed, ap length (relations_by_law eq fits))

  -- on the marks that items of a header leave, the pass gives the tree's result on them
  module _ (fields : List Field) where
    abbrev marks : List ℕ
    marks = settled_by fields (relations_by eq steps) (replicate 511 0)

    settled : marks ≡ settled_by fields (relations_of eq) (replicate 511 0)
    settled =
        ap (λ (ss : List ℕ). settled_by fields (relations_by eq ss) (replicate 511 0)) ready.listed
        ∙ ap (λ (rs : List Relation). settled_by fields rs (replicate 511 0)) (relations_by_law eq fits)

    agrees : Agree (leaf_of marks) (leaf_with (λ k r. holds r fields)) 0 (relations_of eq)
    agrees =
        leaves_agree (λ k r. marked_true marks k) (λ k r. holds r fields) 0 (relations_of eq)
        (agree fields marks (relations_of eq) 0 511 (at_most_511 eq fits) settled)

    pub result_by_law : (t : Tree) → parse eq ≡ some t → result_by steps marks ≡ some (result_on fields t)
    unfolding rest
    result_by_law t e =
        run_any marks eq steps 0 []
        ∙ ap (λ (ss : List Symbol). run (leaf_of marks) (join_of true) (join_of false) 0 ss []) (ap (symbols_by eq) ready.listed ∙ symbols_by_law eq fits)
        ∙ run_same (leaf_of marks) (leaf_with (λ k r. holds r fields)) (join_of true) (join_of false) 0 (symbols eq) [] agrees
        ∙ sym (reasoned_run (λ k r. holds r fields) eq) ∙ ap (map_o (reasoned (λ k r. holds r fields))) e
