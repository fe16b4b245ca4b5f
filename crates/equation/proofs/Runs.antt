-- The run of an equation's steps: what the code keeps from step to step, and that its answer is the equation's. Assumes nothing.
use mathlib.Core.Path.{◌≡◌, refl, sym, ap, ◌∙◌}
use mathlib.Core.Bool.{Bool, true, false, ◌&&◌, ◌||◌, cond}
use mathlib.Core.List.{List, [], ◌∷◌}
use mathlib.Core.Option.{Option, none, some}
use Prim.Native.Nat.{ℕ, suc, ◌+◌, ◌-◌, ◌≤◌, ◌<◌}
use native.Mathlib.Omega.{arith}
use native.Mathlib.Numerals.{add-one}
use lib.Dec.{ltb, eqb}
use lib.ListN.{length, get_or, set, drop, replicate, length-set, length-replicate, drop_of_length-le}
use lib.Seq.{drop-cons}
use borrow.Author.Tests.{lt-ltb, le-ltb, eqb-false, eq-eqb, ne_eqb}
use Rattle.header.specs.Items.{Field}
use Rattle.equation.specs.Symbols.{Symbol, rel, and, or, bad}
use Rattle.equation.specs.Tree.{pushed, joined, bind, run}
use Rattle.equation.specs.Marks.{settled_by, relations_of, marked_true}
use Rattle.equation.specs.Answer.{number_of, verdict, answer, outcome_of, answer_on, validity_of}
use Rattle.equation.specs.Parsed.{relation_from, symbol_at, symbols_by, relations_by, outcome_by, steps_of}
use Rattle.equation.specs.Steps.{finished, combine, stack_of, rest}
use Rattle.std.proofs.Common.{Err}
use Rattle.equation.proofs.SymbolLaws.{join_symbol}
use Rattle.equation.proofs.StepLaws.{symbols_by_law, relations_by_law}
use Rattle.equation.proofs.Stacks as stacks
use Rattle.equation.proofs.Trees.{bind_same, evaluated, number_answer}
use Rattle.equation.proofs.Settled.{settled_outcome}

-- ---- the loop

-- its invariant: step i is next, with relation k the next one and d results in the array
pub record Running (steps ms : List ℕ) (st : List Bool) (d i k : ℕ) : Type 0 where
  pub in_steps : i ≤ length steps
  pub in_number : k ≤ i
  pub in_stack : d ≤ 100
  pub sized : length st ≡ 100
  pub same : rest ms 0 steps [] ≡ rest ms k (drop i steps) (stack_of st d)

pub run_start : (steps ms : List ℕ) → Running steps ms (replicate 100 false) 0 0 0
unfolding stack_of
run_start steps ms = record { in_steps = omega arith; in_number = omega arith; in_stack = omega arith; sized = length-replicate 100 false; same = refl }

-- a step that is AND or OR, and one that is no symbol
join_symbol_law : (s : ℕ) → 2048 ≤ s → s ≤ 2049 → symbol_at [] s ≡ join_symbol (eqb s 2048)
unfolding symbol_at
join_symbol_law s h g = rw (le-ltb s 2048 h) (go (eqb s 2048) refl)
  where
    go : (p : Bool) → eqb s 2048 ≡ p → cond p and (cond (eqb s 2049) or bad) ≡ join_symbol p
    go true e = refl
    go false e = rw (eq-eqb s 2049 (omega (arith, eqb-false s 2048 e)))

bad_symbol : (s : ℕ) → 2049 < s → symbol_at [] s ≡ bad
unfolding symbol_at
bad_symbol s h = rw (le-ltb s 2048 (omega arith), ne_eqb s 2048 (λ e. omega arith), ne_eqb s 2049 (λ e. omega arith))

module _ (steps ms : List ℕ) (st : List Bool) (d i k : ℕ) (h : Running steps ms st d i k) where
  said : (o : Option Bool) → rest ms k (drop i steps) (stack_of st d) ≡ o → verdict o ≡ outcome_by steps ms
  unfolding outcome_by rest
  said o e = ap verdict (sym (h.same ∙ e))

  refused : rest ms k (drop i steps) (stack_of st d) ≡ none → Err 8 ≡ outcome_by steps ms
  unfolding verdict
  refused e = said none e

  pub run_end : length steps ≤ i → finished d (get_or st 0 false) ≡ outcome_by steps ms
  run_end l = stacks.finish_is st d ∙ said _ (unfold rest run in rw (drop_of_length-le steps {i = i} l))

  module _ (l : i < length steps) where
    pub run_bad : 2049 < get_or steps i 0 → Err 8 ≡ outcome_by steps ms
    run_bad e = refused (unfold rest run in rw (drop-cons steps i 0 l, bad_symbol (get_or steps i 0) e))

    module _ (e : 2048 ≤ get_or steps i 0) (f : get_or steps i 0 ≤ 2049) where
      joins : (o : Option (List Bool))
          → joined (combine (eqb (get_or steps i 0) 2048)) (stack_of st d) ≡ o
          → rest ms k (drop i steps) (stack_of st d) ≡ bind o (rest ms k (drop (suc i) steps))
      unfolding rest run
      joins o j = rw (drop-cons steps i 0 l, join_symbol_law (get_or steps i 0) e f) (go (eqb (get_or steps i 0) 2048) j)
        where
          go : (all : Bool)
              → joined (combine all) (stack_of st d) ≡ o
              → run (λ j r. marked_true ms j) ◌&&◌ ◌||◌ k (join_symbol all ∷ symbols_by [] (drop (suc i) steps)) (stack_of st d)
              ≡ bind o (run (λ j r. marked_true ms j) ◌&&◌ ◌||◌ k (symbols_by [] (drop (suc i) steps)))
          go true j = rw j
          go false j = rw j

      pub run_few : d < 2 → Err 8 ≡ outcome_by steps ms
      unfolding bind
      run_few g = refused (joins none (stacks.join_few (combine (eqb (get_or steps i 0) 2048)) st d g))

      pub run_join : (v : Bool)
          → 2 ≤ d
          → v ≡ combine (eqb (get_or steps i 0) 2048) (get_or st (d - 2) false) (get_or st (d - 1) false)
          → Running steps ms (set st (d - 2) v) (d - 1) (i + 1) k
      unfolding bind
      run_join v g q =
          record {
            in_steps = omega arith;
            in_number = omega arith;
            in_stack = omega arith;
            sized = length-set st (d - 2) v ∙ h.sized;
            same =
                h.same
                ∙ joins (some (stack_of (set st (d - 2) v) (d - 1))) (stacks.join_two (combine (eqb (get_or steps i 0) 2048)) st d v g (omega arith) q)
                ∙ rw (add-one i);
          }

    module _ (e : get_or steps i 0 < 2048) where
      pushes : (o : Option (List Bool))
          → pushed (marked_true ms k) (stack_of st d) ≡ o
          → rest ms k (drop i steps) (stack_of st d) ≡ bind o (rest ms (suc k) (drop (suc i) steps))
      unfolding rest run symbol_at
      pushes o j = rw (drop-cons steps i 0 l, lt-ltb (get_or steps i 0) 2048 e, j)

      pub run_full : 100 ≤ d → Err 8 ≡ outcome_by steps ms
      unfolding bind
      run_full f = refused (pushes none (stacks.push_full st d (marked_true ms k) f))

      pub run_rel : (v : Bool) → d < 100 → v ≡ marked_true ms k → Running steps ms (set st d v) (d + 1) (i + 1) (k + 1)
      unfolding bind
      run_rel v f g =
          record {
            in_steps = omega arith;
            in_number = omega arith;
            in_stack = omega arith;
            sized = length-set st d v ∙ h.sized;
            same =
                h.same
                ∙ pushes (some (stack_of (set st d v) (d + 1))) (rw (← g) (stacks.push_room st d v f (omega arith)))
                ∙ rw (add-one k, add-one i);
          }

-- ---- the steps of an equation

-- which relations the steps name does not matter to a run by marks
run_any : (ms eq : List ℕ) (steps : List ℕ) (k : ℕ) (st : List Bool)
    → run (λ j r. marked_true ms j) ◌&&◌ ◌||◌ k (symbols_by [] steps) st ≡ run (λ j r. marked_true ms j) ◌&&◌ ◌||◌ k (symbols_by eq steps) st
unfolding run symbol_at
run_any ms eq [] k st = refl
run_any ms eq (s ∷ steps) k st = go (run_any ms eq steps) (ltb s 2048) (eqb s 2048) (eqb s 2049)
  where
    go : ((k : ℕ) (st : List Bool) → run (λ j r. marked_true ms j) ◌&&◌ ◌||◌ k (symbols_by [] steps) st ≡ run (λ j r. marked_true ms j) ◌&&◌ ◌||◌ k (symbols_by eq steps) st)
        → (p q w : Bool)
        → run (λ j r. marked_true ms j) ◌&&◌ ◌||◌ k (cond p (rel (relation_from [] s)) (cond q and (cond w or bad)) ∷ symbols_by [] steps) st
        ≡ run (λ j r. marked_true ms j) ◌&&◌ ◌||◌ k (cond p (rel (relation_from eq s)) (cond q and (cond w or bad)) ∷ symbols_by eq steps) st
    go ih true q w = bind_same (pushed (marked_true ms k) st) _ _ (ih (suc k))
    go ih false true w = bind_same (joined ◌&&◌ st) _ _ (ih k)
    go ih false false true = bind_same (joined ◌||◌ st) _ _ (ih k)
    go ih false false false = refl

module _ (eq : List ℕ) (h : length eq ≤ 2047) where
  -- the outcome of an equation's steps is the equation's
  pub outcome_by_law : (ms : List ℕ) → outcome_by (steps_of eq) ms ≡ outcome_of eq ms
  unfolding outcome_by answer
  outcome_by_law ms =
      ap verdict (run_any ms eq (steps_of eq) 0 [] ∙ ap (λ (ss : List Symbol). run (λ j r. marked_true ms j) ◌&&◌ ◌||◌ 0 ss []) (symbols_by_law eq h))
      ∙ evaluated (λ k r. marked_true ms k) eq
      ∙ rw (le-ltb 2047 (length eq) h)

  -- whether it is refused does not depend on the marks
  pub refused_by_law : (ms : List ℕ) → number_of (outcome_by (steps_of eq) ms) ≡ validity_of eq
  refused_by_law ms = ap number_of (outcome_by_law ms) ∙ number_answer (λ k r. marked_true ms k) eq

  -- the outcome of the steps by the marks that items of a header leave is the equation's truth on them
  pub answer_by_law : (xs : List Field) (n : ℕ)
      → length (relations_of eq) ≤ n
      → outcome_by (steps_of eq) (settled_by xs (relations_by eq (steps_of eq)) (replicate n 0)) ≡ answer_on eq xs
  answer_by_law xs n l = rw (relations_by_law eq h) (outcome_by_law (settled_by xs (relations_of eq) (replicate n 0)) ∙ settled_outcome eq xs n l)
