-- The pass over an equation's steps: what the code keeps from step to step, and that its answer is the run's.
use mathlib.Core.Path.{◌≡◌, refl, sym, ◌∙◌, subst}
use mathlib.Core.Bool.{Bool, true, false, cond}
use mathlib.Core.List.{List, [], ◌∷◌, ◌++◌}
use mathlib.Core.Option.{Option, none}
use Prim.Native.Nat.{ℕ, suc, ◌+◌, ◌-◌, ◌≤◌, ◌<◌}
use native.Mathlib.Omega.{arith}
use native.Mathlib.Numerals.{add-one}
use lib.Dec.{eqb}
use lib.ListN.{length, get_or, set, take, drop, replicate, length-set, length-replicate, drop_of_length-le}
use lib.Seq.{drop-cons, take-suc-set, length-take-le}
use borrow.Author.Tests.{lt-ltb, le-ltb, eqb-false, eq-eqb, ne_eqb}
use Rattle.equation.specs.Symbols.{Symbol, and, or, bad, relations}
use Rattle.equation.specs.Tree.{pushed, joined, bind, run}
use Rattle.equation.specs.Tree as tree
use Rattle.equation.specs.Marks.{marked_true}
use Rattle.equation.specs.Parsed.{relation_from, symbol_at, symbols_by, relations_by}
use Rattle.why.specs.declared.reasons.Decided.{Decided}
use Rattle.why.specs.Run.{Result, settles, join_of, leaf_of, rest, result_by, stack_of, Begin, joined_row, Tells}
use Rattle.why.proofs.Stacks as stacks

-- ---- the symbol of a step

abbrev join_symbol : Bool → Symbol
join_symbol all = cond all and or

join_symbol_law : (s : ℕ) → 2048 ≤ s → s ≤ 2049 → symbol_at [] s ≡ join_symbol (eqb s 2048)
unfolding symbol_at
join_symbol_law s h g = rw (le-ltb s 2048 h) (go (eqb s 2048) refl)
  where
    go : (p : Bool) → eqb s 2048 ≡ p → cond p and (cond (eqb s 2049) or bad) ≡ join_symbol p
    go true e = refl
    go false e = rw (eq-eqb s 2049 (omega (arith, eqb-false s 2048 e)))

bad_symbol : (s : ℕ) → 2049 < s → symbol_at [] s ≡ bad
unfolding symbol_at
bad_symbol s h = rw (le-ltb s 2048 (omega arith), ne_eqb s 2048 (λ e. omega arith), ne_eqb s 2049 (λ e. omega arith))

-- ---- the loop

-- step i is next, with relation k the next one, d results on the stack and n numbers in the row
pub record Passing (steps ms : List ℕ) (bits : List Bool) (from row : List ℕ) (d n i k : ℕ) : Type 0 where
  pub in_steps : i ≤ length steps
  pub in_stack : d ≤ 100
  pub bits_size : length bits ≡ 100
  pub from_size : length from ≡ 100
  pub row_size : length row ≡ 511
  pub filled : n ≤ k
  pub numbered : k + length (relations_by [] (drop i steps)) ≤ 511
  pub begun : Begin from d n
  pub same : result_by steps ms ≡ rest ms k (drop i steps) (stack_of bits from d (take n row))

pub pass_start : (steps ms row : List ℕ) → length (relations_by [] steps) ≤ 511 → length row ≡ 511
    → Passing steps ms (replicate 100 false) (replicate 100 0) row 0 0 0 0
unfolding stack_of
pass_start steps ms row h r =
    record {
      in_steps = omega arith;
      in_stack = omega arith;
      bits_size = length-replicate 100 false;
      from_size = length-replicate {A = ℕ} 100 0;
      row_size = r;
      filled = omega arith;
      numbered = omega arith;
      begun = refl;
      same = refl;
    }

module _ (steps ms : List ℕ) (bits : List Bool) (from row : List ℕ) (d n i k : ℕ) (h : Passing steps ms bits from row d n i k) where
  tells : (o : Option Result) (r : Decided) (row' : List ℕ) → rest ms k (drop i steps) (stack_of bits from d (take n row)) ≡ o → Tells o r row'
      → Tells (result_by steps ms) r row'
  tells o r row' e t = subst (λ (x : Option Result). Tells x r row') (sym (h.same ∙ e)) t

  pub row_room : n ≤ 511
  row_room = omega (arith, h.filled, h.numbered)

  pub pass_end : length steps ≤ i → Tells (result_by steps ms) (record { matched = get_or bits 0 false; count = n }) row
  pass_end l =
      tells (tree.result (stack_of bits from d (take n row))) _ row (unfold rest run in rw (drop_of_length-le steps {i = i} l))
      (stacks.tells_end bits from row d n h.begun (omega (arith, row_room, h.row_size)))

  module _ (l : i < length steps) where
    pub pass_bad : (r : Decided) → 2049 < get_or steps i 0 → Tells (result_by steps ms) r row
    pass_bad r e = tells none r row (unfold rest run in rw (drop-cons steps i 0 l, bad_symbol (get_or steps i 0) e)) tt

    module _ (e : 2048 ≤ get_or steps i 0) (f : get_or steps i 0 ≤ 2049) where
      joins : (o : Option (List Result))
          → joined (join_of (eqb (get_or steps i 0) 2048)) (stack_of bits from d (take n row)) ≡ o
          → rest ms k (drop i steps) (stack_of bits from d (take n row)) ≡ bind o (rest ms k (drop (suc i) steps))
      unfolding rest run
      joins o j = rw (drop-cons steps i 0 l, join_symbol_law (get_or steps i 0) e f) (go (eqb (get_or steps i 0) 2048) j)
        where
          go : (all : Bool)
              → joined (join_of all) (stack_of bits from d (take n row)) ≡ o
              → run (leaf_of ms) (join_of true) (join_of false) k (join_symbol all ∷ symbols_by [] (drop (suc i) steps)) (stack_of bits from d (take n row))
              ≡ bind o (run (leaf_of ms) (join_of true) (join_of false) k (symbols_by [] (drop (suc i) steps)))
          go true j = rw j
          go false j = rw j

      fewer : length (relations_by [] (drop i steps)) ≡ length (relations_by [] (drop (suc i) steps))
      unfolding relations
      fewer = rw (drop-cons steps i 0 l, join_symbol_law (get_or steps i 0) e f) (go (eqb (get_or steps i 0) 2048))
        where
          go : (all : Bool) → length (relations (join_symbol all ∷ symbols_by [] (drop (suc i) steps))) ≡ length (relations (symbols_by [] (drop (suc i) steps)))
          go true = refl
          go false = refl

      pub pass_few : (r : Decided) → d < 2 → Tells (result_by steps ms) r row
      unfolding bind
      pass_few r g = tells none r row (joins none (stacks.join_few (join_of (eqb (get_or steps i 0) 2048)) bits from d (take n row) g)) tt

      pub pass_join : (p q v : Bool) (r : ℕ) (row' : List ℕ)
          → 2 ≤ d
          → p ≡ settles (eqb (get_or steps i 0) 2048) (get_or bits (d - 2) false)
          → q ≡ settles (eqb (get_or steps i 0) 2048) (get_or bits (d - 1) false)
          → v ≡ cond p (get_or bits (d - 2) false) (get_or bits (d - 1) false)
          → length row' ≡ length row
          → r ≡ length (joined_row p q (get_or from (d - 2) 0) (get_or from (d - 1) 0) (take n row))
          → take r row' ≡ joined_row p q (get_or from (d - 2) 0) (get_or from (d - 1) 0) (take n row)
          → Passing steps ms (set bits (d - 2) v) from row' (d - 1) r (i + 1) k
      unfolding bind
      pass_join p q v r row' g hp hq hv s c t =
          let m : length (take n row) ≡ n = length-take-le n row (omega (arith, row_room, h.row_size)) in
          let w = stacks.two from d n g h.begun in
          let y = stacks.joined_length (take n row) (get_or from (d - 2) 0) (get_or from (d - 1) 0) p q w.first (omega (arith, w.second)) in
          record {
            in_steps = omega arith;
            in_stack = omega (arith, h.in_stack);
            bits_size = length-set bits (d - 2) v ∙ h.bits_size;
            from_size = h.from_size;
            row_size = s ∙ h.row_size;
            filled = omega (arith, y.0, h.filled);
            numbered = rw (add-one i) (omega (arith, fewer, h.numbered));
            begun = stacks.join_begin bits from (take n row) d n (eqb (get_or steps i 0) 2048) p q v g (omega (arith, h.bits_size, h.in_stack)) m
                h.begun hp hq hv r c;
            same =
                h.same
                ∙ joins _ (stacks.join_two bits from (take n row) d n (eqb (get_or steps i 0) 2048) p q v g (omega (arith, h.bits_size, h.in_stack)) m
                h.begun hp hq hv)
                ∙ rw (add-one i, t);
          }

    module _ (e : get_or steps i 0 < 2048) where
      pushes : (o : Option (List Result))
          → pushed (leaf_of ms k (relation_from [] (get_or steps i 0))) (stack_of bits from d (take n row)) ≡ o
          → rest ms k (drop i steps) (stack_of bits from d (take n row)) ≡ bind o (rest ms (suc k) (drop (suc i) steps))
      unfolding rest run symbol_at
      pushes o j = rw (drop-cons steps i 0 l, lt-ltb (get_or steps i 0) 2048 e, j)

      pub one_more : length (relations_by [] (drop i steps)) ≡ suc (length (relations_by [] (drop (suc i) steps)))
      unfolding relations symbol_at
      one_more = rw (drop-cons steps i 0 l, lt-ltb (get_or steps i 0) 2048 e)

      pub push_room : n < 511 × k < 511
      push_room = (omega (arith, one_more, h.filled, h.numbered), omega (arith, one_more, h.numbered))

      pub pass_full : (r : Decided) → 100 ≤ d → Tells (result_by steps ms) r row
      unfolding bind
      pass_full r f = tells none r row (pushes none (stacks.push_full bits from (take n row) d _ f)) tt

      pub pass_rel : d < 100 → Passing steps ms (set bits d (marked_true ms k)) (set from d n) (set row n (k + 1)) (d + 1) (n + 1) (i + 1) (k + 1)
      unfolding bind
      pass_rel f =
          let m : length (take n row) ≡ n = length-take-le n row (omega (arith, row_room, h.row_size)) in
          let a : d < length bits = omega (arith, h.bits_size) in
          let b : d < length from = omega (arith, h.from_size) in
          let t : take (n + 1) (set row n (k + 1)) ≡ take n row ++ (k + 1) ∷ [] =
          rw (add-one n) (take-suc-set row n (k + 1) (omega (arith, push_room.0, h.row_size))) in
          record {
            in_steps = omega arith;
            in_stack = omega arith;
            bits_size = length-set bits d (marked_true ms k) ∙ h.bits_size;
            from_size = length-set from d n ∙ h.from_size;
            row_size = length-set row n (k + 1) ∙ h.row_size;
            filled = omega (arith, h.filled);
            numbered = rw (add-one i) (omega (arith, one_more, h.numbered));
            begun = stacks.push_begin bits from (take n row) d n (marked_true ms k) (k + 1) a b m h.begun;
            same =
                h.same
                ∙ pushes _ (stacks.push_room bits from (take n row) d n (marked_true ms k) (k + 1) a b m f)
                ∙ rw (t, add-one k, add-one i);
          }
