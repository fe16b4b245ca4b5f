-- The stack of results in an array. Assumes nothing.
use mathlib.Core.Path.{◌≡◌, refl, sym, ap}
use mathlib.Core.Bool.{Bool, true, false, cond}
use mathlib.Core.List.{List, ◌∷◌}
use mathlib.Core.Option.{none, some}
use Prim.Native.Nat.{ℕ, zero, suc, ◌+◌, ◌-◌, ◌≤◌, ◌<◌}
use native.Mathlib.Omega.{arith}
use native.Mathlib.Numerals.{add-one}
use lib.Dec.{eqb}
use lib.ListN.{length, get_or, set}
use lib.Seq.{get_or-set_same, get_or-set_other}
use borrow.Author.Tests.{eqb-true, eqb-false, lt-ltb, le-ltb}
use Rattle.equation.specs.Tree.{pushed, joined, result}
use Rattle.equation.specs.Answer.{verdict}
use Rattle.equation.specs.Steps.{stack_of, finished}
use Rattle.std.proofs.Common.{Ok, Err}

stack_length : (bits : List Bool) (d : ℕ) → length (stack_of bits d) ≡ d
unfolding stack_of
stack_length bits zero = refl
stack_length bits (suc d) = ap suc (stack_length bits d)

stack_set : (bits : List Bool) (d i : ℕ) (v : Bool) → d ≤ i → stack_of (set bits i v) d ≡ stack_of bits d
unfolding stack_of
stack_set bits zero i v h = refl
stack_set bits (suc d) i v h = rw (get_or-set_other bits i d v false (λ e. omega arith), stack_set bits d i v (omega arith))

stack_push : (bits : List Bool) (d : ℕ) (v : Bool) → d < length bits → stack_of (set bits d v) (suc d) ≡ v ∷ stack_of bits d
unfolding stack_of
stack_push bits d v h = rw (get_or-set_same bits d v false h, stack_set bits d d v (omega arith))

-- a result is pushed where there is room, and refused where there is none
pub push_room : (bits : List Bool) (d : ℕ) (v : Bool) → d < 100 → d < length bits → pushed v (stack_of bits d) ≡ some (stack_of (set bits d v) (d + 1))
unfolding pushed
push_room bits d v h i = rw (stack_length bits d, lt-ltb d 100 h, add-one d, stack_push bits d v i)

pub push_full : (bits : List Bool) (d : ℕ) (v : Bool) → 100 ≤ d → pushed v (stack_of bits d) ≡ none
unfolding pushed
push_full bits d v h = rw (stack_length bits d, le-ltb d 100 h)

-- two results are joined into one, and fewer are refused
join_at_law : (f : Bool → Bool → Bool) (bits : List Bool) (d e : ℕ) (v : Bool)
    → d ≡ suc (suc e)
    → e < length bits
    → v ≡ f (get_or bits e false) (get_or bits (suc e) false)
    → joined f (stack_of bits d) ≡ some (stack_of (set bits e v) (suc e))
unfolding joined stack_of
join_at_law f bits d e v p h g = rw (p, ← g, get_or-set_same bits e v false h, stack_set bits e e v (omega arith))

pub join_two : (f : Bool → Bool → Bool) (bits : List Bool) (d : ℕ) (v : Bool)
    → 2 ≤ d
    → d ≤ length bits
    → v ≡ f (get_or bits (d - 2) false) (get_or bits (d - 1) false)
    → joined f (stack_of bits d) ≡ some (stack_of (set bits (d - 2) v) (d - 1))
join_two f bits d v h i g =
    let e : d - 1 ≡ suc (d - 2) = omega arith in rw e (join_at_law f bits d (d - 2) v (omega arith) (omega arith) (rw e at g))

pub join_few : (f : Bool → Bool → Bool) (bits : List Bool) (d : ℕ) → d < 2 → joined f (stack_of bits d) ≡ none
unfolding joined stack_of
join_few f bits zero h = refl
join_few f bits (suc zero) h = refl
join_few f bits (suc (suc d)) h = let z : ⊥ = omega arith in absurd z

-- exactly one result is the answer
one_left : (bits : List Bool) (d : ℕ) → d ≡ 1 → verdict (result (stack_of bits d)) ≡ Ok (get_or bits 0 false)
unfolding stack_of result verdict
one_left bits d h = rw h refl

not_one : (bits : List Bool) (d : ℕ) → (d ≡ 1 → ⊥) → Err 8 ≡ verdict (result (stack_of bits d))
unfolding stack_of result verdict
not_one bits zero h = refl
not_one bits (suc zero) h = absurd (h refl)
not_one bits (suc (suc d)) h = refl

pub finish_is : (bits : List Bool) (d : ℕ) → finished d (get_or bits 0 false) ≡ verdict (result (stack_of bits d))
finish_is bits d = go (eqb d 1) refl
  where
    go : (x : Bool) → eqb d 1 ≡ x → cond x (Ok (get_or bits 0 false)) (Err 8) ≡ verdict (result (stack_of bits d))
    go true e = sym (one_left bits d (eqb-true d 1 e))
    go false e = not_one bits d (eqb-false d 1 e)
