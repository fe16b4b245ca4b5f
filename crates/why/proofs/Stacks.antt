-- The stack of results in arrays, with their reasons in one row.
use mathlib.Core.Path.{◌≡◌, refl, sym, ap, ◌∙◌}
use mathlib.Core.Bool.{Bool, true, false, cond}
use mathlib.Core.List.{List, [], ◌∷◌, ◌++◌}
use mathlib.Core.Option.{none, some}
use Prim.Native.Nat.{ℕ, zero, suc, ◌+◌, ◌-◌, ◌≤◌, ◌<◌}
use native.Mathlib.Omega.{arith}
use native.Mathlib.Numerals.{add-one}
use lib.ListN.{length, get_or, set, take, drop, length-append, length-drop}
use lib.Seq.{get_or-set_same, get_or-set_other, take_at, drop_at, take-take, length-take-le}
use borrow.Author.Tests.{lt-ltb, le-ltb}
use Rattle.equation.specs.Tree.{pushed, joined}
use Rattle.equation.specs.Tree as tree
use Rattle.why.specs.Run.{Result, result, settles, deciding, join_of, stack_of, Begin, joined_row, Tells}

stack_length : (bits : List Bool) (from : List ℕ) (d : ℕ) (row : List ℕ) → length (stack_of bits from d row) ≡ d
unfolding stack_of
stack_length bits from zero row = refl
stack_length bits from (suc d) row = ap suc (stack_length bits from d (take (get_or from d 0) row))

-- what is stored past the stack's top is not seen
stack_bits : (bits : List Bool) (from : List ℕ) (d j : ℕ) (v : Bool) (row : List ℕ) → d ≤ j → stack_of (set bits j v) from d row ≡ stack_of bits from d row
unfolding stack_of
stack_bits bits from zero j v row h = refl
stack_bits bits from (suc d) j v row h =
    rw (get_or-set_other bits j d v false (λ e. omega arith), stack_bits bits from d j v (take (get_or from d 0) row) (omega arith))

stack_from : (bits : List Bool) (from : List ℕ) (d j v : ℕ) (row : List ℕ) → d ≤ j → stack_of bits (set from j v) d row ≡ stack_of bits from d row
unfolding stack_of
stack_from bits from zero j v row h = refl
stack_from bits from (suc d) j v row h =
    rw (get_or-set_other from j d v 0 (λ e. omega arith), stack_from bits from d j v (take (get_or from d 0) row) (omega arith))

begin_set : (from : List ℕ) (d j v n : ℕ) → d ≤ j → Begin from d n → Begin (set from j v) d n
begin_set from zero j v n h b = b
begin_set from (suc d) j v n h b =
    rw (get_or-set_other from j d v 0 (λ e. omega arith)) (b.0, begin_set from d j v (get_or from d 0) (omega arith) b.1)

-- ---- a result is pushed

module _ (bits : List Bool) (from row : List ℕ) (d n : ℕ) (v : Bool) (x : ℕ) (hb : d < length bits) (hf : d < length from) (hn : length row ≡ n) where
  push_is : stack_of (set bits d v) (set from d n) (suc d) (row ++ x ∷ []) ≡ result v (x ∷ []) ∷ stack_of bits from d row
  unfolding stack_of
  push_is =
      rw (
        get_or-set_same bits d v false hb,
        get_or-set_same from d n 0 hf,
        drop_at row (x ∷ []) n hn,
        take_at row (x ∷ []) n hn,
        stack_bits bits (set from d n) d d v row (omega arith),
        stack_from bits from d d n row (omega arith),
      )

  pub push_room : d < 100 → pushed (result v (x ∷ [])) (stack_of bits from d row) ≡ some (stack_of (set bits d v) (set from d n) (d + 1) (row ++ x ∷ []))
  unfolding pushed
  push_room h = rw (stack_length bits from d row, lt-ltb d 100 h, add-one d, push_is)

  pub push_begin : Begin from d n → Begin (set from d n) (d + 1) (n + 1)
  push_begin b = rw (add-one d, get_or-set_same from d n 0 hf) (omega arith, begin_set from d d n n (omega arith) b)

pub push_full : (bits : List Bool) (from row : List ℕ) (d : ℕ) (x : Result) → 100 ≤ d → pushed x (stack_of bits from d row) ≡ none
unfolding pushed
push_full bits from row d x h = rw (stack_length bits from d row, le-ltb d 100 h)

-- ---- two results become one

deciding_length : (p q : Bool) (xs ys : List ℕ) → length (deciding p q xs ys) ≤ length xs + length ys
deciding_length true q xs ys = omega arith
deciding_length false true xs ys = omega arith
deciding_length false false xs ys = omega (arith, length-append xs ys)

-- with at least two results, the last one is the second operand
pub record Two (from : List ℕ) (d n : ℕ) : Type 0 where
  pub first : get_or from (d - 2) 0 ≤ get_or from (d - 1) 0
  pub second : get_or from (d - 1) 0 ≤ n
  pub below : Begin from (d - 2) (get_or from (d - 2) 0)

pub two : (from : List ℕ) (d n : ℕ) → 2 ≤ d → Begin from d n → Two from d n
two from zero n h b = absurd (omega arith)
two from (suc zero) n h b = absurd (omega arith)
two from (suc (suc e)) n h b =
    let f : suc (suc e) - 2 ≡ e = omega arith in
    let g : suc (suc e) - 1 ≡ suc e = omega arith in
    record { first = rw (f, g) b.1.0; second = rw g b.0; below = rw f b.1.1 }

module _ (bits : List Bool) (from row : List ℕ) (e n first second : ℕ) (all : Bool) (p q v : Bool) (hb : e < length bits)
    (h1 : first ≡ get_or from e 0) (h2 : second ≡ get_or from (suc e) 0) (a : first ≤ second) (b : second ≤ length row)
    (hp : p ≡ settles all (get_or bits e false)) (hq : q ≡ settles all (get_or bits (suc e) false)) (hv : v ≡ cond p (get_or bits e false)
    (get_or bits (suc e) false)) where
  joined_drop : drop first (joined_row p q first second row) ≡ deciding p q (drop first (take second row)) (drop second row)
  unfolding joined_row
  joined_drop = drop_at (take first row) (deciding p q (drop first (take second row)) (drop second row)) first (length-take-le first row (omega arith))

  joined_take : take first (joined_row p q first second row) ≡ take first (take second row)
  unfolding joined_row
  joined_take =
      take_at (take first row) (deciding p q (drop first (take second row)) (drop second row)) first (length-take-le first row (omega arith))
      ∙ sym (take-take first second row a)

  join_at_law : joined (join_of all) (stack_of bits from (suc (suc e)) row) ≡ some (stack_of (set bits e v) from (suc e) (joined_row p q first second row))
  unfolding joined stack_of join_of
  join_at_law =
      rw (
        ← h1,
        ← h2,
        get_or-set_same bits e v false hb,
        stack_bits bits from e e v (take first (joined_row p q first second row)) (omega arith),
        joined_drop,
        joined_take,
        hv,
        hp,
        hq,
      )

-- the row is no longer than before, and no shorter than what lies below
pub joined_length : (row : List ℕ) (first second : ℕ) (p q : Bool) → first ≤ second → second ≤ length row
    → (length (joined_row p q first second row) ≤ length row) × (first ≤ length (joined_row p q first second row))
unfolding joined_row
joined_length row first second p q a b =
    let n = length-append (take first row) (deciding p q (drop first (take second row)) (drop second row)) in
    let f = length-take-le first row (omega arith) in
    let s = length-take-le second row b in
    let d = deciding_length p q (drop first (take second row)) (drop second row) in
    let x = length-drop first (take second row) in
    let y = length-drop second row in
    (omega arith, omega arith)

module _ (bits : List Bool) (from row : List ℕ) (d n : ℕ) (all p q v : Bool) (h : 2 ≤ d) (hb : d ≤ length bits) (hn : length row ≡ n) (t : Begin from d n)
    (hp : p ≡ settles all (get_or bits (d - 2) false)) (hq : q ≡ settles all (get_or bits (d - 1) false))
    (hv : v ≡ cond p (get_or bits (d - 2) false) (get_or bits (d - 1) false)) where
  pub join_two : joined (join_of all) (stack_of bits from d row)
      ≡ some (stack_of (set bits (d - 2) v) from (d - 1) (joined_row p q (get_or from (d - 2) 0) (get_or from (d - 1) 0) row))
  join_two =
      let w = two from d n h t in
      let e : d - 1 ≡ suc (d - 2) = omega arith in
      let f : suc (suc (d - 2)) ≡ d = omega arith in
      rw (f, ← e) at
      (join_at_law bits from row (d - 2) n (get_or from (d - 2) 0) (get_or from (d - 1) 0) all p q v (omega arith) refl (ap (λ (k : ℕ). get_or from k 0) e) w.first
      (omega (arith, w.second)) hp (hq ∙ ap (λ (k : ℕ). settles all (get_or bits k false)) e)
      (hv ∙ ap (λ (k : ℕ). cond p (get_or bits (d - 2) false) (get_or bits k false)) e))

  pub join_begin : (r : ℕ) → r ≡ length (joined_row p q (get_or from (d - 2) 0) (get_or from (d - 1) 0) row) → Begin from (d - 1) r
  join_begin r e =
      let w = two from d n h t in
      let l = joined_length row (get_or from (d - 2) 0) (get_or from (d - 1) 0) p q w.first (omega (arith, w.second)) in
      let k : d - 1 ≡ suc (d - 2) = omega arith in
      rw k (omega (arith, l.1), w.below)

pub join_few : (f : Result → Result → Result) (bits : List Bool) (from : List ℕ) (d : ℕ) (row : List ℕ) → d < 2 → joined f (stack_of bits from d row) ≡ none
unfolding joined stack_of
join_few f bits from zero row h = refl
join_few f bits from (suc zero) row h = refl
join_few f bits from (suc (suc d)) row h = absurd (omega arith)

-- ---- the end

-- exactly one result is the answer, and all that lies in the row are its reasons
pub tells_end : (bits : List Bool) (from row : List ℕ) (d n : ℕ) → Begin from d n → n ≤ length row
    → Tells (tree.result (stack_of bits from d (take n row))) (record { matched = get_or bits 0 false; count = n }) row
unfolding tree.result stack_of
tells_end bits from row zero n b h = tt
tells_end bits from row (suc zero) n b h =
    let z : get_or from 0 0 ≡ 0 = b.1 in
    rw z (refl, sym (length-take-le n row h), refl)
tells_end bits from row (suc (suc d)) n b h = tt
