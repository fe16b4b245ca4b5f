-- The row of reasons: numbers that move down in it, two parts that become one, and its first numbers copied.
use mathlib.Core.Path.{◌≡◌, sym, ap, ◌∙◌}
use mathlib.Core.Bool.{Bool, true, false}
use mathlib.Core.List.{List, [], ◌∷◌, ◌++◌, append_assoc}
use Prim.Native.Nat.{ℕ, zero, suc, ◌+◌, ◌-◌, ◌≤◌}
use native.Mathlib.Omega.{arith}
use lib.ListN.{length, take, drop, take-append-drop, length-append, length-drop}
use lib.Seq.{sets, sets-eq, paste, take_at, take-nil, take-take, length-take-le, length-sets}
use Rattle.why.specs.Run.{joined_row}

-- ---- copying

-- what a part of a row is moved down to, as std says it
pub moved : (row : List ℕ) (to from end : ℕ) → to ≤ from → from ≤ end → end ≤ length row
    → paste row to (drop from row) (end - from) ≡ sets row to (take (end - from) (drop from row))
moved row to from end a b c =
    let n : length (take (end - from) (drop from row)) ≡ end - from =
    length-take-le (end - from) (drop from row) (omega (arith, length-drop from row)) in
    sym (sets-eq (take (end - from) (drop from row)) row to (omega (arith, n)) ∙ rw n)

-- ---- two parts become one

drop_take : (at n : ℕ) (l : List ℕ) → take (n - at) (drop at l) ≡ drop at (take n l)
drop_take zero n l = let e : n - 0 ≡ n = omega arith in rw e
drop_take (suc at) zero l = let e : 0 - suc at ≡ 0 = omega arith in rw e
drop_take (suc at) (suc n) [] = take-nil (suc n - suc at)
drop_take (suc at) (suc n) (x ∷ l) = let e : suc n - suc at ≡ n - at = omega arith in rw e (drop_take at n l)

-- the number answered and the row afterwards
abbrev pub Joins : ℕ → List ℕ → List ℕ → Type 0
Joins r row joined = (r ≡ length joined) × (take r row ≡ joined)

joins : (r : ℕ) (row joined : List ℕ) → r ≤ length row → take r row ≡ joined → Joins r row joined
joins r row joined h e = (sym (length-take-le r row h) ∙ ap length e, e)

module _ (row : List ℕ) (first second end : ℕ) (a : first ≤ second) (b : second ≤ end) (c : end ≤ length row) where
  -- what lies before the second part
  front : take first (take end row) ++ drop first (take second (take end row)) ≡ take second row
  front =
      ap (λ (l : List ℕ). l ++ drop first (take second (take end row))) (sym (take-take first second (take end row) a))
      ∙ take-append-drop first (take second (take end row)) ∙ take-take second end row b

  pub join_first : (q : Bool) → Joins second row (joined_row true q first second (take end row))
  unfolding joined_row
  join_first q = joins second row _ (omega arith) (sym front)

  pub join_both : Joins end row (joined_row false false first second (take end row))
  unfolding joined_row
  join_both =
      joins end row _ c
      (sym (sym (append_assoc (take first (take end row)) (drop first (take second (take end row))) (drop second (take end row)))
      ∙ ap (λ (l : List ℕ). l ++ drop second (take end row)) (front ∙ sym (take-take second end row b))
      ∙ take-append-drop second (take end row)))

  pub join_second : (row' : List ℕ) → row' ≡ sets row first (take (end - second) (drop second row))
      → Joins (first + (end - second)) row' (joined_row false true first second (take end row))
  unfolding joined_row
  join_second row' e =
      let vs = take (end - second) (drop second row) in
      let n : length vs ≡ end - second = length-take-le (end - second) (drop second row) (omega (arith, length-drop second row)) in
      let l : length row' ≡ length row = ap length e ∙ length-sets row first vs in
      let s : row' ≡ take first row ++ vs ++ drop (first + length vs) row = e ∙ sets-eq vs row first (omega arith) in
      let f : length (take first row ++ vs) ≡ first + (end - second) =
      length-append (take first row) vs ∙ rw (length-take-le first row (omega arith), n) in
      joins (first + (end - second)) row' _ (omega arith)
      (ap (take (first + (end - second))) s ∙ take_at (take first row ++ vs) (drop (first + length vs) row) (first + (end - second)) f
      ∙ rw (drop_take second end row, take-take first end row (omega arith)))

-- a part as long as it says lies in the row
pub take_fits : (n : ℕ) (l : List ℕ) → length (take n l) ≡ n → n ≤ length l
take_fits zero l e = omega arith
take_fits (suc n) [] e = omega arith
take_fits (suc n) (x ∷ l) e = omega (arith, take_fits n l (omega arith))
