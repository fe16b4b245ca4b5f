-- What parsing answers and writes, and what a caller knows of an equation that was not refused. Assumes nothing.
use mathlib.Core.Path.{◌≡◌, refl, ap, ◌∙◌}
use mathlib.Core.Bool.{Bool, true, false, ◌&&◌, cond}
use mathlib.Core.List.{List, [], ◌++◌}
use Prim.Native.Nat.{ℕ, suc, ◌-◌, ◌≤◌, ◌<◌}
use native.Mathlib.Omega.{arith}
use native.Mathlib.Nat.{zero-add}
use lib.Dec.{leb, eqb}
use lib.ListN.{length, take, drop, length-append}
use lib.Seq.{sets, sets-eq, take-append_seam}
use Rattle.std.proofs.Common.{Result, Ok, Err}
use borrow.Author.Tests.{ne_eqb, eqb-true, eqb-false, leb-true, leb-false, le-leb, lt-leb, lt-ltb}
use Rattle.refusal.specs.declared.Refusal.{Refusal}
use Rattle.refusal.proofs.Laws.{apart}
use Rattle.equation.specs.Answer.{number_of, validity_of}
use Rattle.equation.specs.Parsed.{outcome_by, steps_of, counted, Parses, parses, parse_of}
use Rattle.equation.specs.declared.evaluation.Unparsed.{Unparsed}
use Rattle.equation.proofs.StepLaws.{few_steps}
use Rattle.equation.proofs.Runs.{refused_by_law}

-- the part of the lent numbers that holds the steps, as the code takes it
front : (ss rest : List ℕ) (n : ℕ) → n ≡ length ss → take n (ss ++ rest) ≡ ss
front ss rest n e = rw e (take-append_seam ss rest)

module _ (eq steps : List ℕ) where
  pub parse_long : 2047 < length eq → parses (Err (33, 0)) steps ≡ parse_of eq steps
  unfolding parse_of
  parse_long h = rw (lt-leb (length eq) 2047 h)

  pub parse_little : length eq ≤ 2047 → length steps < length eq → parses (Err (33, 0)) steps ≡ parse_of eq steps
  unfolding parse_of
  parse_little h l = rw (le-leb (length eq) 2047 h, lt-leb (length eq) (length steps) l)

  -- the steps as they are written, one by one
  module _ (h : length eq ≤ 2047) (l : length eq ≤ length steps) where
    written : sets steps 0 (steps_of eq) ≡ steps_of eq ++ drop (length (steps_of eq)) steps
    written =
        let few = few_steps eq in
        sets-eq (steps_of eq) steps 0 (omega arith) ∙ ap (λ (k : ℕ). steps_of eq ++ drop k steps) (zero-add (length (steps_of eq)))

    module _ (n : ℕ) (steps' : List ℕ) (e : n ≡ length (steps_of eq)) (s : steps' ≡ sets steps 0 (steps_of eq)) where
      pub parse_fits : n ≤ length steps'
      parse_fits = omega (arith, ap length (s ∙ written), length-append (steps_of eq) (drop (length (steps_of eq)) steps))

      number_is : number_of (outcome_by (take n steps') []) ≡ validity_of eq
      number_is =
          let f : take n steps' ≡ steps_of eq =
          ap (λ (xs : List ℕ). take n xs) (s ∙ written) ∙ front (steps_of eq) (drop (length (steps_of eq)) steps) n e in
          ap (λ (xs : List ℕ). number_of (outcome_by xs [])) f ∙ refused_by_law eq h []

      -- steps that are accepted, and steps that are refused
      pub parse_done : (b : Bool) → Ok b ≡ outcome_by (take n steps') [] → parses (Ok n) steps' ≡ parse_of eq steps
      unfolding parse_of number_of
      parse_done b q =
          let v : 0 ≡ validity_of eq = ap number_of q ∙ number_is in
          rw (le-leb (length eq) 2047 h, le-leb (length eq) (length steps) l, ← v, e, s, written)

      pub parse_refused : (k : ℕ) → 0 < k → Err k ≡ outcome_by (take n steps') [] → parses (Err (k, n)) steps' ≡ parse_of eq steps
      unfolding parse_of number_of
      parse_refused k z q =
          let v : k ≡ validity_of eq = ap number_of q ∙ number_is in
          rw (le-leb (length eq) 2047 h, le-leb (length eq) (length steps) l, ← v, ne_eqb k 0 (λ w. omega arith), e, s, written)

-- an equation that was not refused
pub record Taken (eq : List ℕ) (count : ℕ) (steps : List ℕ) : Type 0 where
  pub short : length eq ≤ 2047
  pub valid : validity_of eq ≡ 0
  pub fits : count ≤ length steps
  pub first : take count steps ≡ steps_of eq
  -- the same, for a slice that names its begin
  pub listed : take (count - 0) (drop 0 steps) ≡ steps_of eq

-- an equation that was refused, where the lent numbers are enough for 2,047 bytes or for the equation: its number is the equation's
pub record Judged (eq : List ℕ) (n : ℕ) : Type 0 where
  pub number : n ≡ validity_of eq
  pub refused : validity_of eq ≡ 0 → ⊥

-- the count of an answer, and one more than its number, 0 where it is not refused
abbrev count_in : Result ℕ (ℕ × ℕ) → ℕ
count_in (Ok count) = count
count_in (Err (n, count)) = count

abbrev number_in : Result ℕ (ℕ × ℕ) → ℕ
number_in (Ok count) = 0
number_in (Err (n, count)) = suc n

abbrev unparsed : Refusal → ℕ → Unparsed
unparsed refusal count = record { refusal = refusal; count = count }

-- an answer is determined by itself with the refusal's number and the count in the refusal's place
pub counted_determines : (r s : Result ℕ Unparsed) → counted r ≡ counted s → r ≡ s
counted_determines (Ok a) (Ok b) e = ap Ok (ap count_in e)
counted_determines (Ok a) (Err s) e = let w = ap number_in e in absurd (omega arith)
counted_determines (Err r) (Ok b) e = let w = ap number_in e in absurd (omega arith)
counted_determines (Err r) (Err s) e =
    let w = ap number_in e in
    ap Err (ap (λ x. unparsed x r.count) (apart r.refusal s.refusal (omega arith)) ∙ ap (unparsed s.refusal) (ap count_in e))

module _ (eq steps steps' : List ℕ) where
  abbrev wrote : List ℕ
  wrote = steps_of eq ++ drop (length (steps_of eq)) steps

  pub taken : (count : ℕ) → parses (Ok count) steps' ≡ parse_of eq steps → Taken eq count steps'
  unfolding parse_of
  taken count e = go (leb (length eq) 2047) refl (leb (length eq) (length steps)) refl (eqb (validity_of eq) 0) refl e
    where
      go : (a : Bool) → leb (length eq) 2047 ≡ a → (b : Bool) → leb (length eq) (length steps) ≡ b
          → (d : Bool) → eqb (validity_of eq) 0 ≡ d
          → parses (Ok count) steps' ≡ cond (a && b) (parses (cond d (Ok (length (steps_of eq))) (Err (validity_of eq, length (steps_of eq)))) wrote) (parses (Err (33, 0)) steps)
          → Taken eq count steps'
      go true f true g true v q =
          let n : count ≡ length (steps_of eq) = ap (λ (x : Parses). count_in x.answer) q in
          let s : steps' ≡ wrote = ap (λ (x : Parses). x.steps) q in
          let p : take count steps' ≡ steps_of eq =
          ap (λ (xs : List ℕ). take count xs) s ∙ front (steps_of eq) (drop (length (steps_of eq)) steps) count n in
          record {
            short = leb-true (length eq) 2047 f;
            valid = eqb-true (validity_of eq) 0 v;
            fits = omega (arith, ap length s, length-append (steps_of eq) (drop (length (steps_of eq)) steps));
            first = p;
            listed = let z : count - 0 ≡ count = omega arith in rw z p;
          }
      go true f true g false v q = let w : 0 ≡ suc (validity_of eq) = ap (λ (x : Parses). number_in x.answer) q in absurd (omega arith)
      go true f false g d v q = let w : ◌≡◌ {A = ℕ} 0 34 = ap (λ (x : Parses). number_in x.answer) q in absurd (omega arith)
      go false f b g d v q = let w : ◌≡◌ {A = ℕ} 0 34 = ap (λ (x : Parses). number_in x.answer) q in absurd (omega arith)

  pub judged : (n count : ℕ) → parses (Err (n, count)) steps' ≡ parse_of eq steps → (length eq ≤ 2047 → length eq ≤ length steps) → Judged eq n
  unfolding parse_of
  judged n count e l = go (leb (length eq) 2047) refl (eqb (validity_of eq) 0) refl (leb (length eq) (length steps)) refl e
    where
      long : 2047 < length eq → validity_of eq ≡ 33
      long h = unfold validity_of in rw (lt-ltb 2047 (length eq) h)

      go : (a : Bool) → leb (length eq) 2047 ≡ a → (d : Bool) → eqb (validity_of eq) 0 ≡ d → (b : Bool) → leb (length eq) (length steps) ≡ b
          → parses (Err (n, count)) steps' ≡ cond (a && b) (parses (cond d (Ok (length (steps_of eq))) (Err (validity_of eq, length (steps_of eq)))) wrote) (parses (Err (33, 0)) steps)
          → Judged eq n
      go true f true v true g q = let w : suc n ≡ 0 = ap (λ (x : Parses). number_in x.answer) q in absurd (omega arith)
      go true f false v true g q =
          let w : suc n ≡ suc (validity_of eq) = ap (λ (x : Parses). number_in x.answer) q in
          record { number = omega arith; refused = eqb-false (validity_of eq) 0 v }
      go true f d v false g q =
          let z = l (leb-true (length eq) 2047 f) in
          let y = leb-false (length eq) (length steps) g in
          absurd (omega arith)
      go false f d v b g q =
          let w : suc n ≡ 34 = ap (λ (x : Parses). number_in x.answer) q in
          let y = long (leb-false (length eq) 2047 f) in
          record { number = omega arith; refused = λ z. omega arith }
