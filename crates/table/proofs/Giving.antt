-- What is given: a new number is above the last, a new time above the last and at least the clock, and both fit 32 bits.
use mathlib.Core.Path.{◌≡◌, refl, sym}
use mathlib.Core.Bool.{Bool, true, false, cond}
use Prim.Native.Nat.{ℕ, ◌+◌, ◌*◌, ◌≤◌, ◌<◌}
use native.Mathlib.Omega.{arith}
use lib.Dec.{eqb, ltb}
use borrow.Author.Tests.{eqb-true, eqb-false, ltb-true, ltb-false}
use Rattle.std.proofs.Common.{Some, None}
use Rattle.table.specs.Given.{most_given, next_number, upload_time, blocks_for}

clash : {P : Type 0} (n : ℕ) → None ≡ Some n → P
clash n e = absurd (let z : ◌≡◌ {A = ℕ} 0 1 = cc in omega arith)

below_most : (last : ℕ) → (last ≡ most_given → ⊥) → last ≤ most_given → last < most_given
below_most last n k = go (ltb last most_given) refl
  where
    go : (t : Bool) → ltb last most_given ≡ t → last < most_given
    go true e = ltb-true last most_given e
    go false e = absurd (n (omega (arith, ltb-false last most_given e)))

-- a number is the last one given plus 1, and fits 32 bits where that does
pub record NumberGiven (last n : ℕ) : Type 0 where
  pub next : n ≡ last + 1
  pub fits : last ≤ most_given → n ≤ most_given

pub number_given : (last n : ℕ) → next_number last ≡ Some n → NumberGiven last n
number_given last n e = go (eqb last most_given) refl e
  where
    go : (t : Bool) → eqb last most_given ≡ t → cond t None (Some (last + 1)) ≡ Some n → NumberGiven last n
    go true d e = clash n e
    go false d e =
        let s : last + 1 ≡ n = cc in
        record { next = sym s; fits = λ k. let l = below_most last (eqb-false last most_given d) k in omega arith }

-- numbers are used up exactly at the most of 32 bits
pub number_used_up : (last : ℕ) → next_number last ≡ None → last ≡ most_given
number_used_up last e = go (eqb last most_given) refl e
  where
    go : (t : Bool) → eqb last most_given ≡ t → cond t None (Some (last + 1)) ≡ None → last ≡ most_given
    go true d e = eqb-true last most_given d
    go false d e = clash (last + 1) (sym e)

pub number_most : next_number most_given ≡ None
number_most = refl

-- a time is above the last one given, at least the clock, and fits 32 bits where both do
pub record TimeGiven (clock last t : ℕ) : Type 0 where
  pub later : last < t
  pub reached : clock ≤ t
  pub fits : clock ≤ most_given → last ≤ most_given → t ≤ most_given

pub time_given : (clock last t : ℕ) → upload_time clock last ≡ Some t → TimeGiven clock last t
time_given clock last t e = go (eqb last most_given) refl (ltb clock (last + 1)) refl e
  where
    go : (x : Bool) → eqb last most_given ≡ x → (y : Bool) → ltb clock (last + 1) ≡ y
        → cond x None (Some (cond y (last + 1) clock)) ≡ Some t → TimeGiven clock last t
    go true x y d e = clash t e
    go false x true d e =
        let s : last + 1 ≡ t = cc in
        let b = ltb-true clock (last + 1) d in
        record {
          later = omega arith;
          reached = omega arith;
          fits = λ h k. let l = below_most last (eqb-false last most_given x) k in omega arith;
        }
    go false x false d e =
        let s : clock ≡ t = cc in
        let b = ltb-false clock (last + 1) d in
        record { later = omega arith; reached = omega arith; fits = λ h k. omega arith }

pub time_used_up : (clock last : ℕ) → upload_time clock last ≡ None → last ≡ most_given
time_used_up clock last e = go (eqb last most_given) refl e
  where
    go : (t : Bool) → eqb last most_given ≡ t → cond t None (Some (cond (ltb clock (last + 1)) (last + 1) clock)) ≡ None → last ≡ most_given
    go true d e = eqb-true last most_given d
    go false d e = clash (cond (ltb clock (last + 1)) (last + 1) clock) (sym e)

pub time_most : (clock : ℕ) → upload_time clock most_given ≡ None
time_most clock = refl

-- the blocks of a length have room for it, and one block fewer has not
pub blocks_enough : (size : ℕ) → size ≤ 256 * blocks_for size
blocks_enough size = omega arith

pub blocks_least : (size n : ℕ) → size ≤ 256 * n → blocks_for size ≤ n
blocks_least size n h = omega arith
