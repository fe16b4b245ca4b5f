-- The selection one complete file after the other, oldest first, and the numbers as they are written.
use mathlib.Core.Path.{◌≡◌, refl, sym, ap, ◌∙◌, subst}
use mathlib.Core.Bool.{Bool, true, false, cond, ◌&&◌}
use mathlib.Core.List.{List, [], ◌∷◌, ◌++◌}
use Prim.Native.Nat.{ℕ, zero, suc, ◌+◌, ◌-◌, ◌≤◌, ◌<◌}
use native.Mathlib.Omega.{arith}
use native.Mathlib.Numerals.{add-one}
use native.Mathlib.Nat.{zero-add}
use lib.ListN.{length, take, drop, set, get_or, replicate, length-map, length-append, length-replicate, length-drop, length-set, get_or-map}
use lib.Seq.{sets, sets-eq}
use lib.Dec.{leb}
use borrow.Author.Tests.{leb-true}
use Rattle.std.proofs.Common.{Result, Ok, Err, IfOk}
use Rattle.refusal.specs.declared.Refusal.{Refusal}
use Rattle.refusal.specs.Refusal.{number, number_of}
use Rattle.equation.specs.Answer.{validity_of}
use Rattle.equation.specs.Parsed.{steps_of, counted, parses, parse_of}
use Rattle.equation.specs.declared.evaluation.Unparsed.{Unparsed}
use Rattle.equation.proofs.Parsing.{taken, judged}
use Rattle.table.specs.declared.File.{File}
use Rattle.std.proofs.Common.{Some, None}
use Rattle.table.specs.Table.{no_file, files, times, uploaded}
use Rattle.table.specs.Order.{next_complete, places_above, in_order}
use Rattle.table.proofs.Ordering.{next_found, count_above, count_le, count_less, places_none, places_next, places_same}
use Rattle.files.specs.View.{record_at}
use Rattle.files.specs.Selection.{meets_at, passing, numbers_at, chosen, select_number, selects, listed, select_of}
use Rattle.files.proofs.Calls.{done, refused}

-- ---- the order one place further

module _ (fs : List File) (from : ℕ) where
  pub order_none : next_complete fs from ≡ None → in_order from fs ≡ []
  order_none e = places_none (times fs) (length fs) from e

  pub order_next : (p : ℕ) → next_complete fs from ≡ Some p → in_order from fs ≡ p ∷ in_order (get_or (times fs) p 0) fs
  order_next p e = go (length fs) refl
    where
      less : count_above (get_or (times fs) p 0) (times fs) < count_above from (times fs)
      less = count_less from (times fs) p (next_found from (times fs) p e).above

      most : count_above from (times fs) ≤ length fs
      most = let h = count_le from (times fs) in omega (arith, length-map fs uploaded)

      go : (n : ℕ) → length fs ≡ n → places_above n from (times fs) ≡ p ∷ places_above (length fs) (get_or (times fs) p 0) (times fs)
      go zero h = absurd (omega (arith, less, most))
      go (suc n) h =
          places_next (times fs) n from p e
          ∙ ap (λ (ps : List ℕ). p ∷ ps) (places_same (times fs) n (length fs) (get_or (times fs) p 0) (omega (arith, less, most)) (omega (arith, less, most)))

-- ---- what is left to choose

-- at most n further places of those after an upload time
abbrev pub left : (ℕ → Bool) → ℕ → ℕ → List File → List ℕ
left test n from fs = take n (passing test (in_order from fs))

module _ (test : ℕ → Bool) (fs : List File) (from : ℕ) where
  pub left_none : (n : ℕ) → next_complete fs from ≡ None → left test n from fs ≡ []
  unfolding passing
  left_none zero e = refl
  left_none (suc n) e = rw (order_none fs from e)

  pub left_met : (n p : ℕ) → next_complete fs from ≡ Some p → test p ≡ true → left test (n + 1) from fs ≡ p ∷ left test n (get_or (times fs) p 0) fs
  unfolding passing
  left_met n p e t = rw (add-one, order_next fs from p e, passing, t)

  pub left_unmet : (n p : ℕ) → next_complete fs from ≡ Some p → test p ≡ false → left test n from fs ≡ left test n (get_or (times fs) p 0) fs
  unfolding passing
  left_unmet n p e t = rw (order_next fs from p e, passing, t)

-- ---- one file further

-- where `count` numbers of the whole selection are written over the first contents, and the files up to an upload time are passed
pub record Choosing (test : ℕ → Bool) (table first selected : List ℕ) (most count from : ℕ) : Type 0 where
  pub few : count ≤ most
  pub room : most ≤ length first
  pub size : length selected ≡ length first
  pub counted : count + length (left test (most - count) from (files table)) ≡ length (left test most 0 (files table))
  pub stored : sets selected count (numbers_at table (left test (most - count) from (files table))) ≡ sets first 0 (numbers_at table (left test most 0 (files table)))

-- all of the selection is written
pub record Chosen (test : ℕ → Bool) (table first selected : List ℕ) (most count : ℕ) : Type 0 where
  pub counted : count ≡ length (left test most 0 (files table))
  pub stored : selected ≡ sets first 0 (numbers_at table (left test most 0 (files table)))

pub time_at_law : (table : List ℕ) (p from : ℕ) → from ≡ uploaded (record_at table p) → from ≡ get_or (times (files table)) p 0
time_at_law table p from q = q ∙ sym (get_or-map uploaded (files table) p no_file)

module _ (test : ℕ → Bool) (table first : List ℕ) (most : ℕ) where
  pub choosing_start : most ≤ length first → Choosing test table first first most 0 0
  choosing_start h =
      let e : most - 0 ≡ most = omega arith in
      record {
        few = omega arith;
        room = h;
        size = refl;
        counted = ap (λ (n : ℕ). 0 + length (left test n 0 (files table))) e ∙ zero-add (length (left test most 0 (files table)));
        stored = ap (λ (n : ℕ). sets first 0 (numbers_at table (left test n 0 (files table)))) e;
      }

  module _ (selected : List ℕ) (count from : ℕ) (inv : Choosing test table first selected most count from) where
    chosen_when : left test (most - count) from (files table) ≡ [] → Chosen test table first selected most count
    chosen_when e =
        record {
          counted = omega (arith, ap length e, inv.counted);
          stored = sym (ap (λ (l : List ℕ). sets selected count (numbers_at table l)) e) ∙ inv.stored;
        }

    pub choosing_none : next_complete (files table) from ≡ None → Chosen test table first selected most count
    choosing_none e = chosen_when (left_none test (files table) from (most - count) e)

    pub choosing_full : most ≤ count → Chosen test table first selected most count
    choosing_full h =
        let e : most - count ≡ 0 = omega arith in
        chosen_when (ap (λ (n : ℕ). left test n from (files table)) e)

    module _ (p : ℕ) (found : next_complete (files table) from ≡ Some p) (from' : ℕ) (later : from' ≡ uploaded (record_at table p)) where
      pub choosing_less : count_above from' (times (files table)) < count_above from (times (files table))
      choosing_less =
          subst (λ (t : ℕ). count_above t (times (files table)) < count_above from (times (files table))) (sym (time_at_law table p from' later))
          (count_less from (times (files table)) p (next_found from (times (files table)) p found).above)

      choosing_met : count < most → test p ≡ true
          → Choosing test table first (set selected count (record_at table p).number) most (count + 1) from'
      choosing_met h t =
          let k : most - count ≡ (most - (count + 1)) + 1 = omega arith in
          let e : left test (most - count) from (files table) ≡ p ∷ left test (most - (count + 1)) from' (files table) =
          ap (λ (n : ℕ). left test n from (files table)) k ∙ left_met test (files table) from (most - (count + 1)) p found t
          ∙ ap (λ (u : ℕ). p ∷ left test (most - (count + 1)) u (files table)) (sym (time_at_law table p from' later)) in
          record {
            few = omega arith;
            room = inv.room;
            size = length-set selected count (record_at table p).number ∙ inv.size;
            counted = omega (arith, ap length e, inv.counted);
            stored =
                ap (λ (n : ℕ). sets (set selected count (record_at table p).number) n (numbers_at table (left test (most - (count + 1)) from' (files table)))) (add-one count)
                ∙ sym (ap (λ (l : List ℕ). sets selected count (numbers_at table l)) e) ∙ inv.stored;
          }

      choosing_unmet : test p ≡ false → Choosing test table first selected most count from'
      choosing_unmet t =
          let e : left test (most - count) from (files table) ≡ left test (most - count) from' (files table) =
          left_unmet test (files table) from (most - count) p found t
          ∙ ap (λ (u : ℕ). left test (most - count) u (files table)) (sym (time_at_law table p from' later)) in
          record {
            few = inv.few;
            room = inv.room;
            size = inv.size;
            counted = ap (λ (l : List ℕ). count + length l) (sym e) ∙ inv.counted;
            stored = ap (λ (l : List ℕ). sets selected count (numbers_at table l)) (sym e) ∙ inv.stored;
          }

      pub choosing_next : count < most → (met : Bool) (selected' : List ℕ) (count' : ℕ) → met ≡ test p
          → count' ≡ cond met (count + 1) count → selected' ≡ cond met (set selected count (record_at table p).number) selected
          → Choosing test table first selected' most count' from'
      choosing_next h true selected' count' e c s = rw (c, s) (choosing_met h (sym e))
      choosing_next h false selected' count' e c s = rw (c, s) (choosing_unmet (sym e))

-- ---- the numbers written

pub zeros_drop : (n k : ℕ) (d : List ℕ) → k ≤ n → drop k (replicate n 0 ++ d) ≡ replicate (n - k) 0 ++ d
zeros_drop n zero d h = let e : n - 0 ≡ n = omega arith in rw e
zeros_drop zero (suc k) d h = absurd (omega arith)
zeros_drop (suc n) (suc k) d h = let e : suc n - suc k ≡ n - k = omega arith in rw e (zeros_drop n k d (omega arith))

pub take_le : (n : ℕ) (l : List ℕ) → length (take n l) ≤ n
take_le zero l = omega arith
take_le (suc n) [] = omega arith
take_le (suc n) (x ∷ l) = omega (arith, take_le n l)

-- numbers over zeros
pub written : (most : ℕ) (numbers d : List ℕ) → length numbers ≤ most
    → sets (replicate most 0 ++ d) 0 numbers ≡ numbers ++ (replicate (most - length numbers) 0 ++ d)
written most numbers d h =
    let n : length (replicate most 0 ++ d) ≡ most + length d = simp (length-append, length-replicate) in
    let z : 0 + length numbers ≡ length numbers = omega arith in
    sets-eq numbers (replicate most 0 ++ d) 0 (omega arith)
    ∙ ap (λ (l : List ℕ). numbers ++ l) (ap (λ (k : ℕ). drop k (replicate most 0 ++ d)) z ∙ zeros_drop most (length numbers) d h)

pub cleared_length : (s : List ℕ) (n : ℕ) → n ≤ length s → length (replicate n 0 ++ drop n s) ≡ length s
cleared_length s n h = simp (length-append, length-replicate, length-drop) (omega arith)

both_right : (a b : Bool) → a && b ≡ true → b ≡ true
both_right true b e = e
both_right false b e = absurd (let z : ◌≡◌ {A = ℕ} 0 1 = cc in omega arith)

both_left : (a b : Bool) → a && b ≡ true → a ≡ true
both_left true b e = refl
both_left false b e = e

-- a selection that is not refused has room for its numbers
pub select_room : (eq selected : List ℕ) (most : ℕ) → select_number eq (length selected) most ≡ 0 → most ≤ length selected
unfolding select_number
select_room eq selected most e = go (leb 1 most && (leb most 50 && (leb most (length selected) && leb (length eq) 256))) refl e
  where
    go : (t : Bool) → leb 1 most && (leb most 50 && (leb most (length selected) && leb (length eq) 256)) ≡ t → ◌≡◌ {A = ℕ} (cond t (validity_of eq) 33) 0 → most ≤ length selected
    go true q e = leb-true most (length selected) (both_left _ (leb (length eq) 256) (both_right (leb most 50) _ (both_right (leb 1 most) _ q)))
    go false q e = absurd (omega arith)

-- ---- the equation parsed

-- what is handed on of an answer
abbrev handed_on : Result ℕ Unparsed → Result ℕ Refusal
handed_on (Ok count) = Ok count
handed_on (Err unparsed) = Err unparsed.refusal

-- an equation of up to 256 bytes, with as many numbers lent for its steps
module _ (eq steps steps' : List ℕ) where
  pub parsed_number : (r : Result ℕ Unparsed) → parses (counted r) steps' ≡ parse_of eq steps → 256 ≤ length steps → length eq ≤ 256
      → number_of (handed_on r) ≡ validity_of eq
  parsed_number (Ok count) e r h = sym (taken eq steps steps' count e).valid
  parsed_number (Err unparsed) e r h = (judged eq steps steps' (number unparsed.refusal) unparsed.count e (λ l. omega arith)).number

  pub parsed_steps : (r : Result ℕ Unparsed) → parses (counted r) steps' ≡ parse_of eq steps
      → IfOk r (λ count. (count ≤ length steps') × (take count steps' ≡ steps_of eq))
  parsed_steps (Ok count) e = let t = taken eq steps steps' count e in (t.fits, t.first)
  parsed_steps (Err unparsed) e = tt

module _ (eq disk owner table selected : List ℕ) (most : ℕ) where
  pub chosen_most : length (chosen most eq disk owner table) ≤ most
  chosen_most = take_le most (passing (meets_at eq disk owner table) (in_order 0 (files table)))

  pub select_done : (r : ℕ) (selected' : List ℕ) → select_number eq (length selected) most ≡ 0 → r ≡ length (chosen most eq disk owner table)
      → selected' ≡ sets (replicate most 0 ++ drop most selected) 0 (numbers_at table (chosen most eq disk owner table))
      → selects (Ok r) selected' ≡ select_of eq disk owner table selected most
  unfolding select_of
  select_done r selected' z e es =
      let k = select_number eq (length selected) most in
      let n : length (numbers_at table (chosen most eq disk owner table)) ≡ length (chosen most eq disk owner table) = length-map (chosen most eq disk owner table) (λ (place : ℕ). (record_at table place).number) in
      let w : selected' ≡ listed most (numbers_at table (chosen most eq disk owner table)) selected =
      es ∙ written most (numbers_at table (chosen most eq disk owner table)) (drop most selected) (omega (arith, chosen_most)) in
      rw (e, w) (sym (done k _ (selects (Err k) selected) z))

  pub select_refused : (r : ℕ) → r ≡ select_number eq (length selected) most → (r ≡ 0 → ⊥)
      → selects (Err r) selected ≡ select_of eq disk owner table selected most
  unfolding select_of
  select_refused r e z =
      let k = select_number eq (length selected) most in
      rw e (sym (refused k _ (selects (Err k) selected) (λ y. z (e ∙ y))))
