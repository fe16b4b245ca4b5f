-- The older files, counted one after the other, oldest first.
use mathlib.Core.Path.{◌≡◌, refl, sym, ap, ◌∙◌}
use mathlib.Core.Bool.{Bool, true, false, cond}
use mathlib.Core.List.{List, [], ◌∷◌, Memᴰ}
use mathlib.Core.Logic.{⊎_elim}
use Prim.Native.Nat.{ℕ, ◌+◌, ◌/◌, ◌≤◌, ◌<◌}
use native.Mathlib.Omega.{arith}
use lib.ListN.{length, length-map}
use borrow.Author.Tests.{le-ltb, lt-ltb}
use Rattle.equation.specs.Answer.{selects}
use Rattle.table.specs.declared.File.{File}
use Rattle.table.specs.declared.Key.TheVariants.{Time}
use Rattle.std.proofs.Common.{Some, None}
use Rattle.table.specs.Table.{files, times, uploaded}
use Rattle.table.specs.Order.{next_complete, in_order}
use Rattle.table.proofs.Records.{key_at, length_files}
use Rattle.table.proofs.Finding.{within}
use Rattle.table.proofs.Ordering.{next_found, count_above, count_le, count_less, in_order_above, in_order_none, in_order_next, complete_none, complete_found}
use Rattle.files.specs.Selection.{passing}
use Rattle.why.specs.Answer.{items_at, time_at, older_test, older_of}

-- where no place passes a test
pub passing_none : (test : ℕ → Bool) (ps : List ℕ) → ((p : ℕ) → Memᴰ p ps → test p ≡ false) → passing test ps ≡ []
unfolding passing
passing_none test [] h = refl
passing_none test (p ∷ ps) h = rw (h p (mathlib.Core.List.Memᴰ.head refl)) (passing_none test ps (λ q m. h q (mathlib.Core.List.Memᴰ.tail m)))

passing_next : (test : ℕ → Bool) (p : ℕ) (ps : List ℕ) (met : Bool) → test p ≡ met → length (passing test (p ∷ ps)) ≡ cond met 1 0 + length (passing test ps)
unfolding passing
passing_next test p ps true e = rw e (omega arith)
passing_next test p ps false e = rw e (omega arith)

-- a place of the table
pub place_in : (table : List ℕ) (p : ℕ) → (time_at table p ≡ 0 → ⊥) → length table / 4 ≤ 256 → p < 256
place_in table p h n =
    let k = key_at Time (files table) p in
    let w = within (times (files table)) p (λ z. h (sym k ∙ z)) in
    omega (arith, length-map (files table) uploaded, length_files table)

module _ (eq disk owner table : List ℕ) (time : ℕ) where
  abbrev test : ℕ → Bool
  test p = older_test eq disk owner table time p

  abbrev fs : List File
  fs = files table

  -- `count` of them are counted, and the files up to an upload time are passed
  pub record Counting (count after : ℕ) : Type 0 where
    pub few : count + count_above after (times fs) ≤ length fs
    pub counted : count + length (passing test (in_order after fs)) ≡ length (passing test (in_order 0 fs))

  pub count_start : Counting 0 0
  count_start = record { few = omega (arith, count_le 0 (times fs), length-map fs uploaded); counted = omega arith }

  module _ (count after : ℕ) (inv : Counting count after) where
    done : passing test (in_order after fs) ≡ [] → count ≡ older_of eq disk owner table time
    done e = omega (arith, ap length e, inv.counted)

    pub count_none : next_complete fs after ≡ None → count ≡ older_of eq disk owner table time
    unfolding passing
    count_none e = done (ap (passing test) (in_order_none after fs (complete_none fs after e)))

    module _ (p : ℕ) (found : next_complete fs after ≡ Some p) where
      pub next_time : after < time_at table p
      next_time = (complete_found fs after p found).0

      pub next_less : count_above (time_at table p) (times fs) < count_above after (times fs)
      next_less = rw (key_at Time fs p) at (count_less after (times fs) p (next_found after (times fs) p found).above)

      -- this file is not older than the time, nor is any after it
      pub count_end : time ≤ time_at table p → count ≡ older_of eq disk owner table time
      count_end h = done (passing_none test (in_order after fs) (λ q m. not_older q (later q (rw (in_order_next fs after p found) at m))))
        where
          later : (q : ℕ) → Memᴰ q (p ∷ in_order (time_at table p) fs) → time ≤ time_at table q
          later q m =
              ⊎_elim (λ (e : q ≡ p). let t = ap (time_at table) e in omega arith)
              (λ (n : Memᴰ q (in_order (time_at table p) fs)). let k = in_order_above (time_at table p) fs q n in omega arith) (mathlib.Core.List.Memᴰ.cases_cons m)

          not_older : (q : ℕ) → time ≤ time_at table q → test q ≡ false
          not_older q k = rw (le-ltb (time_at table q) time k)

      pub count_next : time_at table p < time → (met : Bool) → met ≡ selects eq (items_at disk owner table p) → (count' : ℕ) → count' ≡ cond met (count + 1) count
          → Counting count' (time_at table p)
      count_next h met e count' c =
          let t : test p ≡ met = rw (lt-ltb (time_at table p) time h) (sym e) in
          let n : length (passing test (in_order after fs)) ≡ cond met 1 0 + length (passing test (in_order (time_at table p) fs)) =
          ap (λ (ps : List ℕ). length (passing test ps)) (in_order_next fs after p found) ∙ passing_next test p (in_order (time_at table p) fs) met t in
          go met n c
        where
          go : (met : Bool) → length (passing test (in_order after fs)) ≡ cond met 1 0 + length (passing test (in_order (time_at table p) fs))
              → count' ≡ cond met (count + 1) count → Counting count' (time_at table p)
          go true n c = record { few = omega (arith, inv.few, next_less); counted = omega (arith, inv.counted) }
          go false n c = record { few = omega (arith, inv.few, next_less); counted = omega (arith, inv.counted) }
