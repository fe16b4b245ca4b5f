-- The answers of the calls below fit their numbers: a place is below 256 and a selection has at most 50 files, whatever the store is.
use mathlib.Core.Path.{◌≡◌, refl, sym, subst}
use mathlib.Core.Bool.{Bool, true, false, cond, ◌&&◌}
use mathlib.Core.List.{List}
use mathlib.Core.Logic.{⊎_elim}
use Prim.Native.Nat.{ℕ, ◌*◌, ◌≤◌, ◌<◌}
use native.Mathlib.Omega.{arith}
use lib.ListN.{length}
use lib.Dec.{leb, ltb}
use borrow.Author.Tests.{leb-true, ltb-true}
use Rattle.blocks.specs.FreeMap.{free_count}
use Rattle.blocks.specs.Answers.{store_fits, reserve_number}
use Rattle.equation.specs.Answer.{validity_of}
use Rattle.table.specs.Given.{blocks_for}
use Rattle.files.specs.Uploads.{Begins, begin_of}
use Rattle.files.specs.Selection.{count_in, Selects, select_number, select_of}
use Rattle.files.proofs.Calls.{done, refused, by_number}
use Rattle.files.proofs.Beginning.{NotBegun, HasBegun, begin_cases}
use Rattle.files.proofs.Choice.{chosen_most}
use Rattle.probe.specs.Codes.{place_of}

left_of_law : (a b : Bool) → a && b ≡ true → a ≡ true
left_of_law true b e = refl
left_of_law false b e = e

right_of : (a b : Bool) → a && b ≡ true → b ≡ true
right_of true b e = e
right_of false b e = absurd (let z : ◌≡◌ {A = ℕ} 0 1 = cc in omega arith)

-- ---- a place

-- blocks are reserved for a place below 256 alone
reserved_below : (map : List ℕ) (size place n : ℕ) → reserve_number map size place n ≡ 0 → place < 256
reserved_below map size place n e = go (store_fits (length map) size place) refl e
  where
    go : (t : Bool) → store_fits (length map) size place ≡ t → ◌≡◌ {A = ℕ} (cond t (cond (leb n (free_count map)) 0 13) 33) 0 → place < 256
    go true q e = ltb-true place 256 (right_of (leb 1 size && leb (length map) 64 && leb size (64 * length map)) (ltb place 256) q)
    go false q e = absurd (omega arith)

module _ (map owner table : List ℕ) (last size : ℕ) where
  begin_below : place_of (begin_of map owner table last size).answer < 256
  unfolding place_of
  begin_below = ⊎_elim not_begun has_begun (begin_cases map owner table last size)
    where
      not_begun : NotBegun map owner table last size → place_of (begin_of map owner table last size).answer < 256
      not_begun h = rw h.is (omega arith)

      has_begun : HasBegun map owner table last size → place_of (begin_of map owner table last size).answer < 256
      has_begun h = rw h.is (reserved_below map (length owner) h.place (blocks_for size) h.room)

  pub begun_below : (b : Begins) → b ≡ begin_of map owner table last size → place_of b.answer < 256
  begun_below b e = subst (λ (x : Begins). place_of x.answer < 256) (sym e) begin_below

-- ---- a count

-- a selection that is not refused has a MAXSEL of at most 50
select_most : (eq : List ℕ) (n most : ℕ) → select_number eq n most ≡ 0 → most ≤ 50
unfolding select_number
select_most eq n most e = go (leb 1 most && (leb most 50 && (leb most n && leb (length eq) 256))) refl e
  where
    go : (t : Bool) → leb 1 most && (leb most 50 && (leb most n && leb (length eq) 256)) ≡ t → ◌≡◌ {A = ℕ} (cond t (validity_of eq) 33) 0 → most ≤ 50
    go true q e = leb-true most 50 (left_of_law (leb most 50) _ (right_of (leb 1 most) _ q))
    go false q e = absurd (omega arith)

module _ (eq disk owner table selected : List ℕ) (most : ℕ) where
  select_count : count_in (select_of eq disk owner table selected most).answer ≤ 50
  unfolding select_of
  select_count =
      let k = select_number eq (length selected) most in
      by_number k
      (λ z. rw (done k _ _ z) (omega (arith, chosen_most eq disk owner table selected most, select_most eq (length selected) most z)))
      (λ z. rw (refused k _ _ z) (omega arith))

  pub selected_most : (s : Selects) → s ≡ select_of eq disk owner table selected most → count_in s.answer ≤ 50
  selected_most s e = subst (λ (x : Selects). count_in x.answer ≤ 50) (sym e) select_count
