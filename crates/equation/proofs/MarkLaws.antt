-- The marks of relations: the loop that settles them by one item, and what all items of a header give. Assumes nothing.
use mathlib.Core.Path.{◌≡◌, refl, sym, ap, ◌∙◌}
use mathlib.Core.Bool.{Bool, true, false, cond}
use mathlib.Core.List.{List, [], ◌∷◌, ◌++◌, append_assoc, append-nil}
use Prim.Native.Nat.{ℕ, suc, ◌+◌, ◌-◌, ◌≤◌, ◌<◌}
use native.Mathlib.Omega.{arith}
use native.Mathlib.Numerals.{add-one}
use lib.Dec.{eqb}
use lib.ListN.{length, get_or, take, drop, set, length-set, take-append-drop, drop_of_length-le}
use lib.Seq.{drop-cons, take_all, take-suc-set, drop-set-lt}
use borrow.Author.Tests.{lt-ltb, le-ltb}
use Rattle.header.specs.Items.{Field, head_of, walk}
use Rattle.header.specs.declared.items.Head.{Head}
use Rattle.header.specs.declared.items.Head.TheVariants as head
use Rattle.header.specs.declared.items.Head.TheVariants.{Broken, Item}
use Rattle.header.proofs.Walk as walks
use Rattle.equation.specs.Holds.{Relation}
use Rattle.equation.specs.Symbols.{Symbol, and, or, bad, relations}
use Rattle.equation.specs.Marks.{mark_after, settled, settled_by}
use Rattle.equation.specs.Parsed.{relation_from, symbol_at, symbols_by, relations_by}

settled_none : (x : Field) (rs : List Relation) → settled x rs [] ≡ []
unfolding settled
settled_none x [] = refl
settled_none x (r ∷ rs) = refl

-- an item changes marks and not their number
pub settled_length : (x : Field) (rs : List Relation) (ms : List ℕ) → length (settled x rs ms) ≡ length ms
unfolding settled
settled_length x [] ms = refl
settled_length x (r ∷ rs) [] = refl
settled_length x (r ∷ rs) (m ∷ ms) = ap suc (settled_length x rs ms)

-- ---- the loop over the steps

-- its invariant: step i is next, and relation k the next one
pub record Settling (x : Field) (eq steps start ms : List ℕ) (i k : ℕ) : Type 0 where
  pub in_steps : i ≤ length steps
  pub in_marks : k ≤ length ms
  pub sized : length ms ≡ length start
  pub same : settled x (relations_by eq steps) start ≡ take k ms ++ settled x (relations_by eq (drop i steps)) (drop k ms)

pub settle_start : (x : Field) (eq steps start : List ℕ) → Settling x eq steps start start 0 0
settle_start x eq steps start = record { in_steps = omega arith; in_marks = omega arith; sized = refl; same = refl }

-- what is no place is no relation
no_place : (eq : List ℕ) (s : ℕ) (ss : List Symbol) → 2048 ≤ s → relations (symbol_at eq s ∷ ss) ≡ relations ss
unfolding relations symbol_at
no_place eq s ss h = rw (le-ltb s 2048 h) (go (eqb s 2048) (eqb s 2049))
  where
    go : (p q : Bool) → relations (cond p and (cond q or bad) ∷ ss) ≡ relations ss
    go true q = refl
    go false true = refl
    go false false = refl

module _ (x : Field) (eq steps start ms : List ℕ) (i k : ℕ) (h : Settling x eq steps start ms i k) where
  -- where no step is left the marks stand as they are
  pub settle_end : length steps ≤ i → ms ≡ settled x (relations_by eq steps) start
  unfolding settled relations
  settle_end e = sym (h.same ∙ rw (drop_of_length-le steps {i = i} e) (take-append-drop k ms))

  -- and so where no mark is left
  pub settle_full : length ms ≤ k → ms ≡ settled x (relations_by eq steps) start
  settle_full f =
      sym (h.same ∙ rw (drop_of_length-le ms {i = k} f, settled_none x (relations_by eq (drop i steps))) (append-nil (take k ms)) ∙ take_all k ms f)

  module _ (l : i < length steps) where
    pub settle_other : 2048 ≤ get_or steps i 0 → Settling x eq steps start ms (i + 1) k
    settle_other e =
        let q : relations_by eq (drop i steps) ≡ relations_by eq (drop (i + 1) steps) =
        rw (drop-cons steps i 0 l, add-one i) (no_place eq (get_or steps i 0) (symbols_by eq (drop (suc i) steps)) e) in
        record {
          in_steps = omega arith;
          in_marks = h.in_marks;
          sized = h.sized;
          same = h.same ∙ ap (λ (rs : List Relation). take k ms ++ settled x rs (drop k ms)) q;
        }

    module _ (v : ℕ) (e : get_or steps i 0 < 2048) (f : k < length ms) (g : v ≡ mark_after (relation_from eq (get_or steps i 0)) x (get_or ms k 0)) where
      marked : settled x (relations_by eq (drop i steps)) (drop k ms) ≡ v ∷ settled x (relations_by eq (drop (suc i) steps)) (drop (suc k) ms)
      unfolding relations settled symbol_at
      marked = rw (drop-cons steps i 0 l, lt-ltb (get_or steps i 0) 2048 e, drop-cons ms k 0 f, g)

      pub settle_rel : Settling x eq steps start (set ms k v) (i + 1) (k + 1)
      settle_rel =
          record {
            in_steps = omega arith;
            in_marks = simp length-set (omega arith);
            sized = length-set ms k v ∙ h.sized;
            same =
                h.same
                ∙ rw (marked, add-one k, add-one i, take-suc-set ms k v f, drop-set-lt (suc k) ms k v (omega arith))
                (sym (append_assoc (take k ms) (v ∷ []) (settled x (relations_by eq (drop (suc i) steps)) (drop (suc k) ms))));
          }

-- ---- the loop over the items

-- its invariant: the item at `at` is next
pub record Walking (rs : List Relation) (file start ms : List ℕ) (at : ℕ) : Type 0 where
  pub in_file : at ≤ length file
  pub sized : length ms ≡ length start
  pub same : settled_by (walk 0 file).items rs start ≡ settled_by (walk 0 (drop at file)).items rs ms

pub walk_start : (rs : List Relation) (file start : List ℕ) → Walking rs file start start 0
walk_start rs file start = record { in_file = omega arith; sized = refl; same = refl }

module _ (rs : List Relation) (file start ms : List ℕ) (at : ℕ) (h : Walking rs file start ms at) where
  no_item : (walk 0 (drop at file)).items ≡ [] → ms ≡ settled_by (walk 0 file).items rs start
  unfolding settled_by
  no_item e = sym (h.same ∙ rw e)

  pub walk_broken : head_of (drop at file) ≡ Broken → ms ≡ settled_by (walk 0 file).items rs start
  walk_broken e = no_item (rw (walks.walk_broken file at e))

  pub walk_end : head_of (drop at file) ≡ head.End → ms ≡ settled_by (walk 0 file).items rs start
  walk_end e = no_item (rw (walks.walk_end file at e))

  pub walk_item : (i n : ℕ) (ms' : List ℕ)
      → head_of (drop at file) ≡ Item i n
      → ms' ≡ settled (record { id = i; bytes = take (at + 3 + n - (at + 3)) (drop (at + 3) file) }) rs ms
      → Walking rs file start ms' (at + 3 + n)
  unfolding settled_by
  walk_item i n ms' e g =
      let d : at + 3 + n - (at + 3) ≡ n = omega arith in
      let g' : ms' ≡ settled (record { id = i; bytes = take n (drop (at + 3) file) }) rs ms = rw d at g in
      record {
        in_file = walks.item_within file at i n e;
        sized = ap length g' ∙ settled_length (record { id = i; bytes = take n (drop (at + 3) file) }) rs ms ∙ h.sized;
        same = h.same ∙ rw (walks.walk_item file at i n e, g');
      }

  -- what is no item ends the walk
  pub walk_over : ((i n : ℕ) → head_of (drop at file) ≡ Item i n → ⊥) → ms ≡ settled_by (walk 0 file).items rs start
  walk_over f = go (head_of (drop at file)) refl
    where
      go : (x : Head) → head_of (drop at file) ≡ x → ms ≡ settled_by (walk 0 file).items rs start
      go Broken e = walk_broken e
      go head.End e = walk_end e
      go (Item i n) e = absurd (f i n e)
