-- THE THEOREMS ON THE REASONS of a tree, with the truths of its relations given by their numbers from 1: each has the outcome's truth; they are
-- enough; and none of them can be left out.
use mathlib.Core.Path.{◌≡◌, refl, sym, ap, ◌∙◌}
use mathlib.Core.Bool.{Bool, true, false, not, ◌&&◌, ◌||◌, cond}
use mathlib.Core.List.Memᴰ
use mathlib.Core.List.{List, ◌++◌}
use mathlib.Core.Logic.{⊎_elim}
use Prim.Native.Nat.{ℕ, ◌+◌, ◌≤◌, ◌<◌}
use native.Mathlib.Omega.{arith}
use Rattle.equation.specs.Tree.{Tree, leaf, both, either, truth}
use Rattle.why.specs.Reasons.{reasons}
use Rattle.reasons.specs.Promised.{In}
use Rattle.reasons.proofs.Numbers.{size, Numbered, rising_in, reasons_rise}

-- a tree's truth and its reasons by truths of the relations' numbers
abbrev pub T : (ℕ → Bool) → Tree → Bool
T g t = truth (λ k r. g (k + 1)) t

abbrev pub R : (ℕ → Bool) → Tree → List ℕ
R g t = reasons (λ k r. g (k + 1)) t

and_false : (a : Bool) → a && false ≡ false
and_false true = refl
and_false false = refl

or-true : (a : Bool) → a || true ≡ true
or-true true = refl
or-true false = refl

-- ---- each has the outcome's truth

module _ (g : ℕ → Bool) (n : ℕ) where
  pub reasons_truth : (t : Tree) → In n (R g t) → g n ≡ T g t
  unfolding reasons truth
  reasons_truth (leaf k r) m = ap g (Memᴰ.eq_of_singleton m)
  reasons_truth (both a b) m = go (T g a) refl (T g b) refl m (reasons_truth a) (reasons_truth b)
    where
      go : (x : Bool) → T g a ≡ x → (y : Bool) → T g b ≡ y → In n (cond (x && y) (R g a ++ R g b) (cond x (R g b) (R g a)))
          → (In n (R g a) → g n ≡ T g a) → (In n (R g b) → g n ≡ T g b) → g n ≡ x && y
      go true p true q m ia ib =
          ⊎_elim (λ (h : In n (R g a)). ia h ∙ p) (λ (h : In n (R g b)). ib h ∙ q) (Memᴰ.append_cases (R g a) m)
      go true p false q m ia ib = ib m ∙ q
      go false p y q m ia ib = ia m ∙ p
  reasons_truth (either a b) m = go (T g a) refl (T g b) refl m (reasons_truth a) (reasons_truth b)
    where
      go : (x : Bool) → T g a ≡ x → (y : Bool) → T g b ≡ y → In n (cond (x || y) (cond x (R g a) (R g b)) (R g a ++ R g b))
          → (In n (R g a) → g n ≡ T g a) → (In n (R g b) → g n ≡ T g b) → g n ≡ x || y
      go false p false q m ia ib =
          ⊎_elim (λ (h : In n (R g a)). ia h ∙ p) (λ (h : In n (R g b)). ib h ∙ q) (Memᴰ.append_cases (R g a) m)
      go false p true q m ia ib = ib m ∙ q
      go true p y q m ia ib = ia m ∙ p

-- ---- they are enough

module _ (g h : ℕ → Bool) where
  -- two truths of the numbers are the same on a list
  abbrev Same : List ℕ → Type 0
  Same ns = (n : ℕ) → In n ns → h n ≡ g n

  pub reasons_enough : (t : Tree) → Same (R g t) → T h t ≡ T g t
  unfolding reasons truth
  reasons_enough (leaf k r) s = s (k + 1) (Memᴰ.head refl)
  reasons_enough (both a b) s = go (T g a) refl (T g b) refl s (reasons_enough a) (reasons_enough b)
    where
      go : (x : Bool) → T g a ≡ x → (y : Bool) → T g b ≡ y → Same (cond (x && y) (R g a ++ R g b) (cond x (R g b) (R g a)))
          → (Same (R g a) → T h a ≡ T g a) → (Same (R g b) → T h b ≡ T g b) → T h a && T h b ≡ x && y
      go true p true q s ia ib =
          rw (ia (λ n m. s n (Memᴰ.append_left (R g b) m)) ∙ p, ib (λ n m. s n (Memᴰ.append_right (R g a) m)) ∙ q)
      go true p false q s ia ib = rw (ib s ∙ q) (and_false (T h a))
      go false p y q s ia ib = rw (ia s ∙ p)
  reasons_enough (either a b) s = go (T g a) refl (T g b) refl s (reasons_enough a) (reasons_enough b)
    where
      go : (x : Bool) → T g a ≡ x → (y : Bool) → T g b ≡ y → Same (cond (x || y) (cond x (R g a) (R g b)) (R g a ++ R g b))
          → (Same (R g a) → T h a ≡ T g a) → (Same (R g b) → T h b ≡ T g b) → T h a || T h b ≡ x || y
      go false p false q s ia ib =
          rw (ia (λ n m. s n (Memᴰ.append_left (R g b) m)) ∙ p, ib (λ n m. s n (Memᴰ.append_right (R g a) m)) ∙ q)
      go false p true q s ia ib = rw (ib s ∙ q) (or-true (T h a))
      go true p y q s ia ib = rw (ia s ∙ p)

-- ---- none can be left out

-- a number of a tree's relations, which are numbered from `low` on
abbrev Of : ℕ → Tree → ℕ → Type 0
Of low t m = (low < m) × (m ≤ low + size t)

-- all relations of a tree have one truth, and so has the tree
all_one : (h : ℕ → Bool) (v : Bool) (low : ℕ) (t : Tree) → Numbered low t → ((m : ℕ) → Of low t m → h m ≡ v) → T h t ≡ v
unfolding truth size
all_one h v low (leaf k r) n s = s (k + 1) (omega arith, omega arith)
all_one h v low (both a b) n s =
    rw (
      all_one h v low a n.0 (λ m o. s m (o.0, omega (arith, o.1))),
      all_one h v (low + size a) b n.1
          (λ m o. s m (omega (arith, o.0), omega (arith, o.1))),
    )
    (twice v)
  where
    twice : (v : Bool) → v && v ≡ v
    twice true = refl
    twice false = refl
all_one h v low (either a b) n s =
    rw (
      all_one h v low a n.0 (λ m o. s m (o.0, omega (arith, o.1))),
      all_one h v (low + size a) b n.1
          (λ m o. s m (omega (arith, o.0), omega (arith, o.1))),
    )
    (twice v)
  where
    twice : (v : Bool) → v || v ≡ v
    twice true = refl
    twice false = refl

module _ (g h : ℕ → Bool) (n : ℕ) where
  -- one of the reasons has another truth than v, and so have all relations that are no reasons
  record Turned (low : ℕ) (t : Tree) (ns : List ℕ) (v : Bool) : Type 0 where
    one : In n ns
    other : h n ≡ not v
    unnamed : (m : ℕ) → Of low t m → (In m ns → ⊥) → h m ≡ not v

  -- the reasons of the two sides have different numbers
  module _ (low : ℕ) (a b : Tree) (na : Numbered low a) (nb : Numbered (low + size a) b) where
    in_a : (m : ℕ) → In m (R g a) → Of low a m
    in_a m i = rising_in low (low + size a) m (R g a) (reasons_rise (λ k r. g (k + 1)) low a na) i

    in_b : (m : ℕ) → In m (R g b) → Of (low + size a) b m
    in_b m i = rising_in (low + size a) (low + size a + size b) m (R g b) (reasons_rise (λ k r. g (k + 1)) (low + size a) b nb) i

    apart : (m : ℕ) → Of low a m → Of (low + size a) b m → ⊥
    apart m oa ob = omega (arith, oa.1, ob.0)

    -- numbers of the sides are numbers of the whole
    left : (m : ℕ) → Of low a m → (low < m) × (m ≤ low + (size a + size b))
    left m o = (o.0, omega (arith, o.1))

    right : (m : ℕ) → Of (low + size a) b m → (low < m) × (m ≤ low + (size a + size b))
    right m o = (omega (arith, o.0), omega (arith, o.1))

    abbrev Whole : List ℕ → Bool → Type 0
    Whole ns v = (m : ℕ) → (low < m) × (m ≤ low + (size a + size b)) → (In m ns → ⊥) → h m ≡ not v

    -- where the reasons are those of one side, all of the other side is unnamed
    only_a : (v : Bool) → Whole (R g a) v → T h b ≡ not v
    only_a v w = all_one h (not v) (low + size a) b nb (λ m o. w m (right m o) (λ i. apart m (in_a m i) o))

    only_b : (v : Bool) → Whole (R g b) v → T h a ≡ not v
    only_b v w = all_one h (not v) low a na (λ m o. w m (left m o) (λ i. apart m o (in_b m i)))

    -- what is turned in the whole is turned in a side
    turned_a : (v : Bool) → In n (R g a) → h n ≡ not v → Whole (R g a) v → Turned low a (R g a) v
    turned_a v i e w = record { one = i; other = e; unnamed = λ m o. w m (left m o) }

    turned_b : (v : Bool) → In n (R g b) → h n ≡ not v → Whole (R g b) v → Turned (low + size a) b (R g b) v
    turned_b v i e w = record { one = i; other = e; unnamed = λ m o. w m (right m o) }

    both_a : (v : Bool) → In n (R g a) → h n ≡ not v → Whole (R g a ++ R g b) v → Turned low a (R g a) v
    both_a v i e w =
        record {
          one = i;
          other = e;
          unnamed = λ m o k. w m (left m o) (λ j. ⊎_elim k (λ (y : In m (R g b)). apart m o (in_b m y)) (Memᴰ.append_cases (R g a) j));
        }

    both_b : (v : Bool) → In n (R g b) → h n ≡ not v → Whole (R g a ++ R g b) v → Turned (low + size a) b (R g b) v
    both_b v i e w =
        record {
          one = i;
          other = e;
          unnamed = λ m o k. w m (right m o) (λ j. ⊎_elim (λ (y : In m (R g a)). apart m (in_a m y) o) k (Memᴰ.append_cases (R g a) j));
        }

  turned_truth : (low : ℕ) (t : Tree) → Numbered low t → Turned low t (R g t) (T g t) → T h t ≡ not (T g t)
  unfolding reasons truth size
  turned_truth low (leaf k r) nt u = sym (ap h (Memᴰ.eq_of_singleton u.one)) ∙ u.other
  turned_truth low (both a b) nt u =
      go (T g a) refl (T g b) refl u.one u.other u.unnamed (turned_truth low a nt.0) (turned_truth (low + size a) b nt.1)
    where
      go : (x : Bool) → T g a ≡ x → (y : Bool) → T g b ≡ y
          → In n (cond (x && y) (R g a ++ R g b) (cond x (R g b) (R g a)))
          → h n ≡ not (x && y)
          → Whole low a b nt.0 nt.1 (cond (x && y) (R g a ++ R g b) (cond x (R g b) (R g a))) (x && y)
          → (Turned low a (R g a) (T g a) → T h a ≡ not (T g a))
          → (Turned (low + size a) b (R g b) (T g b) → T h b ≡ not (T g b))
          → T h a && T h b ≡ not (x && y)
      go true p true q i e w ia ib =
          ⊎_elim
          (λ (k : In n (R g a)). let z : T h a ≡ false = rw p at (ia (rw p (both_a low a b nt.0 nt.1 true k e w))) in rw z)
          (λ (k : In n (R g b)). let z : T h b ≡ false = rw q at (ib (rw q (both_b low a b nt.0 nt.1 true k e w))) in rw z (and_false (T h a)))
          (Memᴰ.append_cases (R g a) i)
      go true p false q i e w ia ib =
          let z : T h b ≡ true = rw q at (ib (rw q (turned_b low a b nt.0 nt.1 false i e w))) in
          rw (z, only_b low a b nt.0 nt.1 false w)
      go false p y q i e w ia ib =
          let z : T h a ≡ true = rw p at (ia (rw p (turned_a low a b nt.0 nt.1 false i e w))) in
          rw (z, only_a low a b nt.0 nt.1 false w)
  turned_truth low (either a b) nt u =
      go (T g a) refl (T g b) refl u.one u.other u.unnamed (turned_truth low a nt.0) (turned_truth (low + size a) b nt.1)
    where
      go : (x : Bool) → T g a ≡ x → (y : Bool) → T g b ≡ y
          → In n (cond (x || y) (cond x (R g a) (R g b)) (R g a ++ R g b))
          → h n ≡ not (x || y)
          → Whole low a b nt.0 nt.1 (cond (x || y) (cond x (R g a) (R g b)) (R g a ++ R g b)) (x || y)
          → (Turned low a (R g a) (T g a) → T h a ≡ not (T g a))
          → (Turned (low + size a) b (R g b) (T g b) → T h b ≡ not (T g b))
          → T h a || T h b ≡ not (x || y)
      go false p false q i e w ia ib =
          ⊎_elim
          (λ (k : In n (R g a)). let z : T h a ≡ true = rw p at (ia (rw p (both_a low a b nt.0 nt.1 false k e w))) in rw z)
          (λ (k : In n (R g b)). let z : T h b ≡ true = rw q at (ib (rw q (both_b low a b nt.0 nt.1 false k e w))) in rw z (or-true (T h a)))
          (Memᴰ.append_cases (R g a) i)
      go false p true q i e w ia ib =
          let z : T h b ≡ false = rw q at (ib (rw q (turned_b low a b nt.0 nt.1 true i e w))) in
          rw (z, only_b low a b nt.0 nt.1 true w)
      go true p y q i e w ia ib =
          let z : T h a ≡ false = rw p at (ia (rw p (turned_a low a b nt.0 nt.1 true i e w))) in
          rw (z, only_a low a b nt.0 nt.1 true w)

  pub reasons_needed : (low : ℕ) (t : Tree) → Numbered low t → In n (R g t) → h n ≡ not (T g t)
      → ((m : ℕ) → (In m (R g t) → ⊥) → h m ≡ not (T g t)) → T h t ≡ not (T g t)
  reasons_needed low t nt i e w = turned_truth low t nt (record { one = i; other = e; unnamed = λ m o. w m })
