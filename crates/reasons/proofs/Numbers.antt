-- The relations of an equation's tree are numbered in the order of the bytes, and the reasons are in that order.
use mathlib.Core.Path.{◌≡◌, refl}
use mathlib.Core.Bool.{Bool, true, false, ◌&&◌, ◌||◌, cond}
use mathlib.Core.List.{List, [], ◌∷◌, ◌++◌, Memᴰ}
use mathlib.Core.Option.{Option, none, some}
use Prim.Native.Nat.{ℕ, suc, ◌+◌, ◌≤◌, ◌<◌}
use native.Mathlib.Omega.{arith}
use lib.Dec.{ltb}
use lib.ListN.{length, length-append}
use Rattle.equation.specs.Holds.{Relation}
use Rattle.equation.specs.Symbols.{Symbol, rel, and, or, bad, symbols, relations}
use Rattle.equation.specs.Tree.{pushed, joined, result, bind, run, Tree, leaf, both, either, parse, truth}
use Rattle.equation.specs.Marks.{relations_of}
use Rattle.why.specs.Reasons.{reasons}
use Rattle.reasons.specs.Promised.{In, Rising}

-- ---- the numbers of a tree's relations

-- how many relations a tree has
unfoldable pub size : Tree → ℕ
size (leaf k r) = 1
size (both a b) = size a + size b
size (either a b) = size a + size b

-- they are numbered one by one from a number on
abbrev pub Numbered : ℕ → Tree → Type 0
Numbered low (leaf k r) = k ≡ low
Numbered low (both a b) = Numbered low a × Numbered (low + size a) b
Numbered low (either a b) = Numbered low a × Numbered (low + size a) b

-- a stack of trees, the last one first, with all relations read so far
total : List Tree → ℕ
total [] = 0
total (t ∷ ts) = total ts + size t

abbrev Stacked : List Tree → Type 0
Stacked [] = Unit {0}
Stacked (t ∷ ts) = Numbered (total ts) t × Stacked ts

pub record Parsed (t : Tree) (n : ℕ) : Type 0 where
  pub numbered : Numbered 0 t
  pub all : size t ≡ n

some_is : (a b : Tree) → some a ≡ some b → a ≡ b
some_is a b e = cc

none_not : (t : Tree) → ◌≡◌ {A = Option Tree} none (some t) → ⊥
none_not t e = let z : ◌≡◌ {A = ℕ} 0 1 = cc in omega arith

run_numbers : (ss : List Symbol) (k : ℕ) (st : List Tree) (t : Tree) → k ≡ total st → Stacked st → run leaf both either k ss st ≡ some t
    → Parsed t (k + length (relations ss))
unfolding run result relations size total pushed joined bind
run_numbers [] k [] t h s e = absurd (none_not t e)
run_numbers [] k (a ∷ []) t h s e = rw (← some_is a t e) (record { numbered = s.0; all = omega arith })
run_numbers [] k (a ∷ b ∷ st) t h s e = absurd (none_not t e)
run_numbers (rel r ∷ ss) k st t h s e = go (ltb (length st) 100) e (run_numbers ss (suc k) (leaf k r ∷ st) t (omega arith) (h, s))
  where
    go : (x : Bool) → bind (cond x (some (leaf k r ∷ st)) none) (run leaf both either (suc k) ss) ≡ some t
        → (run leaf both either (suc k) ss (leaf k r ∷ st) ≡ some t → Parsed t (suc k + length (relations ss))) → Parsed t (k + suc (length (relations ss)))
    go true e ih = let n : suc k + length (relations ss) ≡ k + suc (length (relations ss)) = omega arith in rw n at (ih e)
    go false e ih = absurd (none_not t e)
run_numbers (and ∷ ss) k [] t h s e = absurd (none_not t e)
run_numbers (and ∷ ss) k (b ∷ []) t h s e = absurd (none_not t e)
run_numbers (and ∷ ss) k (b ∷ a ∷ st) t h s e =
    run_numbers ss k (both a b ∷ st) t (omega arith) ((s.1.0, s.0), s.1.1) e
run_numbers (or ∷ ss) k [] t h s e = absurd (none_not t e)
run_numbers (or ∷ ss) k (b ∷ []) t h s e = absurd (none_not t e)
run_numbers (or ∷ ss) k (b ∷ a ∷ st) t h s e =
    run_numbers ss k (either a b ∷ st) t (omega arith) ((s.1.0, s.0), s.1.1) e
run_numbers (bad ∷ ss) k st t h s e = absurd (none_not t e)

pub parse_numbers : (eq : List ℕ) (t : Tree) → parse eq ≡ some t → Parsed t (length (relations_of eq))
unfolding parse total
parse_numbers eq t e =
    let z : 0 + length (relations_of eq) ≡ length (relations_of eq) = omega arith in
    rw z at (run_numbers (symbols eq) 0 [] t refl tt e)

-- ---- numbers that rise

pub rising_in : (low high n : ℕ) (ns : List ℕ) → Rising low high ns → In n ns → (low < n) × (n ≤ high)
rising_in low high n [] r x'' = elim x'' [ ]
rising_in low high n (x ∷ ns) r (Memᴰ.head e) = (omega (arith, r.0), omega (arith, r.1))
rising_in low high n (x ∷ ns) r (Memᴰ.tail m) = let h = rising_in x high n ns r.2 m in (omega (arith, r.0, h.0), h.1)

pub rising_length : (low high : ℕ) (ns : List ℕ) → low ≤ high → Rising low high ns → low + length ns ≤ high
rising_length low high [] h r = omega arith
rising_length low high (n ∷ ns) h r = let k = rising_length n high ns r.1 r.2 in omega (arith, r.0)

rising_wider : (low high low' high' : ℕ) (ns : List ℕ) → low' ≤ low → high ≤ high' → Rising low high ns → Rising low' high' ns
rising_wider low high low' high' [] a b r = tt
rising_wider low high low' high' (n ∷ ns) a b r =
    (omega (arith, r.0), omega (arith, r.1), rising_wider n high n high' ns (omega arith) b r.2)

rising_append : (low mid high : ℕ) (xs ys : List ℕ) → low ≤ mid → mid ≤ high → Rising low mid xs → Rising mid high ys → Rising low high (xs ++ ys)
rising_append low mid high [] ys a b r s = rising_wider mid high low high ys a (omega arith) s
rising_append low mid high (x ∷ xs) ys a b r s =
    (r.0, omega (arith, r.1), rising_append x mid high xs ys r.1 b r.2 s)

module _ (f : ℕ → Relation → Bool) where
  pub reasons_rise : (low : ℕ) (t : Tree) → Numbered low t → Rising low (low + size t) (reasons f t)
  unfolding reasons size
  reasons_rise low (leaf k r) n = (omega arith, omega arith, tt)
  reasons_rise low (both a b) n = go (truth f a) (truth f b) (reasons_rise low a n.0) (reasons_rise (low + size a) b n.1)
    where
      go : (x y : Bool) → Rising low (low + size a) (reasons f a) → Rising (low + size a) (low + size a + size b) (reasons f b)
          → Rising low (low + (size a + size b)) (cond (x && y) (reasons f a ++ reasons f b) (cond x (reasons f b) (reasons f a)))
      go true true ra rb =
          let e : low + size a + size b ≡ low + (size a + size b) = omega arith in
          rising_append low (low + size a) _ (reasons f a) (reasons f b) (omega arith) (omega arith) ra (rw e at rb)
      go true false ra rb = rising_wider (low + size a) (low + size a + size b) low _ (reasons f b) (omega arith) (omega arith) rb
      go false y ra rb = rising_wider low (low + size a) low _ (reasons f a) (omega arith) (omega arith) ra
  reasons_rise low (either a b) n = go (truth f a) (truth f b) (reasons_rise low a n.0) (reasons_rise (low + size a) b n.1)
    where
      go : (x y : Bool) → Rising low (low + size a) (reasons f a) → Rising (low + size a) (low + size a + size b) (reasons f b)
          → Rising low (low + (size a + size b)) (cond (x || y) (cond x (reasons f a) (reasons f b)) (reasons f a ++ reasons f b))
      go false false ra rb =
          let e : low + size a + size b ≡ low + (size a + size b) = omega arith in
          rising_append low (low + size a) _ (reasons f a) (reasons f b) (omega arith) (omega arith) ra (rw e at rb)
      go false true ra rb = rising_wider (low + size a) (low + size a + size b) low _ (reasons f b) (omega arith) (omega arith) rb
      go true y ra rb = rising_wider low (low + size a) low _ (reasons f a) (omega arith) (omega arith) ra

  pub reasons_one : (t : Tree) → 0 < length (reasons f t)
  unfolding reasons
  reasons_one (leaf k r) = omega arith
  reasons_one (both a b) = go (truth f a) (truth f b) (reasons_one a) (reasons_one b)
    where
      go : (x y : Bool) → 0 < length (reasons f a) → 0 < length (reasons f b)
          → 0 < length (cond (x && y) (reasons f a ++ reasons f b) (cond x (reasons f b) (reasons f a)))
      go true true ra rb = omega (arith, length-append (reasons f a) (reasons f b))
      go true false ra rb = rb
      go false y ra rb = ra
  reasons_one (either a b) = go (truth f a) (truth f b) (reasons_one a) (reasons_one b)
    where
      go : (x y : Bool) → 0 < length (reasons f a) → 0 < length (reasons f b)
          → 0 < length (cond (x || y) (cond x (reasons f a) (reasons f b)) (reasons f a ++ reasons f b))
      go false false ra rb = omega (arith, length-append (reasons f a) (reasons f b))
      go false true ra rb = rb
      go true y ra rb = ra
