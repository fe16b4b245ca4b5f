-- The postfix run is the tree's truth, and what follows: an equation is refused whatever the files, and its truth is that of its relations.
-- Assumes nothing.
use mathlib.Core.Path.{◌≡◌, refl, sym, ap, ◌∙◌}
use mathlib.Core.Bool.{Bool, true, false, ◌&&◌, ◌||◌, cond}
use mathlib.Core.List.{List, [], ◌∷◌, map}
use mathlib.Core.Option.{Option, none, some}
use Prim.Native.Nat.{ℕ, suc, ◌≤◌, ◌<◌}
use native.Mathlib.Omega.{arith}
use lib.Dec.{ltb}
use lib.ListN.{length, length-map}
use borrow.Author.Tests.{le-ltb, ltb-true, ltb-false}
use Rattle.equation.specs.Holds.{Relation}
use Rattle.equation.specs.Symbols.{Symbol, rel, and, or, bad, symbols, relations}
use Rattle.equation.specs.Tree.{pushed, joined, result, bind, run, Tree, leaf, both, either, parse, truth}
use Rattle.equation.specs.Marks.{relations_of}
use Rattle.equation.specs.Answer.{number_of, said, verdict, answer, refusal, validity_of}
use Rattle.std.proofs.Common.{Ok, Err}

abbrev pub map_o : {A B : Type 0} → (A → B) → Option A → Option B
map_o h none = none
map_o h (some a) = some (h a)

result_map : {A B : Type 0} (h : A → B) (st : List A) → map_o h (result st) ≡ result (map h st)
unfolding result
result_map h [] = refl
result_map h (a ∷ []) = refl
result_map h (a ∷ b ∷ st) = refl

-- a run over one kind of results, seen through h, is the run over the other kind
module _ {A B : Type 0} (h : A → B) (l : ℕ → Relation → A) (b e : A → A → A) (l' : ℕ → Relation → B) (b' e' : B → B → B)
    (hl : (k : ℕ) (r : Relation) → h (l k r) ≡ l' k r) (hb : (x y : A) → h (b x y) ≡ b' (h x) (h y)) (he : (x y : A) → h (e x y) ≡ e' (h x) (h y)) where
  pub run_map : (k : ℕ) (ss : List Symbol) (st : List A) → map_o h (run l b e k ss st) ≡ run l' b' e' k ss (map h st)
  unfolding run pushed joined bind
  run_map k [] st = result_map h st
  run_map k (rel r ∷ ss) st = go (run_map (suc k) ss (l k r ∷ st)) (ltb (length st) 100) refl
    where
      go : map_o h (run l b e (suc k) ss (l k r ∷ st)) ≡ run l' b' e' (suc k) ss (h (l k r) ∷ map h st)
          → (x : Bool)
          → ltb (length st) 100 ≡ x
          → map_o h (bind (cond x (some (l k r ∷ st)) none) (run l b e (suc k) ss))
          ≡ bind (cond (ltb (length (map h st)) 100) (some (l' k r ∷ map h st)) none) (run l' b' e' (suc k) ss)
      go ih true q = rw (length-map st h, q, ← hl k r) ih
      go ih false q = rw (length-map st h, q)
  run_map k (and ∷ ss) [] = refl
  run_map k (and ∷ ss) (y ∷ []) = refl
  run_map k (and ∷ ss) (y ∷ x ∷ st) = rw (← hb x y) (run_map k ss (b x y ∷ st))
  run_map k (or ∷ ss) [] = refl
  run_map k (or ∷ ss) (y ∷ []) = refl
  run_map k (or ∷ ss) (y ∷ x ∷ st) = rw (← he x y) (run_map k ss (e x y ∷ st))
  run_map k (bad ∷ ss) st = refl

-- the postfix run over truths is the truth of the tree
pub run_is_truth : (f : ℕ → Relation → Bool) (bs : List ℕ) → map_o (truth f) (parse bs) ≡ run f ◌&&◌ ◌||◌ 0 (symbols bs) []
unfolding truth parse
run_is_truth f bs = run_map (truth f) leaf both either f ◌&&◌ ◌||◌ (λ k r. refl) (λ x y. refl) (λ x y. refl) 0 (symbols bs) []

said_verdict : (f : ℕ → Relation → Bool) (o : Option Tree) → said f o ≡ verdict (map_o (truth f) o)
unfolding said verdict
said_verdict f none = refl
said_verdict f (some t) = refl

-- a postfix run's answer is the tree's
pub evaluated : (f : ℕ → Relation → Bool) (eq : List ℕ) → verdict (run f ◌&&◌ ◌||◌ 0 (symbols eq) []) ≡ said f (parse eq)
evaluated f eq = sym (said_verdict f (parse eq) ∙ ap verdict (run_is_truth f eq))

-- ---- refused or not, whatever the files

number_said : (f : ℕ → Relation → Bool) (o : Option Tree) → number_of (said f o) ≡ refusal o
unfolding said refusal
number_said f none = unfold number_of in refl
number_said f (some t) = unfold number_of in refl

-- the number of an answer is that of the equation, whatever the truth of its relations
pub number_answer : (f : ℕ → Relation → Bool) (eq : List ℕ) → number_of (answer f eq) ≡ validity_of eq
unfolding answer validity_of
number_answer f eq = go (ltb 2047 (length eq))
  where
    go : (x : Bool) → number_of (cond x (Err 33) (said f (parse eq))) ≡ cond x 33 (refusal (parse eq))
    go true = unfold number_of in refl
    go false = number_said f (parse eq)

-- a refused equation is refused on every file
pub refused_answer : (f : ℕ → Relation → Bool) (eq : List ℕ) → (validity_of eq ≡ 0 → ⊥) → Err (validity_of eq) ≡ answer f eq
unfolding answer validity_of refusal said
refused_answer f eq h = go (ltb 2047 (length eq)) (parse eq) h
  where
    go : (x : Bool) (o : Option Tree) → (cond x 33 (refusal o) ≡ 0 → ⊥) → Err (cond x 33 (refusal o)) ≡ cond x (Err 33) (said f o)
    go true o h = refl
    go false none h = refl
    go false (some t) h = absurd (h refl)

-- within 2,047 bytes: 8 exactly where there is no tree
module _ (eq : List ℕ) (h : length eq ≤ 2047) where
  pub valid : (t : Tree) → parse eq ≡ some t → validity_of eq ≡ 0
  unfolding validity_of refusal
  valid t e = rw (le-ltb 2047 (length eq) h, e)

  pub invalid : parse eq ≡ none → validity_of eq ≡ 8
  unfolding validity_of refusal
  invalid e = rw (le-ltb 2047 (length eq) h, e)

  -- and the answer of an accepted equation is the tree's truth
  pub answer_truth : (f : ℕ → Relation → Bool) (t : Tree) → parse eq ≡ some t → answer f eq ≡ Ok (truth f t)
  unfolding answer said
  answer_truth f t e = rw (le-ltb 2047 (length eq) h, e)

-- an equation that is accepted has a tree
pub record Accepted (eq : List ℕ) : Type 0 where
  pub tree : Tree
  pub parsed : parse eq ≡ some tree
  pub fits : length eq ≤ 2047

pub accepted : (eq : List ℕ) → validity_of eq ≡ 0 → Accepted eq
unfolding validity_of refusal
accepted eq e = go (ltb 2047 (length eq)) refl (parse eq) refl e
  where
    go : (x : Bool) → ltb 2047 (length eq) ≡ x → (o : Option Tree) → parse eq ≡ o → cond x 33 (refusal o) ≡ 0 → Accepted eq
    go true l o p e = let z : ⊥ = omega arith in absurd z
    go false l none p e = let z : ⊥ = omega arith in absurd z
    go false l (some t) p e = record { tree = t; parsed = p; fits = ltb-false 2047 (length eq) l }

-- 8 means no tree, and 33 more than 2,047 bytes
pub refused : (eq : List ℕ) → validity_of eq ≡ 8 → parse eq ≡ none
unfolding validity_of refusal
refused eq e = go (ltb 2047 (length eq)) (parse eq) refl e
  where
    go : (x : Bool) (o : Option Tree) → parse eq ≡ o → cond x 33 (refusal o) ≡ 8 → parse eq ≡ none
    go true o p e = let z : ⊥ = omega arith in absurd z
    go false none p e = p
    go false (some t) p e = let z : ⊥ = omega arith in absurd z

pub too_long : (eq : List ℕ) → validity_of eq ≡ 33 → 2047 < length eq
unfolding validity_of refusal
too_long eq e = go (ltb 2047 (length eq)) refl (parse eq) e
  where
    go : (x : Bool) → ltb 2047 (length eq) ≡ x → (o : Option Tree) → cond x 33 (refusal o) ≡ 33 → 2047 < length eq
    go true l o e = ltb-true 2047 (length eq) l
    go false l none e = omega arith
    go false l (some t) e = omega arith

-- ---- the order of evaluation cannot be seen

-- the relations of a tree, with their numbers, all meet P
abbrev pub Leaves : (ℕ → Relation → Type 0) → Tree → Type 0
Leaves P (leaf k r) = P k r
Leaves P (both a b) = Leaves P a × Leaves P b
Leaves P (either a b) = Leaves P a × Leaves P b

-- truths that agree on a tree's relations give it the same truth
pub truth_same : (f g : ℕ → Relation → Bool) (t : Tree) → Leaves (λ k r. f k r ≡ g k r) t → truth f t ≡ truth g t
unfolding truth
truth_same f g (leaf k r) h = h
truth_same f g (both a b) h = rw (truth_same f g a h.0, truth_same f g b h.1)
truth_same f g (either a b) h = rw (truth_same f g a h.0, truth_same f g b h.1)

-- so a run, over any kind of results, depends on those of its relations alone
abbrev pub Agree : {A : Type 0} → (ℕ → Relation → A) → (ℕ → Relation → A) → ℕ → List Relation → Type 0
Agree f g k [] = Unit {0}
Agree f g k (r ∷ rs) = (f k r ≡ g k r) × Agree f g (suc k) rs

pub bind_same : {B C : Type 0} (o : Option B) (p q : B → Option C) → ((x : B) → p x ≡ q x) → bind o p ≡ bind o q
unfolding bind
bind_same none p q h = refl
bind_same (some x) p q h = h x

module _ {A : Type 0} (f g : ℕ → Relation → A) (b e : A → A → A) where
  pub run_same : (k : ℕ) (ss : List Symbol) (st : List A) → Agree f g k (relations ss) → run f b e k ss st ≡ run g b e k ss st
  unfolding run relations
  run_same k [] st h = refl
  run_same k (rel r ∷ ss) st h =
      ap (λ (x : A). bind (pushed x st) (run f b e (suc k) ss)) h.0
      ∙ bind_same (pushed (g k r) st) (run f b e (suc k) ss) (run g b e (suc k) ss) (λ st'. run_same (suc k) ss st' h.1)
  run_same k (and ∷ ss) st h = bind_same (joined b st) (run f b e k ss) (run g b e k ss) (λ st'. run_same k ss st' h)
  run_same k (or ∷ ss) st h = bind_same (joined e st) (run f b e k ss) (run g b e k ss) (λ st'. run_same k ss st' h)
  run_same k (bad ∷ ss) st h = refl

pub answer_same : (f g : ℕ → Relation → Bool) (eq : List ℕ) → Agree f g 0 (relations_of eq) → answer f eq ≡ answer g eq
unfolding answer
answer_same f g eq h =
    let same : said f (parse eq) ≡ said g (parse eq) =
    sym (evaluated f eq) ∙ ap verdict (run_same f g ◌&&◌ ◌||◌ 0 (symbols eq) [] h) ∙ evaluated g eq in
    rw same
