-- An accepted equation without its end mark, and more bytes: the symbols of both. So an equation takes the condition for newer files. Assumes nothing.
use mathlib.Core.Path.{◌≡◌, refl, ap, ◌∙◌}
use mathlib.Core.Bool.{Bool, true, false, ◌&&◌, cond}
use mathlib.Core.List.{List, [], ◌∷◌, ◌++◌, append_assoc}
use mathlib.Core.Option.{Option, none, some}
use Prim.Native.Nat.{ℕ, zero, suc, ◌+◌, ◌*◌, ◌≤◌}
use native.Mathlib.Omega.{arith}
use lib.Dec.{ltb, leb, eqb}
use lib.ListN.{length, take, drop, length-append}
use lib.Seq.{length-take-le, take_at}
use borrow.Author.Tests.{leb-true, le-leb}
use Rattle.header.specs.Items.{Field}
use Rattle.equation.specs.Relation.{width}
use Rattle.equation.specs.Holds.{Relation, holds}
use Rattle.equation.specs.Symbols.{good_number, good, connective_of, relation_at, token_of, Symbol, rel, and, or, bad, follow, symbols_past, symbols, relations}
use Rattle.equation.specs.Tree.{pushed, joined, result, bind, run, Tree, leaf, both, either, parse, truth, truth_on}
use Rattle.equation.specs.Marks.{relations_of}
use Rattle.equation.specs.Answer.{validity_of}
use Rattle.equation.specs.Newer.{newer, newer_bytes, before_mark, unmarked_past, unmarked, narrowed}
use Rattle.equation.specs.declared.tokens.Token.{Token}
use Rattle.equation.specs.declared.tokens.Token.TheVariants.{Bad, End, And, Or, Rel}
use Rattle.equation.proofs.TokenLaws.{no_relation, relation_fits}
use Rattle.equation.proofs.Trees.{accepted, valid}

-- ---- a token stays what it is when other bytes follow

-- which byte says AND or OR does not depend on how many follow
low_same : (all : Bool) (c n m : ℕ) → connective_of c n ≡ cond all And Or → connective_of c m ≡ cond all And Or
unfolding connective_of
low_same all c n m e = go all (eqb c 1) (eqb c 2) (eqb c 0) (eqb n 0) e
  where
    go : (all a b d x : Bool)
        → cond a And (cond b Or (cond d (cond x End Bad) Bad)) ≡ cond all And Or
        → cond a And (cond b Or (cond d (cond (eqb m 0) End Bad) Bad)) ≡ cond all And Or
    go all true b d x e = e
    go all false true d x e = e
    go true false false false x e = cc
    go false false false false x e = cc
    go true false false true true e = let w : ◌≡◌ {A = ℕ} 0 1 = cc in absurd (omega arith)
    go true false false true false e = let w : ◌≡◌ {A = ℕ} 0 1 = cc in absurd (omega arith)
    go false false false true true e = let w : ◌≡◌ {A = ℕ} 0 1 = cc in absurd (omega arith)
    go false false false true false e = let w : ◌≡◌ {A = ℕ} 0 1 = cc in absurd (omega arith)

-- a byte with bit 7 set is neither
clash : (c i n : ℕ) (x y all : Bool) → cond x (cond y (Rel c i n) Bad) Bad ≡ cond all And Or → ◌≡◌ {A = ℕ} 0 1
clash c i n true true true e = cc
clash c i n true true false e = cc
clash c i n true false true e = cc
clash c i n true false false e = cc
clash c i n false y true e = cc
clash c i n false y false e = cc

not_join : (all : Bool) (c : ℕ) (bs : List ℕ) → relation_at c bs ≡ cond all And Or → ◌≡◌ {A = ℕ} 0 1
unfolding relation_at
not_join all c [] e = clash c 0 0 false false all e
not_join all c (a ∷ []) e = clash c 0 0 false false all e
not_join all c (a ∷ b ∷ []) e = clash c 0 0 false false all e
not_join all c (a ∷ b ∷ n ∷ bs) e = clash c (a + 256 * b) n (leb n (length bs)) (good c (take n bs)) all e

join_same : (all : Bool) (c : ℕ) (bs xs : List ℕ) → token_of (c ∷ bs) ≡ cond all And Or → token_of (c ∷ xs) ≡ cond all And Or
unfolding token_of
join_same all c bs xs e = go (ltb c 128) e
  where
    go : (x : Bool) → cond x (connective_of c (length bs)) (relation_at c bs) ≡ cond all And Or → cond x (connective_of c (length xs)) (relation_at c xs) ≡ cond all And Or
    go true e = low_same all c (length bs) (length xs) e
    go false e = let w = not_join all c bs e in absurd (omega arith)

-- a relation, with other bytes after its constant
record Same (c d i n : ℕ) (bs ys : List ℕ) : Type 0 where
  token : token_of (c ∷ (take (3 + n) bs ++ ys)) ≡ Rel d i n
  part : take n (drop 3 (take (3 + n) bs ++ ys)) ≡ take n (drop 3 bs)

same : (c d i n : ℕ) (bs ys : List ℕ) → token_of (c ∷ bs) ≡ Rel d i n → Same c d i n bs ys
unfolding token_of relation_at
same c d i n bs ys e = go (ltb c 128) refl bs e
  where
    three : 3 + n ≡ suc (suc (suc n))
    three = omega arith

    rest : (a b m : ℕ) (bs : List ℕ) (x y : Bool)
        → leb m (length bs) ≡ x
        → good c (take m bs) ≡ y
        → cond x (cond y (Rel c (a + 256 * b) m) Bad) Bad ≡ Rel d i n
        → (relation_at c (a ∷ b ∷ m ∷ (take n bs ++ ys)) ≡ Rel d i n) × (take n (take n bs ++ ys) ≡ take n bs)
    rest a b m bs false y l g e = let w : ◌≡◌ {A = ℕ} 0 1 = cc in (absurd (omega arith), absurd (omega arith))
    rest a b m bs true false l g e = let w : ◌≡◌ {A = ℕ} 0 1 = cc in (absurd (omega arith), absurd (omega arith))
    rest a b m bs true true l g e =
        let p : m ≡ n = cc in
        let h : length (take n bs) ≡ n = length-take-le n bs (omega (arith, leb-true m (length bs) l)) in
        let t : take n (take n bs ++ ys) ≡ take n bs = take_at (take n bs) ys n h in
        (rw (p, le-leb n (length (take n bs ++ ys)) (omega (arith, length-append (take n bs) ys)), t, rw p at g) (rw p at e), t)

    go : (x : Bool) → ltb c 128 ≡ x → (bs : List ℕ) → cond x (connective_of c (length bs)) (relation_at c bs) ≡ Rel d i n → Same c d i n bs ys
    go true q bs e = let w = no_relation c (length bs) d i n e in absurd (omega arith)
    go false q [] e = let w : ◌≡◌ {A = ℕ} 0 1 = cc in absurd (omega arith)
    go false q (a ∷ []) e = let w : ◌≡◌ {A = ℕ} 0 1 = cc in absurd (omega arith)
    go false q (a ∷ b ∷ []) e = let w : ◌≡◌ {A = ℕ} 0 1 = cc in absurd (omega arith)
    go false q (a ∷ b ∷ m ∷ bs) e =
        let f = rest a b m bs (leb m (length bs)) (good c (take m bs)) refl refl e in
        record { token = rw (three, q) f.0; part = rw three f.1 }

-- ---- the symbols of an equation without its mark, and of what follows

abbrev Sound : List Symbol → Type 0
Sound [] = Unit {0}
Sound (rel r ∷ ss) = Sound ss
Sound (and ∷ ss) = Sound ss
Sound (or ∷ ss) = Sound ss
Sound (bad ∷ ss) = ⊥

-- the bytes kept past a token
unmarked_skip : (n : ℕ) (bs : List ℕ) → unmarked_past n bs ≡ take n bs ++ unmarked (drop n bs)
unfolding unmarked_past
unmarked_skip zero bs = refl
unmarked_skip (suc n) [] = refl
unmarked_skip (suc n) (c ∷ bs) = ap (λ (l : List ℕ). c ∷ l) (unmarked_skip n bs)

abbrev Joins : List ℕ → List ℕ → Type 0
Joins bs cs = (n : ℕ) → n ≤ length bs → Sound (symbols_past n bs) → symbols_past n (unmarked_past n bs ++ cs) ≡ symbols_past n bs ++ symbols cs

first : (c : ℕ) (xs : List ℕ) (t : Token) → token_of (c ∷ xs) ≡ t → symbols (c ∷ xs) ≡ follow t (c ∷ xs) (λ n. symbols_past n xs)
unfolding symbols_past
first c xs t h = rw h

at_token : (c : ℕ) (bs cs : List ℕ)
    → Joins bs cs
    → (t : Token)
    → token_of (c ∷ bs) ≡ t
    → Sound (follow t (c ∷ bs) (λ n. symbols_past n bs))
    → symbols (before_mark t (λ n. c ∷ unmarked_past n bs) ++ cs) ≡ follow t (c ∷ bs) (λ n. symbols_past n bs) ++ symbols cs
unfolding follow before_mark
at_token c bs cs ih Bad q s = absurd s
at_token c bs cs ih End q s = refl
at_token c bs cs ih And q s =
    first c (unmarked bs ++ cs) And (join_same true c bs (unmarked bs ++ cs) q) ∙ ap (λ (l : List Symbol). and ∷ l) (ih 0 (omega arith) s)
at_token c bs cs ih Or q s =
    first c (unmarked bs ++ cs) Or (join_same false c bs (unmarked bs ++ cs) q) ∙ ap (λ (l : List Symbol). or ∷ l) (ih 0 (omega arith) s)
at_token c bs cs ih (Rel d i n) q s =
    let f = same c d i n bs (unmarked (drop (3 + n) bs) ++ cs) q in
    let k : unmarked_past (3 + n) bs ++ cs ≡ take (3 + n) bs ++ (unmarked (drop (3 + n) bs) ++ cs) =
    rw (unmarked_skip (3 + n) bs) (append_assoc (take (3 + n) bs) (unmarked (drop (3 + n) bs)) cs) in
    let part : take n (drop 3 (unmarked_past (3 + n) bs ++ cs)) ≡ take n (drop 3 bs) = rw k f.part in
    first c (unmarked_past (3 + n) bs ++ cs) (Rel d i n) (rw k f.token)
    ∙ rw (part, ih (3 + n) (omega (arith, relation_fits (c ∷ bs) d i n q)) s)

joins : (bs cs : List ℕ) → Joins bs cs
unfolding symbols_past unmarked_past
joins [] cs zero h s = refl
joins [] cs (suc n) h s = let z : ⊥ = omega arith in absurd z
joins (c ∷ bs) cs zero h s = at_token c bs cs (joins bs cs) (token_of (c ∷ bs)) refl s
joins (c ∷ bs) cs (suc n) h s = joins bs cs n (omega arith) s

-- ---- the run of an equation, and of what follows

record Bound {B C : Type 0} (o : Option B) (p : B → Option C) (t : C) : Type 0 where
  value : B
  have : o ≡ some value
  gives : p value ≡ some t

bound : {B C : Type 0} (o : Option B) (p : B → Option C) (t : C) → bind o p ≡ some t → Bound o p t
unfolding bind
bound none p t h = let w : ◌≡◌ {A = ℕ} 0 1 = cc in absurd (omega arith)
bound (some x) p t h = record { value = x; have = refl; gives = h }

one_result : {A : Type 0} (st : List A) (t : A) → result st ≡ some t → st ≡ t ∷ []
unfolding result
one_result [] t h = let w : ◌≡◌ {A = ℕ} 0 1 = cc in absurd (omega arith)
one_result (a ∷ []) t h = cc
one_result (a ∷ b ∷ st) t h = let w : ◌≡◌ {A = ℕ} 0 1 = cc in absurd (omega arith)

module _ {A : Type 0} (l : ℕ → Relation → A) (b e : A → A → A) where
  -- symbols that give a result have no bad one
  sound : (k : ℕ) (ss : List Symbol) (st : List A) (t : A) → run l b e k ss st ≡ some t → Sound ss
  unfolding run
  sound k [] st t h = tt
  sound k (rel r ∷ ss) st t h = let w = bound (pushed (l k r) st) (run l b e (suc k) ss) t h in sound (suc k) ss w.value t w.gives
  sound k (and ∷ ss) st t h = let w = bound (joined b st) (run l b e k ss) t h in sound k ss w.value t w.gives
  sound k (or ∷ ss) st t h = let w = bound (joined e st) (run l b e k ss) t h in sound k ss w.value t w.gives
  sound k (bad ∷ ss) st t h = let w : ◌≡◌ {A = ℕ} 0 1 = cc in omega arith

  -- after symbols that give t, further ones run on a stack of t alone
  pub run_then : (k : ℕ) (ss ts : List Symbol) (st : List A) (t : A)
      → run l b e k ss st ≡ some t
      → run l b e k (ss ++ ts) st ≡ run l b e (k + length (relations ss)) ts (t ∷ [])
  unfolding run relations bind
  run_then k [] ts st t h = let z : k + 0 ≡ k = omega arith in rw (one_result st t h, z)
  run_then k (rel r ∷ ss) ts st t h =
      let w = bound (pushed (l k r) st) (run l b e (suc k) ss) t h in
      let z : k + suc (length (relations ss)) ≡ suc k + length (relations ss) = omega arith in
      rw (w.have, z) (run_then (suc k) ss ts w.value t w.gives)
  run_then k (and ∷ ss) ts st t h =
      let w = bound (joined b st) (run l b e k ss) t h in rw w.have (run_then k ss ts w.value t w.gives)
  run_then k (or ∷ ss) ts st t h =
      let w = bound (joined e st) (run l b e k ss) t h in rw w.have (run_then k ss ts w.value t w.gives)
  run_then k (bad ∷ ss) ts st t h = let w : ◌≡◌ {A = ℕ} 0 1 = cc in absurd (omega arith)

-- an accepted equation without its mark, and more bytes
pub more_bytes : (eq cs : List ℕ) (t : Tree) → parse eq ≡ some t → symbols (unmarked eq ++ cs) ≡ symbols eq ++ symbols cs
unfolding parse
more_bytes eq cs t h = joins eq cs 0 (omega arith) (sound leaf both either 0 (symbols eq) [] t h)

pub parse_more : (eq cs : List ℕ) (t : Tree)
    → parse eq ≡ some t
    → parse (unmarked eq ++ cs) ≡ run leaf both either (length (relations_of eq)) (symbols cs) (t ∷ [])
unfolding parse
parse_more eq cs t h =
    let z : 0 + length (relations_of eq) ≡ length (relations_of eq) = omega arith in
    rw (more_bytes eq cs t h) (rw z at (run_then leaf both either 0 (symbols eq) (symbols cs) [] t h))

-- ---- the condition for newer files

newer_symbols : (u : ℕ) → symbols (newer_bytes u ++ (1 ∷ [])) ≡ rel (newer u) ∷ and ∷ []
unfolding symbols_past follow token_of relation_at connective_of good good_number width
newer_symbols u = refl

-- an equation of t with the condition added is the AND of both
pub narrowed_parse : (eq : List ℕ) (u : ℕ) (t : Tree)
    → parse eq ≡ some t
    → parse (narrowed eq u) ≡ some (both t (leaf (length (relations_of eq)) (newer u)))
unfolding run pushed joined result bind
narrowed_parse eq u t h = parse_more eq (newer_bytes u ++ (1 ∷ [])) t h ∙ rw (newer_symbols u)

pub narrowed_truth : (fields : List Field) (t : Tree) (k u : ℕ)
    → truth_on fields (both t (leaf k (newer u))) ≡ truth_on fields t && holds (newer u) fields
unfolding truth
narrowed_truth fields t k u = refl

-- in at most nine bytes more
shorter : (n : ℕ) (bs : List ℕ) → length (unmarked_past n bs) ≤ length bs
unfolding unmarked_past
shorter n [] = omega arith
shorter (suc n) (c ∷ bs) = omega (arith, shorter n bs)
shorter zero (c ∷ bs) = by_token (λ n. shorter n bs) (token_of (c ∷ bs))
  where
    by_token : ((n : ℕ) → length (unmarked_past n bs) ≤ length bs) → (t : Token) → length (before_mark t (λ n. c ∷ unmarked_past n bs)) ≤ suc (length bs)
    by_token ih Bad = unfold before_mark in omega arith
    by_token ih End = unfold before_mark in omega arith
    by_token ih And = unfold before_mark in omega (arith, ih 0)
    by_token ih Or = unfold before_mark in omega (arith, ih 0)
    by_token ih (Rel d i n) = unfold before_mark in omega (arith, ih (3 + n))

pub narrowed_length : (eq : List ℕ) (u : ℕ) → length (narrowed eq u) ≤ length eq + 9
narrowed_length eq u = omega (arith, length-append (unmarked eq) (newer_bytes u ++ (1 ∷ [])), shorter 0 eq)

pub narrowed_valid : (eq : List ℕ) (u : ℕ) → validity_of eq ≡ 0 → length eq + 9 ≤ 2047 → validity_of (narrowed eq u) ≡ 0
narrowed_valid eq u v h =
    let a = accepted eq v in
    valid (narrowed eq u) (omega (arith, narrowed_length eq u)) (both a.tree (leaf (length (relations_of eq)) (newer u)))
    (narrowed_parse eq u a.tree a.parsed)

-- the condition alone, in eight bytes
pub newer_parse : (u : ℕ) → parse (newer_bytes u) ≡ some (leaf 0 (newer u))
unfolding parse symbols_past follow token_of relation_at good good_number width run pushed result bind
newer_parse u = refl
