-- Accepted bytes and the formula that they stand for: the bytes before an end mark are the formula's, and no other formula has them. Assumes nothing.
use mathlib.Core.Path.{◌≡◌, refl, sym, ap, subst, ◌∙◌}
use mathlib.Core.Bool.{Bool, true, false, cond}
use mathlib.Core.List.{List, [], ◌∷◌, ◌++◌, append_assoc, append-nil}
use mathlib.Core.Option.{none, some}
use Prim.Native.Nat.{ℕ, zero, suc, ◌+◌, ◌*◌, ◌/◌, ◌%◌, ◌≤◌, ◌<◌}
use native.Mathlib.Omega.{arith}
use lib.Dec.{ltb, leb, eqb}
use lib.ListN.{length, get_or, take, drop}
use lib.Seq.{length-take-le, take_all, take-nil}
use borrow.Author.Tests.{ltb-false, leb-true, eqb-true}
use Rattle.equation.specs.Symbols.{good, connective_of, relation_at, token_of, Symbol, rel, and, or, bad, follow, symbols_past, symbols}
use Rattle.equation.specs.Tree.{pushed, joined, result, bind, run, Tree, parse}
use Rattle.equation.specs.Tree as tree
use Rattle.equation.specs.Newer.{before_mark, unmarked_past, unmarked}
use Rattle.equation.specs.declared.tokens.Token.{Token}
use Rattle.equation.specs.declared.tokens.Token.TheVariants.{Bad, End, And, Or, Rel}
use Rattle.equation.proofs.TokenLaws.{no_relation, relation_fits}
use Rattle.grammar.specs.Formula.{Formula, relation, both, either, relation_bytes, postfix, symbols_of}
use Rattle.grammar.specs.Grammar.{Reads}
use Rattle.grammar.proofs.Bytes.{AllFit, postfix_then, text_fits}
use Rattle.writing.specs.Places.{formula_of}
use Rattle.writing.proofs.Relations.{Whole}
use Rattle.writing.proofs.Derived.{AllWhole}

-- ---- the bytes of a formula are its symbols

pub postfix_symbols : (f : Formula) → AllFit f → symbols (postfix f) ≡ symbols_of f
unfolding symbols_past
postfix_symbols f h = sym (ap symbols (append-nil (postfix f))) ∙ postfix_then f [] h ∙ append-nil (symbols_of f)

-- ---- symbols tell the formula

built : List Symbol → List Formula → List Formula
built [] st = st
built (rel r ∷ ss) st = built ss (relation r ∷ st)
built (and ∷ ss) [] = []
built (and ∷ ss) (b ∷ []) = []
built (and ∷ ss) (b ∷ a ∷ st) = built ss (both a b ∷ st)
built (or ∷ ss) [] = []
built (or ∷ ss) (b ∷ []) = []
built (or ∷ ss) (b ∷ a ∷ st) = built ss (either a b ∷ st)
built (bad ∷ ss) st = []

built_then : (f : Formula) (ss : List Symbol) (st : List Formula) → built (symbols_of f ++ ss) st ≡ built ss (f ∷ st)
unfolding built symbols_of
built_then (relation r) ss st = refl
built_then (both a b) ss st = simp append_assoc (built_then a (symbols_of b ++ and ∷ ss) st ∙ built_then b (and ∷ ss) (a ∷ st))
built_then (either a b) ss st = simp append_assoc (built_then a (symbols_of b ++ or ∷ ss) st ∙ built_then b (or ∷ ss) (a ∷ st))

alone : (f : Formula) → built (symbols_of f) [] ≡ f ∷ []
unfolding built
alone f = sym (ap (λ (l : List Symbol). built l []) (append-nil (symbols_of f))) ∙ built_then f [] []

first_of : (a b : Formula) → ◌≡◌ {A = List Formula} (a ∷ []) (b ∷ []) → a ≡ b
first_of a b e = cc

pub same_symbols : (a b : Formula) → symbols_of a ≡ symbols_of b → a ≡ b
same_symbols a b e = first_of a b (sym (alone a) ∙ ap (λ (l : List Symbol). built l []) e ∙ alone b)

-- ---- the tree of accepted bytes

-- the symbols of a stack, the first result first
stack_symbols : List Tree → List Symbol
stack_symbols [] = []
stack_symbols (t ∷ st) = stack_symbols st ++ symbols_of (formula_of t)

shift : (xs os bs ss : List Symbol) (c : Symbol) → ((xs ++ os) ++ bs) ++ c ∷ ss ≡ (xs ++ (os ++ (bs ++ c ∷ []))) ++ ss
shift xs os bs ss c = simp append_assoc

run_symbols : (k : ℕ) (ss : List Symbol) (st : List Tree) (t : Tree) → run tree.leaf tree.both tree.either k ss st ≡ some t → stack_symbols st ++ ss
    ≡ symbols_of (formula_of t)
unfolding run result joined bind stack_symbols formula_of symbols_of
run_symbols k [] [] t h = let z : ◌≡◌ {A = ℕ} 0 1 = cc in absurd (omega arith)
run_symbols k [] (a ∷ []) t h = let z : a ≡ t = cc in rw z (simp append-nil)
run_symbols k [] (a ∷ b ∷ st) t h = let z : ◌≡◌ {A = ℕ} 0 1 = cc in absurd (omega arith)
run_symbols k (rel r ∷ ss) st t h = by (run_symbols (suc k) ss (tree.leaf k r ∷ st) t) (ltb (length st) 100) (unfold pushed in h)
  where
    by : (run tree.leaf tree.both tree.either (suc k) ss (tree.leaf k r ∷ st) ≡ some t → (stack_symbols st ++ symbols_of (formula_of (tree.leaf k r))) ++ ss
        ≡ symbols_of (formula_of t))
        → (x : Bool) → bind (cond x (some (tree.leaf k r ∷ st)) none) (run tree.leaf tree.both tree.either (suc k) ss) ≡ some t → stack_symbols st ++ rel r ∷ ss
        ≡ symbols_of (formula_of t)
    by ih true z = sym (append_assoc (stack_symbols st) (rel r ∷ []) ss) ∙ unfold formula_of symbols_of in ih (unfold bind in z)
    by ih false z = let y : ◌≡◌ {A = ℕ} 0 1 = unfold bind in cc in absurd (omega arith)
run_symbols k (and ∷ ss) [] t h = let z : ◌≡◌ {A = ℕ} 0 1 = cc in absurd (omega arith)
run_symbols k (and ∷ ss) (b ∷ []) t h = let z : ◌≡◌ {A = ℕ} 0 1 = cc in absurd (omega arith)
run_symbols k (and ∷ ss) (b ∷ a ∷ st) t h =
    shift (stack_symbols st) (symbols_of (formula_of a)) (symbols_of (formula_of b)) ss and ∙ run_symbols k ss (tree.both a b ∷ st) t h
run_symbols k (or ∷ ss) [] t h = let z : ◌≡◌ {A = ℕ} 0 1 = cc in absurd (omega arith)
run_symbols k (or ∷ ss) (b ∷ []) t h = let z : ◌≡◌ {A = ℕ} 0 1 = cc in absurd (omega arith)
run_symbols k (or ∷ ss) (b ∷ a ∷ st) t h =
    shift (stack_symbols st) (symbols_of (formula_of a)) (symbols_of (formula_of b)) ss or ∙ run_symbols k ss (tree.either a b ∷ st) t h
run_symbols k (bad ∷ ss) st t h = let z : ◌≡◌ {A = ℕ} 0 1 = cc in absurd (omega arith)

pub parsed_symbols : (bytes : List ℕ) (t : Tree) → parse bytes ≡ some t → symbols bytes ≡ symbols_of (formula_of t)
unfolding parse stack_symbols
parsed_symbols bytes t h = run_symbols 0 (symbols bytes) [] t h

-- ---- the bytes before an end mark

-- symbols that are all relations that bytes can say, AND and OR; and their bytes
WholeSymbols : List Symbol → Type 0
WholeSymbols [] = Unit {0}
WholeSymbols (rel r ∷ ss) = Whole r × WholeSymbols ss
WholeSymbols (and ∷ ss) = WholeSymbols ss
WholeSymbols (or ∷ ss) = WholeSymbols ss
WholeSymbols (bad ∷ ss) = ⊥

flat : List Symbol → List ℕ
flat [] = []
flat (rel r ∷ ss) = relation_bytes r ++ flat ss
flat (and ∷ ss) = 1 ∷ flat ss
flat (or ∷ ss) = 2 ∷ flat ss
flat (bad ∷ ss) = []

flat_then : (f : Formula) (ss : List Symbol) → flat (symbols_of f ++ ss) ≡ postfix f ++ flat ss
unfolding flat symbols_of postfix
flat_then (relation r) ss = refl
flat_then (both a b) ss = simp append_assoc (flat_then a (symbols_of b ++ and ∷ ss) ∙ ap (λ (l : List ℕ). postfix a ++ l) (flat_then b (and ∷ ss)))
flat_then (either a b) ss = simp append_assoc (flat_then a (symbols_of b ++ or ∷ ss) ∙ ap (λ (l : List ℕ). postfix a ++ l) (flat_then b (or ∷ ss)))

flat_formula : (f : Formula) → flat (symbols_of f) ≡ postfix f
unfolding flat
flat_formula f = sym (ap flat (append-nil (symbols_of f))) ∙ flat_then f [] ∙ append-nil (postfix f)

whole_then : (f : Formula) (ss : List Symbol) → WholeSymbols (symbols_of f ++ ss) → AllWhole f × WholeSymbols ss
unfolding WholeSymbols symbols_of AllWhole
whole_then (relation r) ss h = h
whole_then (both a b) ss h =
    let x = whole_then a (symbols_of b ++ and ∷ ss) (simp append_assoc at h) in
    let y = whole_then b (and ∷ ss) x.1 in
    ((x.0, y.0), y.1)
whole_then (either a b) ss h =
    let x = whole_then a (symbols_of b ++ or ∷ ss) (simp append_assoc at h) in
    let y = whole_then b (or ∷ ss) x.1 in
    ((x.0, y.0), y.1)

-- symbols of a formula have no bad one
Sound : List Symbol → Type 0
Sound [] = Unit {0}
Sound (rel r ∷ ss) = Sound ss
Sound (and ∷ ss) = Sound ss
Sound (or ∷ ss) = Sound ss
Sound (bad ∷ ss) = ⊥

sound_then : (f : Formula) (ss : List Symbol) → Sound ss → Sound (symbols_of f ++ ss)
unfolding Sound symbols_of
sound_then (relation r) ss h = h
sound_then (both a b) ss h = simp append_assoc (sound_then a (symbols_of b ++ and ∷ ss) (sound_then b (and ∷ ss) h))
sound_then (either a b) ss h = simp append_assoc (sound_then a (symbols_of b ++ or ∷ ss) (sound_then b (or ∷ ss) h))

sound_formula : (f : Formula) → Sound (symbols_of f)
unfolding Sound
sound_formula f = subst Sound (append-nil (symbols_of f)) (sound_then f [] tt)

abbrev Small : List ℕ → Type 0
Small bs = (k : ℕ) → get_or bs k 0 < 256

-- what a token says of its bytes
connective_byte : (c n : ℕ) → (connective_of c n ≡ And → c ≡ 1) × (connective_of c n ≡ Or → c ≡ 2)
unfolding connective_of
connective_byte c n = by (eqb c 1) refl (eqb c 2) refl (eqb c 0) (eqb n 0)
  where
    by : (p : Bool) → eqb c 1 ≡ p → (q : Bool) → eqb c 2 ≡ q → (x y : Bool)
        → (cond p And (cond q Or (cond x (cond y End Bad) Bad)) ≡ And → c ≡ 1) × (cond p And (cond q Or (cond x (cond y End Bad) Bad)) ≡ Or → c ≡ 2)
    by true e q f x y = (λ h. eqb-true c 1 e, λ h. let z : ◌≡◌ {A = ℕ} 0 1 = cc in absurd (omega arith))
    by false e true f x y = (λ h. let z : ◌≡◌ {A = ℕ} 0 1 = cc in absurd (omega arith), λ h. eqb-true c 2 f)
    by false e false f true true = (λ h. let z : ◌≡◌ {A = ℕ} 0 1 = cc in absurd (omega arith), λ h. let z : ◌≡◌ {A = ℕ} 0 1 = cc in absurd (omega arith))
    by false e false f true false = (λ h. let z : ◌≡◌ {A = ℕ} 0 1 = cc in absurd (omega arith), λ h. let z : ◌≡◌ {A = ℕ} 0 1 = cc in absurd (omega arith))
    by false e false f false y = (λ h. let z : ◌≡◌ {A = ℕ} 0 1 = cc in absurd (omega arith), λ h. let z : ◌≡◌ {A = ℕ} 0 1 = cc in absurd (omega arith))

high_byte : (c : ℕ) (bs : List ℕ) (all : Bool) → relation_at c bs ≡ cond all And Or → ◌≡◌ {A = ℕ} 0 1
unfolding relation_at
high_byte c [] true h = cc
high_byte c [] false h = cc
high_byte c (a ∷ []) true h = cc
high_byte c (a ∷ []) false h = cc
high_byte c (a ∷ b ∷ []) true h = cc
high_byte c (a ∷ b ∷ []) false h = cc
high_byte c (a ∷ b ∷ n ∷ bs) all h = by (leb n (length bs)) (good c (take n bs)) all h
  where
    by : (x y all : Bool) → cond x (cond y (Rel c (a + 256 * b) n) Bad) Bad ≡ cond all And Or → ◌≡◌ {A = ℕ} 0 1
    by true true true h = cc
    by true true false h = cc
    by true false true h = cc
    by true false false h = cc
    by false y true h = cc
    by false y false h = cc

join_byte : (c : ℕ) (bs : List ℕ) (all : Bool) → token_of (c ∷ bs) ≡ cond all And Or → c ≡ cond all 1 2
unfolding token_of
join_byte c bs all h = by (ltb c 128) all h
  where
    by : (t all : Bool) → cond t (connective_of c (length bs)) (relation_at c bs) ≡ cond all And Or → c ≡ cond all 1 2
    by true true h = (connective_byte c (length bs)).0 h
    by true false h = (connective_byte c (length bs)).1 h
    by false all h = let z = high_byte c bs all h in absurd (omega arith)

record RelationIs (c d i m : ℕ) (bs : List ℕ) : Type 0 where
  bytes : c ∷ take (3 + m) bs ≡ relation_bytes (record { code = d; id = i; constant = take m (drop 3 bs) })
  whole : Whole (record { code = d; id = i; constant = take m (drop 3 bs) })

take_small : (m : ℕ) (bs : List ℕ) → Small bs → Small (take m bs)
take_small zero bs s k = omega arith
take_small (suc m) [] s k = s k
take_small (suc m) (b ∷ bs) s zero = s 0
take_small (suc m) (b ∷ bs) s (suc k) = take_small m bs (λ j. s (suc j)) k

relation_is : (c d i m : ℕ) (bs : List ℕ) → Small (c ∷ bs) → token_of (c ∷ bs) ≡ Rel d i m → RelationIs c d i m bs
unfolding token_of relation_at relation_bytes
relation_is c d i m bs s e = go (ltb c 128) refl bs s e
  where
    three : 3 + m ≡ suc (suc (suc m))
    three = omega arith

    rest : 128 ≤ c → (a b n : ℕ) (bs : List ℕ) → Small (c ∷ a ∷ b ∷ n ∷ bs) → (x y : Bool) → leb n (length bs) ≡ x → good c (take n bs) ≡ y
        → cond x (cond y (Rel c (a + 256 * b) n) Bad) Bad ≡ Rel d i m → RelationIs c d i m (a ∷ b ∷ n ∷ bs)
    rest q a b n bs s false y l g e = let w : ◌≡◌ {A = ℕ} 0 1 = cc in absurd (omega arith)
    rest q a b n bs s true false l g e = let w : ◌≡◌ {A = ℕ} 0 1 = cc in absurd (omega arith)
    rest q a b n bs s true true l g e =
        let p1 : n ≡ m = cc in
        let p2 : a + 256 * b ≡ i = cc in
        let p3 : c ≡ d = cc in
        let sa : a < 256 = s 1 in
        let sb : b < 256 = s 2 in
        let sn : n < 256 = s 3 in
        let h : length (take m bs) ≡ m = length-take-le m bs (omega (arith, leb-true n (length bs) l)) in
        let x : i % 256 ≡ a = omega arith in
        let y0 : i / 256 ≡ b = omega arith in
        let y : b % 256 ≡ b = omega arith in
        record {
          bytes = rw (three, p1, x, y0, y, h, p3);
          whole =
              record {
                fit = record { coded = omega arith; good = rw (← p1, ← p3) g; id = omega arith };
                code = omega (arith, s 0);
                bytes = take_small m bs (λ k. s (suc (suc (suc (suc k)))));
                short = omega arith;
              };
        }

    go : (x : Bool) → ltb c 128 ≡ x → (bs : List ℕ) → Small (c ∷ bs) → cond x (connective_of c (length bs)) (relation_at c bs) ≡ Rel d i m → RelationIs c d i m bs
    go true q bs s e = let w = no_relation c (length bs) d i m e in absurd (omega arith)
    go false q [] s e = let w : ◌≡◌ {A = ℕ} 0 1 = cc in absurd (omega arith)
    go false q (a ∷ []) s e = let w : ◌≡◌ {A = ℕ} 0 1 = cc in absurd (omega arith)
    go false q (a ∷ b ∷ []) s e = let w : ◌≡◌ {A = ℕ} 0 1 = cc in absurd (omega arith)
    go false q (a ∷ b ∷ n ∷ bs) s e = rest (ltb-false c 128 q) a b n bs s (leb n (length bs)) (good c (take n bs)) refl refl e

record Told (n : ℕ) (bs : List ℕ) : Type 0 where
  bytes : unmarked_past n bs ≡ take n bs ++ flat (symbols_past n bs)
  whole : WholeSymbols (symbols_past n bs)

abbrev Tells : List ℕ → Type 0
Tells bs = (n : ℕ) → n ≤ length bs → Sound (symbols_past n bs) → Told n bs

at_token : (c : ℕ) (bs : List ℕ) → Small (c ∷ bs) → Tells bs → (t : Token) → token_of (c ∷ bs) ≡ t → Sound (follow t (c ∷ bs) (λ n. symbols_past n bs))
    → (before_mark t (λ n. c ∷ unmarked_past n bs) ≡ flat (follow t (c ∷ bs) (λ n. symbols_past n bs))) × WholeSymbols (follow t (c ∷ bs) (λ n. symbols_past n bs))
unfolding follow before_mark flat WholeSymbols Sound
at_token c bs s ih Bad q h = absurd h
at_token c bs s ih End q h = (refl, tt)
at_token c bs s ih And q h = let z = ih 0 (omega arith) h in (rw (join_byte c bs true q) (ap (λ (l : List ℕ). 1 ∷ l) z.bytes), z.whole)
at_token c bs s ih Or q h = let z = ih 0 (omega arith) h in (rw (join_byte c bs false q) (ap (λ (l : List ℕ). 2 ∷ l) z.bytes), z.whole)
at_token c bs s ih (Rel d i m) q h =
    let z = ih (3 + m) (omega (arith, relation_fits (c ∷ bs) d i m q)) h in
    let r = relation_is c d i m bs s q in
    (ap (λ (l : List ℕ). c ∷ l) z.bytes ∙ ap (λ (l : List ℕ). l ++ flat (symbols_past (3 + m) bs)) r.bytes, (r.whole, z.whole))

tells : (bs : List ℕ) → Small bs → Tells bs
unfolding symbols_past unmarked_past
tells [] s n h k = none_left n h
  where
    none_left : (n : ℕ) → n ≤ 0 → Told n []
    none_left zero h = record { bytes = unfold unmarked_past symbols_past flat in refl; whole = unfold symbols_past WholeSymbols in tt }
    none_left (suc n) h = absurd (omega arith)
tells (c ∷ bs) s zero h k =
    let z = at_token c bs s (tells bs (λ j. s (suc j))) (token_of (c ∷ bs)) refl k in
    record { bytes = z.0; whole = z.1 }
tells (c ∷ bs) s (suc n) h k =
    let z = tells bs (λ j. s (suc j)) n (omega arith) k in
    record { bytes = ap (λ (l : List ℕ). c ∷ l) z.bytes; whole = z.whole }

-- ---- what stands before the end mark is the front of the equation

front : (n : ℕ) (bs : List ℕ) → unmarked_past n bs ≡ take (length (unmarked_past n bs)) bs
unfolding unmarked_past
front n [] = sym (take-nil (length (unmarked_past n [])))
front (suc n) (c ∷ bs) = ap (λ (l : List ℕ). c ∷ l) (front n bs)
front zero (c ∷ bs) = by (λ n. front n bs) (token_of (c ∷ bs))
  where
    by : ((n : ℕ) → unmarked_past n bs ≡ take (length (unmarked_past n bs)) bs) → (t : Token)
        → before_mark t (λ n. c ∷ unmarked_past n bs) ≡ take (length (before_mark t (λ n. c ∷ unmarked_past n bs))) (c ∷ bs)
    by ih Bad = unfold before_mark in refl
    by ih End = unfold before_mark in refl
    by ih And = unfold before_mark in ap (λ (l : List ℕ). c ∷ l) (ih 0)
    by ih Or = unfold before_mark in ap (λ (l : List ℕ). c ∷ l) (ih 0)
    by ih (Rel d i n) = unfold before_mark in ap (λ (l : List ℕ). c ∷ l) (ih (3 + n))

-- an equation without an end mark
pub no_mark : (bytes : List ℕ) → length bytes ≤ length (unmarked bytes) → unmarked bytes ≡ bytes
no_mark bytes h = front 0 bytes ∙ take_all (length (unmarked bytes)) bytes h

-- ---- the theorems on accepted bytes

module _ (bytes : List ℕ) (small : (k : ℕ) → get_or bytes k 0 < 256) (t : Tree) (h : parse bytes ≡ some t) where
  told : Told 0 bytes
  told = tells bytes small 0 (omega arith) (subst Sound (sym (parsed_symbols bytes t h)) (sound_formula (formula_of t)))

  -- their relations are such as bytes can say
  pub parsed_whole : AllWhole (formula_of t)
  parsed_whole = (whole_then (formula_of t) [] (subst WholeSymbols (parsed_symbols bytes t h ∙ sym (append-nil (symbols_of (formula_of t)))) told.whole)).0

  -- without the end mark they are the formula's bytes
  pub parsed_bytes : unmarked bytes ≡ postfix (formula_of t)
  parsed_bytes = told.bytes ∙ ap flat (parsed_symbols bytes t h) ∙ flat_formula (formula_of t)

  -- a text that turns into them means this formula
  pub parsed_means : (text : List ℕ) (u : Formula) → Reads text u → postfix u ≡ bytes → u ≡ formula_of t
  parsed_means text u r e = same_symbols u (formula_of t) (sym (postfix_symbols u (text_fits text u r)) ∙ ap symbols e ∙ parsed_symbols bytes t h)
