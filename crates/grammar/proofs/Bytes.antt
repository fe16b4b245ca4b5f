-- The bytes of what a text means: the evaluator (crates/equation) parses them as the same formula, so it never refuses them by 8, and finds the text's
-- truth on every file. Assumes nothing.
use mathlib.Core.Path.{◌≡◌, refl, ap, ◌∙◌}
use mathlib.Core.Bool.{Bool, true, false, cond}
use mathlib.Core.List.{List, [], ◌∷◌, ◌++◌, map, append_assoc, append-nil}
use mathlib.Core.Option.{some}
use Prim.Native.Nat.{ℕ, suc, ◌+◌, ◌-◌, ◌*◌, ◌/◌, ◌%◌, ◌≤◌, ◌<◌, max}
use native.Mathlib.Omega.{arith}
use lib.Dec.{ltb, eqb}
use lib.ListN.{length, take, length-append}
use lib.Seq.{take_at}
use borrow.Author.Tests.{ltb-true, lt-ltb, le-ltb, le-leb, eqb-true}
use Rattle.names.specs.Kinds.{hex_of, is_hex_digit, every}
use Rattle.numbers.specs.Numbers.{four}
use Rattle.text.specs.Match.{lower}
use Rattle.lines.specs.Numerals.{value_from}
use Rattle.lines.specs.Commands.{same}
use Rattle.header.specs.Items.{Field, fields_of}
use Rattle.equation.specs.Relation.{width}
use Rattle.equation.specs.Holds.{Relation, holds}
use Rattle.equation.specs.Symbols.{stars_in, good_text, good_number, good, connective_of, relation_at, token_of, Symbol, follow, symbols_past, symbols}
use Rattle.equation.specs.Symbols as symbol
use Rattle.equation.specs.Tree.{pushed, joined, result, bind, run, Tree, parse, truth, truth_on}
use Rattle.equation.specs.Tree as tree
use Rattle.equation.specs.Answer.{answer_of, validity_of}
use Rattle.std.proofs.Common.{Ok}
use Rattle.equation.specs.declared.tokens.Token.{Token}
use Rattle.equation.specs.declared.tokens.Token.TheVariants.{Rel}
use Rattle.equation.proofs.Trees.{valid, answer_truth}
use Rattle.names.specs.Names.{Named, items, small, id_in, width_in, usual_width}
use Rattle.grammar.specs.Formula.{Formula, relation, both, either, relation_bytes, postfix, symbols_of, true_on, relations_in, tree_from}
use Rattle.grammar.specs.Meaning.{operator_number, is_equality, least_width, width_of, is_width, number_relation, text_relation}
use Rattle.grammar.specs.Grammar as grammar
use Rattle.grammar.specs.Grammar.{Item, Stands, characters_bytes, Constant, GoodConstant, meant, Written, relation_of, GoodWritten}
use Rattle.grammar.specs.Grammar.{Sum, product, plus, Product, factor, times, Factor, bracket, formulaS, formulaP, formulaF, GoodS, GoodP, GoodF, Reads}
use Rattle.grammar.specs.declared.Comparison.{Comparison}
use Rattle.grammar.specs.declared.Comparison.TheVariants.{Equal, Greater, Less, NotEqual, GreaterOrEqual, LessOrEqual}
use Rattle.names.proofs.Tests as tests

-- ---- relations that the evaluator takes

pub record Fit (r : Relation) : Type 0 where
  pub coded : 128 ≤ r.code
  pub good : good r.code r.constant ≡ true
  pub id : r.id < 65536

unfoldable pub AllFit : Formula → Type 0
AllFit (relation r) = Fit r
AllFit (both a b) = AllFit a × AllFit b
AllFit (either a b) = AllFit a × AllFit b

-- ---- symbols

skip : (xs bs : List ℕ) → symbols_past (length xs) (xs ++ bs) ≡ symbols bs
unfolding symbols_past
skip [] bs = refl
skip (x ∷ xs) bs = skip xs bs

first : (c : ℕ) (xs : List ℕ) (t : Token) → token_of (c ∷ xs) ≡ t → symbols (c ∷ xs) ≡ follow t (c ∷ xs) (λ n. symbols_past n xs)
unfolding symbols_past
first c xs t h = rw h

past_three : (a b c n : ℕ) (xs : List ℕ) → symbols_past (3 + n) (a ∷ b ∷ c ∷ xs) ≡ symbols_past n xs
unfolding symbols_past
past_three a b c n xs = let z : 3 + n ≡ suc (suc (suc n)) = omega arith in rw z

module _ (r : Relation) (f : Fit r) (bs : List ℕ) where
  two_back : r.id % 256 + 256 * (r.id / 256 % 256) ≡ r.id
  two_back = omega (arith, f.id)

  relation_token : token_of (relation_bytes r ++ bs) ≡ Rel r.code r.id (length r.constant)
  unfolding relation_bytes token_of relation_at
  relation_token =
      rw (
        le-ltb r.code 128 f.coded,
        le-leb (length r.constant) (length (r.constant ++ bs)) (omega (arith, length-append r.constant bs)),
        take_at r.constant bs (length r.constant) refl,
        f.good,
        two_back,
      )

  relation_symbols : symbols (relation_bytes r ++ bs) ≡ symbol.rel r ∷ symbols bs
  unfolding relation_bytes follow
  relation_symbols =
      first r.code (r.id % 256 ∷ r.id / 256 % 256 ∷ length r.constant ∷ (r.constant ++ bs)) (Rel r.code r.id (length r.constant))
      relation_token
      ∙ rw (
        past_three (r.id % 256) (r.id / 256 % 256) (length r.constant) (length r.constant) (r.constant ++ bs),
        skip r.constant bs,
        take_at r.constant bs (length r.constant) refl,
      )

and_symbols : (bs : List ℕ) → symbols (1 ∷ bs) ≡ symbol.and ∷ symbols bs
unfolding symbols_past follow token_of connective_of
and_symbols bs = refl

or_symbols : (bs : List ℕ) → symbols (2 ∷ bs) ≡ symbol.or ∷ symbols bs
unfolding symbols_past follow token_of connective_of
or_symbols bs = refl

pub postfix_then : (f : Formula) (bs : List ℕ) → AllFit f → symbols (postfix f ++ bs) ≡ symbols_of f ++ symbols bs
unfolding postfix symbols_of AllFit
postfix_then (relation r) bs h = relation_symbols r h bs
postfix_then (both a b) bs h =
    simp append_assoc
    (postfix_then a (postfix b ++ 1 ∷ bs) h.0
    ∙ ap (λ (l : List Symbol). symbols_of a ++ l) (postfix_then b (1 ∷ bs) h.1 ∙ ap (λ (l : List Symbol). symbols_of b ++ l) (and_symbols bs)))
postfix_then (either a b) bs h =
    simp append_assoc
    (postfix_then a (postfix b ++ 2 ∷ bs) h.0
    ∙ ap (λ (l : List Symbol). symbols_of a ++ l) (postfix_then b (2 ∷ bs) h.1 ∙ ap (λ (l : List Symbol). symbols_of b ++ l) (or_symbols bs)))

-- ---- the run

some_relation : (f : Formula) → 1 ≤ relations_in f
unfolding relations_in
some_relation (relation r) = omega arith
some_relation (both a b) = omega (arith, some_relation a)
some_relation (either a b) = omega (arith, some_relation a)

-- a formula's symbols leave its tree on the stack
run_formula : (f : Formula) (k : ℕ) (ss : List Symbol) (st : List Tree) → length st + relations_in f ≤ 100
    → run tree.leaf tree.both tree.either k (symbols_of f ++ ss) st ≡ run tree.leaf tree.both tree.either (k + relations_in f) ss (tree_from k f ∷ st)
unfolding run pushed joined bind symbols_of relations_in tree_from
run_formula (relation r) k ss st h = let z : k + 1 ≡ suc k = omega arith in rw (lt-ltb (length st) 100 (omega arith), z)
run_formula (both a b) k ss st h =
    let z : k + (relations_in a + relations_in b) ≡ k + relations_in a + relations_in b = omega arith in
    simp append_assoc
    (run_formula a k (symbols_of b ++ symbol.and ∷ ss) st (omega arith)
    ∙ run_formula b (k + relations_in a) (symbol.and ∷ ss) (tree_from k a ∷ st) (omega (arith, some_relation a)) ∙ rw z)
run_formula (either a b) k ss st h =
    let z : k + (relations_in a + relations_in b) ≡ k + relations_in a + relations_in b = omega arith in
    simp append_assoc
    (run_formula a k (symbols_of b ++ symbol.or ∷ ss) st (omega arith)
    ∙ run_formula b (k + relations_in a) (symbol.or ∷ ss) (tree_from k a ∷ st) (omega (arith, some_relation a)) ∙ rw z)

-- each relation has at least four bytes
few_relations : (f : Formula) → 4 * relations_in f ≤ length (postfix f)
unfolding relations_in postfix relation_bytes
few_relations (relation r) = omega arith
few_relations (both a b) = omega (arith, few_relations a, few_relations b, length-append (postfix a) (postfix b ++ 1 ∷ []), length-append (postfix b) (1 ∷ []))
few_relations (either a b) =
    omega (arith, few_relations a, few_relations b, length-append (postfix a) (postfix b ++ 2 ∷ []), length-append (postfix b) (2 ∷ []))

pub parsed : (f : Formula) → AllFit f → length (postfix f) ≤ 256 → parse (postfix f) ≡ some (tree_from 0 f)
unfolding parse run result symbols_past
parsed f h n =
    let s : symbols (postfix f) ≡ symbols_of f ++ [] = rw append-nil at (postfix_then f [] h) in
    rw s (run_formula f 0 [] [] (omega (arith, few_relations f)))

-- ---- trees and formulas

pub truth_same : (fields : List Field) (f : Formula) (k : ℕ) → truth_on fields (tree_from k f) ≡ true_on fields f
unfolding truth true_on tree_from
truth_same fields (relation r) k = refl
truth_same fields (both a b) k = rw (truth_same fields a k, truth_same fields b (k + relations_in a))
truth_same fields (either a b) k = rw (truth_same fields a k, truth_same fields b (k + relations_in a))

-- ---- what a text means is made of such relations

-- the usual widths are 1, 2 and 4, and ids of names are small
good_widths : List Named → Bool
good_widths [] = true
good_widths (x ∷ xs) = cond (width x.width) (good_widths xs) false

small_ids : List Named → Bool
small_ids [] = true
small_ids (x ∷ xs) = cond (ltb x.id 65536) (small_ids xs) false

widths_good : good_widths items ≡ true
unfolding good_widths items width
widths_good = refl

ids_small : small_ids items ≡ true
unfolding small_ids items
ids_small = refl

usual_good : (xs : List Named) (id : ℕ) → good_widths xs ≡ true → width (width_in xs id) ≡ true
unfolding good_widths width_in
usual_good [] id h = unfold width in refl
usual_good (x ∷ xs) id h = by (usual_good xs id (tests.second_true (width x.width) _ h)) (eqb x.id id)
  where
    by : width (width_in xs id) ≡ true → (t : Bool) → width (cond t x.width (width_in xs id)) ≡ true
    by ih true = tests.first_true (width x.width) _ h
    by ih false = ih

named_small : (xs : List Named) (letters : List ℕ) (id : ℕ) → small_ids xs ≡ true → id_in xs letters ≡ some id → id < 65536
unfolding small_ids id_in
named_small [] letters id a h = let z : ◌≡◌ {A = ℕ} 0 1 = cc in absurd (omega arith)
named_small (x ∷ xs) letters id a h = by (named_small xs letters id (tests.second_true (ltb x.id 65536) _ a)) (same (small x) letters) h
  where
    by : (id_in xs letters ≡ some id → id < 65536) → (t : Bool) → cond t (some x.id) (id_in xs letters) ≡ some id → id < 65536
    by ih true e = let z : x.id ≡ id = cc in omega (arith, ltb-true x.id 65536 (tests.first_true (ltb x.id 65536) _ a))
    by ih false e = ih e

pub item_small : (i : Item) (id : ℕ) → Stands i id → id < 65536
unfolding Stands every
item_small (grammar.name letters) id h = named_small items (map lower letters) id ids_small h
item_small (grammar.number a b c d) id h =
    let g = h.0 in
    let g1 = tests.second_true (is_hex_digit a) _ g in
    let g2 = tests.second_true (is_hex_digit b) _ g1 in
    let g3 = tests.second_true (is_hex_digit c) _ g2 in
    omega (
      arith,
      h.1,
      ltb-true (hex_of a) 16 (tests.first_true (is_hex_digit a) _ g),
      ltb-true (hex_of b) 16 (tests.first_true (is_hex_digit b) _ g1),
      ltb-true (hex_of c) 16 (tests.first_true (is_hex_digit c) _ g2),
      ltb-true (hex_of d) 16 (tests.first_true (is_hex_digit d) _ g3),
    )

-- 1, 2 and 4
pub width_cases : (n : ℕ) → width n ≡ true → (P : ℕ → Type 0) → P 1 → P 2 → P 4 → P n
unfolding width
width_cases n h P a b c = by (eqb n 1) refl h
  where
    by : (t : Bool) → eqb n 1 ≡ t → cond t true (cond (eqb n 2) true (eqb n 4)) ≡ true → P n
    by true e z = rw (eqb-true n 1 e) a
    by false e z = by2 (eqb n 2) refl z
      where
        by2 : (t : Bool) → eqb n 2 ≡ t → cond t true (eqb n 4) ≡ true → P n
        by2 true f y = rw (eqb-true n 2 f) b
        by2 false f y = rw (eqb-true n 4 y) c

least_good : (v : ℕ) → width (least_width v) ≡ true
unfolding least_width width
least_good v = by (ltb v 256) (ltb v 65536)
  where
    by : (s t : Bool) → width (cond s 1 (cond t 2 4)) ≡ true
    by true t = refl
    by false true = refl
    by false false = refl

max_good : (a b : ℕ) → width a ≡ true → width b ≡ true → width (max a b) ≡ true
max_good a b h i =
    width_cases a h (λ a. width (max a b) ≡ true)
    (width_cases b i (λ b. width (max 1 b) ≡ true) (unfold width in refl) (unfold width in refl) (unfold width in refl))
    (width_cases b i (λ b. width (max 2 b) ≡ true) (unfold width in refl) (unfold width in refl) (unfold width in refl))
    (width_cases b i (λ b. width (max 4 b) ≡ true) (unfold width in refl) (unfold width in refl) (unfold width in refl))

number_good : (c : Comparison) (w v : ℕ) → width w ≡ true → good (128 + 16 * operator_number c) (take w (four v)) ≡ true
unfolding good good_number operator_number
number_good c w v h =
    width_cases w h (λ w. good (128 + 16 * operator_number c) (take w (four v)) ≡ true) (any c 1 (unfold width in refl)) (any c 2 (unfold width in refl))
    (any c 4 (unfold width in refl))
  where
    any : (c : Comparison) (n : ℕ) → width (length (take n (four v))) ≡ true → good (128 + 16 * operator_number c) (take n (four v)) ≡ true
    any Equal n z = z
    any Greater n z = z
    any Less n z = z
    any NotEqual n z = z
    any GreaterOrEqual n z = z
    any LessOrEqual n z = z

code_high : (c : Comparison) (k : ℕ) → 128 ≤ k → 128 ≤ k + 16 * operator_number c
code_high c k h = omega arith

number_fit : (id : ℕ) (c : Comparison) (w v : ℕ) → id < 65536 → width w ≡ true → Fit (number_relation id c w v)
unfolding number_relation
number_fit id c w v h i = record { coded = code_high c 128 (omega arith); good = number_good c w v i; id = h }

text_good : (c : Comparison) (bytes : List ℕ) → is_equality c ≡ true → stars_in bytes ≤ 4 → good (131 + 16 * operator_number c) bytes ≡ true
unfolding good good_text operator_number is_equality
text_good Equal bytes h i = le-leb (stars_in bytes) 4 i
text_good Greater bytes h i = absurd (tests.clash false h refl)
text_good Less bytes h i = absurd (tests.clash false h refl)
text_good NotEqual bytes h i = le-leb (stars_in bytes) 4 i
text_good GreaterOrEqual bytes h i = absurd (tests.clash false h refl)
text_good LessOrEqual bytes h i = absurd (tests.clash false h refl)

text_fit : (id : ℕ) (c : Comparison) (bytes : List ℕ) → id < 65536 → is_equality c ≡ true → stars_in bytes ≤ 4 → Fit (text_relation id c bytes)
unfolding text_relation
text_fit id c bytes h e i = record { coded = code_high c 131 (omega arith); good = text_good c bytes e i; id = h }

-- a digit behind ":" is a width
pub digit_width : (b v : ℕ) → is_width b v ≡ true → width (b - 48) ≡ true
unfolding is_width
digit_width b v h = by (eqb b 49) refl h
  where
    by2 : (t : Bool) → eqb b 50 ≡ t → cond t (ltb v 65536) (eqb b 52) ≡ true → width (b - 48) ≡ true
    by2 true f y = rw (eqb-true b 50 f) (unfold width in refl)
    by2 false f y = rw (eqb-true b 52 y) (unfold width in refl)

    by : (t : Bool) → eqb b 49 ≡ t → cond t (ltb v 256) (cond (eqb b 50) (ltb v 65536) (eqb b 52)) ≡ true → width (b - 48) ≡ true
    by true e z = rw (eqb-true b 49 e) (unfold width in refl)
    by false e z = by2 (eqb b 50) refl z

-- a number without ":" has a width
pub width_good : (id v : ℕ) → width (width_of id v) ≡ true
width_good id v = max_good (usual_width id) (least_width v) (usual_good items id widths_good) (least_good v)

meant_fit : (id : ℕ) (c : Comparison) (k : Constant) → id < 65536 → GoodConstant c k → Fit (meant id c k)
unfolding GoodConstant meant
meant_fit id c (grammar.number ds) h g =
    number_fit id c (width_of id (value_from 0 ds)) (value_from 0 ds) h (width_good id (value_from 0 ds))
meant_fit id c (grammar.sized ds w) h g = number_fit id c (w - 48) (value_from 0 ds) h (digit_width w (value_from 0 ds) g.1)
meant_fit id c (grammar.string cs) h g = text_fit id c (characters_bytes cs) h g.1 g.0.stars

written_fit : (r : Written) → GoodWritten r → Fit (relation_of r)
written_fit r g = meant_fit r.id r.comparison r.constant (item_small r.item r.id g.stands) g.constant

mutual
  unfolding GoodS formulaS GoodP formulaP GoodF formulaF AllFit

  sum_fit : (x : Sum) → GoodS x → AllFit (formulaS x)
  sum_fit (product p) g = product-fit p g
  sum_fit (plus s p) g = (sum_fit s g.0, product-fit p g.1)

  product-fit : (x : Product) → GoodP x → AllFit (formulaP x)
  product-fit (factor f) g = factor-fit f g
  product-fit (times p f) g = (product-fit p g.0, factor-fit f g.1)

  factor-fit : (x : Factor) → GoodF x → AllFit (formulaF x)
  factor-fit (grammar.relation x r y) g = written_fit r g.1
  factor-fit (bracket x s y) g = sum_fit s g.1

pub text_fits : (text : List ℕ) (f : Formula) → Reads text f → AllFit f
text_fits text f r = rw (← r.is_formula) (sum_fit r.sum r.good)

-- ---- the theorems: a text of the grammar whose bytes are at most 256

module _ (text : List ℕ) (f : Formula) (r : Reads text f) (n : length (postfix f) ≤ 256) where
  -- its bytes are parsed as what it means
  pub text_parsed : parse (postfix f) ≡ some (tree_from 0 f)
  text_parsed = parsed f (text_fits text f r) n

  -- they are never refused
  pub text_valid : validity_of (postfix f) ≡ 0
  text_valid = valid (postfix f) (omega arith) (tree_from 0 f) text_parsed

  -- and their truth on every file is the text's
  pub text_truth : (file : List ℕ) → answer_of (postfix f) file ≡ Ok (true_on (fields_of file) f)
  text_truth file = answer_truth (postfix f) (omega arith) (λ k x. holds x (fields_of file)) (tree_from 0 f) text_parsed ∙ rw (truth_same (fields_of file) f 0)
