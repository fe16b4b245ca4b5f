-- The text of a formula as a text of the grammar: it reads back as the formula, and no text with the same meaning has fewer pairs of brackets or is
-- nested less deep. Assumes nothing.
use mathlib.Core.Path.{◌≡◌, refl, ap, ◌∙◌}
use mathlib.Core.List.{List, [], ◌∷◌, ◌++◌, append_assoc, append-nil}
use Prim.Native.Nat.{ℕ, suc, ◌+◌, ◌≤◌}
use native.Mathlib.Omega.{arith}
use Rattle.packet.specs.Names.{bytes_of}
use Rattle.grammar.specs.Formula as formula
use Rattle.grammar.specs.Formula.{Formula}
use Rattle.names.specs.Kinds.{is_blank, every}
use Rattle.grammar.specs.Grammar.{Blanks, Written, Sum, product, plus, Product, factor, times, Factor, relation, bracket}
use Rattle.grammar.specs.Grammar.{textS, textP, textF, formulaS, formulaP, formulaF, GoodS, GoodP, GoodF, nestS, nestP, nestF, pairsS, pairsP, pairsF, Reads}
use Rattle.writing.specs.Text.{written_for, text_of, productText, factorText, nesting, productNesting, factorNesting}
use Rattle.writing.proofs.Relations.{Whole, relation_good, relation_back}

-- the blank towards a connective
abbrev blank : List ℕ
blank = 32 ∷ []

-- the derivation of a formula's text, with blanks before and behind it
unfoldable mutual
  pub sum_of : List ℕ → List ℕ → Formula → Sum
  sum_of x y (formula.relation r) = product (factor (relation x (written_for r) y))
  sum_of x y (formula.both a b) = product (times (productOf x blank a) (factorOf blank y b))
  sum_of x y (formula.either a b) = plus (sum_of x blank a) (productOf blank y b)

  pub productOf : List ℕ → List ℕ → Formula → Product
  productOf x y (formula.relation r) = factor (relation x (written_for r) y)
  productOf x y (formula.both a b) = times (productOf x blank a) (factorOf blank y b)
  productOf x y (formula.either a b) = factor (bracket x (plus (sum_of [] blank a) (productOf blank [] b)) y)

  pub factorOf : List ℕ → List ℕ → Formula → Factor
  factorOf x y (formula.relation r) = relation x (written_for r) y
  factorOf x y (formula.both a b) = bracket x (product (times (productOf [] blank a) (factorOf blank [] b))) y
  factorOf x y (formula.either a b) = bracket x (plus (sum_of [] blank a) (productOf blank [] b)) y

-- ---- its text

record TextIs (f : Formula) : Type 0 where
  of_sum : (x y : List ℕ) → textS (sum_of x y f) ≡ x ++ (text_of f ++ y)
  of_product : (x y : List ℕ) → textP (productOf x y f) ≡ x ++ (productText f ++ y)
  of_factor : (x y : List ℕ) → textF (factorOf x y f) ≡ x ++ (factorText f ++ y)

text_is : (f : Formula) → TextIs f
unfolding sum_of productOf factorOf textS textP textF text_of productText factorText bytes_of
text_is (formula.relation r) = record { of_sum = λ x y. refl; of_product = λ x y. refl; of_factor = λ x y. refl }
text_is (formula.both a b) =
    let p = text_is a in let q = text_is b in
    record {
      of_sum = λ x y. rw (p.of_product x blank, q.of_factor blank y) (simp append_assoc);
      of_product = λ x y. rw (p.of_product x blank, q.of_factor blank y) (simp append_assoc);
      of_factor = λ x y. rw (p.of_product [] blank, q.of_factor blank []) (simp (append_assoc, append-nil));
    }
text_is (formula.either a b) =
    let p = text_is a in let q = text_is b in
    record {
      of_sum = λ x y. rw (p.of_sum x blank, q.of_product blank y) (simp append_assoc);
      of_product = λ x y. rw (p.of_sum [] blank, q.of_product blank []) (simp (append_assoc, append-nil));
      of_factor = λ x y. rw (p.of_sum [] blank, q.of_product blank []) (simp (append_assoc, append-nil));
    }

-- ---- what it means

unfoldable pub AllWhole : Formula → Type 0
AllWhole (formula.relation r) = Whole r
AllWhole (formula.both a b) = AllWhole a × AllWhole b
AllWhole (formula.either a b) = AllWhole a × AllWhole b

record Means (f : Formula) : Type 0 where
  of_sum : (x y : List ℕ) → formulaS (sum_of x y f) ≡ f
  of_product : (x y : List ℕ) → formulaP (productOf x y f) ≡ f
  of_factor : (x y : List ℕ) → formulaF (factorOf x y f) ≡ f

means : (f : Formula) → AllWhole f → Means f
unfolding sum_of productOf factorOf formulaS formulaP formulaF AllWhole
means (formula.relation r) w =
    record {
      of_sum = λ x y. ap formula.relation (relation_back r w);
      of_product = λ x y. ap formula.relation (relation_back r w);
      of_factor =
          λ x y. ap formula.relation (relation_back r w);
    }
means (formula.both a b) w =
    let p = means a w.0 in let q = means b w.1 in
    record {
      of_sum = λ x y. rw (p.of_product x blank, q.of_factor blank y);
      of_product = λ x y. rw (p.of_product x blank, q.of_factor blank y);
      of_factor = λ x y. rw (p.of_product [] blank, q.of_factor blank []);
    }
means (formula.either a b) w =
    let p = means a w.0 in let q = means b w.1 in
    record {
      of_sum = λ x y. rw (p.of_sum x blank, q.of_product blank y);
      of_product = λ x y. rw (p.of_sum [] blank, q.of_product blank []);
      of_factor = λ x y. rw (p.of_sum [] blank, q.of_product blank []);
    }

-- ---- that it keeps the rules

no_blank : Blanks []
unfolding every
no_blank = refl

one_blank : Blanks blank
unfolding every is_blank
one_blank = refl

record Good (f : Formula) : Type 0 where
  of_sum : (x y : List ℕ) → Blanks x → Blanks y → GoodS (sum_of x y f)
  of_product : (x y : List ℕ) → Blanks x → Blanks y → GoodP (productOf x y f)
  of_factor : (x y : List ℕ) → Blanks x → Blanks y → GoodF (factorOf x y f)

good : (f : Formula) → AllWhole f → Good f
unfolding sum_of productOf factorOf GoodS GoodP GoodF AllWhole
good (formula.relation r) w =
    let g = relation_good r w in
    record { of_sum = λ x y bx by. (bx, g, by); of_product = λ x y bx by. (bx, g, by); of_factor = λ x y bx by. (bx, g, by) }
good (formula.both a b) w =
    let p = good a w.0 in let q = good b w.1 in
    record {
      of_sum = λ x y bx by. (p.of_product x blank bx one_blank, q.of_factor blank y one_blank by);
      of_product = λ x y bx by. (p.of_product x blank bx one_blank, q.of_factor blank y one_blank by);
      of_factor = λ x y bx by. (bx, (p.of_product [] blank no_blank one_blank, q.of_factor blank [] one_blank no_blank), by);
    }
good (formula.either a b) w =
    let p = good a w.0 in let q = good b w.1 in
    record {
      of_sum = λ x y bx by. (p.of_sum x blank bx one_blank, q.of_product blank y one_blank by);
      of_product = λ x y bx by. (bx, (p.of_sum [] blank no_blank one_blank, q.of_product blank [] one_blank no_blank), by);
      of_factor = λ x y bx by. (bx, (p.of_sum [] blank no_blank one_blank, q.of_product blank [] one_blank no_blank), by);
    }

-- ---- how deep it is nested

record Nested (f : Formula) : Type 0 where
  of_sum : (x y : List ℕ) → nestS (sum_of x y f) ≡ nesting f
  of_product : (x y : List ℕ) → nestP (productOf x y f) ≡ productNesting f
  of_factor : (x y : List ℕ) → nestF (factorOf x y f) ≡ factorNesting f

nested : (f : Formula) → Nested f
unfolding sum_of productOf factorOf nestS nestP nestF nesting productNesting factorNesting
nested (formula.relation r) = record { of_sum = λ x y. refl; of_product = λ x y. refl; of_factor = λ x y. refl }
nested (formula.both a b) =
    let p = nested a in let q = nested b in
    record {
      of_sum = λ x y. rw (p.of_product x blank, q.of_factor blank y);
      of_product = λ x y. rw (p.of_product x blank, q.of_factor blank y);
      of_factor = λ x y. rw (p.of_product [] blank, q.of_factor blank []);
    }
nested (formula.either a b) =
    let p = nested a in let q = nested b in
    record {
      of_sum = λ x y. rw (p.of_sum x blank, q.of_product blank y);
      of_product = λ x y. rw (p.of_sum [] blank, q.of_product blank []);
      of_factor = λ x y. rw (p.of_sum [] blank, q.of_product blank []);
    }

-- The theorem: the text of a formula reads as the formula
pub text_reads : (f : Formula) → AllWhole f → nesting f ≤ 16 → Reads (text_of f) f
text_reads f w n =
    record {
      sum = sum_of [] [] f;
      good = (good f w).of_sum [] [] no_blank no_blank;
      nested = rw ((nested f).of_sum [] []) n;
      is_text = (text_is f).of_sum [] [] ∙ append-nil (text_of f);
      is_formula = (means f w).of_sum [] [];
    }

-- ---- the fewest pairs of brackets, and the least nesting

-- the pairs of brackets in the text of a formula, as a whole, as a product and as a factor
unfoldable mutual
  pub pairs_in : Formula → ℕ
  pairs_in (formula.relation r) = 0
  pairs_in (formula.both a b) = productPairs a + factorPairs b
  pairs_in (formula.either a b) = pairs_in a + productPairs b

  productPairs : Formula → ℕ
  productPairs (formula.relation r) = 0
  productPairs (formula.both a b) = productPairs a + factorPairs b
  productPairs (formula.either a b) = suc (pairs_in a + productPairs b)

  factorPairs : Formula → ℕ
  factorPairs (formula.relation r) = 0
  factorPairs (formula.both a b) = suc (productPairs a + factorPairs b)
  factorPairs (formula.either a b) = suc (pairs_in a + productPairs b)

record Pairs (f : Formula) : Type 0 where
  of_sum : (x y : List ℕ) → pairsS (sum_of x y f) ≡ pairs_in f
  of_product : (x y : List ℕ) → pairsP (productOf x y f) ≡ productPairs f
  of_factor : (x y : List ℕ) → pairsF (factorOf x y f) ≡ factorPairs f

paired : (f : Formula) → Pairs f
unfolding sum_of productOf factorOf pairsS pairsP pairsF pairs_in productPairs factorPairs
paired (formula.relation r) = record { of_sum = λ x y. refl; of_product = λ x y. refl; of_factor = λ x y. refl }
paired (formula.both a b) =
    let p = paired a in let q = paired b in
    record {
      of_sum = λ x y. rw (p.of_product x blank, q.of_factor blank y);
      of_product = λ x y. rw (p.of_product x blank, q.of_factor blank y);
      of_factor = λ x y. rw (p.of_product [] blank, q.of_factor blank []);
    }
paired (formula.either a b) =
    let p = paired a in let q = paired b in
    record {
      of_sum = λ x y. rw (p.of_sum x blank, q.of_product blank y);
      of_product = λ x y. rw (p.of_sum [] blank, q.of_product blank []);
      of_factor = λ x y. rw (p.of_sum [] blank, q.of_product blank []);
    }

-- brackets around a whole cost one
record Rising (s p f : ℕ) : Type 0 where
  low : s ≤ p
  mid : p ≤ f
  high : f ≤ suc s

pairs_rise : (f : Formula) → Rising (pairs_in f) (productPairs f) (factorPairs f)
unfolding pairs_in productPairs factorPairs
pairs_rise (formula.relation r) = omega arith
pairs_rise (formula.both a b) = omega arith
pairs_rise (formula.either a b) = omega arith

nestings_rise : (f : Formula) → Rising (nesting f) (productNesting f) (factorNesting f)
unfolding nesting productNesting factorNesting
nestings_rise (formula.relation r) = omega arith
nestings_rise (formula.both a b) = omega arith
nestings_rise (formula.either a b) = omega arith

record FewS (x : Sum) : Type 0 where
  few : pairs_in (formulaS x) ≤ pairsS x
  flat : nesting (formulaS x) ≤ nestS x

record FewP (x : Product) : Type 0 where
  few : productPairs (formulaP x) ≤ pairsP x
  flat : productNesting (formulaP x) ≤ nestP x

record FewF (x : Factor) : Type 0 where
  few : factorPairs (formulaF x) ≤ pairsF x
  flat : factorNesting (formulaF x) ≤ nestF x

few_product : (p : Product) → FewP p → FewS (product p)
unfolding formulaS pairsS nestS
few_product p h = let a = pairs_rise (formulaP p) in let b = nestings_rise (formulaP p) in omega arith

few_plus : (s : Sum) (p : Product) → FewS s → FewP p → FewS (plus s p)
unfolding formulaS pairsS nestS pairs_in nesting
few_plus s p h i = omega arith

few_factor : (f : Factor) → FewF f → FewP (factor f)
unfolding formulaP pairsP nestP
few_factor f h = let a = pairs_rise (formulaF f) in let b = nestings_rise (formulaF f) in omega arith

few_times : (p : Product) (f : Factor) → FewP p → FewF f → FewP (times p f)
unfolding formulaP pairsP nestP productPairs productNesting
few_times p f h i = omega arith

few_relation : (x : List ℕ) (r : Written) (y : List ℕ) → FewF (relation x r y)
unfolding formulaF pairsF nestF factorPairs factorNesting
few_relation x r y = omega arith

few_bracket : (x : List ℕ) (s : Sum) (y : List ℕ) → FewS s → FewF (bracket x s y)
unfolding formulaF pairsF nestF
few_bracket x s y h = let a = pairs_rise (formulaS s) in let b = nestings_rise (formulaS s) in omega arith

mutual
  few-sums : (x : Sum) → FewS x
  few-sums (product p) = few_product p (few-products p)
  few-sums (plus s p) = few_plus s p (few-sums s) (few-products p)

  few-products : (x : Product) → FewP x
  few-products (factor f) = few_factor f (few-factors f)
  few-products (times p f) = few_times p f (few-products p) (few-factors f)

  few-factors : (x : Factor) → FewF x
  few-factors (relation x r y) = few_relation x r y
  few-factors (bracket x s y) = few_bracket x s y (few-sums s)

-- the pairs of brackets in a text that reads as a formula
abbrev pub pairs_of : {text : List ℕ} {f : Formula} → Reads text f → ℕ
pairs_of r = pairsS r.sum

module _ (text : List ℕ) (u : Formula) (r : Reads text u) (f : Formula) (e : u ≡ f) where
  -- The theorems: no text with this meaning has fewer pairs of brackets than the text of the formula, and none is nested less deep
  pub fewest : (w : AllWhole f) (n : nesting f ≤ 16) → pairs_of (text_reads f w n) ≤ pairs_of r
  unfolding text_reads
  fewest w n = omega (arith, (paired f).of_sum [] [], ap pairs_in (r.is_formula ∙ e), (few-sums r.sum).few)

  pub flattest : nesting f ≤ nestS r.sum
  flattest = omega (arith, ap nesting (r.is_formula ∙ e), (few-sums r.sum).flat)
