-- Every text of the grammar is accepted, as what it means. Assumes nothing.
use mathlib.Core.Path.{◌≡◌, refl, sym, ap, subst, ◌∙◌}
use mathlib.Core.Bool.{Bool, true, false, cond}
use mathlib.Core.List.{List, [], ◌∷◌, ◌++◌, append_assoc, append-nil}
use mathlib.Core.Option.{Option, none, some}
use Prim.Native.Nat.{ℕ, zero, suc, ◌+◌, ◌-◌, ◌*◌, ◌≤◌, ◌<◌, max}
use native.Mathlib.Omega.{arith}
use lib.Dec.{ltb}
use lib.ListN.{length, get_or}
use borrow.Author.Tests.{lt-ltb}
use Rattle.names.specs.Kinds.{is_blank, every}
use Rattle.lines.specs.Numerals.{digit}
use Rattle.grammar.specs.Formula.{Formula, and_after, or_after}
use Rattle.grammar.specs.Grammar.{Blanks, Written, written_text, relation_of, Sum, product, plus, Product, factor, times, Factor, relation, bracket}
use Rattle.grammar.specs.Grammar.{textS, textP, textF, formulaS, formulaP, formulaF, GoodS, GoodP, GoodF, nestS, nestP, nestF, Reads}
use Rattle.grammar.specs.Machine.{Level, level, fresh, State, want, have, ampersand, bar, Outcome, accepted, ended, ending, run, outcome_of}
use Rattle.names.proofs.Tests as tests
use Rattle.grammar.proofs.Steps as steps
use Rattle.grammar.proofs.Steps.{Reach, then, one, after_relation, over_blanks, want_still, have_still, Closes}
use Rattle.grammar.proofs.Relations.{relation_runs}

closes_blanks : (x bs : List ℕ) → Blanks x → Closes bs → Closes (x ++ bs)
unfolding every digit
closes_blanks [] bs g h = h
closes_blanks (b ∷ x) bs g h =
    let z : b ≤ 32 = tests.blank_below b (tests.first_true (is_blank b) _ g) in
    (rw (lt-ltb b 48 (omega arith)), λ y. omega arith)

closes_with : (b : ℕ) (bs : List ℕ) → digit b ≡ false → (b ≡ 58 → ⊥) → Closes (b ∷ bs)
closes_with b bs h i = (h, i)

-- ---- factors

abbrev FactorRuns : Factor → Type 0
FactorRuns x = GoodF x → (l : Level) (ls : List Level) (p : ℕ) (bs : List ℕ) → nestF x + length ls ≤ 16 → Closes bs
    → Reach (want l ls) p (textF x ++ bs) (have (and_after l.product (formulaF x)) l.sum ls) bs

written_runs : (x : List ℕ) (r : Written) (y : List ℕ) → FactorRuns (relation x r y)
unfolding textF formulaF GoodF
written_runs x r y g l ls p bs n h =
    simp append_assoc
    (then (over_blanks (want l ls) (want_still l ls) x g.0 p (written_text r ++ (y ++ bs)))
    (λ q. then (relation_runs r g.1 l ls q (y ++ bs) (closes_blanks y bs g.2 h))
    (λ s. over_blanks (have (and_after l.product (formulaF (relation x r y))) l.sum ls)
    (have_still (and_after l.product (formulaF (relation x r y))) l.sum ls) y g.2 s bs)))

-- ---- sums, as the machine holds them

abbrev pub front : Sum → Option Formula
front (product p) = none
front (plus s p) = some (formulaS s)

abbrev pub last : Sum → Formula
last (product p) = formulaP p
last (plus s p) = formulaP p

whole : (s : Sum) → or_after (front s) (last s) ≡ formulaS s
unfolding formulaS
whole (product p) = refl
whole (plus s p) = refl

abbrev SumRuns : Sum → Type 0
SumRuns x = GoodS x → (ls : List Level) (p : ℕ) (bs : List ℕ) → nestS x + length ls ≤ 16 → Closes bs
    → Reach (want fresh ls) p (textS x ++ bs) (have (last x) (front x) ls) bs

bracket_runs : (x : List ℕ) (s : Sum) (y : List ℕ) → SumRuns s → FactorRuns (bracket x s y)
unfolding textF formulaF GoodF nestF
bracket_runs x s y r g l ls p bs n h =
    simp append_assoc
    (then (over_blanks (want l ls) (want_still l ls) x g.0 p (40 ∷ (textS s ++ (41 ∷ (y ++ bs)))))
    (λ p1. then (one (want l ls) (want fresh (l ∷ ls)) p1 40 (textS s ++ (41 ∷ (y ++ bs))) (steps.want_open l ls (omega arith)))
    (λ p2. then (r g.1 (l ∷ ls) p2 (41 ∷ (y ++ bs)) (omega arith) (closes_with 41 (y ++ bs) (unfold digit in refl) (λ z. omega arith)))
    (λ p3. then (one (have (last s) (front s) (l ∷ ls)) (have (and_after l.product (or_after (front s) (last s))) l.sum ls) p3 41 (y ++ bs)
    (steps.have_close (last s) (front s) ls l))
    (λ p4. rw (whole s) (over_blanks (have (and_after l.product (formulaS s)) l.sum ls) (have_still (and_after l.product (formulaS s)) l.sum ls) y
    g.2 p4 bs))))))

-- ---- products

abbrev ProductRuns : Product → Type 0
ProductRuns x = GoodP x → (o : Option Formula) (ls : List Level) (p : ℕ) (bs : List ℕ) → nestP x + length ls ≤ 16 → Closes bs
    → Reach (want (level o none) ls) p (textP x ++ bs) (have (formulaP x) o ls) bs

factor_runs : (f : Factor) → FactorRuns f → ProductRuns (factor f)
unfolding textP formulaP GoodP nestP
factor_runs f r g o ls p bs n h = r g (level o none) ls p bs n h

times_runs : (x : Product) (f : Factor) → ProductRuns x → FactorRuns f → ProductRuns (times x f)
unfolding textP formulaP GoodP nestP
times_runs x f r s g o ls p bs n h =
    simp append_assoc
    (then (r g.0 o ls p (38 ∷ 38 ∷ (textF f ++ bs)) (omega arith) (closes_with 38 (38 ∷ (textF f ++ bs)) (unfold digit in refl) (λ z. omega arith)))
    (λ p1. then (one (have (formulaP x) o ls) (ampersand (formulaP x) o ls) p1 38 (38 ∷ (textF f ++ bs)) (steps.have_ampersand (formulaP x) o ls))
    (λ p2. then (one (ampersand (formulaP x) o ls) (want (level o (some (formulaP x))) ls) p2 38 (textF f ++ bs) (steps.second_ampersand (formulaP x) o ls))
    (λ p3. s g.1 (level o (some (formulaP x))) ls p3 bs (omega arith) h))))

product_runs : (x : Product) → ProductRuns x → SumRuns (product x)
unfolding textS GoodS nestS
product_runs x r g ls p bs n h = r g none ls p bs n h

plus_runs : (s : Sum) (x : Product) → SumRuns s → ProductRuns x → SumRuns (plus s x)
unfolding textS GoodS nestS
plus_runs s x r t g ls p bs n h =
    simp append_assoc
    (then (r g.0 ls p (124 ∷ 124 ∷ (textP x ++ bs)) (omega arith) (closes_with 124 (124 ∷ (textP x ++ bs)) (unfold digit in refl) (λ z. omega arith)))
    (λ p1. then (one (have (last s) (front s) ls) (bar (last s) (front s) ls) p1 124 (124 ∷ (textP x ++ bs)) (steps.have_bar (last s) (front s) ls))
    (λ p2. then (one (bar (last s) (front s) ls) (want (level (some (or_after (front s) (last s))) none) ls) p2 124 (textP x ++ bs)
    (steps.second_bar (last s) (front s) ls))
    (λ p3. rw (whole s) (t g.1 (some (formulaS s)) ls p3 bs (omega arith) h)))))

mutual
  sum_runs : (x : Sum) → SumRuns x
  sum_runs (product p) = product_runs p (products-run p)
  sum_runs (plus s p) = plus_runs s p (sum_runs s) (products-run p)

  products-run : (x : Product) → ProductRuns x
  products-run (factor f) = factor_runs f (factors-run f)
  products-run (times p f) = times_runs p f (products-run p) (factors-run f)

  factors-run : (x : Factor) → FactorRuns x
  factors-run (relation x r y) = written_runs x r y
  factors-run (bracket x s y) = bracket_runs x s y (sum_runs s)

-- The theorem: a text of the grammar is accepted as what it means
pub complete : (text : List ℕ) (f : Formula) → Reads text f → outcome_of text ≡ accepted f
unfolding run ending ended digit
complete text f r =
    let x = sum_runs r.sum r.good [] 0 [] (omega (arith, r.nested)) (refl, λ z. omega arith) in
    rw (← r.is_text, ← r.is_formula, ← whole r.sum) (rw append-nil at x.runs)
