-- Only texts of the grammar are accepted: what each state says of the bytes before it. Assumes nothing.
use mathlib.Core.Path.{◌≡◌, refl, sym, ap, subst, ◌∙◌}
use mathlib.Core.Bool.{Bool, true, false, cond}
use mathlib.Core.List.{List, [], ◌∷◌, ◌++◌, map, append_assoc, append-nil}
use mathlib.Core.Option.{Option, none, some}
use Prim.Native.Nat.{ℕ, zero, suc, ◌+◌, ◌-◌, ◌*◌, ◌≤◌, ◌<◌, max}
use native.Mathlib.Omega.{arith}
use lib.Dec.{leb, ltb, eqb}
use lib.ListN.{length}
use borrow.Author.Tests.{eqb-true, ltb-true}
use Rattle.names.specs.Kinds.{is_blank, every}
use Rattle.text.specs.Match.{lower}
use Rattle.equation.specs.Holds.{Relation}
use Rattle.grammar.specs.Formula as formula
use Rattle.grammar.specs.Formula.{Formula, and_after, or_after}
use Rattle.grammar.specs.Grammar.{Blanks, written_text, relation_of, Sum, product, plus, Product, factor, times, Factor, relation, bracket}
use Rattle.grammar.specs.Grammar.{textS, textP, textF, formulaS, formulaP, formulaF, GoodS, GoodP, GoodF, nestS, nestP, nestF, Reads}
use Rattle.grammar.specs.Machine.{Phase, name, hash, Part, on, whole, past, stop, part_of, Level, level, fresh, State, want, inside, have, ampersand, bar}
use Rattle.grammar.specs.Machine.{Move, go, halt}
use Rattle.grammar.specs.Machine.{closed, after, taken, step, Outcome, accepted, refused, ended, ended_in, ending, moved, run, outcome_of}
use Rattle.grammar.specs.declared.Reason.{Reason}
use Rattle.grammar.specs.declared.Reason.TheVariants as reason
use Rattle.names.proofs.Tests as tests
use Rattle.grammar.proofs.RelationSound.{RelationHeld, HashHeld, PhaseHeld, PartHeld, held_letters, held_part}
use Rattle.grammar.proofs.Complete.{complete}

-- ---- texts with their derivations, nested at most n deep

record SumHeld (n : ℕ) (t : Formula) (s : List ℕ) : Type 0 where
  x : Sum
  good : GoodS x
  nest : nestS x ≤ n
  text : textS x ≡ s
  means : formulaS x ≡ t

record ProductHeld (n : ℕ) (t : Formula) (s : List ℕ) : Type 0 where
  x : Product
  good : GoodP x
  nest : nestP x ≤ n
  text : textP x ≡ s
  means : formulaP x ≡ t

record FactorHeld (n : ℕ) (t : Formula) (s : List ℕ) : Type 0 where
  x : Factor
  good : GoodF x
  nest : nestF x ≤ n
  text : textF x ≡ s
  means : formulaF x ≡ t

blank_more : (x : List ℕ) (b : ℕ) → Blanks x → is_blank b ≡ true → Blanks (x ++ b ∷ [])
blank_more x b h i = tests.every_append is_blank x (b ∷ []) h (tests.every_one is_blank b i)

-- a blank more after a factor
factor_blank : (n : ℕ) (t : Formula) (s : List ℕ) (b : ℕ) → is_blank b ≡ true → (x : Factor) → GoodF x → nestF x ≤ n → textF x ≡ s → formulaF x ≡ t
    → FactorHeld n t (s ++ b ∷ [])
unfolding GoodF nestF textF formulaF
factor_blank n t s b z (relation i r j) g h e f =
    record { x = relation i r (j ++ b ∷ []); good = (g.0, g.1, blank_more j b g.2 z); nest = h; text = rw (← e) (simp append_assoc); means = f }
factor_blank n t s b z (bracket i y j) g h e f =
    record { x = bracket i y (j ++ b ∷ []); good = (g.0, g.1, blank_more j b g.2 z); nest = h; text = rw (← e) (simp append_assoc); means = f }

product_blank : (n : ℕ) (t : Formula) (s : List ℕ) (b : ℕ) → is_blank b ≡ true → (x : Product) → GoodP x → nestP x ≤ n → textP x ≡ s → formulaP x ≡ t
    → ProductHeld n t (s ++ b ∷ [])
unfolding GoodP nestP textP formulaP
product_blank n t s b z (factor f) g h e r =
    let y = factor_blank n t s b z f g h e r in
    record { x = factor y.x; good = y.good; nest = y.nest; text = y.text; means = y.means }
product_blank n t s b z (times p f) g h e r =
    let y = factor_blank n (formulaF f) (textF f) b z f g.1 (omega arith) refl refl in
    record { x = times p y.x; good = (g.0, y.good); nest = omega (arith, y.nest); text = rw (← e, y.text) (simp append_assoc); means = rw y.means r }

-- ---- what stands before the last connective of each kind

FrontS : ℕ → Option Formula → List ℕ → Type 0
FrontS n none s = s ≡ []
FrontS n (some t) s = (u : List ℕ) × SumHeld n t u × (s ≡ u ++ 124 ∷ 124 ∷ [])

FrontP : ℕ → Option Formula → List ℕ → Type 0
FrontP n none s = s ≡ []
FrontP n (some t) s = (u : List ℕ) × ProductHeld n t u × (s ≡ u ++ 38 ∷ 38 ∷ [])

join_sum : (n : ℕ) (o : Option Formula) (p : Formula) (a b : List ℕ) → FrontS n o a → ProductHeld n p b → SumHeld n (or_after o p) (a ++ b)
unfolding FrontS GoodS nestS textS formulaS
join_sum n none p a b h y = record { x = product y.x; good = y.good; nest = y.nest; text = rw h y.text; means = y.means }
join_sum n (some t) p a b h y =
    record {
      x = plus h.1.x y.x;
      good = (h.1.good, y.good);
      nest = omega (arith, h.1.nest, y.nest);
      text = rw (h.2, h.1.text, y.text) (simp append_assoc);
      means = rw (h.1.means, y.means);
    }

join_product : (n : ℕ) (o : Option Formula) (p : Formula) (a b : List ℕ) → FrontP n o a → FactorHeld n p b → ProductHeld n (and_after o p) (a ++ b)
unfolding FrontP GoodP nestP textP formulaP
join_product n none p a b h y = record { x = factor y.x; good = y.good; nest = y.nest; text = rw h y.text; means = y.means }
join_product n (some t) p a b h y =
    record {
      x = times h.1.x y.x;
      good = (h.1.good, y.good);
      nest = omega (arith, h.1.nest, y.nest);
      text = rw (h.2, h.1.text, y.text) (simp append_assoc);
      means = rw (h.1.means, y.means);
    }

record LevelHeld (n : ℕ) (l : Level) (s : List ℕ) : Type 0 where
  a : List ℕ
  b : List ℕ
  sum : FrontS n l.sum a
  product : FrontP n l.product b
  text : s ≡ a ++ b

-- the brackets around, outermost first in the text
Around : List Level → List ℕ → Type 0
Around [] s = s ≡ []
Around (l ∷ ls) s =
    (u : List ℕ) × (v : List ℕ) × (k : List ℕ) × Blanks k × Around ls u × LevelHeld (16 - length ls) l v × (length ls < 16) × (s ≡ u ++ (v ++ (k ++ 40 ∷ [])))

-- a level with w after it
record At (l : Level) (ls : List Level) (w s : List ℕ) : Type 0 where
  u : List ℕ
  v : List ℕ
  around : Around ls u
  held : LevelHeld (16 - length ls) l v
  fits : length ls ≤ 16
  text : s ≡ u ++ (v ++ w)

-- a product so far with w after it
record Past (p : Formula) (o : Option Formula) (ls : List Level) (w s : List ℕ) : Type 0 where
  u : List ℕ
  a : List ℕ
  b : List ℕ
  around : Around ls u
  sum : FrontS (16 - length ls) o a
  product : ProductHeld (16 - length ls) p b
  fits : length ls ≤ 16
  text : s ≡ u ++ (a ++ (b ++ w))

at_more : (l : Level) (ls : List Level) (w s x y : List ℕ) → At l ls w s → w ++ x ≡ y → At l ls y (s ++ x)
at_more l ls w s x y h e = record { u = h.u; v = h.v; around = h.around; held = h.held; fits = h.fits; text = rw (h.text, ← e) (simp append_assoc) }

past_more : (p : Formula) (o : Option Formula) (ls : List Level) (s x : List ℕ) → Past p o ls [] s → Past p o ls x (s ++ x)
past_more p o ls s x h =
    record {
      u = h.u;
      a = h.a;
      b = h.b;
      around = h.around;
      sum = h.sum;
      product = h.product;
      fits = h.fits;
      text = rw h.text
          (simp (append_assoc, append-nil));
    }

-- a factor is whole
finish : (l : Level) (ls : List Level) (w s : List ℕ) (t : Formula) → At l ls w s → FactorHeld (16 - length ls) t w → Past (and_after l.product t)
    l.sum ls [] s
finish l ls w s t h f =
    record {
      u = h.u;
      a = h.held.a;
      b = h.held.b ++ w;
      around = h.around;
      sum = h.held.sum;
      product = join_product (16 - length ls) l.product t h.held.b w h.held.product f;
      fits = h.fits;
      text = rw (h.text, h.held.text) (simp (append_assoc, append-nil));
    }

-- a relation, behind blanks
factor_of : (n : ℕ) (t : Bool) (r : Relation) (k u : List ℕ) → Blanks k → RelationHeld t r u → FactorHeld n (formula.relation r) (k ++ u)
factor_of n t r k u b h =
    record {
      x = relation k h.written [];
      good = unfold GoodF in (b, h.good, unfold every in refl);
      nest = unfold nestF in omega arith;
      text = unfold textF in rw h.text (simp append-nil);
      means = unfold formulaF in rw h.is;
    }

past_blank : (p : Formula) (o : Option Formula) (ls : List Level) (s : List ℕ) (b : ℕ) → is_blank b ≡ true → Past p o ls [] s → Past p o ls [] (s ++ b ∷ [])
past_blank p o ls s b z h =
    let y = h.product in
    record {
      u = h.u;
      a = h.a;
      b = h.b ++ b ∷ [];
      around = h.around;
      sum = h.sum;
      product = product_blank (16 - length ls) p h.b b z y.x y.good y.nest y.text y.means;
      fits = h.fits;
      text = rw h.text (simp (append_assoc, append-nil));
    }

past_joined : (p : Formula) (o : Option Formula) (ls : List Level) (s : List ℕ) (h : Past p o ls [] s) → SumHeld (16 - length ls) (or_after o p) (h.a ++ h.b)
past_joined p o ls s h = join_sum (16 - length ls) o p h.a h.b h.sum h.product

-- ---- what a state says

pub Held : State → List ℕ → Type 0
Held (want l ls) s = (k : List ℕ) × Blanks k × At l ls k s
Held (inside ph l ls) s = (k : List ℕ) × (u : List ℕ) × Blanks k × PhaseHeld ph u × At l ls (k ++ u) s
Held (have p o ls) s = Past p o ls [] s
Held (ampersand p o ls) s = Past p o ls (38 ∷ []) s
Held (bar p o ls) s = Past p o ls (124 ∷ []) s

pub MoveHeld : Move → List ℕ → Type 0
MoveHeld (go st) s = Held st s
MoveHeld (halt why) s = Unit {0}

pub moved_held : (st : State) (s : List ℕ) → MoveHeld (go st) s → Held st s
unfolding MoveHeld
moved_held st s h = h

pub phase_held : (ph : Phase) (l : Level) (ls : List Level) (s : List ℕ) → Held (inside ph l ls) s → (u : List ℕ) × PhaseHeld ph u
unfolding Held
phase_held ph l ls s h = (h.1, h.3)

by_test : (t : Bool) (m n : Move) (s : List ℕ) → (t ≡ true → MoveHeld m s) → (t ≡ false → MoveHeld n s) → MoveHeld (cond t m n) s
by_test true m n s f g = f refl
by_test false m n s f g = g refl

-- ---- a byte after a whole factor

held_close : (p : Formula) (o : Option Formula) (ls : List Level) (s : List ℕ) → Past p o ls [] s → MoveHeld (closed (or_after o p) ls) (s ++ 41 ∷ [])
unfolding closed MoveHeld Held Around
held_close p o [] s h = tt
held_close p o (l ∷ ls) s h =
    let g = h.around in
    let y = past_joined p o (l ∷ ls) s h in
    finish l ls (g.2 ++ (40 ∷ ((h.a ++ h.b) ++ 41 ∷ []))) (s ++ 41 ∷ []) (or_after o p)
    (record { u = g.0; v = g.1; around = g.4; held = g.5; fits = omega (arith, g.6); text = rw (h.text, g.7) (simp (append_assoc, append-nil)) })
    (record {
      x = bracket g.2 y.x [];
      good = unfold GoodF in (g.3, y.good, unfold every in refl);
      nest = unfold nestF in omega (arith, y.nest, g.6);
      text = unfold textF in rw y.text;
      means = unfold formulaF in y.means;
    })

held_after : (p : Formula) (o : Option Formula) (ls : List Level) (b : ℕ) (s : List ℕ) → Past p o ls [] s → MoveHeld (after p o ls b) (s ++ b ∷ [])
unfolding after MoveHeld Held
held_after p o ls b s h =
    by_test (is_blank b) _ _ (s ++ b ∷ []) (λ e. past_blank p o ls s b e h)
    (λ e. by_test (eqb b 38) _ _ (s ++ b ∷ []) (λ f. rw (eqb-true b 38 f) (past_more p o ls s (38 ∷ []) h))
    (λ f. by_test (eqb b 124) _ _ (s ++ b ∷ []) (λ g. rw (eqb-true b 124 g) (past_more p o ls s (124 ∷ []) h))
    (λ g. by_test (eqb b 41) _ _ (s ++ b ∷ []) (λ i. rw (eqb-true b 41 i) (held_close p o ls s h)) (λ i. tt))))

-- ---- a byte in a relation, and where a factor is wanted

held_taken : (part : Part) (l : Level) (ls : List Level) (b : ℕ) (k u s : List ℕ) → Blanks k → PartHeld part u b → At l ls (k ++ u) s → MoveHeld
    (taken part l ls b) (s ++ b ∷ [])
unfolding taken MoveHeld Held PartHeld
held_taken (on ph) l ls b k u s g h a = (k, u ++ b ∷ [], g, h, at_more l ls (k ++ u) s (b ∷ []) (k ++ (u ++ b ∷ [])) a (append_assoc k u (b ∷ [])))
held_taken (whole r) l ls b k u s g h a =
    finish l ls (k ++ (u ++ b ∷ [])) (s ++ b ∷ []) (formula.relation r) (at_more l ls (k ++ u) s (b ∷ []) (k ++ (u ++ b ∷ [])) a (append_assoc k u (b ∷ [])))
    (factor_of (16 - length ls) false r k (u ++ b ∷ []) g h)
held_taken (past r) l ls b k u s g h a =
    held_after (and_after l.product (formula.relation r)) l.sum ls b s
    (finish l ls (k ++ u) s (formula.relation r) a (factor_of (16 - length ls) true r k u g h))
held_taken (stop why) l ls b k u s g h a = tt

held_want : (l : Level) (ls : List Level) (b : ℕ) (s : List ℕ) → Held (want l ls) s → MoveHeld (step (want l ls) b) (s ++ b ∷ [])
unfolding step MoveHeld Held
held_want l ls b s h =
    by_test (is_blank b) _ _ (s ++ b ∷ []) (λ e. (h.0 ++ b ∷ [], blank_more h.0 b h.1 e, at_more l ls h.0 s (b ∷ []) (h.0 ++ b ∷ []) h.2 refl))
    (λ e. by_test (eqb b 40) _ _ (s ++ b ∷ []) (λ f. by_test (ltb (length ls) 16) _ _ (s ++ b ∷ [])
    (λ g. rw (eqb-true b 40 f) (opened (ltb-true (length ls) 16 g))) (λ g. tt))
    (λ f. by_test (eqb b 35) _ _ (s ++ b ∷ []) (λ g. rw (eqb-true b 35 g) hashed)
    (λ g. held_taken (part_of (name []) b) l ls b h.0 [] s h.1 (held_letters [] [] b refl) (rw append-nil h.2))))
  where
    opened : length ls < 16 → (k : List ℕ) × Blanks k × At fresh (l ∷ ls) k (s ++ 40 ∷ [])
    opened z = (
      [],
      unfold every in refl,
      record {
        u = s ++ 40 ∷ [];
        v = [];
        around = unfold Around in (h.2.u, h.2.v, h.0, h.1, h.2.around, h.2.held, z, rw h.2.text (simp append_assoc));
        held = record { a = []; b = []; sum = unfold FrontS in refl; product = unfold FrontP in refl; text = refl };
        fits = omega arith;
        text = simp append-nil;
      },
    )

    hashed : (k : List ℕ) × (u : List ℕ) × Blanks k × PhaseHeld (hash 0 0) u × At l ls (k ++ u) (s ++ 35 ∷ [])
    hashed = (h.0, 35 ∷ [], h.1, unfold PhaseHeld HashHeld in ([], (refl, refl), refl), at_more l ls h.0 s (35 ∷ []) (h.0 ++ 35 ∷ []) h.2 refl)

pub held_step : (st : State) (b : ℕ) (s : List ℕ) → Held st s → MoveHeld (step st b) (s ++ b ∷ [])
unfolding step MoveHeld Held
held_step (want l ls) b s h = held_want l ls b s h
held_step (inside ph l ls) b s h = held_taken (part_of ph b) l ls b h.0 h.1 s h.2 (held_part ph b h.1 h.3) h.4
held_step (have p o ls) b s h = held_after p o ls b s h
held_step (ampersand p o ls) b s h =
    by_test (eqb b 38) _ _ (s ++ b ∷ []) (λ e. rw (eqb-true b 38 e) (
      [],
      unfold every in refl,
      record {
        u = h.u;
        v = h.a ++ (h.b ++ 38 ∷ 38 ∷ []);
        around = h.around;
        fits = h.fits;
        held = record { a = h.a; b = h.b ++ 38 ∷ 38 ∷ []; sum = h.sum; product = unfold FrontP in (h.b, h.product, refl); text = refl };
        text = rw h.text (simp (append_assoc, append-nil));
      },
    )) (λ e. tt)
held_step (bar p o ls) b s h =
    by_test (eqb b 124) _ _ (s ++ b ∷ []) (λ e. rw (eqb-true b 124 e) (
      [],
      unfold every in refl,
      record {
        u = h.u;
        v = (h.a ++ h.b) ++ 124 ∷ 124 ∷ [];
        around = h.around;
        fits = h.fits;
        held = record {
          a = (h.a ++ h.b) ++ 124 ∷ 124 ∷ [];
          b = [];
          sum = unfold
              FrontS in (h.a ++ h.b, join_sum (16 - length ls) o p h.a h.b h.sum h.product, refl);
          product = unfold FrontP in refl;
          text = simp append-nil;
        };
        text = rw h.text (simp (append_assoc, append-nil));
      },
    )) (λ e. tt)

-- ---- the end

-- a sum with no bracket around it is a whole text
whole_text : (p : Formula) (o : Option Formula) (s : List ℕ) → Past p o [] [] s → Reads s (or_after o p)
unfolding Around
whole_text p o s h =
    let y = past_joined p o [] s h in
    record { sum = y.x; good = y.good; nested = y.nest; is_text = y.text ∙ sym (h.text ∙ rw h.around (simp append-nil)); is_formula = y.means }

pub same_formula : (a b : Formula) → accepted a ≡ accepted b → a ≡ b
same_formula a b e = cc

no_end : (p : ℕ) (why : Reason) (t : Formula) (s : List ℕ) → refused p why ≡ accepted t → Reads s t
no_end p why t s e = let z : ◌≡◌ {A = ℕ} 0 1 = cc in absurd (omega arith)

at_past : (q : Formula) (o : Option Formula) (ls : List Level) (p : ℕ) (t : Formula) (s : List ℕ) → Past q o ls [] s → ended (or_after o q) ls p ≡ accepted t
    → Reads s t
unfolding ended
at_past q o [] p t s h e = rw (← same_formula (or_after o q) t e) (whole_text q o s h)
at_past q o (l ∷ ls) p t s h e = no_end p reason.Bracket t s e

at_part : (part : Part) (l : Level) (ls : List Level) (p : ℕ) (t : Formula) (k u s : List ℕ) → Blanks k → PartHeld part u 0 → At l ls (k ++ u) s
    → ended_in part l ls p ≡ accepted t → Reads s t
unfolding ended_in PartHeld
at_part (on ph) l ls p t k u s g h a e = no_end p reason.Connective t s e
at_part (whole r) l ls p t k u s g h a e = no_end p reason.Connective t s e
at_part (past r) l ls p t k u s g h a e =
    at_past (and_after l.product (formula.relation r)) l.sum ls p t s
    (finish l ls (k ++ u) s (formula.relation r) a (factor_of (16 - length ls) true r k u g h)) e
at_part (stop why) l ls p t k u s g h a e = no_end p why t s e

at_end : (st : State) (p : ℕ) (t : Formula) (s : List ℕ) → Held st s → ending st p ≡ accepted t → Reads s t
unfolding ending Held
at_end (want l ls) p t s h e = no_end p reason.Item t s e
at_end (inside ph l ls) p t s h e = at_part (part_of ph 0) l ls p t h.0 h.1 s h.2 (held_part ph 0 h.1 h.3) h.4 e
at_end (have q o ls) p t s h e = at_past q o ls p t s h e
at_end (ampersand q o ls) p t s h e = no_end p reason.Connective t s e
at_end (bar q o ls) p t s h e = no_end p reason.Connective t s e

sound_from : (bs : List ℕ) (st : State) (p : ℕ) (t : Formula) (s : List ℕ) → Held st s → run st p bs ≡ accepted t → Reads (s ++ bs) t
unfolding run
sound_from [] st p t s h e = rw append-nil (at_end st p t s h e)
sound_from (b ∷ bs) st p t s h e = by (step st b) (held_step st b s h) e (λ r k. sound_from bs r (suc p) t (s ++ b ∷ []) k)
  where
    by : (m : Move) → MoveHeld m (s ++ b ∷ []) → moved m p (λ r. run r (suc p) bs) ≡ accepted t
        → ((r : State) → Held r (s ++ b ∷ []) → run r (suc p) bs ≡ accepted t → Reads ((s ++ b ∷ []) ++ bs) t) → Reads (s ++ b ∷ bs) t
    by (go r) k z f = rw append_assoc at (f r (unfold MoveHeld in k) (unfold moved in z))
    by (halt why) k z f = no_end p why t (s ++ b ∷ bs) (unfold moved in z)

pub held_start : Held (want fresh []) []
unfolding Held
held_start = (
  [],
  unfold every in refl,
  record {
    u = [];
    v = [];
    around = unfold Around in refl;
    held = record { a = []; b = []; sum = unfold FrontS in refl; product = unfold FrontP in refl; text = refl };
    fits = omega arith;
    text = refl;
  },
)

-- ---- the theorems

-- accepted are texts of the grammar alone
pub sound : (text : List ℕ) (f : Formula) → outcome_of text ≡ accepted f → Reads text f
sound text f e = sound_from text (want fresh []) 0 f [] held_start e

-- a text has one meaning
pub one_meaning : (text : List ℕ) (a b : Formula) → Reads text a → Reads text b → a ≡ b
one_meaning text a b x y = same_formula a b (sym (complete text a x) ∙ complete text b y)
