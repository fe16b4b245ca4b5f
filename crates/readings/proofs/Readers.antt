-- The cycle of readers: what each turn and each return of them is. Assumes nothing.
use Rattle.std.proofs.Common.{Ok, Err}
use mathlib.Core.Path.{◌≡◌, refl, sym, subst, ◌∙◌}
use mathlib.Core.Bool.{Bool, true, false, cond}
use mathlib.Core.List.{List, [], ◌∷◌, ◌++◌, append_assoc, append-nil}
use mathlib.Core.Option.{Option, none, some}
use Prim.Native.Nat.{ℕ, ◌+◌, ◌-◌, ◌*◌, ◌≤◌, ◌<◌}
use native.Mathlib.Omega.{arith}
use lib.Dec.{ltb, eqb}
use lib.ListN.{length, get_or, set, length-append}
use lib.Seq.{sets}
use borrow.Author.Tests.{eqb-true, eqb-false}
use Rattle.lines.proofs.Writing.{joined}
use Rattle.names.specs.Kinds.{is_blank}
use Rattle.grammar.specs.Formula.{Formula, relation, both, postfix, and_after, or_after}
use Rattle.grammar.specs.Machine.{Level, level, fresh, want, have, ampersand, bar, ended, ending, from}
use Rattle.grammar.specs.declared.Reason.{Reason}
use Rattle.grammar.specs.declared.Reason.TheVariants as reason
use Rattle.grammar.proofs.Steps as steps
use Rattle.tokens.specs.Tokens.{wrong_at}
use Rattle.tokens.specs.Places.{Goes, Skipped}
use Rattle.readings.specs.Contract.{Reading, RelationRead, Opens, Relates, StartRead, join_at, closed_at, FactorIs, FactorRead, ProductIs, ProductRead, SumIs}
use Rattle.readings.specs.Contract.{SumRead}
use Rattle.readings.specs.declared.Start.{Start}
use Rattle.readings.specs.declared.Start.TheVariants as start
use Rattle.readings.specs.declared.Joiner.{Joiner}
use Rattle.readings.specs.declared.Joiner.TheVariants as joiner
use Rattle.tokens.proofs.Places as laws

sets_joined : (l : List ℕ) (i : ℕ) (a b : List ℕ) → sets l i (a ++ b) ≡ sets (sets l i a) (i + length a) b
sets_joined l i a b = sym (joined l i a b)

-- ---- what a factor begins with

module _ (text : List ℕ) (at left q : ℕ) (s : Skipped text at q) (b : ℕ) (hb : b ≡ get_or text q 0) where
  to_factor : (l : Level) (ls : List Level) → Goes text (want l ls) at (want l ls) q
  to_factor l ls = s.runs (want l ls) (steps.want_still l ls)

  pub start_deep : b ≡ 40 → left ≡ 0 → StartRead text at left (start.Deep q)
  start_deep h z l ls e =
      to_factor l ls
      ∙ laws.halts text q (want l ls) reason.Deeper (laws.byte_in text q 40 (sym hb ∙ h) (omega arith)) (rw (← hb, h) (steps.want_deep l ls (omega arith)))

  pub start_open : b ≡ 40 → (left ≡ 0 → ⊥) → Opens text at left (q + 1)
  start_open h z =
      let i : q < length text = laws.byte_in text q 40 (sym hb ∙ h) (omega arith) in
      let y : 0 < left = omega arith in
      record {
        room = y;
        forward = omega (arith, s.forward);
        within = omega arith;
        runs = λ l ls e. to_factor l ls ∙ laws.goes text q 40 (want l ls) (want fresh (l ∷ ls)) (sym hb ∙ h) (omega arith) (steps.want_open l ls (omega arith));
      }

  pub start_relation : (b ≡ 40 → ⊥) → Relates text at q
  start_relation h = record { forward = s.forward; within = s.within; no_blank = s.stops; no_open = λ z. h (hb ∙ z); runs = to_factor }

-- what stands where a connective may
abbrev pub JoinRead : List ℕ → ℕ → ℕ → Joiner → Type 0
JoinRead text at b joiner.Other = get_or text at 0 ≡ b → ⊥
JoinRead text at b joiner.Half = (get_or text at 0 ≡ b) × (get_or text (at + 1) 0 ≡ b → ⊥)
JoinRead text at b joiner.Whole = (get_or text at 0 ≡ b) × (get_or text (at + 1) 0 ≡ b)

-- ---- an answer that is known

module _ (text : List ℕ) (at left : ℕ) where
  module _ (r : Start) (h : StartRead text at left r) where
    pub was_start : (x : Start) → r ≡ x → StartRead text at left x
    was_start x z = subst (λ (y : Start). StartRead text at left y) z h

  module _ (out : List ℕ) (n : ℕ) (r : Reading) (now : List ℕ) where
    pub factor_at : (e m : ℕ) → FactorRead text at left out n r now → r ≡ Ok (e, m) → FactorIs text at left out n e m now
    factor_at e m h z = subst (λ (x : Reading). FactorRead text at left out n x now) z h

    pub factor_bad : (p : ℕ) (why : Reason) → FactorRead text at left out n r now → r ≡ Err (wrong_at p why) → FactorRead text at left out n (Err (wrong_at p why)) now
    factor_bad p why h z = subst (λ (x : Reading). FactorRead text at left out n x now) z h

    pub product_at : (e m : ℕ) → ProductRead text at left out n r now → r ≡ Ok (e, m) → ProductIs text at left out n e m now
    product_at e m h z = subst (λ (x : Reading). ProductRead text at left out n x now) z h

    pub product_bad : (p : ℕ) (why : Reason) → ProductRead text at left out n r now → r ≡ Err (wrong_at p why) → ProductRead text at left out n (Err (wrong_at p why)) now
    product_bad p why h z = subst (λ (x : Reading). ProductRead text at left out n x now) z h

    pub sum_at : (e m : ℕ) → SumRead text at left out n r now → r ≡ Ok (e, m) → SumIs text at left out n e m now
    sum_at e m h z = subst (λ (x : Reading). SumRead text at left out n x now) z h

    pub sum_bad : (p : ℕ) (why : Reason) → SumRead text at left out n r now → r ≡ Err (wrong_at p why) → SumRead text at left out n (Err (wrong_at p why)) now
    sum_bad p why h z = subst (λ (x : Reading). SumRead text at left out n x now) z h

module _ (text : List ℕ) (at b : ℕ) (r : Joiner) (h : r ≡ join_at text at b) where
  pub was_joiner : (x : Joiner) → r ≡ x → JoinRead text at b x
  unfolding join_at
  was_joiner x z = rw (← z, h) (by (eqb (get_or text at 0) b) refl)
    where
      by2 : get_or text at 0 ≡ b → (t : Bool) → eqb (get_or text (at + 1) 0) b ≡ t → JoinRead text at b (cond t joiner.Whole joiner.Half)
      by2 e true f = (e, eqb-true (get_or text (at + 1) 0) b f)
      by2 e false f = (e, eqb-false (get_or text (at + 1) 0) b f)

      by : (t : Bool) → eqb (get_or text at 0) b ≡ t → JoinRead text at b (cond t (cond (eqb (get_or text (at + 1) 0) b) joiner.Whole joiner.Half) joiner.Other)
      by true e = by2 (eqb-true (get_or text at 0) b e) (eqb (get_or text (at + 1) 0) b) refl
      by false e = eqb-false (get_or text at 0) b e

-- ---- a factor

module _ (text : List ℕ) (at left : ℕ) (out : List ℕ) (n : ℕ) where
  pub factor_relation : (q : ℕ) → Relates text at q → (r : Reading) (now : List ℕ) → RelationRead text q out n r now → FactorRead text at left out n r now
  unfolding postfix
  factor_relation q s (Ok (e, m)) now h =
      record {
        means = relation h.relation;
        few = omega (arith, h.few, s.forward);
        within = h.within;
        count = h.count;
        bytes = h.bytes;
        runs = λ l ls z. s.runs l ls ∙ h.runs l ls;
      }
  factor_relation q s (Err w) now h = λ l ls z. s.runs l ls ∙ h l ls

  module _ (e : ℕ) (o : Opens text at left e) where
    pub factor_inner_wrong : (p : ℕ) (why : Reason) (now : List ℕ) → SumRead text e (left - 1) out n (Err (wrong_at p why)) now → FactorRead text at left out n
        (Err (wrong_at p why)) now
    factor_inner_wrong p why now s l ls h = o.runs l ls h ∙ s (l ∷ ls) (omega (arith, o.room))

    module _ (q m : ℕ) (now : List ℕ) (s : SumIs text e (left - 1) out n q m now) where
      to_close : (l : Level) (ls : List Level) → length ls + left ≡ 16 → from (want l ls) at text ≡ from (have s.product s.sum (l ∷ ls)) q text
      to_close l ls h = o.runs l ls h ∙ s.runs (l ∷ ls) (omega (arith, o.room))

      pub factor_closed : get_or text q 0 ≡ 41 → FactorIs text at left out n (q + 1) m now
      factor_closed h =
          record {
            means = or_after s.sum s.product;
            few = omega (arith, s.few, o.forward);
            within = omega (arith, laws.byte_in text q 41 h (omega arith));
            count = s.count;
            bytes = s.bytes;
            runs = λ l ls z. to_close l ls z ∙ laws.goes text q 41 (have s.product s.sum (l ∷ ls))
                (have (and_after l.product (or_after s.sum s.product)) l.sum ls) h (omega arith) (steps.have_close s.product s.sum ls l);
          }

      pub factor_open : (get_or text q 0 ≡ 41 → ⊥) → FactorRead text at left out n (Err (wrong_at q (cond (ltb q (length text)) reason.Connective reason.Bracket))) now
      factor_open h l ls z =
          to_close l ls z
          ∙ laws.wrong_either text q (have s.product s.sum (l ∷ ls)) reason.Connective reason.Bracket
          (steps.have_other s.product s.sum (l ∷ ls) (get_or text q 0) s.no_blank s.no_and s.no_or h) (unfold ending ended in refl)

      pub factor_close : (r : Reading) → r ≡ closed_at text q m → FactorRead text at left out n r now
      unfolding closed_at
      factor_close r e = rw e (by (eqb (get_or text q 0) 41) refl)
        where
          open_by : (get_or text q 0 ≡ 41 → ⊥) → (t : Bool) → ltb q (length text) ≡ t
              → FactorRead text at left out n (cond t (Err (wrong_at q reason.Connective)) (Err (wrong_at q reason.Bracket))) now
          open_by h true f = rw f at (factor_open h)
          open_by h false f = rw f at (factor_open h)

          by : (t : Bool) → eqb (get_or text q 0) 41 ≡ t
              → FactorRead text at left out n (cond t (Ok (q + 1, m)) (cond (ltb q (length text)) (Err (wrong_at q reason.Connective)) (Err (wrong_at q reason.Bracket)))) now
          by true f = factor_closed (eqb-true (get_or text q 0) 41 f)
          by false f = open_by (eqb-false (get_or text q 0) 41 f) (ltb q (length text)) refl

      pub close_in : q ≤ length text
      close_in = s.within

-- ---- a product: its further factors

pub record Grown (text : List ℕ) (left p₀ m₀ : ℕ) (out₀ : List ℕ) (p m : ℕ) (out : List ℕ) : Type 0 where
  pub grow : Formula → Formula
  pub more : List ℕ
  pub grows : (t : Formula) → postfix (grow t) ≡ postfix t ++ more
  pub few : length more + 2 * p₀ ≤ 2 * p
  pub behind : m ≤ 2 * p
  pub within : p ≤ length text
  pub count : m ≡ m₀ + length more
  pub bytes : out ≡ sets out₀ m₀ more
  pub runs : (t : Formula) (o : Option Formula) (ls : List Level) → length ls + left ≡ 16 → from (have t o ls) p₀ text ≡ from (have (grow t) o ls) p text

pub grown_none : (text : List ℕ) (left p m : ℕ) (out : List ℕ) → m ≤ 2 * p → p ≤ length text → Grown text left p m out p m out
grown_none text left p m out h i =
    record {
      grow = λ t. t;
      more = [];
      grows = λ t. sym (append-nil (postfix t));
      few = omega arith;
      behind = h;
      within = i;
      count = omega arith;
      bytes = refl;
      runs = λ t o ls z. refl;
    }

module _ (text : List ℕ) (left p₀ m₀ : ℕ) (out₀ : List ℕ) (p m : ℕ) (out : List ℕ) (g : Grown text left p₀ m₀ out₀ p m out) (q : ℕ) (s : Skipped text p q) where
  to_joiner : (t : Formula) (o : Option Formula) (ls : List Level) → length ls + left ≡ 16 → from (have t o ls) p₀ text ≡ from (have (g.grow t) o ls) q text
  to_joiner t o ls h = g.runs t o ls h ∙ s.runs (have (g.grow t) o ls) (steps.have_still (g.grow t) o ls)

  pub product_ends : (at : ℕ) (out-in : List ℕ) (n : ℕ) → FactorIs text at left out-in n p₀ m₀ out₀ → (get_or text q 0 ≡ 38 → ⊥)
      → ProductIs text at left out-in n q m out
  product_ends at out-in n f h =
      record {
        means = g.grow f.means;
        few = rw (g.grows f.means, length-append (postfix f.means) g.more) (omega (arith, f.few, g.few, s.forward));
        within = s.within;
        no_blank = s.stops;
        no_and = h;
        count = rw (g.grows f.means, length-append (postfix f.means) g.more) (omega (arith, f.count, g.count));
        bytes = g.bytes ∙ rw (g.grows f.means, f.bytes, f.count, sets_joined out-in n (postfix f.means) g.more);
        runs = λ o ls z. f.runs (level o none) ls z ∙ to_joiner f.means o ls z;
      }

  module _ (a : get_or text q 0 ≡ 38) where
    to_amp : (t : Formula) (o : Option Formula) (ls : List Level) → length ls + left ≡ 16 → from (have t o ls) p₀ text ≡ from (ampersand (g.grow t) o ls)
        (q + 1) text
    to_amp t o ls h = to_joiner t o ls h ∙ laws.goes text q 38 (have (g.grow t) o ls) (ampersand (g.grow t) o ls) a (omega arith)
        (steps.have_ampersand (g.grow t) o ls)

    pub product_half : (at : ℕ) (out-in : List ℕ) (n : ℕ) (now : List ℕ) → FactorIs text at left out-in n p₀ m₀ out₀ → (get_or text (q + 1) 0 ≡ 38 → ⊥)
        → ProductRead text at left out-in n (Err (wrong_at (q + 1) reason.Connective)) now
    product_half at out-in n now f h o ls z =
        f.runs (level o none) ls z ∙ to_amp f.means o ls z
        ∙ laws.wrong text (q + 1) (ampersand (g.grow f.means) o ls) reason.Connective
        (steps.ampersand_other (g.grow f.means) o ls (get_or text (q + 1) 0) h) (unfold ending in refl)

    module _ (b : get_or text (q + 1) 0 ≡ 38) where
      pub and_in : q + 2 ≤ length text
      and_in = omega (arith, laws.byte_in text (q + 1) 38 b (omega arith))

      to_want : (t : Formula) (o : Option Formula) (ls : List Level) → length ls + left ≡ 16 → from (have t o ls) p₀ text ≡ from
          (want (level o (some (g.grow t))) ls) (q + 2) text
      to_want t o ls h =
          let z : q + 1 + 1 ≡ q + 2 = omega arith in
          to_amp t o ls h
          ∙ (rw z at (laws.goes text (q + 1) 38 (ampersand (g.grow t) o ls) (want (level o (some (g.grow t))) ls) b (omega arith)
          (steps.second_ampersand (g.grow t) o ls)))

      pub product_wrong : (at : ℕ) (out-in : List ℕ) (n : ℕ) (now : List ℕ) (x : ℕ) (why : Reason) → FactorIs text at left out-in n p₀ m₀ out₀ → FactorRead text
          (q + 2) left out m (Err (wrong_at x why)) now → ProductRead text at left out-in n (Err (wrong_at x why)) now
      product_wrong at out-in n now x why f r o ls z =
          f.runs (level o none) ls z ∙ to_want f.means o ls z ∙ r (level o (some (g.grow f.means))) ls z

      pub grown_more : (y h k : ℕ) (mid now : List ℕ) → FactorIs text (q + 2) left out m y h mid → k ≡ h + 1 → now ≡ set mid h 1
          → Grown text left p₀ m₀ out₀ y k now
      unfolding postfix
      grown_more y h k mid now f hk hnow =
          let d : length (g.more ++ (postfix f.means ++ 1 ∷ [])) ≡ length g.more + (length (postfix f.means) + 1) = simp length-append in
          record {
            grow = λ t. both (g.grow t) f.means;
            more = g.more ++ (postfix f.means ++ 1 ∷ []);
            grows = λ t. rw (g.grows t, append_assoc (postfix t) g.more (postfix f.means ++ 1 ∷ []));
            few = omega (arith, d, f.few, g.few, s.forward);
            behind = omega (arith, f.few, f.count, g.behind, s.forward);
            within = f.within;
            count = omega (arith, d, f.count, g.count);
            bytes = hnow ∙ rw (
              f.bytes,
              f.count,
              g.bytes,
              g.count,
              sets_joined out₀ m₀ g.more (postfix f.means ++ 1 ∷ []),
              sets_joined
                  (sets out₀ m₀ g.more) (m₀ + length g.more) (postfix f.means) (1 ∷ []),
            );
            runs = λ t o ls z. to_want t o ls z ∙ f.runs (level o (some (g.grow t))) ls z;
          }

-- ---- a sum: its further products

pub record Summed (text : List ℕ) (left p₀ m₀ : ℕ) (out₀ : List ℕ) (p m : ℕ) (out : List ℕ) : Type 0 where
  pub front : Formula → Option Formula
  pub last : Formula → Formula
  pub more : List ℕ
  pub grows : (t : Formula) → postfix (or_after (front t) (last t)) ≡ postfix t ++ more
  pub no_blank : is_blank (get_or text p 0) ≡ false
  pub no_and : get_or text p 0 ≡ 38 → ⊥
  pub few : length more + 2 * p₀ ≤ 2 * p
  pub behind : m ≤ 2 * p
  pub within : p ≤ length text
  pub count : m ≡ m₀ + length more
  pub bytes : out ≡ sets out₀ m₀ more
  pub runs : (t : Formula) (ls : List Level) → length ls + left ≡ 16 → from (have t none ls) p₀ text ≡ from (have (last t) (front t) ls) p text

pub summed_none : (text : List ℕ) (at left : ℕ) (out-in : List ℕ) (n p m : ℕ) (out : List ℕ) → n ≤ 2 * at → ProductIs text at left out-in n p m out
    → Summed text left p m out p m out
summed_none text at left out-in n p m out h f =
    record {
      front = λ t. none;
      last = λ t. t;
      more = [];
      grows = λ t. sym (append-nil (postfix t));
      no_blank = f.no_blank;
      no_and = f.no_and;
      few = omega arith;
      behind = omega (arith, f.few, f.count);
      within = f.within;
      count = omega arith;
      bytes = refl;
      runs = λ t ls z. refl;
    }

module _ (text : List ℕ) (left p₀ m₀ : ℕ) (out₀ : List ℕ) (p m : ℕ) (out : List ℕ) (g : Summed text left p₀ m₀ out₀ p m out) where
  pub sum_ends : (at : ℕ) (out-in : List ℕ) (n : ℕ) → ProductIs text at left out-in n p₀ m₀ out₀ → (get_or text p 0 ≡ 124 → ⊥)
      → SumIs text at left out-in n p m out
  sum_ends at out-in n f h =
      record {
        sum = g.front f.means;
        product = g.last f.means;
        few = rw (g.grows f.means, length-append (postfix f.means) g.more) (omega (arith, f.few, g.few));
        within = g.within;
        no_blank = g.no_blank;
        no_and = g.no_and;
        no_or = h;
        count = rw (g.grows f.means, length-append (postfix f.means) g.more) (omega (arith, f.count, g.count));
        bytes = g.bytes ∙ rw (g.grows f.means, f.bytes, f.count, sets_joined out-in n (postfix f.means) g.more);
        runs = λ ls z. f.runs none ls z ∙ g.runs f.means ls z;
      }

  module _ (a : get_or text p 0 ≡ 124) where
    to_bar : (t : Formula) (ls : List Level) → length ls + left ≡ 16 → from (have t none ls) p₀ text ≡ from (bar (g.last t) (g.front t) ls) (p + 1) text
    to_bar t ls h = g.runs t ls h ∙ laws.goes text p 124 (have (g.last t) (g.front t) ls) (bar (g.last t) (g.front t) ls) a (omega arith)
        (steps.have_bar (g.last t) (g.front t) ls)

    pub sum_half : (at : ℕ) (out-in : List ℕ) (n : ℕ) (now : List ℕ) → ProductIs text at left out-in n p₀ m₀ out₀ → (get_or text (p + 1) 0 ≡ 124 → ⊥)
        → SumRead text at left out-in n (Err (wrong_at (p + 1) reason.Connective)) now
    sum_half at out-in n now f h ls z =
        f.runs none ls z ∙ to_bar f.means ls z
        ∙ laws.wrong text (p + 1) (bar (g.last f.means) (g.front f.means) ls) reason.Connective
        (steps.bar_other (g.last f.means) (g.front f.means) ls (get_or text (p + 1) 0) h) (unfold ending in refl)

    module _ (b : get_or text (p + 1) 0 ≡ 124) where
      pub or_in : p + 2 ≤ length text
      or_in = omega (arith, laws.byte_in text (p + 1) 124 b (omega arith))

      sum_want : (t : Formula) (ls : List Level) → length ls + left ≡ 16 → from (have t none ls) p₀ text ≡ from
          (want (level (some (or_after (g.front t) (g.last t))) none) ls) (p + 2) text
      sum_want t ls h =
          let z : p + 1 + 1 ≡ p + 2 = omega arith in
          to_bar t ls h
          ∙ (rw z at (laws.goes text (p + 1) 124 (bar (g.last t) (g.front t) ls) (want (level (some (or_after (g.front t) (g.last t))) none) ls) b
          (omega arith) (steps.second_bar (g.last t) (g.front t) ls)))

      pub sum_wrong : (at : ℕ) (out-in : List ℕ) (n : ℕ) (now : List ℕ) (x : ℕ) (why : Reason) → ProductIs text at left out-in n p₀ m₀ out₀ → ProductRead text
          (p + 2) left out m (Err (wrong_at x why)) now → SumRead text at left out-in n (Err (wrong_at x why)) now
      sum_wrong at out-in n now x why f r ls z =
          f.runs none ls z ∙ sum_want f.means ls z ∙ r (some (or_after (g.front f.means) (g.last f.means))) ls z

      pub summed_more : (y h k : ℕ) (mid now : List ℕ) → ProductIs text (p + 2) left out m y h mid → k ≡ h + 1 → now ≡ set mid h 2
          → Summed text left p₀ m₀ out₀ y k now
      unfolding postfix
      summed_more y h k mid now f hk hnow =
          let d : length (g.more ++ (postfix f.means ++ 2 ∷ [])) ≡ length g.more + (length (postfix f.means) + 1) = simp length-append in
          record {
            front = λ t. some (or_after (g.front t) (g.last t));
            last = λ t. f.means;
            more = g.more ++ (postfix f.means ++ 2 ∷ []);
            grows = λ t. rw (g.grows t, append_assoc (postfix t) g.more (postfix f.means ++ 2 ∷ []));
            no_blank = f.no_blank;
            no_and = f.no_and;
            few = omega (arith, d, f.few, g.few);
            behind = omega (arith, f.few, f.count, g.behind);
            within = f.within;
            count = omega (arith, d, f.count, g.count);
            bytes = hnow ∙ rw (
              f.bytes,
              f.count,
              g.bytes,
              g.count,
              sets_joined out₀ m₀ g.more (postfix f.means ++ 2 ∷ []),
              sets_joined
                  (sets out₀ m₀ g.more) (m₀ + length g.more) (postfix f.means) (2 ∷ []),
            );
            runs = λ t ls z. sum_want t ls z ∙ f.runs (some (or_after (g.front t) (g.last t))) ls z;
          }
