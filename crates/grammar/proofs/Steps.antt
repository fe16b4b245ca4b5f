-- Single steps of the machine, and runs made of them. Assumes nothing.
use mathlib.Core.Path.{◌≡◌, refl, sym, ap, subst, ◌∙◌}
use mathlib.Core.Bool.{Bool, true, false, cond}
use mathlib.Core.List.{List, [], ◌∷◌, ◌++◌}
use mathlib.Core.Option.{Option, none, some}
use Prim.Native.Nat.{ℕ, zero, suc, ◌+◌, ◌-◌, ◌*◌, ◌≤◌, ◌<◌}
use native.Mathlib.Omega.{arith}
use lib.Dec.{ltb, leb, eqb}
use lib.ListN.{length, get_or}
use borrow.Author.Tests.{lt-ltb, le-ltb, le-leb, lt-leb, eq-eqb, ne_eqb}
use Rattle.names.specs.Kinds.{is_blank, is_printed, hex_of, is_hex_digit, every}
use Rattle.text.specs.Match.{lower}
use Rattle.lines.specs.Numerals.{digit}
use Rattle.equation.specs.Holds.{Relation}
use Rattle.equation.specs.Symbols.{stars_in}
use Rattle.names.specs.Names.{id_named, starts_name}
use Rattle.grammar.specs.Formula.{Formula, relation, and_after, or_after}
use Rattle.grammar.specs.Meaning.{is_equality, or_equal, width_of, is_width, number_relation, text_relation}
use Rattle.grammar.specs.Grammar.{Blanks}
use Rattle.grammar.specs.Machine.{Phase, name, hash, item, half, order, constant, digits, colon, string, escape, coded, code, Part, on, whole, past, stop}
use Rattle.grammar.specs.Machine.{lettered, wanted, added, part_of, Level, level, fresh, State, want, inside, have, ampersand, bar, Move, go, halt}
use Rattle.grammar.specs.Machine.{closed, after, taken, step, Outcome, accepted, refused, ended, ended_in, ending, moved, run, outcome_of}
use Rattle.grammar.specs.declared.Comparison.{Comparison}
use Rattle.grammar.specs.declared.Comparison.TheVariants as comparison
use Rattle.grammar.specs.declared.Reason.{Reason}
use Rattle.grammar.specs.declared.Reason.TheVariants as reason
use Rattle.names.proofs.Tests as tests

-- ---- stars

pub stars_append : (a b : List ℕ) → stars_in (a ++ b) ≡ stars_in a + stars_in b
unfolding stars_in
stars_append [] b = omega arith
stars_append (x ∷ a) b = by (stars_append a b) (eqb x 42)
  where
    by : stars_in (a ++ b) ≡ stars_in a + stars_in b → (t : Bool) → cond t (suc (stars_in (a ++ b))) (stars_in (a ++ b)) ≡ cond t (suc (stars_in a))
        (stars_in a) + stars_in b
    by ih true = omega arith
    by ih false = ih

-- ---- runs

-- from a state and bytes to a state and bytes, by as many places as bytes
pub record Reach (st : State) (p : ℕ) (bs : List ℕ) (s : State) (rest : List ℕ) : Type 0 where
  pub place : ℕ
  pub moves : place + length rest ≡ p + length bs
  pub runs : run st p bs ≡ run s place rest

pub stay : (st : State) (p : ℕ) (bs : List ℕ) → Reach st p bs st bs
stay st p bs = record { place = p; moves = refl; runs = refl }

pub then : {st s r : State} {p : ℕ} {xs bs cs : List ℕ} → Reach st p xs s bs → ((q : ℕ) → Reach s q bs r cs) → Reach st p xs r cs
then x f = record { place = (f x.place).place; moves = (f x.place).moves ∙ x.moves; runs = x.runs ∙ (f x.place).runs }

pub one : (st s : State) (p b : ℕ) (bs : List ℕ) → step st b ≡ go s → Reach st p (b ∷ bs) s bs
unfolding run moved
one st s p b bs h = record { place = suc p; moves = omega arith; runs = rw h }

-- ---- a byte in a relation

module _ (l : Level) (ls : List Level) where
  abbrev pub after_relation : Relation → State
  after_relation r = have (and_after l.product (relation r)) l.sum ls

  pub part_on : (a b : Phase) (p c : ℕ) (bs : List ℕ) → part_of a c ≡ on b → Reach (inside a l ls) p (c ∷ bs) (inside b l ls) bs
  part_on a b p c bs h = one (inside a l ls) (inside b l ls) p c bs (unfold step taken in rw h)

  pub part_whole : (a : Phase) (r : Relation) (p c : ℕ) (bs : List ℕ) → part_of a c ≡ whole r → Reach (inside a l ls) p (c ∷ bs) (after_relation r) bs
  part_whole a r p c bs h = one (inside a l ls) (after_relation r) p c bs (unfold step taken in rw h)

-- ---- blanks

-- a state that blanks leave as it is
abbrev pub Still : State → Type 0
Still st = (b : ℕ) → is_blank b ≡ true → step st b ≡ go st

pub want_still : (l : Level) (ls : List Level) → Still (want l ls)
unfolding step
want_still l ls b h = rw h

pub have_still : (p : Formula) (o : Option Formula) (ls : List Level) → Still (have p o ls)
unfolding step after
have_still p o ls b h = rw h

pub item_still : (id : ℕ) (l : Level) (ls : List Level) → Still (inside (item id) l ls)
unfolding step part_of taken
item_still id l ls b h = rw h

pub constant_still : (id : ℕ) (c : Comparison) (l : Level) (ls : List Level) → Still (inside (constant id c) l ls)
unfolding step part_of taken
constant_still id c l ls b h = rw h

pub over_blanks : (st : State) → Still st → (x : List ℕ) → Blanks x → (p : ℕ) (bs : List ℕ) → Reach st p (x ++ bs) st bs
unfolding every
over_blanks st h [] g p bs = stay st p bs
over_blanks st h (b ∷ x) g p bs =
    then (one st st p b (x ++ bs) (h b (tests.first_true (is_blank b) _ g))) (λ q. over_blanks st h x (tests.second_true (is_blank b) _ g) q bs)

-- ---- around relations

module _ (l : Level) (ls : List Level) where
  pub want_open : length ls < 16 → step (want l ls) 40 ≡ go (want fresh (l ∷ ls))
  unfolding step is_blank
  want_open h = rw (lt-ltb (length ls) 16 h)

  pub want_deep : 16 ≤ length ls → step (want l ls) 40 ≡ halt reason.Deeper
  unfolding step is_blank
  want_deep h = rw (le-ltb (length ls) 16 h)

  pub want_hash : step (want l ls) 35 ≡ go (inside (hash 0 0) l ls)
  unfolding step is_blank
  want_hash = refl

  pub want_name : (b : ℕ) → is_blank b ≡ false → (b ≡ 40 → ⊥) → (b ≡ 35 → ⊥) → step (want l ls) b ≡ taken (part_of (name []) b) l ls b
  unfolding step
  want_name b x y z = rw (x, ne_eqb b 40 y, ne_eqb b 35 z)

module _ (p : Formula) (o : Option Formula) (ls : List Level) where
  pub have_ampersand : step (have p o ls) 38 ≡ go (ampersand p o ls)
  unfolding step after is_blank
  have_ampersand = refl

  pub have_bar : step (have p o ls) 124 ≡ go (bar p o ls)
  unfolding step after is_blank
  have_bar = refl

  pub second_ampersand : step (ampersand p o ls) 38 ≡ go (want (level o (some p)) ls)
  unfolding step
  second_ampersand = refl

  pub second_bar : step (bar p o ls) 124 ≡ go (want (level (some (or_after o p)) none) ls)
  unfolding step
  second_bar = refl

  pub ampersand_other : (b : ℕ) → (b ≡ 38 → ⊥) → step (ampersand p o ls) b ≡ halt reason.Connective
  unfolding step
  ampersand_other b x = rw (ne_eqb b 38 x)

  pub bar_other : (b : ℕ) → (b ≡ 124 → ⊥) → step (bar p o ls) b ≡ halt reason.Connective
  unfolding step
  bar_other b x = rw (ne_eqb b 124 x)

  pub have_other : (b : ℕ) → is_blank b ≡ false → (b ≡ 38 → ⊥) → (b ≡ 124 → ⊥) → (b ≡ 41 → ⊥) → step (have p o ls) b ≡ halt reason.Connective
  unfolding step after
  have_other b x y z w = rw (x, ne_eqb b 38 y, ne_eqb b 124 z, ne_eqb b 41 w)

  pub have_close : (l : Level) → step (have p o (l ∷ ls)) 41 ≡ go (have (and_after l.product (or_after o p)) l.sum ls)
  unfolding step after closed is_blank
  have_close l = refl

pub have_top : (p : Formula) (o : Option Formula) (b : ℕ) → is_blank b ≡ false → (b ≡ 38 → ⊥) → (b ≡ 124 → ⊥) → step (have p o []) b ≡ halt reason.Connective
unfolding step after closed
have_top p o b x y z = rw (x, ne_eqb b 38 y, ne_eqb b 124 z) (by (eqb b 41))
  where
    by : (t : Bool) → cond t (halt reason.Connective) (halt reason.Connective) ≡ halt reason.Connective
    by true = refl
    by false = refl

-- ---- in a relation

module _ (id : ℕ) (c : Comparison) where
  pub wants_digit : (b : ℕ) → digit b ≡ true → part_of (constant id c) b ≡ on (digits id c (b - 48))
  unfolding part_of wanted
  wants_digit b h = rw (tests.not_blank b (omega (arith, tests.digit_least b h)), h)

  pub wants_string : is_equality c ≡ true → part_of (constant id c) 34 ≡ on (string id c [])
  unfolding part_of wanted is_blank digit
  wants_string h = rw h

  pub digit_more : (v b : ℕ) → digit b ≡ true → 10 * v + (b - 48) ≤ 4294967295 → part_of (digits id c v) b ≡ on (digits id c (10 * v + (b - 48)))
  unfolding part_of
  digit_more v b h i = rw (h, le-leb (10 * v + (b - 48)) 4294967295 i)

  pub digit_large : (v b : ℕ) → digit b ≡ true → 4294967295 < 10 * v + (b - 48) → part_of (digits id c v) b ≡ stop reason.Large
  unfolding part_of
  digit_large v b h i = rw (h, lt-leb (10 * v + (b - 48)) 4294967295 i)

  pub digits_colon : (v : ℕ) → part_of (digits id c v) 58 ≡ on (colon id c v)
  unfolding part_of digit
  digits_colon v = refl

  pub digits_past : (v b : ℕ) → digit b ≡ false → (b ≡ 58 → ⊥) → part_of (digits id c v) b ≡ past (number_relation id c (width_of id v) v)
  unfolding part_of
  digits_past v b h i = rw (h, ne_eqb b 58 i)

  pub colon_width : (v b : ℕ) → is_width b v ≡ true → part_of (colon id c v) b ≡ whole (number_relation id c (b - 48) v)
  unfolding part_of
  colon_width v b h = rw h

  pub string_end : (bytes : List ℕ) → part_of (string id c bytes) 34 ≡ whole (text_relation id c bytes)
  unfolding part_of
  string_end bytes = refl

  pub string_escape : (bytes : List ℕ) → length bytes < 255 → part_of (string id c bytes) 92 ≡ on (escape id c bytes)
  unfolding part_of
  string_escape bytes h = rw (lt-ltb (length bytes) 255 h)

  pub string_plain : (bytes : List ℕ) (b : ℕ) → (b ≡ 34 → ⊥) → (b ≡ 92 → ⊥) → is_printed b ≡ true → part_of (string id c bytes) b ≡ added id c bytes b
  unfolding part_of
  string_plain bytes b x y h = rw (ne_eqb b 34 x, ne_eqb b 92 y, h)

  -- a byte that keeps the limits is added
  pub adds : (bytes : List ℕ) (b : ℕ) → length bytes < 255 → stars_in (bytes ++ b ∷ []) ≤ 4 → added id c bytes b ≡ on (string id c (bytes ++ b ∷ []))
  unfolding added
  adds bytes b h i = rw (lt-ltb (length bytes) 255 h, no_star (eqb b 42) refl)
    where
      no_star : (t : Bool) → eqb b 42 ≡ t → cond t (leb 4 (stars_in bytes)) false ≡ false
      no_star false e = refl
      no_star true e =
          let z : stars_in (b ∷ []) ≡ 1 = unfold stars_in in rw e in
          lt-leb 4 (stars_in bytes) (omega (arith, stars_append bytes (b ∷ [])))

-- a digit, ":" and the like do not follow: then digits are a whole number
abbrev pub Closes : List ℕ → Type 0
Closes bs = (digit (get_or bs 0 0) ≡ false) × (get_or bs 0 0 ≡ 58 → ⊥)

module _ (id : ℕ) (c : Comparison) (l : Level) (ls : List Level) where
  pub number_ends : (v p : ℕ) (bs : List ℕ) → Closes bs → run (inside (digits id c v) l ls) p bs ≡ run
      (after_relation l ls (number_relation id c (width_of id v) v)) p bs
  unfolding run ending ended_in part_of digit
  number_ends v p [] h = refl
  number_ends v p (b ∷ bs) h = unfold step taken in rw (digits_past id c v b h.0 h.1)

  -- "<" or ">" that "=" does not follow is an operator
  pub order_ends : (p : ℕ) (bs : List ℕ) → (get_or bs 0 0 ≡ 61 → ⊥) → run (inside (order id c) l ls) p bs ≡ run (inside (constant id c) l ls) p bs
  unfolding run ending part_of step
  order_ends p [] h = refl
  order_ends p (b ∷ bs) h = rw (ne_eqb b 61 h)
