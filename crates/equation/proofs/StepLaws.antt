-- Laws on the steps of an equation: from token to token, that they are its symbols, and what the code that lists them keeps. Assumes nothing.
use mathlib.Core.Path.{◌≡◌, refl, sym, ap, ap₂, ◌∙◌}
use mathlib.Core.Bool.{Bool, true, false, cond}
use mathlib.Core.List.{List, [], ◌∷◌}
use Prim.Native.Nat.{ℕ, zero, suc, ◌+◌, ◌-◌, ◌*◌, ◌≤◌, ◌<◌}
use native.Mathlib.Omega.{arith}
use native.Mathlib.Numerals.{add-one}
use lib.Dec.{leb, ltb}
use lib.ListN.{length, get_or, set, take, drop, length-set, length-drop, drop_of_length-le}
use lib.Seq.{sets, drop-drop, get_or-drop, take_all, take-nil}
use borrow.Author.Tests.{lt-ltb}
use Rattle.numbers.specs.Numbers.{number}
use Rattle.equation.specs.Holds.{Relation, relation_of}
use Rattle.equation.specs.Symbols.{good, connective_of, relation_at, token_of, Symbol, rel, and, or, follow, symbols_past, symbols, relations}
use Rattle.equation.specs.Marks.{relations_of}
use Rattle.equation.specs.Parsed.{relation_from, symbol_at, symbols_by, relations_by, step_then, steps_past, steps_of}
use Rattle.equation.specs.declared.tokens.Token.{Token}
use Rattle.equation.specs.declared.tokens.Token.TheVariants.{Bad, End, And, Or, Rel}
use Rattle.equation.proofs.TokenLaws.{no_relation, relation_within, more_within}
use Rattle.equation.proofs.SymbolLaws.{join_token, join_within}

-- ---- the relation at a place, as the code reads it

pub relation_id : (eq : List ℕ) (at a b r : ℕ) → a ≡ get_or eq (at + 1) 0 → b ≡ get_or eq (at + 2) 0 → r ≡ number (a ∷ b ∷ []) → r ≡ (relation_from eq at).id
unfolding number
relation_id eq at a b r p q e = omega arith

-- the constant: none, all that is left, or as many bytes as are said
module _ (eq : List ℕ) (at n : ℕ) where
  pub constant_none : length eq < at + 4 → [] ≡ take n (drop (at + 4) eq)
  constant_none h = rw (drop_of_length-le eq {i = at + 4} (omega arith)) (sym (take-nil n))

  pub constant_left : length eq - (at + 4) < n → take (length eq - (at + 4)) (drop (at + 4) eq) ≡ take n (drop (at + 4) eq)
  constant_left h =
      let l = length-drop (at + 4) eq in
      take_all (length eq - (at + 4)) (drop (at + 4) eq) (omega arith) ∙ sym (take_all n (drop (at + 4) eq) (omega arith))

  pub constant_whole : take (at + 4 + n - (at + 4)) (drop (at + 4) eq) ≡ take n (drop (at + 4) eq)
  constant_whole = let d : at + 4 + n - (at + 4) ≡ n = omega arith in rw d

-- ---- the steps are the symbols

-- a relation's token says what stands there
relation_told : (ys : List ℕ) (c i n : ℕ) → token_of ys ≡ Rel c i n → relation_from ys 0 ≡ relation_of c i (take n (drop 4 ys))
unfolding token_of relation_at
relation_told [] c i n e = let w : ◌≡◌ {A = ℕ} 0 1 = cc in absurd (omega arith)
relation_told (x ∷ bs) c i n e = go (ltb x 128) bs e
  where
    high : (a b m : ℕ) (bs : List ℕ) (p q : Bool)
        → cond p (cond q (Rel x (a + 256 * b) m) Bad) Bad ≡ Rel c i n
        → relation_of x (a + 256 * b) (take m bs) ≡ relation_of c i (take n bs)
    high a b m bs false q e = let w : ◌≡◌ {A = ℕ} 0 1 = cc in absurd (omega arith)
    high a b m bs true false e = let w : ◌≡◌ {A = ℕ} 0 1 = cc in absurd (omega arith)
    high a b m bs true true e =
        let p : x ≡ c = cc in
        let q : a + 256 * b ≡ i = cc in
        let r : m ≡ n = cc in
        rw (p, q, r)

    go : (t : Bool) (bs : List ℕ)
        → cond t (connective_of x (length bs)) (relation_at x bs) ≡ Rel c i n
        → relation_from (x ∷ bs) 0 ≡ relation_of c i (take n (drop 4 (x ∷ bs)))
    go true bs e = let w = no_relation x (length bs) c i n e in absurd (omega arith)
    go false [] e = let w : ◌≡◌ {A = ℕ} 0 1 = cc in absurd (omega arith)
    go false (a ∷ []) e = let w : ◌≡◌ {A = ℕ} 0 1 = cc in absurd (omega arith)
    go false (a ∷ b ∷ []) e = let w : ◌≡◌ {A = ℕ} 0 1 = cc in absurd (omega arith)
    go false (a ∷ b ∷ m ∷ bs) e = high a b m bs (leb m (length bs)) (good x (take m bs)) e

relation_here : (eq : List ℕ) (at : ℕ) → relation_from eq at ≡ relation_from (drop at eq) 0
relation_here eq at =
    let z : at + 0 ≡ at = omega arith in
    rw (get_or-drop at eq 0 0, get_or-drop at eq 1 0, get_or-drop at eq 2 0, get_or-drop at eq 3 0, drop-drop 4 at eq, z)

module _ (eq : List ℕ) where
  by_token : (at c : ℕ) (bs : List ℕ)
      → drop at eq ≡ c ∷ bs
      → at < 2048
      → ((n : ℕ) → symbols_by eq (steps_past n (suc at) bs) ≡ symbols_past n bs)
      → (t : Token)
      → token_of (c ∷ bs) ≡ t
      → symbols_by eq (step_then t at (λ n. steps_past n (suc at) bs)) ≡ follow t (c ∷ bs) (λ n. symbols_past n bs)
  unfolding step_then follow symbol_at
  by_token at c bs d h ih Bad e = refl
  by_token at c bs d h ih End e = refl
  by_token at c bs d h ih And e = ap (λ (l : List Symbol). and ∷ l) (ih 0)
  by_token at c bs d h ih Or e = ap (λ (l : List Symbol). or ∷ l) (ih 0)
  by_token at c bs d h ih (Rel f i n) e =
      let r : relation_from eq at ≡ relation_of f i (take n (drop 4 (c ∷ bs))) =
      relation_here eq at ∙ ap (λ (l : List ℕ). relation_from l 0) d ∙ relation_told (c ∷ bs) f i n e in
      rw (lt-ltb at 2048 h) (ap₂ (λ (x : Relation) (l : List Symbol). rel x ∷ l) r (ih (3 + n)))

  further : (at c : ℕ) (bs : List ℕ) → drop at eq ≡ c ∷ bs → drop (suc at) eq ≡ bs
  further at c bs d = rw (← add-one at) (sym (drop-drop 1 at eq) ∙ ap (λ (l : List ℕ). drop 1 l) d)

  by_past : (n at : ℕ) (bs : List ℕ) → drop at eq ≡ bs → at + length bs ≤ 2048 → symbols_by eq (steps_past n at bs) ≡ symbols_past n bs
  unfolding steps_past symbols_past
  by_past n at [] d h = refl
  by_past (suc n) at (c ∷ bs) d h = by_past n (suc at) bs (further at c bs d) (omega arith)
  by_past zero at (c ∷ bs) d h =
      by_token at c bs d (omega arith) (λ n. by_past n (suc at) bs (further at c bs d) (omega arith)) (token_of (c ∷ bs)) refl

  -- THE LAW of steps: they give the equation's symbols, and so its relations
  pub symbols_by_law : length eq ≤ 2047 → symbols_by eq (steps_of eq) ≡ symbols eq
  symbols_by_law h = by_past 0 0 eq refl (omega arith)

  pub relations_by_law : length eq ≤ 2047 → relations_by eq (steps_of eq) ≡ relations_of eq
  relations_by_law h = ap relations (symbols_by_law h)

-- ---- a step takes a byte or more

few_then : (c at : ℕ) (bs : List ℕ)
    → ((n : ℕ) → length (steps_past n (suc at) bs) ≤ length bs - n)
    → (t : Token)
    → length (step_then t at (λ n. steps_past n (suc at) bs)) ≤ suc (length bs)
unfolding step_then
few_then c at bs ih Bad = omega arith
few_then c at bs ih End = omega arith
few_then c at bs ih And = omega (arith, ih 0)
few_then c at bs ih Or = omega (arith, ih 0)
few_then c at bs ih (Rel d i n) = omega (arith, ih (3 + n))

few_past : (n at : ℕ) (bs : List ℕ) → length (steps_past n at bs) ≤ length bs - n
unfolding steps_past
few_past n at [] = omega arith
few_past (suc n) at (c ∷ bs) = omega (arith, few_past n (suc at) bs)
few_past zero at (c ∷ bs) = omega (arith, few_then c at bs (λ n. few_past n (suc at) bs) (token_of (c ∷ bs)))

pub few_steps : (eq : List ℕ) → length (steps_of eq) ≤ length eq
few_steps eq = omega (arith, few_past 0 0 eq)

-- ---- the steps from a place on

abbrev pub steps_from : List ℕ → ℕ → List ℕ
steps_from eq at = steps_past 0 at (drop at eq)

steps_skip : (n at : ℕ) (bs : List ℕ) → steps_past n at bs ≡ steps_past 0 (at + n) (drop n bs)
unfolding steps_past
steps_skip zero at bs = let z : at + 0 ≡ at = omega arith in rw z
steps_skip (suc n) at [] = refl
steps_skip (suc n) at (b ∷ bs) = let z : at + suc n ≡ suc at + n = omega arith in rw z (steps_skip n (suc at) bs)

at_token : (at : ℕ) (ys : List ℕ) (t : Token) → token_of ys ≡ t → steps_past 0 at ys ≡ step_then t at (λ n. steps_past n (suc at) (drop 1 ys))
unfolding steps_past
at_token at [] t e = rw (← e) (unfold token_of step_then in refl)
at_token at (c ∷ bs) t e = rw e

abbrev pub join_step : Bool → ℕ
join_step all = cond all 2048 2049

module _ (eq : List ℕ) (at : ℕ) where
  steps_bad : token_of (drop at eq) ≡ Bad → steps_from eq at ≡ 2050 ∷ []
  unfolding step_then
  steps_bad e = at_token at (drop at eq) Bad e

  steps_end : token_of (drop at eq) ≡ End → steps_from eq at ≡ []
  unfolding step_then
  steps_end e = at_token at (drop at eq) End e

  after : (n : ℕ) → steps_past n (suc at) (drop 1 (drop at eq)) ≡ steps_from eq (at + 1 + n)
  after n =
      let q : suc at + n ≡ at + 1 + n = omega arith in
      steps_skip n (suc at) (drop 1 (drop at eq))
      ∙ ap₂ (λ (j : ℕ) (l : List ℕ). steps_past 0 j l) q (ap (drop n) (drop-drop 1 at eq) ∙ drop-drop n (at + 1) eq)

  steps_join : (all : Bool) → token_of (drop at eq) ≡ join_token all → steps_from eq at ≡ join_step all ∷ steps_from eq (at + 1)
  unfolding step_then
  steps_join true e =
      let q : at + 1 + 0 ≡ at + 1 = omega arith in
      at_token at (drop at eq) And e ∙ ap (λ (l : List ℕ). 2048 ∷ l) (after 0 ∙ ap (steps_from eq) q)
  steps_join false e =
      let q : at + 1 + 0 ≡ at + 1 = omega arith in
      at_token at (drop at eq) Or e ∙ ap (λ (l : List ℕ). 2049 ∷ l) (after 0 ∙ ap (steps_from eq) q)

  steps_rel : (c i n : ℕ) → token_of (drop at eq) ≡ Rel c i n → steps_from eq at ≡ at ∷ steps_from eq (at + 4 + n)
  unfolding step_then
  steps_rel c i n e =
      let q : at + 1 + (3 + n) ≡ at + 4 + n = omega arith in
      at_token at (drop at eq) (Rel c i n) e ∙ ap (λ (l : List ℕ). at ∷ l) (after (3 + n) ∙ ap (steps_from eq) q)

-- ---- the loop that lists the steps

-- its invariant: the token at `at` is next, and n steps are written
pub record Listing (eq start steps : List ℕ) (at n : ℕ) : Type 0 where
  pub in_equation : at ≤ length eq
  pub few : n ≤ at
  pub short : length eq ≤ 2047
  pub room : length eq ≤ length steps
  pub sized : length steps ≡ length start
  pub counted : n + length (steps_from eq at) ≡ length (steps_of eq)
  pub stored : sets steps n (steps_from eq at) ≡ sets start 0 (steps_of eq)

pub list_start : (eq start : List ℕ) → length eq ≤ 2047 → length eq ≤ length start → Listing eq start start 0 0
list_start eq start h r =
    record { in_equation = omega arith; few = omega arith; short = h; room = r; sized = refl; counted = omega arith; stored = refl }

-- all steps are written
pub record Listed (eq start steps : List ℕ) (n : ℕ) : Type 0 where
  pub sized : length steps ≡ length start
  pub counted : n ≡ length (steps_of eq)
  pub stored : steps ≡ sets start 0 (steps_of eq)

module _ (eq start steps : List ℕ) (at n : ℕ) (h : Listing eq start steps at n) where
  pub list_end : token_of (drop at eq) ≡ End → Listed eq start steps n
  list_end e =
      let q = steps_end eq at e in
      record { sized = h.sized; counted = omega (arith, ap length q, h.counted); stored = sym (ap (sets steps n) q) ∙ h.stored }

  -- one step more
  listed : (s : ℕ) (at' : ℕ) → steps_from eq at ≡ s ∷ steps_from eq at' → at + 1 ≤ at' → at' ≤ length eq → Listing eq start (set steps n s) at' (n + 1)
  listed s at' q l r =
      record {
        in_equation = r;
        few = omega (arith, h.few);
        short = h.short;
        room = rw (length-set steps n s) h.room;
        sized = length-set steps n s ∙ h.sized;
        counted = omega (arith, ap length q, h.counted);
        stored = ap (λ (k : ℕ). sets (set steps n s) k (steps_from eq at')) (add-one n) ∙ sym (ap (sets steps n) q) ∙ h.stored;
      }

  pub list_bad : token_of (drop at eq) ≡ Bad → Listed eq start (set steps n 2050) (n + 1)
  list_bad e =
      let q = steps_bad eq at e in
      record {
        sized = length-set steps n 2050 ∙ h.sized;
        counted = omega (arith, ap length q, h.counted);
        stored = sym (ap (sets steps n) q) ∙ h.stored;
      }

  -- a token that is no end is a byte of the equation, and its step has room
  pub list_in : (token_of (drop at eq) ≡ End → ⊥) → n < length steps
  list_in e = omega (arith, more_within eq at e, h.few, h.room)

  pub list_join : (all : Bool) → token_of (drop at eq) ≡ join_token all → Listing eq start (set steps n (join_step all)) (at + 1) (n + 1)
  list_join all e = listed (join_step all) (at + 1) (steps_join eq at all e) (omega arith) (join_within eq at all e)

  pub list_rel : (c i m : ℕ) → token_of (drop at eq) ≡ Rel c i m → Listing eq start (set steps n at) (at + 4 + m) (n + 1)
  list_rel c i m e = listed at (at + 4 + m) (steps_rel eq at c i m e) (omega arith) (relation_within eq at c i m h.in_equation e)
