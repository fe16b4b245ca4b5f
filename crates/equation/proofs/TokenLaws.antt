-- Laws on the tokens of an equation: by their places, for the code that reads them, and what a token says of the bytes. Assumes nothing.
use mathlib.Core.Path.{◌≡◌, refl, sym, ◌∙◌}
use mathlib.Core.Bool.{Bool, true, false, cond}
use mathlib.Core.List.{List, [], ◌∷◌}
use Prim.Native.Nat.{ℕ, suc, ◌+◌, ◌-◌, ◌*◌, ◌≤◌, ◌<◌}
use native.Mathlib.Omega.{arith}
use native.Mathlib.Numerals.{add-one}
use Rattle.std.proofs.Common.{◌==◌}
use Rattle.std.specs.List.{count_by}
use Rattle.std.proofs.lemmas.List.Recursion.{is_count_by}
use lib.Dec.{eqb, leb, ltb}
use lib.ListN.{length, get_or, take, drop, length-drop, drop_of_length-le}
use lib.Seq.{drop-cons}
use borrow.Author.Tests.{ltb-true, ltb-false, leb-true, lt-leb, le-leb}
use Rattle.numbers.specs.Numbers.{number}
use Rattle.equation.specs.Symbols.{stars_in, good, connective_of, relation_at, token_of}
use Rattle.equation.specs.declared.tokens.Token.TheVariants.{Bad, End, And, Or, Rel}

-- the stars, as the code counts them
pub stars_counted : (s : List ℕ) → count_by (λ b. b == 42) s ≡ stars_in s
unfolding stars_in
stars_counted s = sym (is_count_by stars_in (λ b. b == 42) refl (λ b bs. let e : suc (stars_in bs) ≡ 1 + stars_in bs = omega arith in rw e) s)

-- ---- a relation by places

few_left : (c : ℕ) (ys : List ℕ) → length ys < 3 → relation_at c ys ≡ Bad
unfolding relation_at
few_left c [] h = refl
few_left c (a ∷ []) h = refl
few_left c (a ∷ b ∷ []) h = refl
few_left c (a ∷ b ∷ n ∷ bs) h = let z : ⊥ = omega arith in absurd z

pub relation_short : (xs : List ℕ) (at c : ℕ) → length xs - at < 4 → Bad ≡ relation_at c (drop (at + 1) xs)
relation_short xs at c h = sym (few_left c (drop (at + 1) xs) (omega (arith, length-drop (at + 1) xs)))

module _ (xs : List ℕ) (at c id : ℕ) (h : at + 4 ≤ length xs) (i : id ≡ number (get_or xs (at + 1) 0 ∷ get_or xs (at + 2) 0 ∷ [])) where
  relation_at_law : relation_at c (drop (at + 1) xs)
      ≡ cond (leb (get_or xs (at + 3) 0) (length xs - (at + 4)))
      (cond (good c (take (at + 4 + get_or xs (at + 3) 0 - (at + 4)) (drop (at + 4) xs))) (Rel c id (get_or xs (at + 3) 0)) Bad)
      Bad
  unfolding relation_at number
  relation_at_law =
      let s : id ≡ get_or xs (at + 1) 0 + 256 * get_or xs (at + 2) 0 = omega arith in
      let a1 : at + 1 ≡ suc at = omega arith in
      let a2 : at + 2 ≡ suc (suc at) = omega arith in
      let a3 : at + 3 ≡ suc (suc (suc at)) = omega arith in
      let a4 : at + 4 ≡ suc (suc (suc (suc at))) = omega arith in
      let l : length xs - suc (suc (suc (suc at))) ≡ length (drop (suc (suc (suc (suc at)))) xs) = sym (length-drop (suc (suc (suc (suc at)))) xs) in
      let t : suc (suc (suc (suc at))) + get_or xs (suc (suc (suc at))) 0 - suc (suc (suc (suc at))) ≡ get_or xs (suc (suc (suc at))) 0 = omega arith in
      rw (s, a1, a2, a3, a4, l, t, drop-cons xs (suc at) 0 (omega arith), drop-cons xs (suc (suc at)) 0 (omega arith), drop-cons xs (suc (suc (suc at))) 0 (omega arith))

  pub relation_over : length xs - (at + 4) < get_or xs (at + 3) 0 → Bad ≡ relation_at c (drop (at + 1) xs)
  relation_over f = sym (relation_at_law ∙ simp (lt-leb _ _ f))

  module _ (f : get_or xs (at + 3) 0 ≤ length xs - (at + 4)) where
    pub relation_good : good c (take (at + 4 + get_or xs (at + 3) 0 - (at + 4)) (drop (at + 4) xs)) ≡ true
        → Rel c id (get_or xs (at + 3) 0) ≡ relation_at c (drop (at + 1) xs)
    relation_good g = sym (relation_at_law ∙ simp (le-leb _ _ f, g))

    pub relation_bad : good c (take (at + 4 + get_or xs (at + 3) 0 - (at + 4)) (drop (at + 4) xs)) ≡ false → Bad ≡ relation_at c (drop (at + 1) xs)
    relation_bad g = sym (relation_at_law ∙ simp (le-leb _ _ f, g))

-- ---- a token by its place

pub token_end : (xs : List ℕ) (at : ℕ) → length xs ≤ at → End ≡ token_of (drop at xs)
unfolding token_of
token_end xs at h = rw (drop_of_length-le xs {i = at} (omega arith))

pub token_at : (xs : List ℕ) (at : ℕ)
    → at < length xs
    → token_of (drop at xs)
    ≡ cond (ltb (get_or xs at 0) 128) (connective_of (get_or xs at 0) (length xs - at - 1)) (relation_at (get_or xs at 0) (drop (at + 1) xs))
unfolding token_of
token_at xs at h =
    let l : length xs - at - 1 ≡ length (drop (suc at) xs) = omega (arith, length-drop (suc at) xs) in
    rw (l, add-one at, drop-cons xs at 0 h)

-- ---- what a token says of the bytes

-- a byte with bit 7 clear is no relation
pub no_relation : (c left d i m : ℕ) → connective_of c left ≡ Rel d i m → ◌≡◌ {A = ℕ} 0 1
unfolding connective_of
no_relation c left d i m e = go (eqb c 1) (eqb c 2) (eqb c 0) (eqb left 0) e
  where
    go : (p q r s : Bool) → cond p And (cond q Or (cond r (cond s End Bad) Bad)) ≡ Rel d i m → ◌≡◌ {A = ℕ} 0 1
    go true q r s e = cc
    go false true r s e = cc
    go false false true true e = cc
    go false false true false e = cc
    go false false false s e = cc

-- a relation lies within the bytes
pub relation_fits : (ys : List ℕ) (c i n : ℕ) → token_of ys ≡ Rel c i n → 4 + n ≤ length ys
unfolding token_of relation_at
relation_fits [] c i n e = let w : ◌≡◌ {A = ℕ} 0 1 = cc in omega arith
relation_fits (x ∷ bs) c i n e = go (ltb x 128) bs e
  where
    high : (a b m : ℕ) (bs : List ℕ) (p q : Bool)
        → leb m (length bs) ≡ p
        → cond p (cond q (Rel x (a + 256 * b) m) Bad) Bad ≡ Rel c i n
        → 4 + n ≤ suc (suc (suc (suc (length bs))))
    high a b m bs false q l e = let w : ◌≡◌ {A = ℕ} 0 1 = cc in omega arith
    high a b m bs true false l e = let w : ◌≡◌ {A = ℕ} 0 1 = cc in omega arith
    high a b m bs true true l e = let p : m ≡ n = cc in omega (arith, leb-true m (length bs) l)

    go : (t : Bool) (bs : List ℕ) → cond t (connective_of x (length bs)) (relation_at x bs) ≡ Rel c i n → 4 + n ≤ suc (length bs)
    go true bs e = let w = no_relation x (length bs) c i n e in omega arith
    go false [] e = let w : ◌≡◌ {A = ℕ} 0 1 = cc in omega arith
    go false (a ∷ []) e = let w : ◌≡◌ {A = ℕ} 0 1 = cc in omega arith
    go false (a ∷ b ∷ []) e = let w : ◌≡◌ {A = ℕ} 0 1 = cc in omega arith
    go false (a ∷ b ∷ m ∷ bs) e = high a b m bs (leb m (length bs)) (good x (take m bs)) refl e

pub relation_within : (eq : List ℕ) (at c i n : ℕ) → at ≤ length eq → token_of (drop at eq) ≡ Rel c i n → at + 4 + n ≤ length eq
relation_within eq at c i n h e = omega (arith, length-drop at eq, relation_fits (drop at eq) c i n e)

-- a token that is no end has a byte
pub more_within : (eq : List ℕ) (at : ℕ) → (token_of (drop at eq) ≡ End → ⊥) → at + 1 ≤ length eq
more_within eq at h = go (ltb at (length eq)) refl
  where
    go : (x : Bool) → ltb at (length eq) ≡ x → at + 1 ≤ length eq
    go true e = omega (arith, ltb-true at (length eq) e)
    go false e = absurd (h (sym (token_end eq at (omega (arith, ltb-false at (length eq) e)))))
