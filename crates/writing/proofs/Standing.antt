-- The relations that an equation's steps name stand whole in it. Assumes nothing.
use mathlib.Core.Path.{◌≡◌, refl, sym, ap, ◌∙◌}
use mathlib.Core.Bool.{Bool, true, false, cond}
use mathlib.Core.List.{List, [], ◌∷◌}
use Prim.Native.Nat.{ℕ, zero, suc, ◌+◌, ◌*◌, ◌<◌}
use native.Mathlib.Omega.{arith}
use lib.Dec.{ltb, leb}
use lib.ListN.{length, get_or, take, drop, length-drop}
use lib.Seq.{drop-drop, get_or-drop}
use borrow.Author.Tests.{leb-true}
use Rattle.equation.specs.Symbols.{good, connective_of, relation_at, token_of}
use Rattle.equation.specs.Parsed.{step_then, steps_past, steps_of}
use Rattle.equation.specs.declared.tokens.Token.{Token}
use Rattle.equation.specs.declared.tokens.Token.TheVariants.{Bad, End, And, Or, Rel}
use Rattle.equation.proofs.TokenLaws.{no_relation}
use Rattle.writing.specs.Places.{Stands, AllStand}

stands_front : (ys : List ℕ) (c i m : ℕ) → token_of ys ≡ Rel c i m → Stands ys 0
unfolding token_of relation_at
stands_front [] c i m e = let w : ◌≡◌ {A = ℕ} 0 1 = cc in absurd (omega arith)
stands_front (x ∷ bs) c i m e = go (ltb x 128) bs e
  where
    rest : (a b n : ℕ) (bs : List ℕ) (p q : Bool) → leb n (length bs) ≡ p → good x (take n bs) ≡ q → cond p (cond q (Rel x (a + 256 * b) n) Bad) Bad ≡ Rel c i m
        → Stands (x ∷ a ∷ b ∷ n ∷ bs) 0
    rest a b n bs false q l g e = let w : ◌≡◌ {A = ℕ} 0 1 = cc in absurd (omega arith)
    rest a b n bs true false l g e = let w : ◌≡◌ {A = ℕ} 0 1 = cc in absurd (omega arith)
    rest a b n bs true true l g e = record { within = omega (arith, leb-true n (length bs) l); good = g }

    go : (t : Bool) (bs : List ℕ) → cond t (connective_of x (length bs)) (relation_at x bs) ≡ Rel c i m → Stands (x ∷ bs) 0
    go true bs e = let w = no_relation x (length bs) c i m e in absurd (omega arith)
    go false [] e = let w : ◌≡◌ {A = ℕ} 0 1 = cc in absurd (omega arith)
    go false (a ∷ []) e = let w : ◌≡◌ {A = ℕ} 0 1 = cc in absurd (omega arith)
    go false (a ∷ b ∷ []) e = let w : ◌≡◌ {A = ℕ} 0 1 = cc in absurd (omega arith)
    go false (a ∷ b ∷ n ∷ bs) e = rest a b n bs (leb n (length bs)) (good x (take n bs)) refl refl e

stands_at : (eq : List ℕ) (at : ℕ) → Stands (drop at eq) 0 → Stands eq at
stands_at eq at s =
    let z : at + 0 ≡ at = omega arith in
    let n : get_or (drop at eq) 3 0 ≡ get_or eq (at + 3) 0 = get_or-drop at eq 3 0 in
    let c : get_or (drop at eq) 0 0 ≡ get_or eq at 0 = get_or-drop at eq 0 0 ∙ ap (λ (k : ℕ). get_or eq k 0) z in
    record {
      within = omega (arith, s.within, length-drop at eq, n);
      good = rw (← c, ← n, ← drop-drop 4 at eq) s.good;
    }

AllIn : List ℕ → List ℕ → Type 0
AllIn eq [] = Unit {0}
AllIn eq (s ∷ ss) = (s < 2048 → Stands eq s) × AllIn eq ss

all_in : (eq ss : List ℕ) → AllIn eq ss → AllStand eq ss
unfolding AllIn
all_in eq [] h i l b = absurd (omega arith)
all_in eq (s ∷ ss) h zero l b = h.0 b
all_in eq (s ∷ ss) h (suc i) l b = all_in eq ss h.1 i (omega arith) b

module _ (eq : List ℕ) where
  further : (at c : ℕ) (bs : List ℕ) → drop at eq ≡ c ∷ bs → drop (suc at) eq ≡ bs
  further at c bs d = let z : at + 1 ≡ suc at = omega arith in rw (← z) (sym (drop-drop 1 at eq) ∙ ap (λ (l : List ℕ). drop 1 l) d)

  by_token : (at c : ℕ) (bs : List ℕ) → drop at eq ≡ c ∷ bs → ((n : ℕ) → AllIn eq (steps_past n (suc at) bs)) → (t : Token) → token_of (c ∷ bs) ≡ t
      → AllIn eq (step_then t at (λ n. steps_past n (suc at) bs))
  unfolding step_then AllIn
  by_token at c bs d ih Bad e = (λ z. absurd (omega arith), tt)
  by_token at c bs d ih End e = tt
  by_token at c bs d ih And e = (λ z. absurd (omega arith), ih 0)
  by_token at c bs d ih Or e = (λ z. absurd (omega arith), ih 0)
  by_token at c bs d ih (Rel f i n) e = (λ z. stands_at eq at (rw d (stands_front (c ∷ bs) f i n e)), ih (3 + n))

  past_in : (n at : ℕ) (bs : List ℕ) → drop at eq ≡ bs → AllIn eq (steps_past n at bs)
  unfolding steps_past AllIn
  past_in n at [] d = tt
  past_in (suc n) at (c ∷ bs) d = past_in n (suc at) bs (further at c bs d)
  past_in zero at (c ∷ bs) d = by_token at c bs d (λ n. past_in n (suc at) bs (further at c bs d)) (token_of (c ∷ bs)) refl

  pub steps_stand : AllStand eq (steps_of eq)
  steps_stand = all_in eq (steps_of eq) (past_in 0 0 eq refl)
