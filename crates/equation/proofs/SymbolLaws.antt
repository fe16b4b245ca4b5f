-- Laws on the symbols of an equation. Assumes nothing.
use mathlib.Core.Path.{◌≡◌, refl, sym, ◌∙◌}
use mathlib.Core.Bool.{Bool, true, false, cond}
use mathlib.Core.List.{List, [], ◌∷◌}
use Prim.Native.Nat.{ℕ, zero, suc, ◌+◌, ◌-◌, ◌*◌, ◌≤◌}
use native.Mathlib.Omega.{arith}
use lib.Dec.{ltb}
use lib.ListN.{length, drop}
use Rattle.equation.specs.Symbols.{connective_of, relation_at, token_of, token_number, Symbol, and, or, bad, follow, symbols_past, symbols, relations}
use Rattle.equation.specs.declared.tokens.Token.{Token}
use Rattle.equation.specs.declared.tokens.Token.TheVariants.{Bad, End, And, Or, Rel}
use Rattle.equation.proofs.TokenLaws.{relation_fits, more_within}

-- what has the number of a refusal is the last symbol, and a bad one
pub refused_token : (bs : List ℕ) → token_number (token_of bs) ≡ 8 → symbols bs ≡ bad ∷ []
unfolding token_of symbols_past follow
refused_token [] q = absurd (omega (arith, q))
refused_token (c ∷ bs) q = go (cond (ltb c 128) (connective_of c (length bs)) (relation_at c bs)) q
  where
    go : (t : Token) → token_number t ≡ 8 → follow t (c ∷ bs) (λ n. symbols_past n bs) ≡ bad ∷ []
    go Bad q = unfold follow in refl
    go End q = absurd (omega (arith, q))
    go And q = absurd (omega (arith, q))
    go Or q = absurd (omega (arith, q))
    go (Rel d i n) q = absurd (omega (arith, q))

-- AND or OR
abbrev pub join_token : Bool → Token
join_token all = cond all And Or

abbrev pub join_symbol : Bool → Symbol
join_symbol all = cond all and or

-- AND and OR take a byte
pub join_within : (eq : List ℕ) (at : ℕ) (all : Bool) → token_of (drop at eq) ≡ join_token all → at + 1 ≤ length eq
join_within eq at all e = more_within eq at (λ f. no_end all (sym e ∙ f))
  where
    no_end : (all : Bool) → join_token all ≡ End → ⊥
    no_end true f = let z : ◌≡◌ {A = ℕ} 0 1 = cc in omega arith
    no_end false f = let z : ◌≡◌ {A = ℕ} 0 1 = cc in omega arith

-- ---- a relation takes four bytes or more

by_token : (c : ℕ) (bs : List ℕ)
    → ((n : ℕ) → 4 * length (relations (symbols_past n bs)) ≤ length bs - n)
    → (t : Token)
    → token_of (c ∷ bs) ≡ t
    → 4 * length (relations (follow t (c ∷ bs) (λ n. symbols_past n bs))) ≤ suc (length bs)
unfolding follow relations
by_token c bs ih Bad e = omega arith
by_token c bs ih End e = omega arith
by_token c bs ih And e = omega (arith, ih 0)
by_token c bs ih Or e = omega (arith, ih 0)
by_token c bs ih (Rel d i n) e = omega (arith, ih (3 + n), relation_fits (c ∷ bs) d i n e)

few_past : (n : ℕ) (bs : List ℕ) → 4 * length (relations (symbols_past n bs)) ≤ length bs - n
unfolding symbols_past relations
few_past n [] = omega arith
few_past (suc n) (c ∷ bs) = omega (arith, few_past n bs)
few_past zero (c ∷ bs) = omega (arith, by_token c bs (λ n. few_past n bs) (token_of (c ∷ bs)) refl)

-- an equation of b bytes has at most b / 4 relations: 64 in 256 bytes, 511 in 2,047
pub few_relations : (eq : List ℕ) → 4 * length (relations (symbols eq)) ≤ length eq
few_relations eq = omega (arith, few_past 0 eq)
