-- The bytes of an equation before its end mark, counted token by token. Assumes nothing.
use mathlib.Core.Path.{◌≡◌, refl, ◌∙◌}
use mathlib.Core.List.{List, [], ◌∷◌}
use Prim.Native.Nat.{ℕ, zero, suc, ◌+◌, ◌≤◌}
use native.Mathlib.Omega.{arith}
use lib.ListN.{length, drop, length-drop}
use lib.Seq.{drop-drop}
use Rattle.equation.specs.Symbols.{token_of}
use Rattle.equation.specs.Newer.{before_mark, unmarked_past, unmarked}
use Rattle.equation.specs.declared.tokens.Token.{Token}
use Rattle.equation.specs.declared.tokens.Token.TheVariants.{Bad, End, And, Or, Rel}
use Rattle.equation.proofs.TokenLaws.{relation_within, more_within}

-- the loop's invariant: the token at `at` is next
pub record Passing (bytes : List ℕ) (at : ℕ) : Type 0 where
  pub within : at ≤ length bytes
  pub left : at + length (unmarked (drop at bytes)) ≡ length (unmarked bytes)

pub pass_start : (bytes : List ℕ) → Passing bytes 0
pass_start bytes = record { within = omega arith; left = omega arith }

skip_length : (n : ℕ) (bs : List ℕ) → n ≤ length bs → length (unmarked_past n bs) ≡ n + length (unmarked (drop n bs))
unfolding unmarked_past
skip_length zero bs h = omega arith
skip_length (suc n) [] h = absurd (omega arith)
skip_length (suc n) (b ∷ bs) h = omega (arith, skip_length n bs (omega arith))

-- the length of a token
token_length : Token → ℕ
token_length Bad = 0
token_length End = 0
token_length And = 1
token_length Or = 1
token_length (Rel c i n) = 4 + n

-- where a token is none that ends, what is counted is its length and the rest's
goes_on : Token → Type 0
goes_on Bad = ⊥
goes_on End = ⊥
goes_on And = Unit {0}
goes_on Or = Unit {0}
goes_on (Rel c i n) = Unit {0}

by_token : (c : ℕ) (bs : List ℕ) (t : Token) → goes_on t → token_length t ≤ suc (length bs)
    → length (before_mark t (λ n. c ∷ unmarked_past n bs)) ≡ token_length t + length (unmarked (drop (token_length t) (c ∷ bs)))
unfolding before_mark token_length goes_on
by_token c bs Bad g h = absurd g
by_token c bs End g h = absurd g
by_token c bs And g h = omega arith
by_token c bs Or g h = omega arith
by_token c bs (Rel d i n) g h =
    let z : 4 + n ≡ suc (3 + n) = omega arith in
    let s = skip_length (3 + n) bs (omega arith) in
    rw z (omega arith)

counted : (ys : List ℕ) (t : Token) → token_of ys ≡ t → goes_on t → token_length t ≤ length ys
    → length (unmarked ys) ≡ token_length t + length (unmarked (drop (token_length t) ys))
counted [] t e g h = absurd (nothing t e g)
  where
    nothing : (t : Token) → token_of [] ≡ t → goes_on t → ⊥
    nothing Bad e g = unfold goes_on in g
    nothing End e g = unfold goes_on in g
    nothing And e g = let z : ◌≡◌ {A = ℕ} 0 1 = unfold token_of in cc in omega arith
    nothing Or e g = let z : ◌≡◌ {A = ℕ} 0 1 = unfold token_of in cc in omega arith
    nothing (Rel c i n) e g = let z : ◌≡◌ {A = ℕ} 0 1 = unfold token_of in cc in omega arith
counted (c ∷ bs) t e g h = opened c bs t e ∙ by_token c bs t g h
  where
    opened : (c : ℕ) (bs : List ℕ) (t : Token) → token_of (c ∷ bs) ≡ t → length (unmarked (c ∷ bs)) ≡ length (before_mark t (λ n. c ∷ unmarked_past n bs))
    opened c bs t e = unfold unmarked_past in rw e

ends : (ys : List ℕ) (t : Token) → token_of ys ≡ t → (goes_on t → ⊥) → length (unmarked ys) ≡ 0
unfolding unmarked_past
ends [] t e g = refl
ends (c ∷ bs) t e g = rw e (by t g)
  where
    by : (t : Token) → (goes_on t → ⊥) → length (before_mark t (λ n. c ∷ unmarked_past n bs)) ≡ 0
    by Bad g = unfold before_mark in refl
    by End g = unfold before_mark in refl
    by And g = absurd (g (unfold goes_on in tt))
    by Or g = absurd (g (unfold goes_on in tt))
    by (Rel d i n) g = absurd (g (unfold goes_on in tt))

module _ (bytes : List ℕ) (at : ℕ) (p : Passing bytes at) where
  stop : (t : Token) → token_of (drop at bytes) ≡ t → (goes_on t → ⊥) → at ≡ length (unmarked bytes)
  stop t e g = omega (arith, p.left, ends (drop at bytes) t e g)

  pub pass_bad : token_of (drop at bytes) ≡ Bad → at ≡ length (unmarked bytes)
  pass_bad e = stop Bad e (λ z. unfold goes_on in z)

  pub pass_end : token_of (drop at bytes) ≡ End → at ≡ length (unmarked bytes)
  pass_end e = stop End e (λ z. unfold goes_on in z)

  go_on : (t : Token) → token_of (drop at bytes) ≡ t → goes_on t → at + token_length t ≤ length bytes → Passing bytes (at + token_length t)
  go_on t e g h =
      let l = length-drop at bytes in
      let q = counted (drop at bytes) t e g (omega arith) in
      record { within = h; left = rw (← drop-drop (token_length t) at bytes) (omega (arith, p.left)) }

  pub and_within : token_of (drop at bytes) ≡ And → at + 1 ≤ length bytes
  and_within e = more_within bytes at (λ f. let z : ◌≡◌ {A = ℕ} 0 1 = cc in omega arith)

  pub or_within : token_of (drop at bytes) ≡ Or → at + 1 ≤ length bytes
  or_within e = more_within bytes at (λ f. let z : ◌≡◌ {A = ℕ} 0 1 = cc in omega arith)

  pub rel_within : (c i n : ℕ) → token_of (drop at bytes) ≡ Rel c i n → at + 4 + n ≤ length bytes
  rel_within c i n e = relation_within bytes at c i n p.within e

  pub pass_and : token_of (drop at bytes) ≡ And → Passing bytes (at + 1)
  unfolding token_length goes_on
  pass_and e = go_on And e tt (and_within e)

  pub pass_or : token_of (drop at bytes) ≡ Or → Passing bytes (at + 1)
  unfolding token_length goes_on
  pass_or e = go_on Or e tt (or_within e)

  pub pass_rel : (c i n : ℕ) → token_of (drop at bytes) ≡ Rel c i n → Passing bytes (at + 4 + n)
  unfolding token_length goes_on
  pass_rel c i n e =
      let z : at + (4 + n) ≡ at + 4 + n = omega arith in
      rw (← z) (go_on (Rel c i n) e tt (omega (arith, rel_within c i n e)))
