-- Laws on the match: what the wildcards mean, and that the case of ASCII letters in the item cannot be seen. Assumes nothing.
use mathlib.Core.Path.{◌≡◌, refl, sym}
use mathlib.Core.Bool.{Bool, true, false, ◌||◌, cond}
use mathlib.Core.List.{List, [], ◌∷◌, map}
use Prim.Native.Nat.{ℕ, ◌+◌}
use native.Mathlib.Omega.{arith}
use lib.Dec.{eqb, leb}
use lib.ListN.{length}
use borrow.Author.Tests.{leb-true, le-leb, lt-leb, ne_eqb}
use Rattle.text.specs.Match.{lower, fits, any_tail, one, matches}

-- the empty text is a tail of every text
any_empty : (m : List ℕ → Bool) (ts : List ℕ) → m [] ≡ true → any_tail m ts ≡ true
unfolding any_tail
any_empty m [] e = e
any_empty m (t ∷ ts) e = go (m (t ∷ ts)) (any_empty m ts e)
  where
    go : (a : Bool) → any_tail m ts ≡ true → a || any_tail m ts ≡ true
    go true h = refl
    go false h = h

-- `*` alone matches every text, and `?` alone exactly the texts of one byte
pub star_alone : (ts : List ℕ) → matches (42 ∷ []) ts ≡ true
unfolding matches
star_alone ts = any_empty (matches []) ts refl

pub mark_alone : (ts : List ℕ) → matches (63 ∷ []) ts ≡ eqb (length ts) 1
unfolding matches one fits
mark_alone [] = refl
mark_alone (t ∷ []) = refl
mark_alone (t ∷ u ∷ ts) = sym (ne_eqb (length (t ∷ u ∷ ts)) 1 (λ e. omega arith))

-- a lowered byte stays as it is
pub lower_twice : (b : ℕ) → lower (lower b) ≡ lower b
unfolding lower
lower_twice b = go (leb 65 b) refl (leb b 90) refl
  where
    go : (x : Bool) → leb 65 b ≡ x → (y : Bool) → leb b 90 ≡ y → lower (cond x (cond y (b + 32) b) b) ≡ cond x (cond y (b + 32) b) b
    go false e y f = rw e
    go true e false f = rw (e, f)
    go true e true f = let h = leb-true 65 b e in rw (le-leb 65 (b + 32) (omega arith), lt-leb (b + 32) 90 (omega arith))

-- the case of ASCII letters in the text cannot be seen
fits_lowered : (p t : ℕ) → fits p (lower t) ≡ fits p t
unfolding fits
fits_lowered p t = rw (lower_twice t)

module _ (m : List ℕ → Bool) (same : (ts : List ℕ) → m (map lower ts) ≡ m ts) where
  any_lowered : (ts : List ℕ) → any_tail m (map lower ts) ≡ any_tail m ts
  unfolding any_tail
  any_lowered [] = same []
  any_lowered (t ∷ ts) = rw (same (t ∷ ts), any_lowered ts)

  one_lowered : (p : ℕ) (ts : List ℕ) → one p m (map lower ts) ≡ one p m ts
  unfolding one
  one_lowered p [] = refl
  one_lowered p (t ∷ ts) = rw (fits_lowered p t, same ts)

pub text_lowered : (ps ts : List ℕ) → matches ps (map lower ts) ≡ matches ps ts
unfolding matches
text_lowered [] [] = refl
text_lowered [] (t ∷ ts) = refl
text_lowered (p ∷ ps) ts = rw (any_lowered (matches ps) (text_lowered ps) ts, one_lowered (matches ps) (text_lowered ps) p ts)
