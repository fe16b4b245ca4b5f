-- Laws on tests of bytes and on digits. Assumes nothing.
use mathlib.Core.Path.{◌≡◌, refl, sym, ◌∙◌}
use mathlib.Core.Bool.{Bool, true, false, cond}
use mathlib.Core.List.{List, [], ◌∷◌, ◌++◌}
use Prim.Native.Nat.{ℕ, zero, suc, ◌+◌, ◌-◌, ◌*◌, ◌≤◌, ◌<◌}
use native.Mathlib.Omega.{arith}
use lib.Dec.{ltb, leb, eqb}
use borrow.Author.Tests.{ltb-true, ltb-false, leb-true, eqb-true}
use Rattle.names.specs.Kinds.{is_blank, is_printed, is_hex_digit, every}
use Rattle.text.specs.Match.{lower}
use Rattle.lines.specs.Numerals.{digit, value_from, hex_value}

-- ---- two tests

pub first_true : (a b : Bool) → cond a b false ≡ true → a ≡ true
first_true true b h = refl
first_true false b h = h

pub second_true : (a b : Bool) → cond a b false ≡ true → b ≡ true
second_true true b h = h
second_true false b h = let z : ◌≡◌ {A = ℕ} 0 1 = cc in absurd (omega arith)

pub both_true : (a b : Bool) → a ≡ true → b ≡ true → cond a b false ≡ true
both_true a b h i = rw (h, i)

pub no : (t : Bool) → (t ≡ true → ⊥) → t ≡ false
no true h = absurd (h refl)
no false h = refl

pub clash : (t : Bool) → t ≡ true → t ≡ false → ⊥
clash t h i = let z : true ≡ false = sym h ∙ i in let y : ◌≡◌ {A = ℕ} 0 1 = cc in omega arith

-- ---- every byte

pub every_append : (test : ℕ → Bool) (a b : List ℕ) → every test a ≡ true → every test b ≡ true → every test (a ++ b) ≡ true
unfolding every
every_append test [] b h i = i
every_append test (x ∷ a) b h i = both_true (test x) _ (first_true (test x) _ h) (every_append test a b (second_true (test x) _ h) i)

pub every_one : (test : ℕ → Bool) (b : ℕ) → test b ≡ true → every test (b ∷ []) ≡ true
unfolding every
every_one test b h = rw h

-- ---- kinds of bytes

pub digit_least : (b : ℕ) → digit b ≡ true → 48 ≤ b
unfolding digit
digit_least b h = by (ltb b 48) refl h
  where
    by : (t : Bool) → ltb b 48 ≡ t → cond t false (ltb b 58) ≡ true → 48 ≤ b
    by true e z = absurd (clash false z refl)
    by false e z = ltb-false b 48 e

pub digit_most : (b : ℕ) → digit b ≡ true → b < 58
unfolding digit
digit_most b h = by (ltb b 48) refl h
  where
    by : (t : Bool) → ltb b 48 ≡ t → cond t false (ltb b 58) ≡ true → b < 58
    by true e z = absurd (clash false z refl)
    by false e z = ltb-true b 58 z

pub blank_below : (b : ℕ) → is_blank b ≡ true → b ≤ 32
unfolding is_blank
blank_below b h = by (eqb b 32) refl h
  where
    by : (t : Bool) → eqb b 32 ≡ t → cond t true (eqb b 9) ≡ true → b ≤ 32
    by true e z = omega (arith, eqb-true b 32 e)
    by false e z = omega (arith, eqb-true b 9 z)

-- a byte above 32 is no blank
pub not_blank : (b : ℕ) → 32 < b → is_blank b ≡ false
not_blank b h = no (is_blank b) (λ z. omega (arith, blank_below b z))

pub printed_least : (b : ℕ) → is_printed b ≡ true → 32 ≤ b
unfolding is_printed
printed_least b h = leb-true 32 b (first_true (leb 32 b) _ h)

-- ---- numbers

pub value_least : (v : ℕ) (ds : List ℕ) → v ≤ value_from v ds
unfolding value_from
value_least v [] = omega arith
value_least v (d ∷ ds) = omega (arith, value_least (10 * v + (d - 48)) ds)

pub value_snoc : (v : ℕ) (ds : List ℕ) (d : ℕ) → value_from v (ds ++ d ∷ []) ≡ 10 * value_from v ds + (d - 48)
unfolding value_from
value_snoc v [] d = refl
value_snoc v (x ∷ ds) d = value_snoc (10 * v + (x - 48)) ds d

-- byte 0 is no hex digit
pub hex_high : (b : ℕ) → is_hex_digit b ≡ true → 0 < b
hex_high zero h = let z : false ≡ true = unfold lower hex_value in h in absurd (clash true refl (sym z))
hex_high (suc b) h = omega arith
