-- Bytes taken from the last one on: n of them are passed, b is the next one. Assumes nothing.
use Rattle.std.proofs.Common.{◌≡◌, List, ℕ, ◌+◌, ◌-◌, ◌<◌, arith, length, reverse, get_or, ap, ◌∙◌}
use Rattle.std.proofs.lemmas.List.{get_or-reverse, length-reverse}
use Rattle.std.proofs.lemmas.Grind.{get_or_default_zero}

module _ (s : List ℕ) (n b : ℕ) (t : (n < length (reverse s)) × (b ≡ get_or (reverse s) n b)) where
  pub some_left : n < length s
  some_left = omega (arith, length-reverse s, t.0)

  pub next_byte : b ≡ get_or s (length s - n - 1) 0
  next_byte =
      let i : length s - 1 - n ≡ length s - n - 1 = omega arith in
      t.1 ∙ get_or-reverse s n b some_left ∙ ap (λ (k : ℕ). get_or s k b) i ∙ get_or_default_zero s (length s - n - 1) b (omega (arith, some_left))

  pub one_less : length s - (n + 1) ≡ length s - n - 1
  one_less = omega arith
