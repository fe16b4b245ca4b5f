-- Laws on what is told of a file, by the cases of the code. Assumes nothing.
use Rattle.std.proofs.Common.{None, Some, Result, Ok, Err}
use native.Mathlib.Omega.{arith}
use mathlib.Core.Path.{◌≡◌, refl, sym, ◌∙◌}
use mathlib.Core.Bool.{true, false}
use mathlib.Core.List.{List, [], ◌∷◌, ◌++◌, append_assoc}
use Prim.Native.Nat.{ℕ, ◌+◌, ◌≤◌, ◌<◌}
use lib.ListN.{length, take, get_or, length-append, get_or-eq_default}
use borrow.Author.Tests.{eq-eqb, ne_eqb}
use Rattle.packet.specs.Names.{bytes_of}
use Rattle.lines.specs.Text.{decimal_of}
use Rattle.lines.proofs.TextLaws.{digits_most_32}
use Rattle.replies.specs.Reply.{refused_line}
use Rattle.refusal.specs.declared.Refusal.{Refusal}
use Rattle.refusal.specs.Refusal.{number, numbered}
use Rattle.why.specs.declared.Explained.{Explained}
use Rattle.words.specs.Pieces.{front_of}
use Rattle.words.specs.Why.{number_fields, outcome_word, told_of, why_line, tabbed}

-- ---- the outcome's word

module _ (w : Explained) where
  pub outcome_beyond : w.beyond ≡ true → outcome_word w ≡ bytes_of "beyond\t" ++ decimal_of w.older
  unfolding outcome_word
  outcome_beyond e = rw e

  pub outcome_matched : w.beyond ≡ false → w.matched ≡ true → outcome_word w ≡ bytes_of "matched"
  unfolding outcome_word
  outcome_matched e f = rw (e, f)

  pub outcome_unmatched : w.beyond ≡ false → w.matched ≡ false → outcome_word w ≡ bytes_of "unmatched"
  unfolding outcome_word
  outcome_unmatched e f = rw (e, f)

  -- ---- what is told

  pub told_named : (named : List ℕ) → told_of (Ok w) named ≡ outcome_word w ++ (number_fields (take w.count named) ++ (10 ∷ []))
  unfolding told_of
  told_named named = refl

  pub told_ok : (t : Result Explained Refusal) (named : List ℕ) → t ≡ Ok w
      → told_of (numbered t) named ≡ outcome_word w ++ (number_fields (take w.count named) ++ (10 ∷ []))
  unfolding told_of
  told_ok t named e = rw e

pub told_err : (t : Result Explained Refusal) (r : Refusal) (n : ℕ) (named : List ℕ) → t ≡ Err r → n ≡ number r
    → told_of (numbered t) named ≡ bytes_of "refused\t" ++ (decimal_of n ++ (10 ∷ []))
unfolding told_of refused_line
told_err t r n named e f = rw (e, f)

-- ---- the front of a line

pub front_most : (number : ℕ) → number < 4294967296 → length (front_of number) ≤ 15
unfolding front_of bytes_of
front_most number h = omega (arith, length-append (decimal_of number) (9 ∷ []), digits_most_32 number h)

pub why_line_law : (number : ℕ) (rest : List ℕ) → front_of number ++ rest ≡ why_line number rest
unfolding front_of why_line
why_line_law number rest = simp append_assoc

-- ---- a number that a tab follows

module _ (line : List ℕ) (v next : ℕ) where
  pub tab_follows : get_or line next 0 ≡ 9 → tabbed (Some (v, next)) line ≡ Some (v, next + 1)
  unfolding tabbed
  tab_follows e = rw (eq-eqb (get_or line next 0) 9 e)

  pub no_tab : (get_or line next 0 ≡ 9 → ⊥) → tabbed (Some (v, next)) line ≡ None
  unfolding tabbed
  no_tab e = rw (ne_eqb (get_or line next 0) 9 e)

  pub no_byte : length line ≤ next → tabbed (Some (v, next)) line ≡ None
  no_byte h = no_tab (λ e. let z : ◌≡◌ {A = ℕ} 0 9 = sym (get_or-eq_default line 0 {n = next} h) ∙ e in absurd (omega arith))

pub no_digits : (line : List ℕ) → tabbed None line ≡ None
unfolding tabbed
no_digits line = refl
