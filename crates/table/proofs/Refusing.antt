-- The refusals for what is not found and for what is not given (document 01, "Refusals by number": "Given exactly when").
use mathlib.Core.Path.{◌≡◌, refl, sym, ap, ◌∙◌}
use mathlib.Core.Bool.{Bool, true, false, cond}
use mathlib.Core.List.{List}
use Prim.Native.Nat.{ℕ, ◌+◌, ◌<◌}
use native.Mathlib.Omega.{arith}
use lib.ListN.{length, length-map}
use lib.Dec.{eqb, ltb}
use borrow.Author.Tests.{eqb-true, eq-eqb}
use Rattle.table.specs.declared.File.{File}
use Rattle.table.specs.declared.Key.TheVariants.{Number}
use Rattle.std.proofs.Common.{Option, Some, None}
use Rattle.table.specs.Table.{file_at, key_of, numbers, find_of, free_of, find_number, free_number}
use Rattle.table.specs.Given.{most_given, next_number, upload_time, given_number}
use Rattle.table.proofs.Records.{key_at}
use Rattle.table.proofs.Finding.{by_equal, first_absent, find_none, find_absent, free_none}

-- a number is given exactly when the condition holds
pub record Exactly (given number : ℕ) (Condition : Type 0) : Type 0 where
  pub when : Condition → given ≡ number
  pub only : given ≡ number → Condition

-- ---- 4 "no such file"

-- 0 is no file's number
abbrev pub NoSuchFile : List File → ℕ → Type 0
NoSuchFile fs n = (k : ℕ) → ((file_at fs k).number ≡ 0 → ⊥) → (file_at fs k).number ≡ n → ⊥

module _ (fs : List File) (n : ℕ) where
  not_found : NoSuchFile fs n → find_of fs n ≡ None
  not_found h = by_equal n 0 (λ z. rw (eq-eqb n 0 z)) (λ z. find_absent fs n (λ k e. h k (λ y. z (sym e ∙ y)) e))

  no_file_law : find_of fs n ≡ None → NoSuchFile fs n
  no_file_law e k z h = find_none fs n e (λ y. z (h ∙ y)) k h

  pub exactly_4 : Exactly (find_number (find_of fs n)) 4 (NoSuchFile fs n)
  exactly_4 = record { when = λ h. ap find_number (not_found h); only = go (find_of fs n) refl }
    where
      go : (r : Option ℕ) → find_of fs n ≡ r → find_number r ≡ 4 → NoSuchFile fs n
      go None e q = no_file_law e
      go (Some place) e q = absurd (omega (arith, q))

-- ---- 13 ".. or no free file place"

abbrev pub NoFreePlace : List File → Type 0
NoFreePlace fs = (k : ℕ) → k < length fs → (file_at fs k).number ≡ 0 → ⊥

module _ (fs : List File) where
  none_free : NoFreePlace fs → free_of fs ≡ None
  none_free h = first_absent 0 (numbers fs) (λ k l e. h k (omega (arith, l, length-map fs (key_of Number))) (sym (key_at Number fs k) ∙ e))

  pub exactly_13 : Exactly (free_number (free_of fs)) 13 (NoFreePlace fs)
  exactly_13 = record { when = λ h. ap free_number (none_free h); only = go (free_of fs) refl }
    where
      go : (r : Option ℕ) → free_of fs ≡ r → free_number r ≡ 13 → NoFreePlace fs
      go None e q = free_none fs e
      go (Some place) e q = absurd (omega (arith, q))

-- ---- 3 "file numbers, or at DATA_END upload times, are used up"

-- whatever is given where they are not
given_at_most : (last n : ℕ) → Exactly (given_number (cond (eqb last most_given) None (Some n))) 3 (last ≡ most_given)
given_at_most last n =
    record { when = λ h. rw (eq-eqb last most_given h); only = go (eqb last most_given) refl }
  where
    go : (t : Bool) → eqb last most_given ≡ t → given_number (cond t None (Some n)) ≡ 3 → last ≡ most_given
    go true d q = eqb-true last most_given d
    go false d q = absurd (omega (arith, q))

pub numbers_exactly_3 : (last : ℕ) → Exactly (given_number (next_number last)) 3 (last ≡ most_given)
numbers_exactly_3 last = given_at_most last (last + 1)

pub times_exactly_3 : (clock last : ℕ) → Exactly (given_number (upload_time clock last)) 3 (last ≡ most_given)
times_exactly_3 clock last = given_at_most last (cond (ltb clock (last + 1)) (last + 1) clock)
