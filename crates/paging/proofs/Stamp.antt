-- A complete file has one upload_time, the one that the server set, and a reader of its header finds it, whatever the other bytes are. Assumes nothing.
use mathlib.Core.Path.{◌≡◌, refl, sym, ap, ◌∙◌}
use mathlib.Core.Bool.{Bool, true, false, cond}
use mathlib.Core.List.{List, [], ◌∷◌}
use Prim.Native.Nat.{ℕ}
use native.Mathlib.Omega.{arith}
use lib.Dec.{eqb}
use borrow.Author.Tests.{eqb-true, eqb-false}
use Rattle.numbers.specs.Numbers.{four}
use Rattle.header.specs.Items.{Field, fields_of}
use Rattle.header.specs.Header.{count_if, times, bytes_of, proper, complete, check_items}
use Rattle.header.specs.Fields.{fields_set}
use Rattle.header.proofs.Order.{times_hit, times_miss, complete_parts}
use Rattle.header.proofs.EntryLaws.{passed}
use Rattle.header.proofs.Replace.{alike_count, with_other}
use Rattle.header.proofs.Set.{rows_data, rows_distinct, server_rows}
use Rattle.equation.specs.Holds as holds
use Rattle.header.proofs.SetAny.{rows, fit, given, sum, final, final_alike, any_items}

-- the items of an id, as the equations read them
none_of : (i : ℕ) (is : List Field) → times i is ≡ 0 → holds.bytes_of i is ≡ []
unfolding holds.bytes_of count_if
none_of i [] h = refl
none_of i (x ∷ xs) h = go (eqb x.id i) refl (none_of i xs)
  where
    go : (t : Bool) → eqb x.id i ≡ t → (times i xs ≡ 0 → holds.bytes_of i xs ≡ []) → cond t (x.bytes ∷ holds.bytes_of i xs) (holds.bytes_of i xs) ≡ []
    go true e ih = absurd (omega (arith, times_hit i x xs (eqb-true x.id i e)))
    go false e ih = ih (sym (times_miss i x xs (eqb-false x.id i e)) ∙ h)

one_of : (i : ℕ) (is : List Field) → times i is ≡ 1 → holds.bytes_of i is ≡ bytes_of i is ∷ []
unfolding holds.bytes_of bytes_of count_if
one_of i [] h = absurd (omega arith)
one_of i (x ∷ xs) h = go (eqb x.id i) refl (one_of i xs)
  where
    go : (t : Bool) → eqb x.id i ≡ t → (times i xs ≡ 1 → holds.bytes_of i xs ≡ bytes_of i xs ∷ [])
        → cond t (x.bytes ∷ holds.bytes_of i xs) (holds.bytes_of i xs) ≡ cond t x.bytes (bytes_of i xs) ∷ []
    go true e ih = ap (λ (l : List (List ℕ)). x.bytes ∷ l) (none_of i xs (omega (arith, times_hit i x xs (eqb-true x.id i e))))
    go false e ih = ih (sym (times_miss i x xs (eqb-false x.id i e)) ∙ h)

module _ (n t : ℕ) (file : List ℕ) (e : check_items file ≡ 0) where
  -- there is one upload_time
  upload_once : times 18 (final n t file e) ≡ 1
  upload_once =
      alike_count (λ k. eqb k 18) (final n t file e) (fields_of file) (final_alike n t file e)
      ∙ (complete_parts (fields_of file) (passed file e).proper (passed file e).complete).upload

  -- THE LAW: it is read as it was set
  pub stamped : holds.bytes_of 18 (fields_of (fields_set n t file)) ≡ four t ∷ []
  stamped =
      ap (holds.bytes_of 18) (any_items n t file e)
      ∙ one_of 18 (final n t file e) upload_once
      ∙ ap (λ (b : List ℕ). b ∷ [])
      (with_other 10 18 (sum n t file e) (given n t file e) (λ z. omega arith)
      ∙ (rows_data (rows n t file e) (fields_of file) (fit n t file e) (rows_distinct (rows n t file e) (server_rows n t))).1.1.1.0)
