-- A call changes no file but its own: every other one is found as it was. Assumes nothing.
use mathlib.Core.Path.{◌≡◌, refl, sym, ap, ◌∙◌}
use mathlib.Core.Bool.{Bool, true, false, cond}
use mathlib.Core.List.{List, [], ◌∷◌, ◌++◌}
use mathlib.Core.Option.{some}
use Prim.Native.Nat.{ℕ, ◌+◌, ◌-◌, ◌≤◌}
use native.Mathlib.Omega.{arith}
use borrow.Author.Tests.{eqb-true, ne_eqb}
use lib.Dec.{eqb}
use Rattle.model.specs.State.{File, file, receiving, Model, session_at}
use Rattle.model.specs.Files.{find, changed}
use Rattle.model.specs.Uplink.{grown, completed}
use Rattle.model.specs.Step.{step}
use Rattle.steps.specs.Parts.{session_in}
use Rattle.steps.specs.Change.{Change, same, begins, grows, completes, drops, OwnFile}
use Rattle.steps.proofs.Changes.{one_change}
use Rattle.steps.proofs.Naming.{find_without}

-- another file is changed
pub find_away : (n k : ℕ) (h : File → File) (fs : List File) → ((g : File) → (h g).number ≡ g.number) → (n ≡ k → ⊥) → find n (changed k h fs) ≡ find n fs
unfolding find changed
find_away n k h [] u z = refl
find_away n k h (x ∷ fs) u z = go (eqb x.number k) refl (find_away n k h fs u z)
  where
    go : (b : Bool) → eqb x.number k ≡ b → find n (changed k h fs) ≡ find n fs
        → cond (eqb (cond b (h x) x).number n) (some (cond b (h x) x)) (find n (changed k h fs)) ≡ cond (eqb x.number n) (some x) (find n fs)
    go true d e = rw (u x, ne_eqb x.number n (λ w. z (sym w ∙ eqb-true x.number k d))) e
    go false d e = ap (cond (eqb x.number n) (some x)) e

-- another file comes behind
pub find_behind : (n : ℕ) (fs : List File) (g : File) → (g.number ≡ n → ⊥) → find n (fs ++ g ∷ []) ≡ find n fs
unfolding find
find_behind n [] g z = rw (ne_eqb g.number n z)
find_behind n (x ∷ fs) g z = ap (cond (eqb x.number n) (some x)) (find_behind n fs g z)

module _ (m : Model) (i : ℕ) (m' : Model) (n : ℕ) (z : (session_at m i).up ≡ receiving n → ⊥) (low : n ≤ m.last_number) where
  other : (k : ℕ) → (session_at m i).up ≡ receiving k → n ≡ k → ⊥
  other k o e = z (o ∙ ap receiving (sym e))

  pub file_stays : Change m i m' → find n m'.files ≡ find n m.files
  file_stays (same k) = ap (λ (x : Model). find n x.files) k.leaves.after
  file_stays (begins k) =
      ap (λ (x : Model). find n x.files) k.leaves.after
      ∙ find_behind n m.files (file (m.last_number + 1) k.size [] 0) (λ e. omega (arith, low))
  file_stays (grows k) =
      ap (λ (x : Model). find n x.files) k.leaves.after
      ∙ find_away n k.n (grown k.bytes) m.files (λ g. refl) (other k.n k.own)
  file_stays (completes k) =
      ap (λ (x : Model). find n x.files) k.leaves.after
      ∙ find_away n k.n (completed k.t) m.files (λ g. refl) (other k.n k.own)
  file_stays (drops k) =
      ap (λ (x : Model). find n x.files) k.leaves.after ∙ find_without n k.n m.files (other k.n k.own)

-- THEOREM
pub own_file : OwnFile
own_file m c n z low = file_stays m (session_in c - 1) (step m c).after n z low (one_change m c)
