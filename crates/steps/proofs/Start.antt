-- The empty store is sound, and its sessions name nothing. Assumes nothing.
use mathlib.Core.Path.{◌≡◌, refl, sym, ap, ◌∙◌, subst}
use Prim.Native.Nat.{ℕ, zero, suc}
use native.Mathlib.Omega.{arith}
use lib.ListN.{get_or, replicate}
use mathlib.Core.List.{[]}
use Rattle.model.specs.State.{no_upload, receiving, Session, closed_session, empty}
use Rattle.model.specs.Files.{reserved}
use Rattle.steps.specs.Sound.{Sound}
use Rattle.steps.specs.Naming.{UpOk, DownOk, AllComplete, Named}

pub sound_empty : (blocks places sessions maxsel : ℕ) → Sound (empty blocks places sessions maxsel)
unfolding reserved
sound_empty blocks places sessions maxsel = record { numbers = tt; room = omega arith }

pub all_closed : (n i : ℕ) → get_or (replicate n closed_session) i closed_session ≡ closed_session
all_closed zero i = refl
all_closed (suc n) zero = refl
all_closed (suc n) (suc i) = all_closed n i

no_upload_law : (n : ℕ) → no_upload ≡ receiving n → ⊥
no_upload_law n e = let z : ◌≡◌ {A = ℕ} 0 1 = cc in omega arith

pub named_empty : (blocks places sessions maxsel : ℕ) → Named (empty blocks places sessions maxsel)
named_empty blocks places sessions maxsel =
    record {
      up = λ j. subst (λ (s : Session). UpOk [] s.up) (sym (all_closed sessions j)) tt;
      down = λ j. subst (λ (s : Session). DownOk [] s.down) (sym (all_closed sessions j)) tt;
      selected = λ j. subst (λ (s : Session). AllComplete [] s.selected) (sym (all_closed sessions j)) tt;
      alone = λ j k n a b. absurd (no_upload_law n (sym (ap (λ (s : Session). s.up) (all_closed sessions j)) ∙ a));
    }
