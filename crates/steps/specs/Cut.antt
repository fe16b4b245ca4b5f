-- "Cutting elsewhere the bytes that a link takes .. changes no packet sent and no state after it" (demand 2), of the machine: bytes that end nothing may
-- come in a call of their own, at any clock. Assumes nothing.
use Rattle.std.specs.Prelude.{◌≡◌, true, List, ◌++◌, ℕ, ◌-◌, length}
use Rattle.std.proofs.Math.Option.{none}
use Rattle.calls.specs.Call.{receive}
use Rattle.model.specs.State.{Model, session_at}
use Rattle.model.specs.Step.{ends_in, refusal, step}

-- the bytes a and then b, in two calls or in one
pub record SameCut (m : Model) (session c₁ c₂ : ℕ) (a b o₁ o₂ : List ℕ) : Type 0 where
  pub after : (step (step m (receive session c₁ a o₁)).after (receive session c₂ b o₂)).after ≡ (step m (receive session c₂ (a ++ b) o₂)).after
  pub out : (step (step m (receive session c₁ a o₁)).after (receive session c₂ b o₂)).told.out ≡ (step m (receive session c₂ (a ++ b) o₂)).told.out

-- neither call is refused, and the first bytes, behind those held, end in nothing
abbrev pub BytesEarlier : Type 0
BytesEarlier =
    (m : Model) (session c₁ c₂ : ℕ) (a b o₁ o₂ : List ℕ)
    → refusal m session true (length o₁) ≡ 0
    → refusal m session true (length o₂) ≡ 0
    → ends_in ((session_at m (session - 1)).held ++ a) ≡ none
    → SameCut m session c₁ c₂ a b o₁ o₂
