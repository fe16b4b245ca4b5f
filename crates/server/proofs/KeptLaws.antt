-- On a sound state a call that is told so is the call that tests it. Assumes nothing.
use mathlib.Core.Path.{◌≡◌, ap, sym}
use mathlib.Core.Bool.{Bool, true, false}
use mathlib.Core.List.{List}
use Prim.Native.Nat.{ℕ}
use lib.ListN.{length}
use Rattle.server.specs.declared.Server.{Server}
use Rattle.server.specs.State.{Lent}
use Rattle.server.specs.Check.{sound_in, check_for, check_of}
use Rattle.server.specs.Calls.{receive_by, receive_of, login_by, login_of, lose_by, lose_of, request_by, request_of}

module _ (sv : Server) (l : Lent) (sound : sound_in sv l ≡ true) where
  pub kept_check : (session : ℕ) (wanted : Bool) (out : ℕ) → check_for true sv l session wanted out ≡ check_of sv l session wanted out
  kept_check session wanted out = ap (λ (b : Bool). check_for b sv l session wanted out) (sym sound)

  pub kept_receive : (out : List ℕ) (session clock : ℕ) (input : List ℕ)
      → receive_by true sv l out session clock input ≡ receive_of sv l out session clock input
  unfolding receive_of
  kept_receive out session clock input = ap (λ (b : Bool). receive_by b sv l out session clock input) (sym sound)

  pub kept_login : (out : List ℕ) (session clock : ℕ) → login_by true sv l out session clock ≡ login_of sv l out session clock
  unfolding login_of
  kept_login out session clock = ap (λ (b : Bool). login_by b sv l out session clock) (sym sound)

  pub kept_lose : (session : ℕ) → lose_by true sv l session ≡ lose_of sv l session
  unfolding lose_of
  kept_lose session = ap (λ (b : Bool). lose_by b sv l session) (sym sound)

  pub kept_request : (out : List ℕ) (session : ℕ) → request_by true sv l out session ≡ request_of sv l out session
  unfolding request_of
  kept_request out session = ap (λ (b : Bool). request_by b sv l out session) (sym sound)
