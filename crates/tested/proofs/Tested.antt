-- The call that is told what the test found is the call that tests: where 33 refuses, the test says nothing. Assumes nothing.
use Rattle.std.specs.Prelude.{Result, Err}
use mathlib.Core.Path.{◌≡◌, refl, ap, ◌∙◌}
use mathlib.Core.Bool.{Bool, true, false, cond}
use mathlib.Core.List.{List}
use Prim.Native.Nat.{ℕ}
use lib.ListN.{length}
use Rattle.server.specs.declared.Server.{Server}
use Rattle.server.specs.State.{Lent, lent}
use Rattle.server.specs.Check.{fits, sound_in, session_check, check_by, check_for, check_of}
use Rattle.server.specs.Calls.{on_check, receive_by, receive_of, on_login, login_by, login_of, on_lose, lose_by, lose_of, on_request, request_by, request_of}

abbrev found : Server → Lent → Bool
found sv l = cond (fits sv (length l.disk) l.map l.owner l.table l.selected l.held) (sound_in sv l) false

module _ (sound : Bool) (sv : Server) (l : Lent) (is : sound ≡ found sv l) where
  checks : (session : ℕ) (wanted : Bool) (out : ℕ) → check_for sound sv l session wanted out ≡ check_of sv l session wanted out
  unfolding check_by
  checks session wanted out =
      ap (λ (b : Bool). check_for b sv l session wanted out) is
      ∙ go (fits sv (length l.disk) l.map l.owner l.table l.selected l.held)
    where
      go : (f : Bool) → cond f (cond (cond f (sound_in sv l) false) (session_check sv session wanted out) (Err 35)) (Err 33)
          ≡ cond f (cond (sound_in sv l) (session_check sv session wanted out) (Err 35)) (Err 33)
      go true = refl
      go false = refl

  pub receives : (out : List ℕ) (session clock : ℕ) (input : List ℕ)
      → receive_by sound sv l out session clock input ≡ receive_of sv l out session clock input
  unfolding receive_of receive_by
  receives out session clock input = ap (λ (k : Result ℕ ℕ). on_check k sv l out clock input) (checks session true (length out))

  pub logs_in : (out : List ℕ) (session clock : ℕ) → login_by sound sv l out session clock ≡ login_of sv l out session clock
  unfolding login_of login_by
  logs_in out session clock = ap (λ (k : Result ℕ ℕ). on_login k sv out clock) (checks session false (length out))

  pub loses : (session : ℕ) → lose_by sound sv l session ≡ lose_of sv l session
  unfolding lose_of lose_by
  loses session = ap (λ (k : Result ℕ ℕ). on_lose k sv l.selected l.held) (checks session true 258)

  pub requests : (out : List ℕ) (session : ℕ) → request_by sound sv l out session ≡ request_of sv l out session
  unfolding request_of request_by
  requests out session = ap (λ (k : Result ℕ ℕ). on_request k sv l out) (checks session true (length out))
