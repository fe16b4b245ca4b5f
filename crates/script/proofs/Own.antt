-- In a good state a step's call is the server's own call, with the test of 35, and leaves a good state. Assumes nothing.
use Rattle.std.specs.Prelude.{Result, Ok, Err}
use mathlib.Core.Path.{◌≡◌, refl}
use mathlib.Core.Bool.{true}
use mathlib.Core.List.{List}
use mathlib.Core.Option.{Option, none, some}
use Prim.Native.Nat.{ℕ}
use lib.ListN.{replicate}
use Rattle.session.specs.declared.reply.Answer.TheVariants as answer
use Rattle.server.specs.declared.Server.{Server}
use Rattle.server.specs.State.{Lent, Outcome, outcome, done_with}
use Rattle.server.specs.Check.{check_of}
use Rattle.server.specs.Calls.{on_lose, lose_of, lose_by}
use Rattle.server.specs.Calls.{login_by, receive_by, request_by, lose_by}
use Rattle.server.proofs.KeptLaws.{kept_receive, kept_login, kept_lose, kept_request}
use Rattle.history.specs.Calls.{Call, login, receive, request, lose}
use Rattle.history.specs.Good.{Good}
use Rattle.history.proofs.Kept.{good_kept}
use Rattle.script.specs.declared.doing.Doing.{Doing}
use Rattle.script.specs.declared.doing.Doing.TheVariants as doing
use Rattle.input.specs.Parts.{bytes_from}
use Rattle.script.specs.Calling.{hear_of, only_out, only_links, call_of}
use Rattle.script.specs.Printing.{line_for}
use Rattle.script.specs.Reached.{own_call, Own}

-- a lost link sends no packet, so its line does not depend on the output
lose_line : (c : Result ℕ ℕ) (sv : Server) (selected held : List ℕ) (session : ℕ) (a b : List ℕ)
    → line_for session (on_lose c sv selected held).done.answer a ≡ line_for session (on_lose c sv selected held).done.answer b
unfolding on_lose line_for
lose_line (Ok i) sv selected held session a b = refl
lose_line (Err n) sv selected held session a b = refl

module _ (sv : Server) (l : Lent) (g : Good sv l) where
  own_login : (out : List ℕ) (session clock : ℕ) → Own sv l (login session clock out) (only_out l (login_by true sv l out session clock))
  own_login out session clock =
      rw (kept_login sv l g.sound out session clock) (record { done = refl; lent = refl; line = λ k. refl })

  own_receive : (out : List ℕ) (session clock : ℕ) (input : List ℕ)
      → Own sv l (receive session clock input out) (receive_by true sv l out session clock input)
  own_receive out session clock input =
      rw (kept_receive sv l g.sound out session clock input) (record { done = refl; lent = refl; line = λ k. refl })

  own_request : (out : List ℕ) (session : ℕ) → Own sv l (request session out) (only_out l (request_by true sv l out session))
  own_request out session = rw (kept_request sv l g.sound out session) (record { done = refl; lent = refl; line = λ k. refl })

  lost_line : (session k : ℕ) (a b : List ℕ) → line_for k (lose_of sv l session).done.answer a ≡ line_for k (lose_of sv l session).done.answer b
  unfolding lose_of lose_by
  lost_line session k a b = lose_line (check_of sv l session true 258) sv l.selected l.held k a b

  own_lose : (out : List ℕ) (session : ℕ) → Own sv l (lose session) (only_links l out (lose_by true sv l session))
  own_lose out session =
      rw (kept_lose sv l g.sound session) (record { done = refl; lent = refl; line = λ k. lost_line session k out _ })

  -- what holds while resting, and of every call that is the server's own, holds of a step's call
  pub by_call : (P : Option Call → Outcome → Type 0) → P none (outcome (done_with sv (answer.Quiet 0)) l (replicate 258 0))
      → ((c : Call) (o : Outcome) → Own sv l c o → P (some c) o) → (d : Doing) (clock : ℕ) (bytes : List ℕ)
      → P (own_call clock d bytes) (call_of sv clock d bytes l (replicate 258 0))
  unfolding own_call call_of hear_of
  by_call P rest each doing.Rest clock bytes = rest
  by_call P rest each (doing.Opening session) clock bytes = each _ _ (own_login (replicate 258 0) session clock)
  by_call P rest each (doing.Dropping session) clock bytes = each _ _ (own_lose (replicate 258 0) session)
  by_call P rest each (doing.Hearing session at n) clock bytes = each _ _ (own_receive (replicate 258 0) session clock (bytes_from at n bytes))
  by_call P rest each (doing.Pumping session) clock bytes = each _ _ (own_request (replicate 258 0) session)

  -- ---- a good state stays good

  pub good_receive : (out : List ℕ) (session clock : ℕ) (input : List ℕ)
      → Good (receive_by true sv l out session clock input).done.server (receive_by true sv l out session clock input).lent
  good_receive out session clock input =
      rw (kept_receive sv l g.sound out session clock input) (good_kept sv l g (receive session clock input out))

  pub good_request : (out : List ℕ) (session : ℕ) → Good (request_by true sv l out session).done.server l
  good_request out session = rw (kept_request sv l g.sound out session) (good_kept sv l g (request session out))
