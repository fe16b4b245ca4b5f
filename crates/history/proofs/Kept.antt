-- Every call leaves a good state good, changes the files in one way and no size.
use Rattle.std.specs.Prelude.{Result, Ok}
use mathlib.Core.Path.{◌≡◌, refl}
use mathlib.Core.Bool.{true, false}
use mathlib.Core.List.{List}
use Prim.Native.Nat.{ℕ, ◌+◌, ◌*◌, ◌≤◌, ◌<◌}
use native.Mathlib.Omega.{arith}
use lib.ListN.{length, replicate, length-replicate}
use Rattle.session.specs.State.{closed_session, fresh_session}
use Rattle.table.specs.Table.{files}
use Rattle.links.proofs.Facts.{part_end}
use Rattle.server.specs.declared.Server.{Server}
use Rattle.server.specs.State.{Lent, lent, link_of, part, with_part, owner_part, table_part}
use Rattle.server.specs.Turns.{parts_of}
use Rattle.sending.specs.Sending.{due_of}
use Rattle.server.specs.Calls.{Lost, on_check, receive_of, on_login, login_of, on_lose, lose_of, due_as, on_request, request_of, login_by, request_by, receive_by, lose_by}
use Rattle.history.specs.Calls.{Call, login, receive, request, lose, call_of}
use Rattle.acts.specs.Change.{Change}
use Rattle.history.specs.Good.{Good}
use Rattle.history.specs.Stored.{files_of}
use Rattle.history.proofs.GoodFacts.{Facts, good_facts, checked}
use Rattle.history.proofs.Leaves.{SameSizes, Leaves, mem_of, leaves_all, leaves_store, stored_parts}
use Rattle.history.proofs.Sessions.{part_length, login_links, lose_links, request_links}
use Rattle.history.proofs.Receiving.{step_leaves}

-- what a lost link leaves of what is lent
abbrev lent_lost : Lent → Lost → Lent
lent_lost l r = lent l.disk l.map l.owner l.table r.selected r.held

module _ (sv : Server) (l : Lent) (g : Good sv l) (i : ℕ) (inside : i < sv.sessions) where
  facts : Facts sv l
  facts = good_facts sv l g

  login_leaves : (clock : ℕ) (out : List ℕ) → Leaves sv l (on_login (Ok i) sv out clock).done.server l
  unfolding on_login
  login_leaves clock out =
      leaves_store sv l g i fresh_session l.selected l.held refl refl
      (login_links (files (table_part sv l)) sv.sessions sv.most l.selected l.held sv.links i facts.sessions inside
      facts.links)

  lose_leaves : Leaves sv l (on_lose (Ok i) sv l.selected l.held).done.server (lent_lost l (on_lose (Ok i) sv l.selected l.held))
  unfolding on_lose
  lose_leaves =
      let x : i * sv.most + sv.most ≤ length l.selected =
      omega (arith, part_end i sv.sessions sv.most inside, facts.room.selected) in
      let h : i * 258 + 258 ≤ length l.held = omega (arith, part_end i sv.sessions 258 inside, facts.room.held) in
      leaves_store sv l g i closed_session (with_part (i * sv.most) sv.most (replicate sv.most 0) l.selected)
      (with_part (i * 258) 258 (replicate 258 0) l.held)
      (part_length (i * sv.most) sv.most (replicate sv.most 0) l.selected (length-replicate {A = ℕ} sv.most 0) x)
      (part_length (i * 258) 258 (replicate 258 0) l.held (length-replicate {A = ℕ} 258 0) h)
      (lose_links (files (table_part sv l)) sv.sessions sv.most l.selected l.held sv.links i facts.sessions inside
      facts.links)

  request_leaves : (link_of sv i).linked ≡ true → (out : List ℕ) → Leaves sv l (on_request (Ok i) sv l out).done.server l
  unfolding on_request due_as
  request_leaves linked out =
      leaves_store sv l g i
      (due_of (link_of sv i).down (link_of sv i) l.disk (owner_part sv l) (files (table_part sv l))
      (part (i * sv.most) sv.most l.selected) out).asked.session
      l.selected l.held refl refl
      (request_links sv.sessions sv.most l.selected l.held sv.links i (parts_of sv i (mem_of l)) sv.last l.disk
      (owner_part sv l) out facts.sessions inside linked facts.links (stored_parts sv l g i))

-- ---- every call

module _ (sv : Server) (l : Lent) (g : Good sv l) where
  login_call : (session clock : ℕ) (out : List ℕ) → Leaves sv l (login_of sv l out session clock).done.server l
  unfolding login_of login_by on_login
  login_call session clock out =
      checked sv l g session false (length out) (λ (k : Result ℕ ℕ). Leaves sv l (on_login k sv out clock).done.server l)
      (leaves_all sv l g) (leaves_all sv l g)
      (λ i inside linked room. login_leaves sv l g i inside clock out)

  receive_call : (session clock : ℕ) (input out : List ℕ)
      → Leaves sv l (receive_of sv l out session clock input).done.server (receive_of sv l out session clock input).lent
  unfolding receive_of receive_by on_check
  receive_call session clock input out =
      checked sv l g session true (length out)
      (λ (k : Result ℕ ℕ). Leaves sv l (on_check k sv l out clock input).done.server (on_check k sv l out clock input).lent)
      (leaves_all sv l g) (leaves_all sv l g)
      (λ i inside linked room. step_leaves sv l g i inside linked clock input out)

  request_call : (session : ℕ) (out : List ℕ) → Leaves sv l (request_of sv l out session).done.server l
  unfolding request_of request_by on_request
  request_call session out =
      checked sv l g session true (length out) (λ (k : Result ℕ ℕ). Leaves sv l (on_request k sv l out).done.server l)
      (leaves_all sv l g) (leaves_all sv l g)
      (λ i inside linked room. request_leaves sv l g i inside linked out)

  lose_call : (session : ℕ) → Leaves sv l (lose_of sv l session).done.server (lent_lost l (lose_of sv l session))
  unfolding lose_of lose_by on_lose
  lose_call session =
      checked sv l g session true 258
      (λ (k : Result ℕ ℕ). Leaves sv l (on_lose k sv l.selected l.held).done.server (lent_lost l (on_lose k sv l.selected l.held)))
      (leaves_all sv l g) (leaves_all sv l g)
      (λ i inside linked room. lose_leaves sv l g i inside)

  pub call_leaves : (c : Call) → Leaves sv l (call_of sv l c).done.server (call_of sv l c).lent
  call_leaves (login session clock out) = login_call session clock out
  call_leaves (receive session clock input out) = receive_call session clock input out
  call_leaves (request session out) = request_call session out
  call_leaves (lose session) = lose_call session

  -- a good state stays good
  pub good_kept : (c : Call) → Good (call_of sv l c).done.server (call_of sv l c).lent
  good_kept c = (call_leaves c).good

  -- "a call changes no file but its own"
  pub call_change : (c : Call)
      → Change sv.last (files_of sv l) (call_of sv l c).done.server.last (files_of (call_of sv l c).done.server (call_of sv l c).lent)
  call_change c = (call_leaves c).change

  -- the sizes are fixed when the server is made
  pub sizes_kept : (c : Call) → SameSizes sv (call_of sv l c).done.server
  sizes_kept c = (call_leaves c).sizes
