-- For a good state no call answers 33 or 35: what is refused locally is refused by 34 or 32.
use Rattle.std.specs.Prelude.{Result}
use mathlib.Core.Path.{◌≡◌, refl, subst}
use mathlib.Core.Bool.{Bool, true, false, cond}
use mathlib.Core.List.{List, ◌++◌}
use Prim.Native.Nat.{ℕ, ◌+◌, ◌*◌, ◌-◌, ◌≤◌}
use native.Mathlib.Omega.{arith}
use borrow.Author.Tests.{le-ltb}
use lib.Dec.{eqb, ltb}
use lib.ListN.{length, take, drop}
use Rattle.packet.specs.Packet.{packet_of}
use Rattle.session.specs.declared.state.Session.{Session}
use Rattle.session.specs.declared.state.Downlink.{Downlink}
use Rattle.session.specs.declared.state.Downlink.TheVariants as down
use Rattle.session.specs.declared.state.Listed.{Listed}
use Rattle.session.specs.declared.reply.Reply.{Reply}
use Rattle.session.specs.declared.reply.Reply.TheVariants as reply
use Rattle.session.specs.declared.reply.Answer.{Answer}
use Rattle.session.specs.declared.reply.Answer.TheVariants as answer
use Rattle.session.specs.State.{with_down}
use Rattle.session.specs.Reply.{tell, answered}
use Rattle.table.specs.declared.File.{File}
use Rattle.table.specs.Table.{files, file_at}
use Rattle.server.specs.declared.Server.{Server}
use Rattle.server.specs.State.{Lent, link_of, part, owner_part, table_part}
use Rattle.server.specs.Turns.{hear_of}
use Rattle.listing.specs.declared.Filled.{Filled}
use Rattle.listing.specs.Listing.{entries_of, fill_of}
use Rattle.sending.specs.Sending.{asked, asked_of, told, least_of, data_of, sending_of, listed_as, due_of}
use Rattle.server.specs.Calls.{answered_by, heard_by, step_of, on_check, receive_of, on_login, login_of, on_lose, lose_of, due_as, on_request, request_of, login_by, request_by, receive_by, lose_by}
use Rattle.history.specs.Calls.{Call, login, receive, request, lose, call_of}
use Rattle.history.specs.Good.{Good}
use Rattle.history.proofs.GoodFacts.{checked}

-- the call was not refused
abbrev Unrefused : Answer → Type 0
Unrefused a = (n : ℕ) → a ≡ answer.Refused n → ⊥

quiet : (taken : ℕ) → Unrefused (answer.Quiet taken)
quiet taken n e = let z : ◌≡◌ {A = ℕ} 0 1 = cc in omega arith

closed : (taken : ℕ) → Unrefused (answer.Closed taken)
closed taken n e = let z : ◌≡◌ {A = ℕ} 0 1 = cc in omega arith

sent : (taken size : ℕ) → Unrefused (answer.Sent taken size)
sent taken size n e = let z : ◌≡◌ {A = ℕ} 0 1 = cc in omega arith

tell_unrefused : (r : Reply) (taken : ℕ) (out : List ℕ) → Unrefused (tell r taken out).answer
unfolding tell
tell_unrefused reply.Nothing taken out = quiet taken
tell_unrefused reply.Closing taken out = closed taken
tell_unrefused reply.DataEnd taken out = sent taken _
tell_unrefused (reply.Login clock) taken out = sent taken _
tell_unrefused (reply.Go number offset) taken out = sent taken _
tell_unrefused (reply.UploadError e) taken out = sent taken _
tell_unrefused reply.Ack taken out = sent taken _
tell_unrefused (reply.Nak e) taken out = sent taken _
tell_unrefused (reply.DownloadError e) taken out = sent taken _
tell_unrefused reply.Aborted taken out = sent taken _
tell_unrefused reply.Completed taken out = sent taken _
tell_unrefused (reply.Selected count) taken out = sent taken _

-- there is room for a packet
reply_unrefused : (r : Reply) (taken : ℕ) (out : List ℕ) → 258 ≤ length out → Unrefused (answered r taken out).answer
unfolding answered
reply_unrefused r taken out h = rw (le-ltb (length out) 258 h) (tell_unrefused r taken out)

sending_unrefused : (s : Session) (place offset bytes : ℕ) (disk owner : List ℕ) (fs : List File) (out : List ℕ) → 258 ≤ length out
    → Unrefused (sending_of s place offset bytes disk owner fs out).asked.answer
unfolding sending_of data_of
sending_unrefused s place offset bytes disk owner fs out h = go (ltb (offset + bytes) (file_at fs place).size)
  where
    go : (t : Bool)
        → Unrefused (cond t (data_of s place offset bytes (least_of ((file_at fs place).size - (offset + bytes))) disk owner out)
        (told (with_down s (down.Ended place)) (answered reply.DataEnd 0 out))).asked.answer
    go true = sent 0 _
    go false = reply_unrefused reply.DataEnd 0 out h

listed_unrefused : (s : Session) (l : Listed) (long : Bool) (f : Filled) (out : List ℕ) → 258 ≤ length out
    → Unrefused (listed_as s l long f out).asked.answer
unfolding listed_as
listed_unrefused s l long f out h = go (eqb f.size 0)
  where
    go : (t : Bool)
        → Unrefused (cond t (told (with_down s down.Idle) (answered reply.DataEnd 0 out))
        (asked (asked_of (with_down s (down.Listing l long f.done f.sent)) (answer.Sent 0 (2 + f.size)))
        (packet_of 0 (take f.size f.bytes) ++ drop (2 + f.size) out))).asked.answer
    go true = reply_unrefused reply.DataEnd 0 out h
    go false = sent 0 _

due_unrefused : (d : Downlink) (s : Session) (disk owner : List ℕ) (fs : List File) (selected out : List ℕ) → 258 ≤ length out
    → Unrefused (due_of d s disk owner fs selected out).asked.answer
unfolding due_of
due_unrefused down.Idle s disk owner fs selected out h = quiet 0
due_unrefused (down.Sending place offset bytes) s disk owner fs selected out h = sending_unrefused s place offset bytes disk owner fs out h
due_unrefused (down.Ended place) s disk owner fs selected out h = quiet 0
due_unrefused (down.Aborting place) s disk owner fs selected out h = reply_unrefused reply.Aborted 0 out h
due_unrefused (down.Listing l long done bytes) s disk owner fs selected out h =
    listed_unrefused s l long (fill_of (entries_of l long s.next disk owner fs selected) done bytes) out h

-- ---- every call

-- a local refusal other than 33 and 35
pub data Local : ℕ → Type 0 where
  number_34 : Local 34
  number_32 : Local 32

-- "34 local: session number out of range, not open, or already open"; "32 local: output shorter than 258 bytes"
abbrev pub LocalOnly : Answer → Type 0
LocalOnly a = (n : ℕ) → a ≡ answer.Refused n → Local n

refused_number : (k n : ℕ) → answer.Refused k ≡ answer.Refused n → k ≡ n
refused_number k n e = cc

by_34 : LocalOnly (answer.Refused 34)
by_34 n e = subst Local (refused_number 34 n e) number_34

by_32 : LocalOnly (answer.Refused 32)
by_32 n e = subst Local (refused_number 32 n e) number_32

none_local : (a : Answer) → Unrefused a → LocalOnly a
none_local a u n e = absurd (u n e)

module _ (sv : Server) (l : Lent) (g : Good sv l) where
  login_local : (session clock : ℕ) (out : List ℕ) → LocalOnly (login_of sv l out session clock).done.answer
  unfolding login_of login_by on_login
  login_local session clock out =
      checked sv l g session false (length out) (λ (k : Result ℕ ℕ). LocalOnly (on_login k sv out clock).done.answer) by_34 by_32
      (λ i inside linked room. none_local _ (reply_unrefused (reply.Login clock) 0 out room))

  receive_local : (session clock : ℕ) (input out : List ℕ) → LocalOnly (receive_of sv l out session clock input).done.answer
  unfolding receive_of receive_by on_check step_of heard_by answered_by
  receive_local session clock input out =
      checked sv l g session true (length out) (λ (k : Result ℕ ℕ). LocalOnly (on_check k sv l out clock input).done.answer) by_34 by_32
      (λ i inside linked room. none_local _ (reply_unrefused _ (hear_of l.held i (link_of sv i).held input).framed.taken out room))

  request_local : (session : ℕ) (out : List ℕ) → LocalOnly (request_of sv l out session).done.answer
  unfolding request_of request_by on_request due_as
  request_local session out =
      checked sv l g session true (length out) (λ (k : Result ℕ ℕ). LocalOnly (on_request k sv l out).done.answer) by_34 by_32
      (λ i inside linked room.
      none_local _
      (due_unrefused (link_of sv i).down (link_of sv i) l.disk (owner_part sv l) (files (table_part sv l)) (part (i * sv.most) sv.most l.selected) out
      room))

  lose_local : (session : ℕ) → LocalOnly (lose_of sv l session).done.answer
  unfolding lose_of lose_by on_lose
  lose_local session =
      checked sv l g session true 258 (λ (k : Result ℕ ℕ). LocalOnly (on_lose k sv l.selected l.held).done.answer) by_34 by_32
      (λ i inside linked room. none_local _ (quiet 0))

  pub local_only : (c : Call) → LocalOnly (call_of sv l c).done.answer
  local_only (login session clock out) = login_local session clock out
  local_only (receive session clock input out) = receive_local session clock input out
  local_only (request session out) = request_local session out
  local_only (lose session) = lose_local session

  not_local : (n : ℕ) → Local n → (n ≡ 34 → ⊥) → (n ≡ 32 → ⊥) → ⊥
  not_local n number_34 a b = a refl
  not_local n number_32 a b = b refl

  -- "35 .. never for a state that calls made from the empty store"
  pub never_35 : (c : Call) → (call_of sv l c).done.answer ≡ answer.Refused 35 → ⊥
  never_35 c e = not_local 35 (local_only c 35 e) (λ q. omega arith) (λ q. omega arith)

  pub never_33 : (c : Call) → (call_of sv l c).done.answer ≡ answer.Refused 33 → ⊥
  never_33 c e = not_local 33 (local_only c 33 e) (λ q. omega arith) (λ q. omega arith)
