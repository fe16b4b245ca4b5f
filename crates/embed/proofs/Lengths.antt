-- The second count is at most 258 where a call is not refused: the packet is within the output.
use Rattle.std.specs.Prelude.{⊤, Result, Ok, Err}
use mathlib.Core.Path.{◌≡◌, refl, ap, ◌∙◌}
use mathlib.Core.Bool.{Bool, true, false, cond}
use mathlib.Core.List.{List}
use Prim.Native.Nat.{ℕ, ◌+◌, ◌-◌, ◌≤◌}
use native.Mathlib.Omega.{arith}
use lib.Dec.{ltb, eqb}
use lib.ListN.{length, get_or}
use borrow.Author.Tests.{ltb-true}
use Rattle.session.specs.declared.state.Session.{Session}
use Rattle.session.specs.declared.state.Downlink.{Downlink}
use Rattle.session.specs.declared.state.Downlink.TheVariants as down
use Rattle.session.specs.declared.state.Listed.{Listed}
use Rattle.session.specs.declared.reply.Answer.{Answer}
use Rattle.session.specs.declared.reply.Answer.TheVariants as answer
use Rattle.session.specs.declared.reply.Reply.{Reply}
use Rattle.session.specs.declared.reply.Reply.TheVariants as reply
use Rattle.session.specs.Reply as replies
use Rattle.table.specs.declared.File.{File}
use Rattle.table.specs.Table.{file_at}
use Rattle.server.specs.declared.Server.{Server}
use Rattle.server.specs.State.{Lent, link_of, Outcome}
use Rattle.server.specs.Check.{check_of}
use Rattle.sending.specs.Sending.{Due, least_of, data_of, sending_of, listed_as, due_of}
use Rattle.listing.specs.declared.Filled.{Filled}
use Rattle.listing.specs.Listing.{entries_of}
use Rattle.listing.proofs.FillLaws.{fill_size}
use Rattle.server.specs.Calls.{answered_by, heard_by, step_of, on_check, receive_of, Opened, on_login, login_of, due_as, on_request, request_of, login_by, request_by, receive_by}
use Rattle.server.proofs.Answering.{is_refused}
use Rattle.embed.specs.Words.{server_at, ready_of}
use Rattle.embed.specs.Ends.{Local}
use Rattle.embed.specs.Calls as calls
use Rattle.embed.proofs.Refusals.{ready_number, ready_number_law, Ended, through, refused, receive_ended, login_ended, request_ended}

-- ---- an answer's packet

abbrev size_of : Answer → ℕ
size_of (answer.Quiet taken) = 0
size_of (answer.Sent taken size) = size
size_of (answer.Closed taken) = 0
size_of (answer.Refused n) = 0

tell_size : (r : Reply) (taken : ℕ) (out : List ℕ) → size_of (replies.tell r taken out).answer ≤ 258
unfolding replies.tell
tell_size reply.Nothing taken out = omega arith
tell_size reply.Closing taken out = omega arith
tell_size reply.DataEnd taken out = omega arith
tell_size (reply.Login clock) taken out = omega arith
tell_size (reply.Go number offset) taken out = omega arith
tell_size (reply.UploadError e) taken out = omega arith
tell_size reply.Ack taken out = omega arith
tell_size (reply.Nak e) taken out = omega arith
tell_size (reply.DownloadError e) taken out = omega arith
tell_size reply.Aborted taken out = omega arith
tell_size reply.Completed taken out = omega arith
tell_size (reply.Selected count) taken out = omega arith

answered_size : (r : Reply) (taken : ℕ) (out : List ℕ) → size_of (replies.answered r taken out).answer ≤ 258
unfolding replies.answered
answered_size r taken out = go (ltb (length out) 258)
  where
    go : (t : Bool) → size_of (cond t (replies.told (answer.Refused 32) out) (replies.tell r taken out)).answer ≤ 258
    go true = omega arith
    go false = tell_size r taken out

least_size : (n : ℕ) → least_of n ≤ 256
unfolding least_of
least_size n = go (ltb n 256) refl
  where
    go : (t : Bool) → ltb n 256 ≡ t → cond t n 256 ≤ 256
    go true e = omega (arith, ltb-true n 256 e)
    go false e = omega arith

either_size : (t : Bool) (a b : Due) → size_of a.asked.answer ≤ 258 → size_of b.asked.answer ≤ 258
    → size_of (cond t a b).asked.answer ≤ 258
either_size true a b p q = p
either_size false a b p q = q

sending_size : (s : Session) (place offset sent : ℕ) (disk owner : List ℕ) (fs : List File) (out : List ℕ)
    → size_of (sending_of s place offset sent disk owner fs out).asked.answer ≤ 258
unfolding sending_of data_of
sending_size s place offset sent disk owner fs out =
    either_size (ltb (offset + sent) (file_at fs place).size) _ _ (omega (arith, least_size ((file_at fs place).size - (offset + sent))))
    (answered_size reply.DataEnd 0 out)

listed_size : (s : Session) (l : Listed) (long : Bool) (f : Filled) (out : List ℕ) → f.size ≤ 256
    → size_of (listed_as s l long f out).asked.answer ≤ 258
unfolding listed_as
listed_size s l long f out h = either_size (eqb f.size 0) _ _ (answered_size reply.DataEnd 0 out) (omega (arith, h))

due_size : (d : Downlink) (s : Session) (disk owner : List ℕ) (fs : List File) (selected out : List ℕ)
    → size_of (due_of d s disk owner fs selected out).asked.answer ≤ 258
unfolding due_of
due_size down.Idle s disk owner fs selected out = omega arith
due_size (down.Sending place offset sent) s disk owner fs selected out = sending_size s place offset sent disk owner fs out
due_size (down.Ended place) s disk owner fs selected out = omega arith
due_size (down.Aborting place) s disk owner fs selected out = answered_size reply.Aborted 0 out
due_size (down.Listing l long done sent) s disk owner fs selected out =
    listed_size s l long _ out (fill_size (entries_of l long s.next disk owner fs selected) done sent)

-- ---- the calls of the server

module _ (sv : Server) (l : Lent) (out : List ℕ) where
  on_receive_law : (k : Result ℕ ℕ) (clock : ℕ) (input : List ℕ) → size_of (on_check k sv l out clock input).done.answer ≤ 258
  unfolding on_check step_of heard_by answered_by
  on_receive_law (Err n) clock input = omega arith
  on_receive_law (Ok i) clock input = answered_size _ _ out

  on_login_law : (k : Result ℕ ℕ) (clock : ℕ) → size_of (on_login k sv out clock).done.answer ≤ 258
  unfolding on_login
  on_login_law (Err n) clock = omega arith
  on_login_law (Ok i) clock = answered_size (reply.Login clock) 0 out

  on_request_law : (k : Result ℕ ℕ) → size_of (on_request k sv l out).done.answer ≤ 258
  unfolding on_request due_as
  on_request_law (Err n) = omega arith
  on_request_law (Ok i) = due_size (link_of sv i).down (link_of sv i) l.disk _ _ _ out

-- ---- the calls

-- an answer is no refusal, or one by a number of the table
data Known (a : Answer) : Type 0 where
  open_way : is_refused a ≡ false → Known a
  shut_way : (n : ℕ) → Local n → a ≡ answer.Refused n → Known a

known : {R : Type 0} (answer_of : R → Answer) (same : ℕ → R) (r : R) → ((n : ℕ) → answer_of (same n) ≡ answer.Refused n) → Ended answer_of same r
    → Known (answer_of r)
known answer_of same r f (through p) = open_way p
known answer_of same r f (refused n h e) = shut_way n h (ap answer_of e ∙ f n)

tell_bound : (a : Answer) (sv : Server) (state counts : List ℕ) → Known a → size_of a ≤ 258 → (calls.tell_of a sv state counts).code ≤ 2
    → get_or (calls.tell_of a sv state counts).counts 1 0 ≤ 258
unfolding calls.tell_of
tell_bound (answer.Quiet taken) sv state counts k h e = omega arith
tell_bound (answer.Sent taken size) sv state counts k h e = h
tell_bound (answer.Closed taken) sv state counts k h e = omega arith
tell_bound (answer.Refused n) sv state counts (open_way p) h e = absurd (let z : ◌≡◌ {A = ℕ} 0 1 = cc in omega arith)
tell_bound (answer.Refused n) sv state counts (shut_way m q p) h e = let z : n ≡ m = cc in absurd (omega (arith, z, q.0, e))

by_ready : {R : Type 0} (code_of size_in : R → ℕ) (fit : Bool) (state : List ℕ) (counts : ℕ) (f : Result ⊤ ℕ → R) → ((n : ℕ) → code_of (f (Err n)) ≡ n)
    → (code_of (f (Ok tt)) ≤ 2 → size_in (f (Ok tt)) ≤ 258)
    → code_of (f (ready_of fit state counts)) ≤ 2 → size_in (f (ready_of fit state counts)) ≤ 258
by_ready code_of size_in fit state counts f kept gone = go (ready_of fit state counts) (ready_number_law fit state counts)
  where
    go : (k : Result ⊤ ℕ) → Local (ready_number k) → code_of (f k) ≤ 2 → size_in (f k) ≤ 258
    go (Err n) h c = absurd (omega (arith, kept n, h.0, c))
    go (Ok done) h c = gone c

module _ (state counts : List ℕ) (l : Lent) (session : ℕ) (out : List ℕ) where
  pub receive_length : (clock : ℕ) (input : List ℕ) → (calls.receive_by state counts l out session clock input).told.code ≤ 2
      → get_or (calls.receive_by state counts l out session clock input).told.counts 1 0 ≤ 258
  unfolding calls.receive_by calls.on_receive receive_of receive_by
  receive_length clock input =
      by_ready (λ (r : calls.Received). r.told.code) (λ (r : calls.Received). get_or r.told.counts 1 0) (calls.fits_at state l) state (length counts)
      (λ (k : Result ⊤ ℕ). calls.on_receive k state counts l out session clock input) (λ n. refl)
      (tell_bound _ _ state counts (known (λ (o : Outcome). o.done.answer) _ _ (λ n. refl)
      (receive_ended (server_at state) l session out clock input))
      (on_receive_law (server_at state) l out (check_of (server_at state) l session true (length out)) clock input))

  pub open_length : (clock : ℕ) → (calls.open_by state counts l out session clock).told.code ≤ 2
      → get_or (calls.open_by state counts l out session clock).told.counts 1 0 ≤ 258
  unfolding calls.open_by calls.on_open login_of login_by
  open_length clock =
      by_ready (λ (r : calls.Sent). r.told.code) (λ (r : calls.Sent). get_or r.told.counts 1 0) (calls.fits_at state l) state (length counts)
      (λ (k : Result ⊤ ℕ). calls.on_open k state counts l out session clock) (λ n. refl)
      (tell_bound _ _ state counts (known (λ (o : Opened). o.done.answer) _ _ (λ n. refl) (login_ended (server_at state) l session out clock))
      (on_login_law (server_at state) l out (check_of (server_at state) l session false (length out)) clock))

  pub request_length : (calls.request_by state counts l out session).told.code ≤ 2
      → get_or (calls.request_by state counts l out session).told.counts 1 0 ≤ 258
  unfolding calls.request_by calls.on_request request_of request_by
  request_length =
      by_ready (λ (r : calls.Sent). r.told.code) (λ (r : calls.Sent). get_or r.told.counts 1 0) (calls.fits_at state l) state (length counts)
      (λ (k : Result ⊤ ℕ). calls.on_request k state counts l out session) (λ n. refl)
      (tell_bound _ _ state counts (known (λ (o : Opened). o.done.answer) _ _ (λ n. refl) (request_ended (server_at state) l session out))
      (on_request_law (server_at state) l out (check_of (server_at state) l session true (length out))))
