-- Every call answers 0, 1 or 2, or refuses by 32 to 35, and then nothing at all has changed: "32 to 35 change nothing, take no byte and write
-- nothing."
use Rattle.std.specs.Prelude.{⊤, Result, Ok, Err}
use mathlib.Core.Path.{◌≡◌, refl, ap, subst}
use mathlib.Core.Bool.{Bool, true, false, cond}
use mathlib.Core.List.{List, ◌++◌}
use Prim.Native.Nat.{ℕ, ◌+◌, ◌-◌, ◌≤◌}
use native.Mathlib.Omega.{arith}
use lib.Dec.{eqb, ltb}
use lib.ListN.{length, drop}
use Rattle.session.specs.declared.state.Downlink.TheVariants as down
use Rattle.session.specs.declared.reply.Answer.{Answer}
use Rattle.session.specs.declared.reply.Answer.TheVariants as answer
use Rattle.session.specs.declared.reply.Reply.TheVariants as reply
use Rattle.session.specs.Reply as replies
use Rattle.server.specs.declared.Server.{Server}
use Rattle.server.specs.State.{Lent, link_of, Outcome, outcome, done_with}
use Rattle.server.specs.Check.{sizes_fit, sound_in, fits, in_state, session_check, check_by, check_of}
use Rattle.server.specs.Calls.{on_check, receive_by, receive_of, Opened, opened, on_login}
use Rattle.server.specs.Calls.{login_by, login_of, Lost, lost, on_lose, lose_by, lose_of, due_as, on_request, request_by, request_of}
use Rattle.server.specs.Making.{Emptied, emptied, new_server, empty_of, makes, make_of}
use Rattle.server.proofs.CheckLaws.{check_go}
use Rattle.server.proofs.Answering.{is_refused, answered_not, step_not, due_not}
use Rattle.embed.specs.Words.{server_at, is_state, ready_of}
use Rattle.embed.specs.Ends.{Local, Ends, answered, unchanged}
use Rattle.embed.specs.Calls as calls

-- ---- the number of a refusal

abbrev pub check_number : Result ℕ ℕ → ℕ
check_number (Ok i) = 33
check_number (Err n) = n

session_number : (sv : Server) (session : ℕ) (wanted : Bool) (out : ℕ) → Local (check_number (session_check sv session wanted out))
unfolding session_check
session_number sv session wanted out =
    go (eqb session 0) (ltb sv.sessions session) (in_state wanted (link_of sv (session - 1)).linked) (ltb out 258)
  where
    go : (a b c d : Bool)
        → Local (check_number (cond a (Err 34) (cond b (Err 34)
        (cond c (cond d (Err 32) (Ok (session - 1))) (Err 34)))))
    go true b c d = (omega arith, omega arith)
    go false true c d = (omega arith, omega arith)
    go false false false d = (omega arith, omega arith)
    go false false true true = (omega arith, omega arith)
    go false false true false = (omega arith, omega arith)

pub check_number_law : (sv : Server) (l : Lent) (session : ℕ) (wanted : Bool) (out : ℕ) → Local (check_number (check_of sv l session wanted out))
unfolding check_by
check_number_law sv l session wanted out =
    go (fits sv (length l.disk) l.map l.owner l.table l.selected l.held) (sound_in sv l)
  where
    go : (a b : Bool) → Local (check_number (cond a (cond b (session_check sv session wanted out) (Err 35)) (Err 33)))
    go false b = (omega arith, omega arith)
    go true false = (omega arith, omega arith)
    go true true = session_number sv session wanted out

abbrev pub ready_number : Result ⊤ ℕ → ℕ
ready_number (Ok done) = 33
ready_number (Err n) = n

pub ready_number_law : (fit : Bool) (state : List ℕ) (counts : ℕ) → Local (ready_number (ready_of fit state counts))
unfolding ready_of
ready_number_law fit state counts = go (ltb (length state) 54) (ltb counts 2) fit (is_state state)
  where
    go : (a b f c : Bool)
        → Local (ready_number (cond a (Err 33) (cond b (Err 33) (cond f (cond c (Ok tt) (Err 35)) (Err 33)))))
    go true b f c = (omega arith, omega arith)
    go false true f c = (omega arith, omega arith)
    go false false false c = (omega arith, omega arith)
    go false false true true = (omega arith, omega arith)
    go false false true false = (omega arith, omega arith)

-- ---- the server's calls: not refused, or refused by a number of the table with all as it was

-- the answer of what a call leaves, and what it leaves where it is refused by n
pub data Ended {R : Type 0} (answer_of : R → Answer) (same : ℕ → R) (r : R) : Type 0 where
  through : is_refused (answer_of r) ≡ false → Ended answer_of same r
  refused : (n : ℕ) → Local n → r ≡ same n → Ended answer_of same r

module _ (sv : Server) (l : Lent) (session : ℕ) where
  -- the check's two cases
  by_check : {R : Type 0} (answer_of : R → Answer) (same : ℕ → R) (wanted : Bool) (out : ℕ) (f : Result ℕ ℕ → R)
      → ((n : ℕ) → f (Err n) ≡ same n) → ((i : ℕ) → 258 ≤ out → is_refused (answer_of (f (Ok i))) ≡ false)
      → Ended answer_of same (f (check_of sv l session wanted out))
  by_check answer_of same wanted out f kept gone =
      go (check_of sv l session wanted out) refl (check_number_law sv l session wanted out)
    where
      go : (k : Result ℕ ℕ) → check_of sv l session wanted out ≡ k → Local (check_number (check_of sv l session wanted out)) → Ended answer_of same (f k)
      go (Err n) e h = refused n (subst (λ (c : Result ℕ ℕ). Local (check_number c)) e h) (kept n)
      go (Ok i) e h =
          through (gone i (check_go _ sv session wanted out (length l.disk) l.map l.owner l.table l.selected l.held i e).out)

  pub receive_ended : (out : List ℕ) (clock : ℕ) (input : List ℕ)
      → Ended (λ (o : Outcome). o.done.answer) (λ (n : ℕ). outcome (done_with sv (answer.Refused n)) l out) (receive_of sv l out session clock input)
  unfolding receive_of receive_by on_check
  receive_ended out clock input =
      by_check _ _ true (length out) (λ (k : Result ℕ ℕ). on_check k sv l out clock input) (λ n. refl) (λ i h. step_not sv i clock input l out h)

  pub login_ended : (out : List ℕ) (clock : ℕ)
      → Ended (λ (o : Opened). o.done.answer) (λ (n : ℕ). opened (done_with sv (answer.Refused n)) out) (login_of sv l out session clock)
  unfolding login_of login_by on_login
  login_ended out clock =
      by_check _ _ false (length out) (λ (k : Result ℕ ℕ). on_login k sv out clock) (λ n. refl) (λ i h. answered_not (reply.Login clock) 0 out h)

  pub request_ended : (out : List ℕ)
      → Ended (λ (o : Opened). o.done.answer) (λ (n : ℕ). opened (done_with sv (answer.Refused n)) out) (request_of sv l out session)
  unfolding request_of request_by on_request due_as
  request_ended out =
      by_check _ _ true (length out) (λ (k : Result ℕ ℕ). on_request k sv l out) (λ n. refl)
      (λ i h. due_not (link_of sv i).down (link_of sv i) l.disk _ _ _ out h)

  pub lose_ended : Ended (λ (o : Lost). o.done.answer) (λ (n : ℕ). lost (done_with sv (answer.Refused n)) l.selected l.held)
      (lose_of sv l session)
  unfolding lose_of lose_by on_lose
  lose_ended = by_check _ _ true 258 (λ (k : Result ℕ ℕ). on_lose k sv l.selected l.held) (λ n. refl) (λ i h. refl)

-- ---- the calls

tell_code : (a : Answer) (sv : Server) (state counts : List ℕ) → is_refused a ≡ false → (calls.tell_of a sv state counts).code ≤ 2
unfolding calls.tell_of
tell_code (answer.Quiet taken) sv state counts e = omega arith
tell_code (answer.Sent taken size) sv state counts e = omega arith
tell_code (answer.Closed taken) sv state counts e = omega arith
tell_code (answer.Refused n) sv state counts e = absurd (let z : ◌≡◌ {A = ℕ} 0 1 = cc in omega arith)

by_ready : {R : Type 0} (code_of : R → ℕ) (same : ℕ → R) (fit : Bool) (state : List ℕ) (counts : ℕ) (f : Result ⊤ ℕ → R)
    → ((n : ℕ) → f (Err n) ≡ same n) → Ends code_of same (f (Ok tt)) → Ends code_of same (f (ready_of fit state counts))
by_ready code_of same fit state counts f kept gone = go (ready_of fit state counts) (ready_number_law fit state counts)
  where
    go : (k : Result ⊤ ℕ) → Local (ready_number k) → Ends code_of same (f k)
    go (Err n) h = unchanged n h (kept n)
    go (Ok done) h = gone

module _ (state counts : List ℕ) (l : Lent) (session : ℕ) where
  receive_go : (out : List ℕ) (o : Outcome)
      → Ended (λ (o : Outcome). o.done.answer) (λ (n : ℕ). outcome (done_with (server_at state) (answer.Refused n)) l out) o
      → Ends (λ (r : calls.Received). r.told.code) (λ (n : ℕ). calls.received (calls.told n state counts) l out) (calls.received_by state counts o)
  unfolding calls.tell_of
  receive_go out o (through p) = answered (tell_code o.done.answer o.done.server state counts p)
  receive_go out o (refused n h e) = unchanged n h (ap (calls.received_by state counts) e)

  pub receive_ends : (out : List ℕ) (clock : ℕ) (input : List ℕ)
      → Ends (λ (r : calls.Received). r.told.code) (λ (n : ℕ). calls.received (calls.told n state counts) l out)
      (calls.receive_by state counts l out session clock input)
  unfolding calls.receive_by calls.on_receive
  receive_ends out clock input =
      by_ready _ _ (calls.fits_at state l) state (length counts) (λ (k : Result ⊤ ℕ). calls.on_receive k state counts l out session clock input) (λ n. refl)
      (receive_go out _ (receive_ended (server_at state) l session out clock input))

  sent_go : (out : List ℕ) (o : Opened)
      → Ended (λ (o : Opened). o.done.answer) (λ (n : ℕ). opened (done_with (server_at state) (answer.Refused n)) out) o
      → Ends (λ (r : calls.Sent). r.told.code) (λ (n : ℕ). calls.sent (calls.told n state counts) out) (calls.sent_by state counts o)
  unfolding calls.tell_of
  sent_go out o (through p) = answered (tell_code o.done.answer o.done.server state counts p)
  sent_go out o (refused n h e) = unchanged n h (ap (calls.sent_by state counts) e)

  pub open_ends : (out : List ℕ) (clock : ℕ)
      → Ends (λ (r : calls.Sent). r.told.code) (λ (n : ℕ). calls.sent (calls.told n state counts) out)
      (calls.open_by state counts l out session clock)
  unfolding calls.open_by calls.on_open
  open_ends out clock =
      by_ready _ _ (calls.fits_at state l) state (length counts) (λ (k : Result ⊤ ℕ). calls.on_open k state counts l out session clock) (λ n. refl)
      (sent_go out _ (login_ended (server_at state) l session out clock))

  pub request_ends : (out : List ℕ)
      → Ends (λ (r : calls.Sent). r.told.code) (λ (n : ℕ). calls.sent (calls.told n state counts) out) (calls.request_by state counts l out session)
  unfolding calls.request_by calls.on_request
  request_ends out =
      by_ready _ _ (calls.fits_at state l) state (length counts) (λ (k : Result ⊤ ℕ). calls.on_request k state counts l out session) (λ n. refl)
      (sent_go out _ (request_ended (server_at state) l session out))

  lose_go : (o : Lost)
      → Ended (λ (o : Lost). o.done.answer) (λ (n : ℕ). lost (done_with (server_at state) (answer.Refused n)) l.selected l.held) o
      → Ends (λ (r : calls.Gone). r.told.code) (λ (n : ℕ). calls.gone (calls.told n state counts) l.selected l.held)
      (calls.gone_by state counts o)
  unfolding calls.tell_of
  lose_go o (through p) = answered (tell_code o.done.answer o.done.server state counts p)
  lose_go o (refused n h e) = unchanged n h (ap (calls.gone_by state counts) e)

  pub lose_ends :
      Ends (λ (r : calls.Gone). r.told.code) (λ (n : ℕ). calls.gone (calls.told n state counts) l.selected l.held)
      (calls.lose_by state counts l session)
  unfolding calls.lose_by calls.on_lose
  lose_ends =
      by_ready _ _ (calls.fits_at state l) state (length counts) (λ (k : Result ⊤ ℕ). calls.on_lose k state counts l session) (λ n. refl)
      (lose_go _ (lose_ended (server_at state) l session))

-- making a server answers 0, or 33 with all as it was
module _ (blocks files sessions most : ℕ) (state : List ℕ) (disk : ℕ) (l : Emptied) where
  pub make_ends : Ends (λ (r : calls.Begun). r.code) (λ (n : ℕ). calls.begun n state l) (calls.make_by blocks files sessions most state disk l)
  unfolding calls.make_by make_of calls.keep_of
  make_ends = go (ltb (length state) 54) (fits (new_server blocks files sessions most) disk l.map l.owner l.table l.selected l.held)
    where
      go : (a b : Bool)
          → Ends (λ (r : calls.Begun). r.code) (λ (n : ℕ). calls.begun n state l)
          (cond a (calls.begun 33 state l)
          (calls.begun_by state
          (cond b
          (makes (Ok (new_server blocks files sessions most))
          (empty_of blocks files sessions most l.map l.owner l.table l.selected l.held))
          (makes (Err 33)
          (emptied l.map l.owner l.table l.selected l.held)))))
      go true b = unchanged 33 (omega arith, omega arith) refl
      go false true = answered (omega arith)
      go false false = unchanged 33 (omega arith, omega arith) refl

-- so do the two calls that only write numbers
module _ (blocks files sessions most : ℕ) (need : List ℕ) where
  pub memory_ends : Ends (λ (r : calls.Filled). r.code) (λ (n : ℕ). calls.filled n need) (calls.memory_by blocks files sessions most need)
  unfolding calls.memory_by
  memory_ends = go (ltb (length need) 7) (sizes_fit blocks files sessions most)
    where
      go : (a b : Bool)
          → Ends (λ (r : calls.Filled). r.code) (λ (n : ℕ). calls.filled n need)
          (cond a (calls.filled 33 need)
          (cond b (calls.filled 0 (calls.lengths_for blocks files sessions most ++ drop 7 need)) (calls.filled 33 need)))
      go true b = unchanged 33 (omega arith, omega arith) refl
      go false true = answered (omega arith)
      go false false = unchanged 33 (omega arith, omega arith) refl

module _ (map counts : List ℕ) where
  pub free_ends : (state : List ℕ) → Ends (λ (r : calls.Filled). r.code) (λ (n : ℕ). calls.filled n counts) (calls.free_by state map counts)
  unfolding calls.free_by calls.on_free
  free_ends state =
      by_ready _ _ (calls.map_fits (server_at state) (length map)) state (length counts) (λ (k : Result ⊤ ℕ). calls.on_free k state map counts) (λ n. refl)
      (answered (omega arith))
