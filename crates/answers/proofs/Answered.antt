-- Demand 1: every call is answered, the local refusals come in the paper's order, and a packet of refusal changes nothing else. Assumes nothing.
use Rattle.std.specs.Prelude.{Result, Ok, Err}
use mathlib.Core.Path.{◌≡◌, refl, sym, ap, ◌∙◌, subst}
use mathlib.Core.Bool.{Bool, true, false, cond}
use mathlib.Core.List.{List, [], ◌∷◌, ◌++◌}
use Prim.Native.Nat.{ℕ, zero, suc, ◌+◌, ◌*◌, ◌-◌, ◌/◌, ◌%◌, ◌≤◌}
use native.Mathlib.Omega.{arith}
use borrow.Author.Tests.{le-ltb, lt-ltb, ltb-true, ltb-false, eqb-true, eqb-false}
use lib.Dec.{eqb, ltb}
use lib.ListN.{length, take, drop, set, get_or, replicate, length-append, length-drop, length-replicate}
use lib.Seq.{get_or-set_same, set_out, length-take-le}
use Rattle.numbers.specs.Numbers.{two, four}
use Rattle.packet.specs.Packet.{packet_of}
use Rattle.blocks.specs.Answers.{read_out, window_number}
use Rattle.blocks.proofs.Laws.{read_gives, read_refused}
use Rattle.session.specs.declared.state.Session.{Session}
use Rattle.session.specs.declared.state.Downlink.{Downlink}
use Rattle.session.specs.declared.state.Downlink.TheVariants as down
use Rattle.session.specs.declared.reply.Reply.{Reply}
use Rattle.session.specs.declared.reply.Reply.TheVariants as reply
use Rattle.session.specs.declared.reply.Answer.TheVariants as answer
use Rattle.session.specs.State.{closed_session, with_held, with_up, with_down}
use Rattle.session.specs.Reply.{Told, told, sent_info, tell, answered}
use Rattle.table.specs.declared.File.{File}
use Rattle.table.specs.Table.{files, file_at}
use Rattle.carry.specs.declared.turn.Turn.{Turn}
use Rattle.carry.specs.Turn.{turn_of, Mem, mem, Turned, turned}
use Rattle.server.specs.declared.Server.{Server}
use Rattle.server.specs.State.{Lent, lent, Outcome, outcome, done_with, link_of, with_link, with_turn, with_part, owner_part, table_part}
use Rattle.server.specs.Check.{fits, check_of}
use Rattle.session.specs.declared.state.Listed.{Listed}
use Rattle.listing.specs.declared.Filled.{Filled}
use Rattle.listing.specs.Listing.{entries_of, fill_of}
use Rattle.listing.proofs.FillLaws.{fill_size, fill_whole}
use Rattle.sending.specs.Sending.{Due, asked, asked_of, least_of, bytes_from, data_of, sending_of, listed_as, due_of}
use Rattle.server.specs.Calls.{on_login, login_of, on_lose, lose_of, due_as, on_request, request_of, on_check, receive_of, login_by, request_by, receive_by, lose_by}
use Rattle.server.specs.Making.{new_server, make_of}
use Rattle.server.proofs.Answering.{is_refused, tell_not, answered_not, due_not}
use Rattle.history.specs.Calls.{Call, login, receive, request, lose, call_of}
use Rattle.promises.specs.Parts.{session_in, bytes_in, out_in, open_in, room_in, check_in, one_of}
use Rattle.promises.specs.Demand1.{Sends, Answers, refuses, silent, closes, sends, EveryCallAnswers, RefusedBy, Fits, IsSound}
use Rattle.promises.specs.Demand1.{Reachable, EveryLocalRefusal, Says, forgotten, cleared, NothingElse, upload_errors, download_errors}
use Rattle.promises.specs.Demand1.{naks, PacketRefusal, UploadOver, EveryUploadError, EveryDownloadError, Naks, EveryNak, EveryMaking}
use Rattle.answers.proofs.Checks.{check_33, check_35, check_sound, session_34, session_through, check_through, check_refuses, not-true}
use Rattle.answers.proofs.Carried.{is_plain}
use Rattle.answers.proofs.Receiving as steps

-- ---- what a reply puts out

pub data Tells (r : Reply) (taken : ℕ) (out : List ℕ) : Type 0 where
  quiet : tell r taken out ≡ told (answer.Quiet taken) out → Tells r taken out
  closing : r ≡ reply.Closing → tell r taken out ≡ told (answer.Closed taken) out → Tells r taken out
  sending : (kind : ℕ) (info : List ℕ) → kind ≤ 17 → length info ≤ 256 → tell r taken out ≡ sent_info kind info taken out → Tells r taken out

pub tells : (r : Reply) (taken : ℕ) (out : List ℕ) → Tells r taken out
unfolding tell
tells reply.Nothing taken out = quiet refl
tells reply.Closing taken out = closing refl refl
tells reply.DataEnd taken out = sending 1 [] (omega arith) (omega arith) refl
tells (reply.Login clock) taken out = sending 2 (four clock ++ 4 ∷ []) (omega arith) (omega arith) refl
tells (reply.Go number offset) taken out = sending 4 (four number ++ four offset) (omega arith) (omega arith) refl
tells (reply.UploadError e) taken out = sending 5 (e ∷ []) (omega arith) (omega arith) refl
tells reply.Ack taken out = sending 6 [] (omega arith) (omega arith) refl
tells (reply.Nak e) taken out = sending 7 (e ∷ []) (omega arith) (omega arith) refl
tells (reply.DownloadError e) taken out = sending 9 (e ∷ []) (omega arith) (omega arith) refl
tells reply.Aborted taken out = sending 10 [] (omega arith) (omega arith) refl
tells reply.Completed taken out = sending 11 [] (omega arith) (omega arith) refl
tells (reply.Selected count) taken out = sending 17 (two count) (omega arith) (omega arith) refl

-- a packet in front of what it leaves of the output
packet_length : (kind : ℕ) (info out : List ℕ) → length info ≤ 256 → 258 ≤ length out
    → length (packet_of kind info ++ drop (2 + length info) out) ≡ length out
unfolding packet_of
packet_length kind info out h r =
    length-append (length info % 256 ∷ (kind + 32 * (length info / 256)) ∷ info) (drop (2 + length info) out) ∙ rw
    (length-drop (2 + length info) out) (omega arith)

sends_packet : (c : Call) (o : Outcome) (taken kind : ℕ) (info : List ℕ) → taken ≤ length (bytes_in c) → kind ≤ 17 → length info ≤ 256
    → 258 ≤ length (out_in c)
    → o.done.answer ≡ answer.Sent taken (2 + length info)
    → o.out ≡ packet_of kind info ++ drop (2 + length info) (out_in c)
    → Sends c o
sends_packet c o taken kind info w k n r a e =
    record {
      taken = taken;
      within = w;
      kind = kind;
      info = info;
      listed = k;
      most = n;
      answered = a;
      out = e;
      same_length = ap length e ∙ packet_length kind info (out_in c) n r;
    }

-- a reply of a call that has room
replied : (sv : Server) (l : Lent) (c : Call) (o : Outcome) (r : Reply) (taken : ℕ) → taken ≤ length (bytes_in c) → 258 ≤ length (out_in c)
    → o.done.answer ≡ (tell r taken (out_in c)).answer
    → o.out ≡ (tell r taken (out_in c)).out
    → (r ≡ reply.Closing → link_of o.done.server (session_in c - 1) ≡ closed_session)
    → Answers sv l c o
replied sv l c o r taken w room a e closed = go (tells r taken (out_in c))
  where
    go : Tells r taken (out_in c) → Answers sv l c o
    go (quiet q) = silent (record { taken = taken; within = w; answered = a ∙ ap (λ (t : Told). t.answer) q; out = e ∙ ap (λ (t : Told). t.out) q })
    go (closing z q) =
        closes (record {
          taken = taken;
          within = w;
          answered = a ∙ ap (λ (t : Told). t.answer) q;
          out = e ∙ ap (λ (t : Told). t.out) q;
          session = closed z;
        })
    go (sending kind info k n q) =
        sends (sends_packet c o taken kind info w k n room (a ∙ ap (λ (t : Told). t.answer) q) (e ∙ ap (λ (t : Told). t.out) q))

told_room : (r : Reply) (taken : ℕ) (out : List ℕ) → 258 ≤ length out → answered r taken out ≡ tell r taken out
unfolding answered
told_room r taken out h = rw (le-ltb (length out) 258 h)

-- ---- refused locally

pub refused_call : (sv : Server) (l : Lent) (c : Call) (n : ℕ) → check_in sv l c ≡ Err n
    → call_of sv l c ≡ outcome (done_with sv (answer.Refused n)) l (out_in c)
unfolding receive_of receive_by on_check login_of login_by on_login request_of request_by on_request lose_of lose_by on_lose
refused_call sv l (login session clock out) n e = rw e
refused_call sv l (receive session clock input out) n e = rw e
refused_call sv l (request session out) n e = rw e
refused_call sv l (lose session) n e = let refused : check_of sv l session true 258 ≡ Err n = e in rw refused

-- ---- the calls that go through

clash : false ≡ true → ⊥
clash e = let z : ◌≡◌ {A = ℕ} 0 1 = cc in omega arith

closed_link : (links : List Session) (i : ℕ) → get_or (set links i closed_session) i closed_session ≡ closed_session
closed_link links i = go (ltb i (length links)) refl
  where
    beyond : (ks : List Session) (k : ℕ) → length ks ≤ k → get_or ks k closed_session ≡ closed_session
    beyond [] k h = refl
    beyond (x ∷ ks) zero h = absurd (omega arith)
    beyond (x ∷ ks) (suc k) h = beyond ks k (omega arith)

    go : (t : Bool) → ltb i (length links) ≡ t → get_or (set links i closed_session) i closed_session ≡ closed_session
    go true q = get_or-set_same links i closed_session closed_session (ltb-true i (length links) q)
    go false q =
        let h = ltb-false i (length links) q in
        ap (λ (ks : List Session). get_or ks i closed_session) (set_out links i closed_session h) ∙ beyond links i h

-- a turn whose reply is the closing leaves the session closed
acted_closed : (sv : Server) (i : ℕ) (s : Session) (m : Mem) (t : Turned) → steps.Acted sv i s m t → t.turn.reply ≡ reply.Closing
    → t.turn.session ≡ closed_session
acted_closed sv i s m t (steps.plain p) e = absurd (clash (sym (ap is_plain e) ∙ p))
acted_closed sv i s m t (steps.closing q) e = ap (λ (u : Turned). u.turn.session) q
acted_closed sv i s m t (steps.upload_error n o q) e =
    let c : reply.UploadError n ≡ reply.Closing = sym (ap (λ (u : Turned). u.turn.reply) q) ∙ e in
    let z : ◌≡◌ {A = ℕ} 0 1 = cc in absurd (omega arith)
acted_closed sv i s m t (steps.download_error n o q) e =
    let c : reply.DownloadError n ≡ reply.Closing = sym (ap (λ (u : Turned). u.turn.reply) q) ∙ e in
    let z : ◌≡◌ {A = ℕ} 0 1 = cc in absurd (omega arith)
acted_closed sv i s m t (steps.nak n u o v q k) e =
    let c : reply.Nak n ≡ reply.Closing = sym (ap (λ (u : _). u.reply) q) ∙ e in
    let z : ◌≡◌ {A = ℕ} 0 1 = cc in absurd (omega arith)

-- ---- receive

received : (sv : Server) (l : Lent) (session clock : ℕ) (input out : List ℕ)
    → Answers sv l (receive session clock input out) (call_of sv l (receive session clock input out))
received sv l session clock input out = go (steps.receives sv l session clock input out)
  where
    go : steps.Receives sv l session clock input out → Answers sv l (receive session clock input out) (receive_of sv l out session clock input)
    go (steps.refused n o e q) = refuses (record { number = n; listed = o; same = q })
    go (steps.ends_none e) =
        silent (record {
          taken = length input;
          within = omega arith;
          answered = ap (λ (o : Outcome). o.done.answer) e.is;
          out = ap (λ (o : Outcome). o.out) e.is;
        })
    go (steps.ends_packet e) =
        replied sv l (receive session clock input out) (receive_of sv l out session clock input) e.turn.turn.reply e.heard.taken
        e.heard.within
        e.through.room (ap (λ (o : Outcome). o.done.answer) e.is) (ap (λ (o : Outcome). o.out) e.is)
        (λ z.
        ap (λ (o : Outcome). link_of o.done.server (session - 1)) e.is
        ∙ ap (λ (k : ℕ). get_or (set sv.links k e.turn.turn.session) (session - 1) closed_session) e.through.index
        ∙ ap (λ (s : Session). get_or (set sv.links (session - 1) s) (session - 1) closed_session) (acted_closed sv e.i _ _ e.turn e.acted z)
        ∙ closed_link sv.links (session - 1))

-- ---- login

logged_in_law : (sv : Server) (l : Lent) (session clock : ℕ) (out : List ℕ)
    → Answers sv l (login session clock out) (call_of sv l (login session clock out))
unfolding login_of login_by on_login
logged_in_law sv l session clock out = go (check_of sv l session false (length out)) refl
  where
    go : (k : Result ℕ ℕ) → check_of sv l session false (length out) ≡ k
        → Answers sv l (login session clock out) (outcome (on_login k sv out clock).done l (on_login k sv out clock).out)
    go (Err n) e = refuses (record { number = n; listed = check_refuses sv l session false (length out) n e; same = refl })
    go (Ok i) e =
        let t = check_through sv l session false (length out) i e in
        let q = told_room (reply.Login clock) 0 out t.room in
        replied sv l (login session clock out) _ (reply.Login clock) 0 (omega arith) t.room (ap (λ (t : Told). t.answer) q)
        (ap (λ (t : Told). t.out) q)
        (λ z. let y : ◌≡◌ {A = ℕ} 0 1 = cc in absurd (omega arith))

-- ---- lose

lost : (sv : Server) (l : Lent) (session : ℕ) → Answers sv l (lose session) (call_of sv l (lose session))
unfolding lose_of lose_by on_lose
lost sv l session = go (check_of sv l session true 258) refl
  where
    go : (k : Result ℕ ℕ) → check_of sv l session true 258 ≡ k
        → Answers sv l (lose session)
        (outcome (on_lose k sv l.selected l.held).done
        (lent l.disk l.map l.owner l.table (on_lose k sv l.selected l.held).selected
        (on_lose k sv l.selected l.held).held) [])
    go (Err n) e = refuses (record { number = n; listed = check_refuses sv l session true 258 n e; same = refl })
    go (Ok i) e = silent (record { taken = 0; within = omega arith; answered = refl; out = refl })

-- ---- request

bytes_length : (disk owner : List ℕ) (place at n : ℕ) → length (bytes_from disk owner place at n) ≡ n
bytes_length disk owner place at n = go (eqb (window_number (length disk) owner (place % 65536) at (length zeros)) 0) refl
  where
    zeros : List ℕ
    zeros = replicate n 0

    size : length zeros ≡ n
    size = length-replicate {A = ℕ} n 0

    go : (t : Bool) → eqb (window_number (length disk) owner (place % 65536) at (length zeros)) 0 ≡ t
        → length (read_out disk owner (place % 65536) at zeros) ≡ n
    go true q = (read_gives disk owner (place % 65536) at zeros (eqb-true _ _ q)).1 ∙ size
    go false q = ap length (read_refused disk owner (place % 65536) at zeros (eqb-false _ _ q)) ∙ size

-- a reply that is due, with the session after it
abbrev due_as_law : Session → Told → Due
due_as_law s t = record { asked = record { session = s; answer = t.answer }; out = t.out }

least_most : (n : ℕ) → least_of n ≤ 256
unfolding least_of
least_most n = go (ltb n 256) refl
  where
    go : (t : Bool) → ltb n 256 ≡ t → cond t n 256 ≤ 256
    go true q = omega (arith, ltb-true n 256 q)
    go false q = omega arith

module _ (sv : Server) (l : Lent) (session : ℕ) (out : List ℕ) (room : 258 ≤ length out) where
  Fine : Server → Due → Type 0
  Fine sv' d = Answers sv l (request session out) (outcome (done_with sv' d.asked.answer) l d.out)

  due_told : (sv' : Server) (s : Session) (r : Reply) → (r ≡ reply.Closing → ⊥)
      → Answers sv l (request session out) (outcome (done_with sv' (answered r 0 out).answer) l (answered r 0 out).out)
  due_told sv' s r n =
      let q = told_room r 0 out room in
      replied sv l (request session out) _ r 0 (omega arith) room (ap (λ (t : Told). t.answer) q) (ap (λ (t : Told). t.out) q) (λ z. absurd (n z))

  due_data : (sv' : Server) (s : Session) (place offset sent n : ℕ) (disk owner : List ℕ) → n ≤ 256
      → Fine sv' (data_of s place offset sent n disk owner out)
  unfolding data_of Fine
  due_data sv' s place offset sent n disk owner h =
      let e = bytes_length disk owner place (offset + sent) n in
      sends
      (sends_packet (request session out) _ 0 0 (bytes_from disk owner place (offset + sent) n) (omega arith) (omega arith) (omega arith) room
      (ap (λ (k : ℕ). answer.Sent 0 (2 + k)) (sym e))
      (ap (λ (k : ℕ). packet_of 0 (bytes_from disk owner place (offset + sent) n) ++ drop (2 + k) out) (sym e)))

  due_sending : (sv' : Server) (s : Session) (place offset sent : ℕ) (disk owner : List ℕ) (fs : List File)
      → Fine sv' (sending_of s place offset sent disk owner fs out)
  unfolding sending_of Fine
  due_sending sv' s place offset sent disk owner fs = go (ltb (offset + sent) (file_at fs place).size)
    where
      go : (t : Bool)
          → Fine sv'
          (cond t (data_of s place offset sent (least_of ((file_at fs place).size - (offset + sent))) disk owner out)
          (due_as_law (with_down s (down.Ended place)) (answered reply.DataEnd 0 out)))
      go true = due_data sv' s place offset sent _ disk owner (least_most ((file_at fs place).size - (offset + sent)))
      go false = due_told sv' s reply.DataEnd (λ z. let y : ◌≡◌ {A = ℕ} 0 1 = cc in omega arith)

  due_filled : (sv' : Server) (s : Session) (t : Listed) (long : Bool) (f : Filled) → f.size ≤ 256 → length f.bytes ≡ 256
      → Fine sv' (listed_as s t long f out)
  unfolding listed_as Fine
  due_filled sv' s t long f h whole = go (eqb f.size 0)
    where
      size : length (take f.size f.bytes) ≡ f.size
      size = length-take-le f.size f.bytes (omega (arith, h, whole))

      go : (b : Bool)
          → Fine sv'
          (cond b (due_as_law (with_down s down.Idle) (answered reply.DataEnd 0 out))
          (asked (asked_of (with_down s (down.Listing t long f.done f.sent)) (answer.Sent 0 (2 + f.size)))
          (packet_of 0 (take f.size f.bytes) ++ drop (2 + f.size) out)))
      go true = due_told sv' s reply.DataEnd (λ z. let y : ◌≡◌ {A = ℕ} 0 1 = cc in omega arith)
      go false =
          sends
          (sends_packet (request session out) _ 0 0 (take f.size f.bytes) (omega arith) (omega arith) (omega (arith, size, h)) room
          (ap (λ (k : ℕ). answer.Sent 0 (2 + k)) (sym size))
          (ap (λ (k : ℕ). packet_of 0 (take f.size f.bytes) ++ drop (2 + k) out) (sym size)))

  due : (sv' : Server) (d : Downlink) (s : Session) (disk owner : List ℕ) (fs : List File) (selected : List ℕ)
      → Fine sv' (due_of d s disk owner fs selected out)
  unfolding due_of Fine
  due sv' down.Idle s disk owner fs selected = silent (record { taken = 0; within = omega arith; answered = refl; out = refl })
  due sv' (down.Sending place offset sent) s disk owner fs selected = due_sending sv' s place offset sent disk owner fs
  due sv' (down.Ended place) s disk owner fs selected = silent (record { taken = 0; within = omega arith; answered = refl; out = refl })
  due sv' (down.Aborting place) s disk owner fs selected = due_told sv' s reply.Aborted (λ z. let y : ◌≡◌ {A = ℕ} 0 1 = cc in omega arith)
  due sv' (down.Listing t long done sent) s disk owner fs selected =
      let es = entries_of t long s.next disk owner fs selected in
      due_filled sv' s t long (fill_of es done sent) (fill_size es done sent) (fill_whole es done sent)

requested : (sv : Server) (l : Lent) (session : ℕ) (out : List ℕ) → Answers sv l (request session out) (call_of sv l (request session out))
unfolding request_of request_by on_request due_as Fine
requested sv l session out = go (check_of sv l session true (length out)) refl
  where
    go : (k : Result ℕ ℕ) → check_of sv l session true (length out) ≡ k
        → Answers sv l (request session out) (outcome (on_request k sv l out).done l (on_request k sv l out).out)
    go (Err n) e = refuses (record { number = n; listed = check_refuses sv l session true (length out) n e; same = refl })
    go (Ok i) e =
        due sv l session out (check_through sv l session true (length out) i e).room _ (link_of sv i).down (link_of sv i) l.disk (owner_part sv l)
        (files (table_part sv l)) _

-- ---- THEOREM: every call has one of the four answers

pub every_call_answers : EveryCallAnswers
every_call_answers sv l (login session clock out) = logged_in_law sv l session clock out
every_call_answers sv l (receive session clock input out) = received sv l session clock input out
every_call_answers sv l (request session out) = requested sv l session out
every_call_answers sv l (lose session) = lost sv l session

-- ---- a call that goes through is not refused

not_refused : (sv : Server) (l : Lent) (c : Call) (i : ℕ) → check_in sv l c ≡ Ok i → 258 ≤ room_in c → is_refused (call_of sv l c).done.answer ≡ false
unfolding login_of login_by on_login request_of request_by on_request due_as lose_of lose_by on_lose
not_refused sv l (login session clock out) i e h = rw e (answered_not (reply.Login clock) 0 out h)
not_refused sv l (receive session clock input out) i e h = go (steps.receives sv l session clock input out)
  where
    go : steps.Receives sv l session clock input out → is_refused (receive_of sv l out session clock input).done.answer ≡ false
    go (steps.refused n o f q) =
        let c : ◌≡◌ {A = Result ℕ ℕ} (Err n) (Ok i) = sym f ∙ e in
        let z : ◌≡◌ {A = ℕ} 0 1 = cc in absurd (omega arith)
    go (steps.ends_none f) = ap (λ (o : Outcome). is_refused o.done.answer) f.is
    go (steps.ends_packet f) = ap (λ (o : Outcome). is_refused o.done.answer) f.is ∙ tell_not f.turn.turn.reply f.heard.taken out
not_refused sv l (request session out) i e h =
    rw e (due_not (link_of sv i).down (link_of sv i) l.disk (owner_part sv l) (files (table_part sv l)) _ out h)
not_refused sv l (lose session) i e h = rw e

-- ---- THEOREM: the local refusals, in the paper's order

refused_by_law : (sv : Server) (l : Lent) (c : Call) (n : ℕ) → check_in sv l c ≡ Err n → RefusedBy sv l c n
refused_by_law sv l c n e = ap (λ (o : Outcome). o.done.answer) (refused_call sv l c n e)

pub every_local_refusal : EveryLocalRefusal
every_local_refusal sv l c =
    record {
      by33 = λ f. refused_by_law sv l c 33 (check_33 sv l (session_in c) (open_in c) (room_in c) f);
      by35 = λ f s. refused_by_law sv l c 35 (check_35 sv l (session_in c) (open_in c) (room_in c) f s);
      by34 = λ f s r.
          refused_by_law sv l c 34
          (check_sound sv l (session_in c) (open_in c) (room_in c) f s
          ∙ session_34 sv l (session_in c) (open_in c) (room_in c) (λ a b e. r (record { from_one = a; in_range = b; in_state_law = e })));
      by32 = λ f s r h. refused_by_law sv l c 32 (through f s r ∙ ap (λ (t : Bool). cond {A = Result ℕ ℕ} t (Err 32) (Ok (session_in c - 1))) (lt-ltb (room_in c) 258 h));
      by_none = λ f s r h n e.
          clash
          (sym
          (not_refused sv l c (session_in c - 1)
          (through f s r ∙ ap (λ (t : Bool). cond {A = Result ℕ ℕ} t (Err 32) (Ok (session_in c - 1))) (le-ltb (room_in c) 258 h)) h)
          ∙ ap is_refused e);
    }
  where
    through : Fits sv l → IsSound sv l → Reachable sv c → check_in sv l c ≡ cond (ltb (room_in c) 258) (Err 32) (Ok (session_in c - 1))
    through f s r =
        check_sound sv l (session_in c) (open_in c) (room_in c) f s
        ∙ session_through sv l (session_in c) (open_in c) (room_in c) r.from_one r.in_range r.in_state_law

-- ---- THEOREM: making a server

-- the arm that a test picks
when_true : {A : Type 0} (t : Bool) (x y : A) → t ≡ true → cond t x y ≡ x
when_true t x y e = ap (λ (b : Bool). cond b x y) e

when_false : {A : Type 0} (t : Bool) (x y : A) → t ≡ false → cond t x y ≡ y
when_false t x y e = ap (λ (b : Bool). cond b x y) e

pub every_making : EveryMaking
unfolding make_of
every_making blocks files sessions most disk map owner table selected held =
    record {
      by33 = λ h. when_false (fits (new_server blocks files sessions most) disk map owner table selected held) _ _ (not-true _ h);
      by_none = λ h. when_true (fits (new_server blocks files sessions most) disk map owner table selected held) _ _ h;
    }

-- ---- the packets of refusal

pub data OneByte (kind e : ℕ) : Reply → Type 0 where
  five : kind ≡ 5 → OneByte kind e (reply.UploadError e)
  seven : kind ≡ 7 → OneByte kind e (reply.Nak e)
  nine : kind ≡ 9 → OneByte kind e (reply.DownloadError e)

module _ (kind e taken taken' : ℕ) (out : List ℕ) where
  -- a packet's second byte and its one byte of information
  same_kind : (k n : ℕ) → packet_of k (n ∷ []) ++ drop 3 out ≡ packet_of kind (e ∷ []) ++ drop 3 out → (kind ≡ k) × (n ≡ e)
  unfolding packet_of
  same_kind k n q =
      let a : k + 32 * (1 / 256) ≡ kind + 32 * (1 / 256) = ap (λ (l : List ℕ). get_or l 1 0) q in
      let b : n ≡ e = ap (λ (l : List ℕ). get_or l 2 0) q in
      (omega arith, b)

  says_reply : (r : Reply) → (tell r taken out).answer ≡ answer.Sent taken' 3 → (tell r taken out).out ≡ packet_of kind (e ∷ []) ++ drop 3 out
      → OneByte kind e r
  unfolding tell
  says_reply reply.Nothing a q = let z : ◌≡◌ {A = ℕ} 0 1 = cc in absurd (omega arith)
  says_reply reply.Closing a q = let z : ◌≡◌ {A = ℕ} 0 1 = cc in absurd (omega arith)
  says_reply reply.DataEnd a q = let z : ◌≡◌ {A = ℕ} 2 3 = cc in absurd (omega arith)
  says_reply (reply.Login clock) a q = let z : ◌≡◌ {A = ℕ} 7 3 = cc in absurd (omega arith)
  says_reply (reply.Go number offset) a q = let z : ◌≡◌ {A = ℕ} 10 3 = cc in absurd (omega arith)
  says_reply (reply.UploadError n) a q = let p = same_kind 5 n q in subst (λ (m : ℕ). OneByte kind e (reply.UploadError m)) (sym p.1) (five p.0)
  says_reply reply.Ack a q = let z : ◌≡◌ {A = ℕ} 2 3 = cc in absurd (omega arith)
  says_reply (reply.Nak n) a q = let p = same_kind 7 n q in subst (λ (m : ℕ). OneByte kind e (reply.Nak m)) (sym p.1) (seven p.0)
  says_reply (reply.DownloadError n) a q =
      let p = same_kind 9 n q in subst (λ (m : ℕ). OneByte kind e (reply.DownloadError m)) (sym p.1) (nine p.0)
  says_reply reply.Aborted a q = let z : ◌≡◌ {A = ℕ} 2 3 = cc in absurd (omega arith)
  says_reply reply.Completed a q = let z : ◌≡◌ {A = ℕ} 2 3 = cc in absurd (omega arith)
  says_reply (reply.Selected count) a q = let z : ◌≡◌ {A = ℕ} 4 3 = cc in absurd (omega arith)

-- a call that says so ended a packet, and the turn's reply is that
pub record Spoken (sv : Server) (l : Lent) (session clock : ℕ) (input out : List ℕ) (kind e : ℕ) : Type 0 where
  pub ended : steps.EndsPacket sv l session clock input out
  pub says : OneByte kind e ended.turn.turn.reply

spoken : (sv : Server) (l : Lent) (session clock : ℕ) (input out : List ℕ) (kind e : ℕ) → Says sv l session clock input out kind e
    → Spoken sv l session clock input out kind e
spoken sv l session clock input out kind e s = go (steps.receives sv l session clock input out)
  where
    not_sent : (o : Outcome) → receive_of sv l out session clock input ≡ o → o.done.answer ≡ answer.Sent s.taken 3
    not_sent o q = sym (ap (λ (o : Outcome). o.done.answer) q) ∙ s.answered

    go : steps.Receives sv l session clock input out → Spoken sv l session clock input out kind e
    go (steps.refused n o f q) =
        let c : answer.Refused n ≡ answer.Sent s.taken 3 = not_sent _ q in
        let z : ◌≡◌ {A = ℕ} 0 1 = cc in absurd (omega arith)
    go (steps.ends_none f) =
        let c : answer.Quiet (length input) ≡ answer.Sent s.taken 3 = not_sent _ f.is in
        let z : ◌≡◌ {A = ℕ} 0 1 = cc in absurd (omega arith)
    go (steps.ends_packet f) =
        record {
          ended = f;
          says = says_reply kind e f.heard.taken s.taken out f.turn.turn.reply (not_sent _ f.is)
              (sym (ap (λ (o : Outcome). o.out) f.is) ∙ s.packet);
        }

module _ (sv : Server) (l : Lent) (session clock : ℕ) (input out : List ℕ) (p : steps.EndsPacket sv l session clock input out) where
  -- what the turn of a refusal leaves
  left : (r : Reply)
      → p.turn ≡ turned (turn_of (with_held (link_of sv p.i) 0) sv.last r) (mem l.disk l.map l.owner l.table l.selected)
      → NothingElse sv l session (call_of sv l (receive session clock input out))
  left r q =
      record {
        server =
            ap (λ (o : Outcome). o.done.server) p.is ∙ ap (λ (t : Turned). with_turn sv p.i t.turn) q ∙ ap (λ (k : ℕ). forgotten sv k)
            p.through.index;
        lent = ap (λ (o : Outcome). o.lent) p.is
            ∙ ap
            (λ (t : Turned). lent t.mem.disk t.mem.map t.mem.owner t.mem.table t.mem.selected
            (with_part (p.i * 258) 258 (replicate 258 0) l.held)) q
            ∙ ap (λ (k : ℕ). cleared k l) p.through.index;
      }

  reply_of_law : (r : Reply) (s : Session) (m : Mem) → p.turn ≡ turned (turn_of s sv.last r) m → p.turn.turn.reply ≡ r
  reply_of_law r s m q = ap (λ (t : Turned). t.turn.reply) q

  upload_refused : (e : ℕ) → p.turn.turn.reply ≡ reply.UploadError e
      → steps.Acted sv p.i (with_held (link_of sv p.i) 0) (mem l.disk l.map l.owner l.table l.selected) p.turn
      → PacketRefusal upload_errors sv l session clock input out e
  upload_refused e r (steps.plain h) = absurd (clash (sym (ap is_plain r) ∙ h))
  upload_refused e r (steps.closing q) =
      let c : reply.Closing ≡ reply.UploadError e = sym (reply_of_law reply.Closing _ _ q) ∙ r in
      let z : ◌≡◌ {A = ℕ} 0 1 = cc in absurd (omega arith)
  upload_refused e r (steps.upload_error n o q) =
      let c : reply.UploadError n ≡ reply.UploadError e = sym (reply_of_law (reply.UploadError n) _ _ q) ∙ r in
      let z : n ≡ e = cc in
      record { listed = subst (λ (k : ℕ). one_of k upload_errors ≡ true) z o; left = left (reply.UploadError n) q }
  upload_refused e r (steps.download_error n o q) =
      let c : reply.DownloadError n ≡ reply.UploadError e = sym (reply_of_law (reply.DownloadError n) _ _ q) ∙ r in
      let z : ◌≡◌ {A = ℕ} 0 1 = cc in absurd (omega arith)
  upload_refused e r (steps.nak n u o v q k) =
      let c : reply.Nak n ≡ reply.UploadError e = sym (ap (λ (t : Turn). t.reply) q) ∙ r in
      let z : ◌≡◌ {A = ℕ} 0 1 = cc in absurd (omega arith)

  download_refused : (e : ℕ) → p.turn.turn.reply ≡ reply.DownloadError e
      → steps.Acted sv p.i (with_held (link_of sv p.i) 0) (mem l.disk l.map l.owner l.table l.selected) p.turn
      → PacketRefusal download_errors sv l session clock input out e
  download_refused e r (steps.plain h) = absurd (clash (sym (ap is_plain r) ∙ h))
  download_refused e r (steps.closing q) =
      let c : reply.Closing ≡ reply.DownloadError e = sym (reply_of_law reply.Closing _ _ q) ∙ r in
      let z : ◌≡◌ {A = ℕ} 0 1 = cc in absurd (omega arith)
  download_refused e r (steps.upload_error n o q) =
      let c : reply.UploadError n ≡ reply.DownloadError e = sym (reply_of_law (reply.UploadError n) _ _ q) ∙ r in
      let z : ◌≡◌ {A = ℕ} 0 1 = cc in absurd (omega arith)
  download_refused e r (steps.download_error n o q) =
      let c : reply.DownloadError n ≡ reply.DownloadError e = sym (reply_of_law (reply.DownloadError n) _ _ q) ∙ r in
      let z : n ≡ e = cc in
      record { listed = subst (λ (k : ℕ). one_of k download_errors ≡ true) z o; left = left (reply.DownloadError n) q }
  download_refused e r (steps.nak n u o v q k) =
      let c : reply.Nak n ≡ reply.DownloadError e = sym (ap (λ (t : Turn). t.reply) q) ∙ r in
      let z : ◌≡◌ {A = ℕ} 0 1 = cc in absurd (omega arith)

  nak_refused : (e : ℕ) → p.turn.turn.reply ≡ reply.Nak e
      → steps.Acted sv p.i (with_held (link_of sv p.i) 0) (mem l.disk l.map l.owner l.table l.selected) p.turn
      → Naks sv l session clock input out e
  nak_refused e r (steps.plain h) = absurd (clash (sym (ap is_plain r) ∙ h))
  nak_refused e r (steps.closing q) =
      let c : reply.Closing ≡ reply.Nak e = sym (reply_of_law reply.Closing _ _ q) ∙ r in
      let z : ◌≡◌ {A = ℕ} 0 1 = cc in absurd (omega arith)
  nak_refused e r (steps.upload_error n o q) =
      let c : reply.UploadError n ≡ reply.Nak e = sym (reply_of_law (reply.UploadError n) _ _ q) ∙ r in
      let z : ◌≡◌ {A = ℕ} 0 1 = cc in absurd (omega arith)
  nak_refused e r (steps.download_error n o q) =
      let c : reply.DownloadError n ≡ reply.Nak e = sym (reply_of_law (reply.DownloadError n) _ _ q) ∙ r in
      let z : ◌≡◌ {A = ℕ} 0 1 = cc in absurd (omega arith)
  nak_refused e r (steps.nak n u o v q k) =
      let c : reply.Nak n ≡ reply.Nak e = sym (ap (λ (t : Turn). t.reply) q) ∙ r in
      let z : n ≡ e = cc in
      record {
        listed = subst (λ (k : ℕ). one_of k naks ≡ true) z o;
        uplink = u;
        over = subst (λ (k : ℕ). UploadOver k u) z v;
        server = ap (λ (o : Outcome). o.done.server) p.is ∙ ap (λ (t : Turn). with_turn sv p.i t) q
            ∙ ap (λ (k : ℕ). with_link sv k (with_up (with_held (link_of sv k) 0) u)) p.through.index;
        selected = ap (λ (o : Outcome). o.lent.selected) p.is ∙ k;
        held = ap (λ (o : Outcome). o.lent.held) p.is ∙ ap (λ (k : ℕ). with_part (k * 258) 258 (replicate 258 0) l.held) p.through.index;
      }

-- ---- THEOREMS: what UL_ERROR_RESP, DL_ERROR_RESP and UL_NAK_RESP say and leave

pub every_upload_error : EveryUploadError
every_upload_error sv l session clock input out e s = go (spoken sv l session clock input out 5 e s)
  where
    go : Spoken sv l session clock input out 5 e → PacketRefusal upload_errors sv l session clock input out e
    go k = by k.ended.turn.turn.reply refl k.says
      where
        by : (r : Reply) → k.ended.turn.turn.reply ≡ r → OneByte 5 e r → PacketRefusal upload_errors sv l session clock input out e
        by r q (five h) = upload_refused sv l session clock input out k.ended e q k.ended.acted
        by r q (seven h) = absurd (omega arith)
        by r q (nine h) = absurd (omega arith)

pub every_download_error : EveryDownloadError
every_download_error sv l session clock input out e s = go (spoken sv l session clock input out 9 e s)
  where
    go : Spoken sv l session clock input out 9 e → PacketRefusal download_errors sv l session clock input out e
    go k = by k.ended.turn.turn.reply refl k.says
      where
        by : (r : Reply) → k.ended.turn.turn.reply ≡ r → OneByte 9 e r → PacketRefusal download_errors sv l session clock input out e
        by r q (five h) = absurd (omega arith)
        by r q (seven h) = absurd (omega arith)
        by r q (nine h) = download_refused sv l session clock input out k.ended e q k.ended.acted

pub every_nak : EveryNak
every_nak sv l session clock input out e s = go (spoken sv l session clock input out 7 e s)
  where
    go : Spoken sv l session clock input out 7 e → Naks sv l session clock input out e
    go k = by k.ended.turn.turn.reply refl k.says
      where
        by : (r : Reply) → k.ended.turn.turn.reply ≡ r → OneByte 7 e r → Naks sv l session clock input out e
        by r q (five h) = absurd (omega arith)
        by r q (seven h) = nak_refused sv l session clock input out k.ended e q k.ended.acted
        by r q (nine h) = absurd (omega arith)
