-- What a step prints is the whole line of its call's answer, and nothing else. Assumes nothing.
use Rattle.std.specs.Prelude.{Result, Ok, Err}
use native.Mathlib.Omega.{arith}
use mathlib.Core.Path.{◌≡◌}
use mathlib.Core.Bool.{Bool, true, false, cond}
use mathlib.Core.List.{List, ◌++◌}
use Prim.Native.Nat.{ℕ, ◌+◌, ◌-◌, ◌≤◌, ◌<◌}
use lib.Dec.{eqb, ltb}
use lib.ListN.{length, take, drop, replicate}
use lib.Seq.{take-append_seam}
use borrow.Author.Tests.{le-ltb}
use Rattle.packet.specs.Packet.{packet_of}
use Rattle.session.specs.declared.state.Session.{Session}
use Rattle.session.specs.declared.state.Downlink.{Downlink}
use Rattle.session.specs.declared.state.Downlink.TheVariants as down
use Rattle.session.specs.declared.state.Listed.{Listed}
use Rattle.session.specs.declared.reply.Reply.{Reply}
use Rattle.session.specs.declared.reply.Reply.TheVariants as reply
use Rattle.session.specs.declared.reply.Answer.{Answer}
use Rattle.session.specs.declared.reply.Answer.TheVariants as answer
use Rattle.session.specs.State.{with_down}
use Rattle.session.specs.Reply.{tell, answered}
use Rattle.table.specs.declared.File.{File}
use Rattle.table.specs.Table.{files, file_at}
use Rattle.server.specs.declared.Server.{Server}
use Rattle.server.specs.State.{Lent, Outcome, link_of, owner_part, table_part}
use Rattle.server.specs.Check.{fits, in_state, session_check}
use Rattle.listing.specs.declared.Filled.{Filled}
use Rattle.listing.specs.Listing.{entries_of}
use Rattle.listing.proofs.FillLaws.{fill_size}
use Rattle.sending.specs.Sending.{told, asked, asked_of, least_of, data_of, sending_of, listed_as, due_of}
use Rattle.server.specs.Calls.{answered_by, heard_by, step_of, on_check, on_login, on_lose, due_as, on_request}
use Rattle.server.specs.Calls.{receive_by, login_by, lose_by, request_by}
use Rattle.server.specs.Check.{check_for, check_by}
use Rattle.lines.specs.Lines.{Printed, printed}
use Rattle.script.specs.declared.doing.Doing.{Doing}
use Rattle.script.specs.declared.doing.Doing.TheVariants as doing
use Rattle.script.specs.declared.Day.{Day}
use Rattle.input.specs.Parts.{bytes_from}
use Rattle.script.specs.Doing.{session_of}
use Rattle.script.specs.Calling.{hear_of, call_of}
use Rattle.script.specs.Printing.{line_for, show_of}
use Rattle.script.specs.Day.{prints_of, answered_of, turn_of}
use Rattle.script.specs.Day as day
use Rattle.script.proofs.Room.{shown_whole}

-- ---- the numbers of refusals have 8 bits

-- a refusal's number is small
unfoldable pub Small : Answer → Type 0
Small (answer.Quiet taken) = Unit {0}
Small (answer.Sent taken size) = Unit {0}
Small (answer.Closed taken) = Unit {0}
Small (answer.Refused number) = number < 256

unfoldable pub SmallCheck : Result ℕ ℕ → Type 0
SmallCheck (Ok i) = Unit {0}
SmallCheck (Err number) = number < 256

session_small : (sv : Server) (session : ℕ) (wanted : Bool) (out : ℕ) → SmallCheck (session_check sv session wanted out)
unfolding session_check SmallCheck
session_small sv session wanted out =
    go (eqb session 0) (ltb sv.sessions session) (in_state wanted (link_of sv (session - 1)).linked) (ltb out 258)
  where
    go : (a b d f : Bool)
        → SmallCheck (cond a (Err 34) (cond b (Err 34) (cond d (cond f (Err 32) (Ok (session - 1))) (Err 34))))
    go true b d f = omega arith
    go false true d f = omega arith
    go false false false f = omega arith
    go false false true true = omega arith
    go false false true false = tt

check_small : (sv : Server) (l : Lent) (session : ℕ) (wanted : Bool) (out : ℕ) → SmallCheck (check_for true sv l session wanted out)
unfolding check_by SmallCheck
check_small sv l session wanted out = go (fits sv (length l.disk) l.map l.owner l.table l.selected l.held)
  where
    go : (a : Bool) → SmallCheck (cond a (session_check sv session wanted out) (Err 33))
    go false = omega arith
    go true = session_small sv session wanted out

told_small : (r : Reply) (taken : ℕ) (out : List ℕ) → Small (tell r taken out).answer
unfolding tell Small
told_small reply.Nothing taken out = tt
told_small reply.Closing taken out = tt
told_small reply.DataEnd taken out = tt
told_small (reply.Login clock) taken out = tt
told_small (reply.Go number offset) taken out = tt
told_small (reply.UploadError e) taken out = tt
told_small reply.Ack taken out = tt
told_small (reply.Nak e) taken out = tt
told_small (reply.DownloadError e) taken out = tt
told_small reply.Aborted taken out = tt
told_small reply.Completed taken out = tt
told_small (reply.Selected count) taken out = tt

answered_small : (r : Reply) (taken : ℕ) (out : List ℕ) → Small (answered r taken out).answer
unfolding answered Small
answered_small r taken out = go (ltb (length out) 258)
  where
    go : (t : Bool) → Small (cond t (record { answer = answer.Refused 32; out = out }) (tell r taken out)).answer
    go true = omega arith
    go false = told_small r taken out

-- ---- each call

login_small : (c : Result ℕ ℕ) (sv : Server) (out : List ℕ) (clock : ℕ) → SmallCheck c → Small (on_login c sv out clock).done.answer
unfolding on_login Small SmallCheck
login_small (Err n) sv out clock p = p
login_small (Ok i) sv out clock p = answered_small (reply.Login clock) 0 out

lose_small : (c : Result ℕ ℕ) (sv : Server) (selected held : List ℕ) → SmallCheck c → Small (on_lose c sv selected held).done.answer
unfolding on_lose Small SmallCheck
lose_small (Err n) sv selected held p = p
lose_small (Ok i) sv selected held p = tt

receive_small : (c : Result ℕ ℕ) (sv : Server) (l : Lent) (out : List ℕ) (clock : ℕ) (input : List ℕ) → SmallCheck c
    → Small (on_check c sv l out clock input).done.answer
unfolding on_check step_of heard_by answered_by Small SmallCheck
receive_small (Err n) sv l out clock input p = p
receive_small (Ok i) sv l out clock input p = answered_small _ _ out

sending_small : (s : Session) (place offset sent : ℕ) (disk owner out : List ℕ) (fs : List File)
    → Small (sending_of s place offset sent disk owner fs out).asked.answer
unfolding sending_of data_of Small
sending_small s place offset sent disk owner out fs = go (ltb (offset + sent) (file_at fs place).size)
  where
    go : (t : Bool) → Small (cond t (data_of s place offset sent (least_of ((file_at fs place).size - (offset + sent))) disk owner out)
        (told (with_down s (down.Ended place)) (answered reply.DataEnd 0 out))).asked.answer
    go true = tt
    go false = answered_small reply.DataEnd 0 out

listed_small : (s : Session) (l : Listed) (long : Bool) (f : Filled) (out : List ℕ) → f.size ≤ 256 → Small (listed_as s l long f out).asked.answer
unfolding listed_as Small
listed_small s l long f out h = go (eqb f.size 0)
  where
    go : (t : Bool) → Small (cond t (told (with_down s down.Idle) (answered reply.DataEnd 0 out))
        (asked (asked_of (with_down s (down.Listing l long f.done f.sent)) (answer.Sent 0 (2 + f.size)))
        (packet_of 0 (take f.size f.bytes) ++ drop (2 + f.size) out))).asked.answer
    go true = answered_small reply.DataEnd 0 out
    go false = tt

due_small : (d : Downlink) (s : Session) (disk owner selected out : List ℕ) (fs : List File) → Small (due_of d s disk owner fs selected out).asked.answer
unfolding due_of Small
due_small down.Idle s disk owner selected out fs = tt
due_small (down.Sending place offset sent) s disk owner selected out fs = sending_small s place offset sent disk owner out fs
due_small (down.Ended place) s disk owner selected out fs = tt
due_small (down.Aborting place) s disk owner selected out fs = answered_small reply.Aborted 0 out
due_small (down.Listing l long done sent) s disk owner selected out fs =
    listed_small s l long _ out (fill_size (entries_of l long s.next disk owner fs selected) done sent)

request_small : (c : Result ℕ ℕ) (sv : Server) (l : Lent) (out : List ℕ) → SmallCheck c → Small (on_request c sv l out).done.answer
unfolding on_request due_as Small SmallCheck
request_small (Err n) sv l out p = p
request_small (Ok i) sv l out p = due_small (link_of sv i).down (link_of sv i) l.disk (owner_part sv l) _ out (files (table_part sv l))

pub call_small : (d : Doing) (sv : Server) (clock : ℕ) (bytes : List ℕ) (l : Lent) (out : List ℕ) → Small (call_of sv clock d bytes l out).done.answer
unfolding call_of hear_of login_by lose_by receive_by request_by Small
call_small doing.Rest sv clock bytes l out = tt
call_small (doing.Opening session) sv clock bytes l out =
    login_small (check_for true sv l session false (length out)) sv out clock (check_small sv l session false (length out))
call_small (doing.Dropping session) sv clock bytes l out =
    lose_small (check_for true sv l session true 258) sv l.selected l.held (check_small sv l session true 258)
call_small (doing.Hearing session at n) sv clock bytes l out =
    receive_small (check_for true sv l session true (length out)) sv l out clock (bytes_from at n bytes) (check_small sv l session true (length out))
call_small (doing.Pumping session) sv clock bytes l out =
    request_small (check_for true sv l session true (length out)) sv l out (check_small sv l session true (length out))

-- ---- a step

refused_small : (a : Answer) → Small a → (number : ℕ) → a ≡ answer.Refused number → number < 256
unfolding Small
refused_small (answer.Quiet t) s number e = let z : ◌≡◌ {A = ℕ} 0 1 = cc in absurd (omega arith)
refused_small (answer.Sent t n) s number e = let z : ◌≡◌ {A = ℕ} 0 1 = cc in absurd (omega arith)
refused_small (answer.Closed t) s number e = let z : ◌≡◌ {A = ℕ} 0 1 = cc in absurd (omega arith)
refused_small (answer.Refused n) s number e = let z : n ≡ number = cc in omega (arith, s)

printed_front : (p : Printed) (line text : List ℕ) → p ≡ printed (length line) (line ++ text) → take p.size p.text ≡ line
printed_front p line text e = rw e (take-append_seam line text)

shown_front : (session : ℕ) (a : Answer) (out text : List ℕ) → session < 4294967296 → Small a → 560 ≤ length text
    → take (show_of session a out text).size (show_of session a out text).text ≡ line_for session a out
shown_front session a out text p s r =
    printed_front (show_of session a out text) (line_for session a out) (drop (length (line_for session a out)) text)
    (shown_whole session a out text p (refused_small a s) r)

answered_prints : (d : Day) (size : ℕ) (text : List ℕ) (o : Outcome) → session_of d.doing < 4294967296 → Small o.done.answer → 560 ≤ length text
    → take (answered_of d size text o).stepped.written (answered_of d size text o).text ≡ line_for (session_of d.doing) o.done.answer o.out
unfolding answered_of prints_of
answered_prints d size text o p s r = shown_front (session_of d.doing) o.done.answer o.out text p s r

-- whatever the state: the bytes printed are the line of the answer that the one call of the server gave
pub step_prints : (d : Day) (l : Lent) (bytes text : List ℕ) → session_of d.doing < 4294967296 → 560 ≤ length text
    → take (day.step_of d l bytes text).stepped.written (day.step_of d l bytes text).text
    ≡ line_for (session_of d.doing) (call_of d.server d.clock d.doing bytes l (replicate 258 0)).done.answer
    (call_of d.server d.clock d.doing bytes l (replicate 258 0)).out
unfolding day.step_of turn_of
step_prints d l bytes text p r =
    rw (le-ltb (length text) 560 r)
    (answered_prints d (length bytes) text (call_of d.server d.clock d.doing bytes l (replicate 258 0)) p
    (call_small d.doing d.server d.clock bytes l (replicate 258 0)) r)
