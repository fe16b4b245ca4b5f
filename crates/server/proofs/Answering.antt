-- A call that goes through is not refused. Assumes nothing.
use mathlib.Core.Path.{◌≡◌, refl}
use mathlib.Core.Bool.{Bool, true, false, cond}
use mathlib.Core.List.{List}
use Prim.Native.Nat.{ℕ, ◌+◌, ◌≤◌}
use lib.Dec.{ltb, eqb}
use lib.ListN.{length}
use borrow.Author.Tests.{le-ltb}
use Rattle.session.specs.declared.state.Session.{Session}
use Rattle.session.specs.declared.state.Downlink.{Downlink}
use Rattle.session.specs.declared.state.Downlink.TheVariants as down
use Rattle.session.specs.declared.state.Listed.{Listed}
use Rattle.session.specs.declared.reply.Answer.{Answer}
use Rattle.session.specs.declared.reply.Answer.TheVariants as answer
use Rattle.session.specs.declared.reply.Reply.{Reply}
use Rattle.session.specs.declared.reply.Reply.TheVariants as reply
use Rattle.session.specs.Reply.{tell, answered}
use Rattle.table.specs.declared.File.{File}
use Rattle.table.specs.Table.{file_at}
use Rattle.server.specs.declared.Server.{Server}
use Rattle.server.specs.State.{Lent}
use Rattle.sending.specs.Sending.{Due, due_of, sending_of, data_of, listed_as}
use Rattle.listing.specs.declared.Filled.{Filled}
use Rattle.server.specs.Calls.{answered_by, heard_by, step_of}

abbrev pub is_refused : Answer → Bool
is_refused (answer.Quiet taken) = false
is_refused (answer.Sent taken size) = false
is_refused (answer.Closed taken) = false
is_refused (answer.Refused n) = true

pub tell_not : (r : Reply) (taken : ℕ) (out : List ℕ) → is_refused (tell r taken out).answer ≡ false
unfolding tell
tell_not reply.Nothing taken out = refl
tell_not reply.Closing taken out = refl
tell_not reply.DataEnd taken out = refl
tell_not (reply.Login clock) taken out = refl
tell_not (reply.Go number offset) taken out = refl
tell_not (reply.UploadError e) taken out = refl
tell_not reply.Ack taken out = refl
tell_not (reply.Nak e) taken out = refl
tell_not (reply.DownloadError e) taken out = refl
tell_not reply.Aborted taken out = refl
tell_not reply.Completed taken out = refl
tell_not (reply.Selected count) taken out = refl

pub answered_not : (r : Reply) (taken : ℕ) (out : List ℕ) → 258 ≤ length out → is_refused (answered r taken out).answer ≡ false
unfolding answered
answered_not r taken out h = rw (le-ltb (length out) 258 h) (tell_not r taken out)

pub step_not : (sv : Server) (i clock : ℕ) (input : List ℕ) (l : Lent) (out : List ℕ) → 258 ≤ length out
    → is_refused (step_of sv i clock input l out).done.answer ≡ false
unfolding step_of heard_by answered_by
step_not sv i clock input l out h = answered_not _ _ out h

either_not : (t : Bool) (a b : Due) → is_refused a.asked.answer ≡ false → is_refused b.asked.answer ≡ false
    → is_refused (cond t a b).asked.answer ≡ false
either_not true a b p q = p
either_not false a b p q = q

sending_not : (s : Session) (place offset sent : ℕ) (disk owner : List ℕ) (fs : List File) (out : List ℕ) → 258 ≤ length out
    → is_refused (sending_of s place offset sent disk owner fs out).asked.answer ≡ false
unfolding sending_of data_of
sending_not s place offset sent disk owner fs out h =
    either_not (ltb (offset + sent) (file_at fs place).size) _ _ refl (answered_not reply.DataEnd 0 out h)

listed_not : (s : Session) (l : Listed) (long : Bool) (f : Filled) (out : List ℕ) → 258 ≤ length out
    → is_refused (listed_as s l long f out).asked.answer ≡ false
unfolding listed_as
listed_not s l long f out h = either_not (eqb f.size 0) _ _ (answered_not reply.DataEnd 0 out h) refl

pub due_not : (d : Downlink) (s : Session) (disk owner : List ℕ) (fs : List File) (selected out : List ℕ) → 258 ≤ length out
    → is_refused (due_of d s disk owner fs selected out).asked.answer ≡ false
unfolding due_of
due_not down.Idle s disk owner fs selected out h = refl
due_not (down.Sending place offset sent) s disk owner fs selected out h = sending_not s place offset sent disk owner fs out h
due_not (down.Ended place) s disk owner fs selected out h = refl
due_not (down.Aborting place) s disk owner fs selected out h = answered_not reply.Aborted 0 out h
due_not (down.Listing l long done sent) s disk owner fs selected out h = listed_not s l long _ out h
