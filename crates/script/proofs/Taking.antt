-- A call that hears bytes and is not refused takes at least one of them. Assumes nothing.
use Rattle.std.specs.Prelude.{Result, Ok, Err}
use native.Mathlib.Omega.{arith}
use native.Mathlib.Nat.{le_trans}
use mathlib.Core.Path.{◌≡◌, refl, sym, ◌∙◌, ap}
use mathlib.Core.Bool.{Bool, true, false}
use mathlib.Core.List.{List, [], ◌∷◌}
use mathlib.Core.Option.{Option, none, some}
use Prim.Native.Nat.{ℕ, ◌+◌, ◌*◌, ◌≤◌, ◌<◌}
use lib.ListN.{length, drop, length-drop}
use lib.Seq.{length-take-le}
use borrow.Author.Tests.{eq-eqb, lt-ltb, le-ltb}
use Rattle.packet.specs.Machine.{Step, more, ends, called, call}
use Rattle.packet.specs.Frame.{Held, Event, packet, too_long, byte, without_packet, answer_by, answer_of}
use Rattle.packet.specs.Frame as frame
use Rattle.session.specs.declared.reply.Reply.{Reply}
use Rattle.session.specs.declared.reply.Reply.TheVariants as reply
use Rattle.session.specs.declared.reply.Answer.{Answer}
use Rattle.session.specs.declared.reply.Answer.TheVariants as answer
use Rattle.session.specs.Reply.{tell, answered}
use Rattle.blocks.proofs.Bits.{by_lt}
use Rattle.links.proofs.Facts.{part_end}
use Rattle.carry.specs.Turn.{Turned}
use Rattle.server.specs.declared.Server.{Server}
use Rattle.server.specs.State.{Lent, link_of, part}
use Rattle.server.specs.Check.{check_of}
use Rattle.server.specs.Turns.{hear_of}
use Rattle.server.specs.Calls.{answered_by, heard_by, step_of, on_check, receive_of, receive_by}
use Rattle.server.proofs.CheckLaws.{check_go}
use Rattle.script.proofs.Pumping.{through, link_facts, in_open}

-- ---- the bytes that a link's device takes

call_takes : (h : Held) (b : ℕ) (bs : List ℕ) → 1 ≤ (call byte h (b ∷ bs)).taken
unfolding call called
call_takes h b bs = go (byte h b)
  where
    go : (s : Step Held Event) → 1 ≤ (called s (λ (t : Held). call byte t bs)).taken
    go (more t) = omega arith
    go (ends t e) = omega arith

answer_taken : (taken : ℕ) (h : Held) (e : Option Event) → (answer_by taken h e).taken ≡ taken
unfolding answer_by without_packet
answer_taken taken h none = refl
answer_taken taken h (some too_long) = refl
answer_taken taken h (some (packet kind info)) = refl

frame_takes : (p : List ℕ) (held b : ℕ) (bs : List ℕ) → length p ≡ 258 → held < 258 → 1 ≤ (frame.receive_of p held (b ∷ bs)).answer.taken
unfolding frame.receive_of answer_of
frame_takes p held b bs e q =
    rw (
      eq-eqb (length p) 258 e,
      lt-ltb held 258 q,
      answer_taken (call byte (record { count = held; part = p }) (b ∷ bs)).taken (call byte (record { count = held; part = p }) (b ∷ bs)).state
          (call byte (record { count = held; part = p }) (b ∷ bs)).event,
    ) (call_takes (record { count = held; part = p }) b bs)

-- ---- the number that an answer gives

unfoldable pub took_of : Answer → ℕ
took_of (answer.Quiet taken) = taken
took_of (answer.Sent taken sent) = taken
took_of (answer.Closed taken) = taken
took_of (answer.Refused number) = 0

told_taken : (r : Reply) (taken : ℕ) (out : List ℕ) → took_of (tell r taken out).answer ≡ taken
unfolding took_of tell
told_taken reply.Nothing taken out = refl
told_taken reply.Closing taken out = refl
told_taken reply.DataEnd taken out = refl
told_taken (reply.Login clock) taken out = refl
told_taken (reply.Go number offset) taken out = refl
told_taken (reply.UploadError e) taken out = refl
told_taken reply.Ack taken out = refl
told_taken (reply.Nak e) taken out = refl
told_taken (reply.DownloadError e) taken out = refl
told_taken reply.Aborted taken out = refl
told_taken reply.Completed taken out = refl
told_taken (reply.Selected count) taken out = refl

answered_taken : (r : Reply) (taken : ℕ) (out : List ℕ) → 258 ≤ length out → took_of (answered r taken out).answer ≡ taken
unfolding answered
answered_taken r taken out p = rw (le-ltb (length out) 258 p) (told_taken r taken out)

by_taken : (sv : Server) (i taken : ℕ) (held out : List ℕ) (t : Turned) → 258 ≤ length out
    → took_of (answered_by sv i taken held out t).done.answer ≡ taken
unfolding answered_by
by_taken sv i taken held out t p = answered_taken t.turn.reply taken out p

step_taken : (sv : Server) (i clock : ℕ) (input : List ℕ) (l : Lent) (out : List ℕ) → 258 ≤ length out
    → took_of (step_of sv i clock input l out).done.answer ≡ (hear_of l.held i (link_of sv i).held input).framed.taken
unfolding step_of heard_by
step_taken sv i clock input l out p = by_taken sv i (hear_of l.held i (link_of sv i).held input).framed.taken
    (hear_of l.held i (link_of sv i).held input).held out _ p

-- ---- a receive call

heard_takes : (held : List ℕ) (i count b : ℕ) (bs : List ℕ) → i * 258 + 258 ≤ length held → count < 258
    → 1 ≤ (hear_of held i count (b ∷ bs)).framed.taken
unfolding hear_of
heard_takes held i count b bs p q =
    frame_takes (part (i * 258) 258 held) count b bs (length-take-le 258 (drop (i * 258) held) (omega (arith, length-drop (i * 258) held, p))) q

-- an unfinished packet of a sound state has fewer than 258 bytes
few_held : (sv : Server) (l : Lent) (session i out : ℕ) → check_of sv l session true out ≡ Ok i → (link_of sv i).held < 258
few_held sv l session i out e =
    let t = through sv l session out i true e in
    let p = check_go _ sv session true out (length l.disk) l.map l.owner l.table l.selected l.held i e in
    let f = link_facts sv l i t.sound p.index (in_open (link_of sv i).linked t.state) in
    by_lt (link_of sv i).held 2 (λ h. omega (arith, h)) (λ h. omega (arith, (f.packet h).announces, (f.packet h).fewer))

go_takes : (sv : Server) (l : Lent) (out : List ℕ) (session clock i b : ℕ) (bs : List ℕ) → check_of sv l session true (length out) ≡ Ok i
    → 1 ≤ took_of (step_of sv i clock (b ∷ bs) l out).done.answer
go_takes sv l out session clock i b bs e =
    let p = check_go _ sv session true (length out) (length l.disk) l.map l.owner l.table l.selected l.held i e in
    rw (step_taken sv i clock (b ∷ bs) l out p.out)
    (heard_takes l.held i (link_of sv i).held b bs (le_trans (part_end i sv.sessions 258 p.index) p.room.held)
    (few_held sv l session i (length out) e))

unfoldable pub refusal : Answer → Bool
refusal (answer.Quiet taken) = false
refusal (answer.Sent taken sent) = false
refusal (answer.Closed taken) = false
refusal (answer.Refused number) = true

check_takes : (sv : Server) (l : Lent) (out : List ℕ) (session clock b : ℕ) (bs : List ℕ) (c : Result ℕ ℕ) → check_of sv l session true (length out) ≡ c
    → refusal (on_check c sv l out clock (b ∷ bs)).done.answer ≡ false → 1 ≤ took_of (on_check c sv l out clock (b ∷ bs)).done.answer
unfolding on_check refusal
check_takes sv l out session clock b bs (Err n) e f = let z : ◌≡◌ {A = ℕ} 0 1 = cc in absurd (omega arith)
check_takes sv l out session clock b bs (Ok i) e f = go_takes sv l out session clock i b bs e

pub receive_takes : (sv : Server) (l : Lent) (out : List ℕ) (session clock : ℕ) (input : List ℕ) (a : Answer) → 0 < length input
    → (receive_of sv l out session clock input).done.answer ≡ a → refusal a ≡ false → 1 ≤ took_of a
unfolding receive_of receive_by
receive_takes sv l out session clock [] a p e f = absurd (omega (arith, p))
receive_takes sv l out session clock (b ∷ bs) a p e f =
    rw (sym e) (check_takes sv l out session clock b bs (check_of sv l session true (length out)) refl (ap refusal e ∙ f))
