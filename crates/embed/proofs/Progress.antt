-- A receive that is not refused takes at least one byte, where it is lent any, and no more than it is lent: so whoever hands in the rest again
-- comes to the end of the bytes.
use Rattle.std.specs.Prelude.{⊤, Result, Ok, Err}
use mathlib.Core.Path.{◌≡◌, refl, sym, subst}
use mathlib.Core.Bool.{Bool, true, false, cond}
use mathlib.Core.List.{List, [], ◌∷◌}
use mathlib.Core.Option.{Option, none, some}
use Prim.Native.Nat.{ℕ, ◌-◌, ◌*◌, ◌≤◌, ◌<◌}
use native.Mathlib.Omega.{arith}
use lib.Dec.{eqb, ltb}
use lib.ListN.{length, get_or, take, drop, length-drop}
use lib.Seq.{length-take-le}
use borrow.Author.Tests.{eq-eqb, lt-ltb, le-ltb, ltb-true, ltb-false}
use Rattle.packet.specs.Machine.{Step, more, ends, called, call}
use Rattle.packet.specs.Frame as frame
use Rattle.session.specs.declared.reply.Answer.{Answer}
use Rattle.session.specs.declared.reply.Answer.TheVariants as answer
use Rattle.session.specs.declared.reply.Reply.{Reply}
use Rattle.session.specs.declared.reply.Reply.TheVariants as reply
use Rattle.session.specs.Reply as replies
use Rattle.links.specs.Sound.{links_sound}
use Rattle.links.proofs.Facts.{LinkTested, selection_of, packet_of, sound_facts, part_end}
use Rattle.table.specs.Table.{files}
use Rattle.files.specs.Sound.{sound_test}
use Rattle.server.specs.declared.Server.{Server}
use Rattle.server.specs.State.{Lent, link_of, words, part}
use Rattle.server.specs.Check.{fits, sound_parts, in_state, session_check, check_by, check_of}
use Rattle.server.specs.Turns.{hear_of}
use Rattle.server.specs.Calls.{answered_by, heard_by, step_of, on_check, receive_of, receive_by}
use Rattle.server.proofs.CheckLaws.{check_go, both_true}
use Rattle.server.proofs.Answering.{is_refused, step_not}
use Rattle.embed.specs.Words.{server_at, ready_of}
use Rattle.embed.specs.Ends.{Local, Takes}
use Rattle.embed.specs.Calls as calls
use Rattle.embed.proofs.Refusals.{check_number, check_number_law, ready_number, ready_number_law}

-- ---- bytes taken by a machine

module _ {S E : Type 0} (byte : S → ℕ → Step S E) where
  call_takes : (bs : List ℕ) (s : S) → Takes (length bs) (call byte s bs).taken
  unfolding call
  call_takes [] s = record { within = omega arith; some = λ h. absurd (omega arith) }
  call_takes (b ∷ bs) s = go (byte s b) (call_takes bs)
    where
      go : (f : Step S E) → ((t : S) → Takes (length bs) (call byte t bs).taken) → Takes (length (b ∷ bs)) (called f (λ t. call byte t bs)).taken
      go (more t) ih = unfold called in record { within = omega (arith, (ih t).within); some = λ _. omega arith }
      go (ends t v) ih = unfold called in record { within = omega arith; some = λ _. omega arith }

-- ---- by a link's framing

answer_taken : (taken : ℕ) (h : frame.Held) (e : Option frame.Event) → (frame.answer_by taken h e).taken ≡ taken
unfolding frame.answer_by frame.without_packet
answer_taken taken h none = refl
answer_taken taken h (some frame.too_long) = refl
answer_taken taken h (some (frame.packet kind info)) = refl

frame_takes : (part : List ℕ) (held : ℕ) (input : List ℕ) → length part ≡ 258 → held < 258
    → Takes (length input) (frame.receive_of part held input).answer.taken
unfolding frame.receive_of frame.answer_of
frame_takes part held input e h =
    let c = call frame.byte (record { count = held; part = part }) input in
    rw (eq-eqb (length part) 258 e, lt-ltb held 258 h, answer_taken c.taken c.state c.event)
    (call_takes frame.byte input (record { count = held; part = part }))

-- ---- by a step of the server

abbrev taken_of : Answer → ℕ
taken_of (answer.Quiet taken) = taken
taken_of (answer.Sent taken size) = taken
taken_of (answer.Closed taken) = taken
taken_of (answer.Refused n) = 0

tell_taken : (r : Reply) (taken : ℕ) (out : List ℕ) → taken_of (replies.tell r taken out).answer ≡ taken
unfolding replies.tell
tell_taken reply.Nothing taken out = refl
tell_taken reply.Closing taken out = refl
tell_taken reply.DataEnd taken out = refl
tell_taken (reply.Login clock) taken out = refl
tell_taken (reply.Go number offset) taken out = refl
tell_taken (reply.UploadError e) taken out = refl
tell_taken reply.Ack taken out = refl
tell_taken (reply.Nak e) taken out = refl
tell_taken (reply.DownloadError e) taken out = refl
tell_taken reply.Aborted taken out = refl
tell_taken reply.Completed taken out = refl
tell_taken (reply.Selected count) taken out = refl

answered_taken : (r : Reply) (taken : ℕ) (out : List ℕ) → 258 ≤ length out → taken_of (replies.answered r taken out).answer ≡ taken
unfolding replies.answered
answered_taken r taken out h = rw (le-ltb (length out) 258 h) (tell_taken r taken out)

step_taken : (sv : Server) (i clock : ℕ) (input : List ℕ) (l : Lent) (out : List ℕ) → 258 ≤ length out
    → taken_of (step_of sv i clock input l out).done.answer ≡ (frame.receive_of (part (i * 258) 258 l.held) (link_of sv i).held input).answer.taken
unfolding step_of heard_by answered_by hear_of
step_taken sv i clock input l out h = answered_taken _ _ out h

-- ---- what the check has seen of the session

record Seen (sv : Server) (l : Lent) (i : ℕ) : Type 0 where
  sound : sound_parts sv l.map l.owner l.table l.selected l.held ≡ true
  linked : (link_of sv i).linked ≡ true

session_linked : (sv : Server) (session out i : ℕ) → session_check sv session true out ≡ Ok i → (link_of sv i).linked ≡ true
unfolding session_check in_state
session_linked sv session out i e =
    go (eqb session 0) (ltb sv.sessions session) (link_of sv (session - 1)).linked refl (ltb out 258) e
  where
    go : (a b c : Bool) → (link_of sv (session - 1)).linked ≡ c → (d : Bool)
        → cond {A = Result ℕ ℕ} a (Err 34) (cond b (Err 34) (cond c (cond d (Err 32) (Ok (session - 1))) (Err 34)))
        ≡ Ok i
        → (link_of sv i).linked ≡ true
    go true b c p d e = let z : ◌≡◌ {A = ℕ} 0 1 = cc in absurd (omega arith)
    go false true c p d e = let z : ◌≡◌ {A = ℕ} 0 1 = cc in absurd (omega arith)
    go false false false p d e = let z : ◌≡◌ {A = ℕ} 0 1 = cc in absurd (omega arith)
    go false false true p true e = let z : ◌≡◌ {A = ℕ} 0 1 = cc in absurd (omega arith)
    go false false true p false e = let s : session - 1 ≡ i = cc in subst (λ (k : ℕ). (link_of sv k).linked ≡ true) s p

check_seen : (sv : Server) (l : Lent) (session out i : ℕ) → check_of sv l session true out ≡ Ok i → Seen sv l i
unfolding check_by
check_seen sv l session out i e =
    go (fits sv (length l.disk) l.map l.owner l.table l.selected l.held)
    (sound_parts sv l.map l.owner l.table l.selected l.held) refl e
  where
    go : (a b : Bool) → sound_parts sv l.map l.owner l.table l.selected l.held ≡ b
        → cond {A = Result ℕ ℕ} a (cond b (session_check sv session true out) (Err 35)) (Err 33) ≡ Ok i
        → Seen sv l i
    go false b p e = let z : ◌≡◌ {A = ℕ} 0 1 = cc in absurd (omega arith)
    go true false p e = let z : ◌≡◌ {A = ℕ} 0 1 = cc in absurd (omega arith)
    go true true p e = record { sound = p; linked = session_linked sv session out i e }

links_sound_law : (sv : Server) (l : Lent) → sound_parts sv l.map l.owner l.table l.selected l.held ≡ true
    → links_sound (files (take (4 * sv.files) l.table)) sv.sessions sv.most l.selected l.held sv.links ≡ true
unfolding sound_parts
links_sound_law sv l e =
    (both_true (sound_test (take (words sv.blocks) l.map) (take sv.blocks l.owner) (take (4 * sv.files) l.table) sv.last.number
    sv.last.time) _ e).1

-- the bytes held of an unfinished packet are fewer than the longest packet has
held_below : (sv : Server) (l : Lent) (i : ℕ) → Seen sv l i → i < sv.sessions → (link_of sv i).held < 258
held_below sv l i s h = go (ltb (link_of sv i).held 2) refl
  where
    facts : LinkTested (files (take (4 * sv.files) l.table)) sv.most (selection_of sv.most l.selected i) (packet_of l.held i)
        (link_of sv i)
    facts = (sound_facts _ _ _ _ _ _ (links_sound_law sv l s.sound)).each i h s.linked

    go : (t : Bool) → ltb (link_of sv i).held 2 ≡ t → (link_of sv i).held < 258
    go true e = omega (arith, ltb-true (link_of sv i).held 2 e)
    go false e = let u = facts.packet (ltb-false (link_of sv i).held 2 e) in omega (arith, u.announces, u.fewer)

part_length : (held : List ℕ) (i n : ℕ) → i < n → n * 258 ≤ length held → length (part (i * 258) 258 held) ≡ 258
part_length held i n h k =
    length-take-le 258 (drop (i * 258) held) (omega (arith, length-drop (i * 258) held, part_end i n 258 h, k))

step_takes : (sv : Server) (session i clock : ℕ) (input : List ℕ) (l : Lent) (out : List ℕ)
    → check_of sv l session true (length out) ≡ Ok i
    → Takes (length input) (taken_of (step_of sv i clock input l out).done.answer)
step_takes sv session i clock input l out e =
    let p = check_go _ sv session true (length out) (length l.disk) l.map l.owner l.table l.selected l.held i e in
    subst (λ (n : ℕ). Takes (length input) n) (sym (step_taken sv i clock input l out p.out))
    (frame_takes (part (i * 258) 258 l.held) (link_of sv i).held input (part_length l.held i sv.sessions p.index p.room.held)
    (held_below sv l i (check_seen sv l session (length out) i e) p.index))

-- ---- by the call

-- the first count is of the bytes taken, where the answer's number is no refusal's
tell_counts : (a : Answer) (sv : Server) (state counts : List ℕ) → is_refused a ≡ false
    → get_or (calls.tell_of a sv state counts).counts 0 0 ≡ taken_of a
unfolding calls.tell_of
tell_counts (answer.Quiet taken) sv state counts e = refl
tell_counts (answer.Sent taken size) sv state counts e = refl
tell_counts (answer.Closed taken) sv state counts e = refl
tell_counts (answer.Refused n) sv state counts e = absurd (let z : ◌≡◌ {A = ℕ} 0 1 = cc in omega arith)

module _ (state counts : List ℕ) (l : Lent) (out : List ℕ) (session clock : ℕ) (input : List ℕ) where
  refused_by_law : (n : ℕ) → Local n → n ≤ 2 → ⊥
  refused_by_law n h k = omega (arith, h.0, h.1, k)

  checked_takes : (k : Result ℕ ℕ) → check_of (server_at state) l session true (length out) ≡ k → Local (check_number k)
      → (calls.received_by state counts (on_check k (server_at state) l out clock input)).told.code ≤ 2
      → Takes (length input) (get_or (calls.received_by state counts (on_check k (server_at state) l out clock input)).told.counts 0 0)
  unfolding on_check calls.tell_of
  checked_takes (Err n) e h c = absurd (refused_by_law n h c)
  checked_takes (Ok i) e h c =
      let sv = server_at state in
      let p = check_go _ sv session true (length out) (length l.disk) l.map l.owner l.table l.selected l.held i e in
      subst (λ (n : ℕ). Takes (length input) n)
      (sym (tell_counts (step_of sv i clock input l out).done.answer (step_of sv i clock input l out).done.server state counts
      (step_not sv i clock input l out p.out)))
      (step_takes sv session i clock input l out e)

  ready_takes : (k : Result ⊤ ℕ) → Local (ready_number k)
      → (calls.on_receive k state counts l out session clock input).told.code ≤ 2
      → Takes (length input) (get_or (calls.on_receive k state counts l out session clock input).told.counts 0 0)
  unfolding calls.on_receive receive_of receive_by
  ready_takes (Err n) h c = absurd (refused_by_law n h c)
  ready_takes (Ok done) h c =
      checked_takes (check_of (server_at state) l session true (length out)) refl
      (check_number_law (server_at state) l session true (length out)) c

  pub receive_takes : (calls.receive_by state counts l out session clock input).told.code ≤ 2
      → Takes (length input) (get_or (calls.receive_by state counts l out session clock input).told.counts 0 0)
  unfolding calls.receive_by
  receive_takes c =
      ready_takes (ready_of (calls.fits_at state l) state (length counts)) (ready_number_law (calls.fits_at state l) state (length counts)) c
