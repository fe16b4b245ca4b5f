-- Bytes that end no packet, and the next bytes of that link: lent in two calls or in one; and bytes behind the end of a packet. Assumes nothing.
use Rattle.std.specs.Prelude.{Result, Ok, Err}
use mathlib.Core.Path.{◌≡◌, refl, sym, ap, ◌∙◌, subst}
use mathlib.Core.Bool.{Bool, true, false, cond}
use mathlib.Core.List.{List, ◌++◌}
use mathlib.Core.Option.{Option, none, some}
use Prim.Native.Nat.{ℕ, ◌+◌, ◌*◌, ◌-◌, ◌≤◌, ◌<◌}
use native.Mathlib.Omega.{arith}
use borrow.Author.Tests.{eq-eqb, lt-ltb}
use lib.Dec.{eqb, ltb}
use lib.ListN.{length}
use lib.Seq.{set-set}
use Rattle.packet.specs.declared.frame.Framed.{Framed}
use Rattle.packet.specs.Machine.{Call, call, further}
use Rattle.packet.specs.Frame as frame
use Rattle.packet.specs.Frame.{Held, Event, packet, too_long, byte, Heard, heard, without_packet, answer_by, answer_of, refused_part}
use Rattle.packet.proofs.Cut.{call_cut, call_end}
use Rattle.session.specs.declared.reply.Reply.{Reply}
use Rattle.session.specs.declared.reply.Reply.TheVariants as reply
use Rattle.session.specs.declared.reply.Answer.{Answer}
use Rattle.session.specs.declared.reply.Answer.TheVariants as answer
use Rattle.session.specs.State.{with_held}
use Rattle.session.specs.Reply.{told, tell, answered}
use Rattle.carry.specs.Turn.{mem}
use Rattle.server.specs.declared.Server.{Server}
use Rattle.server.specs.State.{Lent, lent, Outcome, outcome, done_with, link_of, part, with_part}
use Rattle.server.specs.Check.{check_of}
use Rattle.server.specs.Turns.{hear_of, act_of}
use Rattle.server.specs.Calls.{answered_by, heard_by, step_of, on_check, receive_of, receive_by}
use Rattle.promises.specs.Closing.{event_at}
use Rattle.answers.proofs.Checks.{Through, check_through, state_facts}
use Rattle.answers.proofs.Hearing.{Unended}
use Rattle.cutting.proofs.Parts.{part_own, with_over}
use Rattle.cutting.proofs.Held.{hold, keep, hold_own, act_same}
use Rattle.answers.proofs.Receiving as steps
use Rattle.links.proofs.Facts.{part_end}

-- ---- an answer that took k bytes more

unfoldable pub shift : ℕ → Answer → Answer
shift k (answer.Quiet taken) = answer.Quiet (k + taken)
shift k (answer.Sent taken size) = answer.Sent (k + taken) size
shift k (answer.Closed taken) = answer.Closed (k + taken)
shift k (answer.Refused n) = answer.Refused n

abbrev pub shifted : ℕ → Outcome → Outcome
shifted k o = outcome (done_with o.done.server (shift k o.done.answer)) o.lent o.out

tell_shift : (r : Reply) (k taken : ℕ) (out : List ℕ) → tell r (k + taken) out ≡ told (shift k (tell r taken out).answer) (tell r taken out).out
unfolding tell shift
tell_shift reply.Nothing k taken out = refl
tell_shift reply.Closing k taken out = refl
tell_shift reply.DataEnd k taken out = refl
tell_shift (reply.Login clock) k taken out = refl
tell_shift (reply.Go number offset) k taken out = refl
tell_shift (reply.UploadError e) k taken out = refl
tell_shift reply.Ack k taken out = refl
tell_shift (reply.Nak e) k taken out = refl
tell_shift (reply.DownloadError e) k taken out = refl
tell_shift reply.Aborted k taken out = refl
tell_shift reply.Completed k taken out = refl
tell_shift (reply.Selected count) k taken out = refl

answered_shift : (r : Reply) (k taken : ℕ) (out : List ℕ)
    → answered r (k + taken) out ≡ told (shift k (answered r taken out).answer) (answered r taken out).out
unfolding answered shift
answered_shift r k taken out = go (ltb (length out) 258)
  where
    go : (t : Bool)
        → cond t (told (answer.Refused 32) out) (tell r (k + taken) out)
        ≡ told (shift k (cond t (told (answer.Refused 32) out) (tell r taken out)).answer)
        (cond t (told (answer.Refused 32) out) (tell r taken out)).out
    go true = refl
    go false = tell_shift r k taken out

-- ---- a step by what was heard

unfoldable pub step_with : Server → ℕ → ℕ → Lent → List ℕ → Heard → Outcome
step_with sv i clock l out h =
    answered_by sv i h.answer.taken (with_part (i * 258) 258 h.part l.held) out
    (act_of sv i (with_held (link_of sv i) h.answer.held) h.answer.frame clock h.answer.info
    (mem l.disk l.map l.owner l.table l.selected))

pub step_with_law : (sv : Server) (i clock : ℕ) (l : Lent) (out input : List ℕ) (h : Heard)
    → frame.receive_of (part (i * 258) 258 l.held) (link_of sv i).held input ≡ h
    → step_of sv i clock input l out ≡ step_with sv i clock l out h
unfolding step_of heard_by hear_of step_with
step_with_law sv i clock l out input h e = ap (λ (k : Heard). step_with sv i clock l out k) e

abbrev heard_more : ℕ → Heard → Heard
heard_more k h =
    heard (record { taken = k + h.answer.taken; held = h.answer.held; frame = h.answer.frame; info = h.answer.info }) h.part

step_more : (sv : Server) (i clock : ℕ) (l : Lent) (out : List ℕ) (k : ℕ) (h : Heard)
    → step_with sv i clock l out (heard_more k h) ≡ shifted k (step_with sv i clock l out h)
unfolding step_with answered_by
step_more sv i clock l out k h = rw (answered_shift _ k h.answer.taken out)

answer_more : (k taken : ℕ) (h : Held) (o : Option Event)
    → answer_by (k + taken) h o
    ≡ record
    { taken = k + (answer_by taken h o).taken; held = (answer_by taken h o).held; frame = (answer_by taken h o).frame; info = (answer_by taken h o).info }
unfolding answer_by without_packet
answer_more k taken h none = refl
answer_more k taken h (some (packet kind info)) = refl
answer_more k taken h (some too_long) = refl

-- ---- bytes behind the end of a packet

heard_end : (p : List ℕ) (n : ℕ) (xs ys : List ℕ) (e : Event)
    → (call byte (record { count = n; part = p }) xs).event ≡ some e
    → frame.receive_of p n (xs ++ ys) ≡ frame.receive_of p n xs
unfolding frame.receive_of
heard_end p n xs ys e q =
    ap (λ (c : Call Held Event). cond (eqb (length p) 258) (cond (ltb n 258) (answer_of c) (refused_part p n)) (refused_part p n))
    (call_end byte xs ys (record { count = n; part = p }) e q)

-- THEOREM: a call on bytes in which a packet ends takes, answers and leaves the same, whatever stands behind them
pub rest_untouched : (sv : Server) (l : Lent) (session clock : ℕ) (xs ys out : List ℕ) (e : Event)
    → event_at sv l (session - 1) xs ≡ some e
    → receive_of sv l out session clock (xs ++ ys) ≡ receive_of sv l out session clock xs
unfolding receive_of receive_by on_check
rest_untouched sv l session clock xs ys out e q = go (check_of sv l session true (length out)) refl
  where
    go : (k : Result ℕ ℕ) → check_of sv l session true (length out) ≡ k → on_check k sv l out clock (xs ++ ys) ≡ on_check k sv l out clock xs
    go (Err n) c = refl
    go (Ok i) c =
        let z = (check_through sv l session true (length out) i c).index in
        step_with_law sv i clock l out (xs ++ ys) _
        (heard_end (part (i * 258) 258 l.held) (link_of sv i).held xs ys e (subst (λ (j : ℕ). event_at sv l j xs ≡ some e) (sym z) q))
        ∙ sym (step_with_law sv i clock l out xs _ refl)

-- ---- two calls, or one

module _ (sv : Server) (l : Lent) (session clock : ℕ) (xs ys out : List ℕ) (i : ℕ) (t : Through sv l session true (length out) i)
    (u : Unended (part (i * 258) 258 l.held) (link_of sv i).held xs) (four : length sv.links ≡ 4) where
  below : i < length sv.links
  below = let f = state_facts sv l t.fit t.is_sound in omega (arith, t.index, t.from_one, t.in_range, f.sizes.sessions)

  abbrev rest : Call Held Event
  rest = call byte u.state ys

  room : i * 258 + 258 ≤ length l.held
  room =
      let f = state_facts sv l t.fit t.is_sound in
      omega (arith, f.room.held, part_end i sv.sessions 258 (omega (arith, t.index, t.from_one, t.in_range)))

  -- the second call goes on with the packet
  second : frame.receive_of (part (i * 258) 258 (keep l i u.state.part).held) (link_of (hold sv i u.state.count) i).held ys ≡ answer_of rest
  unfolding frame.receive_of
  second =
      rw (
        part_own (i * 258) 258 u.state.part l.held u.size room,
        hold_own sv i u.state.count below,
        eq-eqb (length u.state.part) 258 u.size,
        lt-ltb u.state.count 258 u.few,
      )

  both : call byte (record { count = (link_of sv i).held; part = part (i * 258) 258 l.held }) (xs ++ ys) ≡ further (length xs) rest
  both =
      call_cut byte xs ys (record { count = (link_of sv i).held; part = part (i * 258) 258 l.held })
      (ap (λ (c : Call Held Event). c.event) u.came)
      ∙ ap (λ (c : Call Held Event). further (length xs) (call byte c.state ys)) u.came

  one : (held_few : (link_of sv i).held < 258) → length (part (i * 258) 258 l.held) ≡ 258
      → frame.receive_of (part (i * 258) 258 l.held) (link_of sv i).held (xs ++ ys) ≡ heard_more (length xs) (answer_of rest)
  unfolding frame.receive_of answer_of
  one few whole =
      rw (eq-eqb (length (part (i * 258) 258 l.held)) 258 whole, lt-ltb (link_of sv i).held 258 few, both)
      (ap (λ (f : Framed). heard f rest.state.part) (answer_more (length xs) rest.taken rest.state rest.event))

  -- and with the same session and the same store
  held_step : (h : Heard) → step_with (hold sv i u.state.count) i clock (keep l i u.state.part) out h ≡ step_with sv i clock l out h
  unfolding step_with answered_by
  held_step h =
      rw (
        hold_own sv i u.state.count below,
        act_same sv i u.state.count below i (with_held (link_of sv i) h.answer.held) h.answer.frame clock h.answer.info
            (mem l.disk l.map l.owner l.table l.selected),
        with_over (i * 258) 258 u.state.part l.held u.size room h.part,
        set-set sv.links i (with_held (link_of sv i) u.state.count) _,
      )

  pub step_joined : step_of sv i clock (xs ++ ys) l out
      ≡ shifted (length xs) (step_of (hold sv i u.state.count) i clock ys (keep l i u.state.part) out)
  step_joined =
      step_with_law sv i clock l out (xs ++ ys) _
      (one (steps.few_held sv l session clock xs out i t) (steps.packet_part sv l session clock xs out i t))
      ∙ step_more sv i clock l out (length xs) (answer_of rest)
      ∙ ap (λ (o : Outcome). shifted (length xs) o)
      (sym (held_step (answer_of rest)) ∙ sym
      (step_with_law (hold sv i u.state.count) i clock (keep l i u.state.part) out ys (answer_of rest) second))
