-- A link that the server closes leaves what a lost one leaves, and the server closes exactly where the paper says. Assumes nothing.
use Rattle.std.specs.Prelude.{Ok}
use mathlib.Core.Path.{◌≡◌, refl, sym, ap, ◌∙◌, subst}
use mathlib.Core.Bool.{Bool, true, false, not}
use mathlib.Core.List.{List, []}
use mathlib.Core.Option.{Option, none, some}
use Prim.Native.Nat.{ℕ, ◌+◌, ◌*◌}
use native.Mathlib.Omega.{arith}
use lib.ListN.{length, replicate}
use Rattle.packet.specs.declared.frame.Frame.TheVariants.{Refused}
use Rattle.packet.specs.Machine.{Call}
use Rattle.packet.specs.Frame.{Held, Event, packet, too_long, none_held, without_packet, answer_by}
use Rattle.session.specs.declared.state.Session.{Session}
use Rattle.session.specs.declared.reply.Reply.{Reply}
use Rattle.session.specs.declared.reply.Reply.TheVariants as reply
use Rattle.session.specs.declared.reply.Answer.TheVariants as answer
use Rattle.session.specs.State.{closed_session, with_held}
use Rattle.session.specs.Expected.{expected}
use Rattle.session.specs.Reply.{Told, tell}
use Rattle.carry.specs.declared.turn.Turn.{Turn}
use Rattle.carry.specs.Turn.{turn_of, Mem, mem, Turned, turned}
use Rattle.decide.proofs.Closing as decide
use Rattle.server.specs.declared.Server.{Server}
use Rattle.server.specs.State.{Lent, lent, Outcome, outcome, done_with, link_of, with_link, with_turn, part, with_part}
use Rattle.server.specs.Check.{check_of}
use Rattle.server.specs.Turns.{in_use}
use Rattle.server.specs.Calls.{on_lose, lose_of, step_of, on_check, receive_of, receive_by, lose_by}
use Rattle.history.specs.Calls.{lose, call_of}
use Rattle.promises.specs.Closing.{ClosesBy, SameAsLost, ClosingIsLosing, Unwelcome, long, unexpected, ClosesExactly, EveryClosing}
use Rattle.answers.proofs.Checks.{Through, check_sound, check_through, through_again}
use Rattle.answers.proofs.Hearing.{Ended, Hears, unended, ended}
use Rattle.answers.proofs.Carried.{is_plain}
use Rattle.answers.proofs.Receiving as steps
use Rattle.answers.proofs.Answered.{Tells, quiet, closing, sending, tells}

clash : false ≡ true → ⊥
clash e = let z : ◌≡◌ {A = ℕ} 0 1 = cc in omega arith

-- only the closing reply is answered by Closed
closed_reply : (r : Reply) (taken n : ℕ) (out : List ℕ) → (tell r taken out).answer ≡ answer.Closed n → r ≡ reply.Closing
closed_reply r taken n out e = go (tells r taken out)
  where
    go : Tells r taken out → r ≡ reply.Closing
    go (quiet q) =
        let c : answer.Quiet taken ≡ answer.Closed n = sym (ap (λ (t : Told). t.answer) q) ∙ e in
        let z : ◌≡◌ {A = ℕ} 0 1 = cc in absurd (omega arith)
    go (closing z q) = z
    go (sending kind info k m q) =
        let c : answer.Sent taken (2 + length info) ≡ answer.Closed n = sym (ap (λ (t : Told). t.answer) q) ∙ e in
        let z : ◌≡◌ {A = ℕ} 0 1 = cc in absurd (omega arith)

-- a call that closes ended a packet, and its turn closes
pub record Closed (sv : Server) (l : Lent) (session clock : ℕ) (input out : List ℕ) : Type 0 where
  pub ended : steps.EndsPacket sv l session clock input out
  pub turn : ended.turn
      ≡ turned (turn_of closed_session sv.last reply.Closing)
      (mem l.disk l.map l.owner l.table (with_part (ended.i * sv.most) sv.most (replicate sv.most 0) l.selected))

acted_closing : (sv : Server) (i : ℕ) (s : Session) (m : Mem) (t : Turned) → steps.Acted sv i s m t → t.turn.reply ≡ reply.Closing
    → t
    ≡ turned (turn_of closed_session sv.last reply.Closing)
    (mem m.disk m.map m.owner m.table (with_part (i * sv.most) sv.most (replicate sv.most 0) m.selected))
acted_closing sv i s m t (steps.plain p) e = absurd (clash (sym (ap is_plain e) ∙ p))
acted_closing sv i s m t (steps.closing q) e = q
acted_closing sv i s m t (steps.upload_error n o q) e =
    let c : reply.UploadError n ≡ reply.Closing = sym (ap (λ (u : Turned). u.turn.reply) q) ∙ e in
    let z : ◌≡◌ {A = ℕ} 0 1 = cc in absurd (omega arith)
acted_closing sv i s m t (steps.download_error n o q) e =
    let c : reply.DownloadError n ≡ reply.Closing = sym (ap (λ (u : Turned). u.turn.reply) q) ∙ e in
    let z : ◌≡◌ {A = ℕ} 0 1 = cc in absurd (omega arith)
acted_closing sv i s m t (steps.nak n u o v q k) e =
    let c : reply.Nak n ≡ reply.Closing = sym (ap (λ (t : Turn). t.reply) q) ∙ e in
    let z : ◌≡◌ {A = ℕ} 0 1 = cc in absurd (omega arith)

closed : (sv : Server) (l : Lent) (session clock : ℕ) (input out : List ℕ) (taken : ℕ) → ClosesBy sv l session clock input out taken
    → Closed sv l session clock input out
closed sv l session clock input out taken e = go (steps.receives sv l session clock input out)
  where
    said : (o : Outcome) → receive_of sv l out session clock input ≡ o → o.done.answer ≡ answer.Closed taken
    said o q = sym (ap (λ (o : Outcome). o.done.answer) q) ∙ e

    go : steps.Receives sv l session clock input out → Closed sv l session clock input out
    go (steps.refused n o f q) =
        let c : answer.Refused n ≡ answer.Closed taken = said _ q in
        let z : ◌≡◌ {A = ℕ} 0 1 = cc in absurd (omega arith)
    go (steps.ends_none f) =
        let c : answer.Quiet (length input) ≡ answer.Closed taken = said _ f.is in
        let z : ◌≡◌ {A = ℕ} 0 1 = cc in absurd (omega arith)
    go (steps.ends_packet f) =
        record {
          ended = f;
          turn = acted_closing sv f.i _ _ f.turn f.acted (closed_reply f.turn.turn.reply f.heard.taken taken out (said _ f.is));
        }

-- what is left of a lost link
lost_call : (sv : Server) (l : Lent) (session room i : ℕ) → Through sv l session true room i
    → call_of sv l (lose session)
    ≡ outcome (done_with (with_link sv i closed_session) (answer.Quiet 0))
    (lent l.disk l.map l.owner l.table (with_part (i * sv.most) sv.most (replicate sv.most 0) l.selected)
    (with_part (i * 258) 258 (replicate 258 0) l.held))
    []
unfolding lose_of lose_by on_lose
lost_call sv l session room i t =
    rw (check_sound sv l session true 258 t.fit t.is_sound, through_again sv l session true room i 258 t (omega arith))

-- THEOREM: closing leaves what losing leaves
pub closing_is_losing : ClosingIsLosing
closing_is_losing sv l session clock input out taken e = go (closed sv l session clock input out taken e)
  where
    go : Closed sv l session clock input out → SameAsLost sv l session clock input out
    go c =
        let k = lost_call sv l session (length out) c.ended.i c.ended.through in
        record {
          server = ap (λ (o : Outcome). o.done.server) c.ended.is ∙ ap (λ (t : Turned). with_turn sv c.ended.i t.turn) c.turn
              ∙ sym (ap (λ (o : Outcome). o.done.server) k);
          lent = ap (λ (o : Outcome). o.lent) c.ended.is
              ∙ ap
              (λ (t : Turned).
              lent t.mem.disk t.mem.map t.mem.owner t.mem.table t.mem.selected
              (with_part (c.ended.i * 258) 258 (replicate 258 0) l.held))
              c.turn
              ∙ sym (ap (λ (o : Outcome). o.lent) k);
        }

-- ---- when a link is closed

no_event : {E : Type 0} (v : E) → none ≡ some v → ⊥
no_event v e = let z : ◌≡◌ {A = ℕ} 0 1 = cc in omega arith

-- nothing unwelcome without an event
unwelcome_none : (s : Session) (o : Option Event) → o ≡ none → Unwelcome s o → ⊥
unwelcome_none s o e long = no_event too_long (sym e)
unwelcome_none s o e (unexpected kind info x) = no_event (packet kind info) (sym e)

not-false : (b : Bool) → not b ≡ true → b ≡ false
not-false true e = absurd (clash e)
not-false false e = refl

-- the framing's answer closes exactly for an unwelcome event
frame_closes : (s : Session) (taken : ℕ) (v : Event) → Unwelcome s (some v)
    → decide.closing (with_held s 0) (answer_by taken none_held (some v)).frame ≡ true
unfolding answer_by without_packet
frame_closes s taken v long = refl
frame_closes s taken v (unexpected kind info x) = rw x

closes_frame : (s : Session) (taken : ℕ) (v : Event) → decide.closing (with_held s 0) (answer_by taken none_held (some v)).frame ≡ true
    → Unwelcome s (some v)
unfolding answer_by without_packet
closes_frame s taken (packet kind info) e = unexpected kind info (not-false (expected s.up s.down kind (length info)) e)
closes_frame s taken too_long e = long

module _ (sv : Server) (l : Lent) (session clock : ℕ) (input out : List ℕ) (i : ℕ) (t : Through sv l session true (length out) i)
    (go_on : check_of sv l session true (length out) ≡ Ok i) where
  step_is : receive_of sv l out session clock input ≡ step_of sv i clock input l out
  unfolding receive_of receive_by on_check
  step_is = rw go_on

  act_closes : (h : Ended (part (i * 258) 258 l.held) (link_of sv i).held input)
      → decide.closes (steps.act_at sv l session clock input out i t h)
      ≡ decide.closing (with_held (link_of sv i) 0) (answer_by h.taken none_held (some h.event)).frame
  unfolding steps.act_at
  act_closes h =
      decide.decide_closes (with_held (link_of sv i) 0) (in_use sv) (answer_by h.taken none_held (some h.event)).frame
      (answer_by h.taken none_held (some h.event)).info _ _ (steps.framed_facts h.taken h.event h.info).info

  closes_at : Hears (part (i * 258) 258 l.held) (link_of sv i).held input → ClosesExactly sv l session clock input out i
  closes_at (unended u) =
      record {
        closes = λ w. absurd (unwelcome_none _ _ (ap (λ (c : Call Held Event). c.event) u.came) w);
        only = λ taken e.
            let c : answer.Quiet (length input) ≡ answer.Closed taken =
            sym (ap (λ (o : Outcome). o.done.answer) (step_is ∙ steps.step_unended sv l session clock input out i t u)) ∙ e in
            let z : ◌≡◌ {A = ℕ} 0 1 = cc in absurd (omega arith);
      }
  closes_at (ended h) =
      record {
        closes = λ w.
            answered
            ∙ ap (λ (k : Turned). (tell k.turn.reply h.taken out).answer)
            (steps.turn_closes sv l session clock input out i t h
            (act_closes h ∙ frame_closes (link_of sv i) h.taken h.event
            (subst (λ (o : Option Event). Unwelcome (link_of sv i) o) (ap (λ (c : Call Held Event). c.event) h.came) w)))
            ∙ (unfold tell in ap (λ (c : Call Held Event). answer.Closed c.taken) (sym h.came));
        only = λ taken e.
            subst (λ (o : Option Event). Unwelcome (link_of sv i) o) (sym (ap (λ (c : Call Held Event). c.event) h.came))
            (by_act (decide.closes (steps.act_at sv l session clock input out i t h)) refl (closed_reply _ h.taken taken out (sym answered ∙ e)));
      }
    where
      answered : (receive_of sv l out session clock input).done.answer
          ≡ (tell (steps.turn_at sv l session clock input out i t h).turn.reply h.taken out).answer
      answered = ap (λ (o : Outcome). o.done.answer) (step_is ∙ steps.step_ended sv l session clock input out i t h)

      by_act : (b : Bool) → decide.closes (steps.act_at sv l session clock input out i t h) ≡ b
          → (steps.turn_at sv l session clock input out i t h).turn.reply ≡ reply.Closing
          → Unwelcome (link_of sv i) (some h.event)
      by_act true q r = closes_frame (link_of sv i) h.taken h.event (sym (act_closes h) ∙ q)
      by_act false q r = absurd (steps.turn_open sv l session clock input out i t h q r)

-- THEOREM: the server closes a link exactly where the paper says
pub every_closing : EveryClosing
every_closing sv l session clock input out i e =
    let t = check_through sv l session true (length out) i e in
    closes_at sv l session clock input out i t e (steps.heard_by_law sv l session clock input out i t)
