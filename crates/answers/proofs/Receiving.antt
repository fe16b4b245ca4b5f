-- A receive call by its cases: refused, bytes that end no packet, and bytes that end one. Assumes nothing.
use Rattle.std.specs.Prelude.{Result, Ok, Err}
use mathlib.Core.Path.{◌≡◌, refl, sym, ap, ◌∙◌, subst}
use mathlib.Core.Bool.{Bool, true, false}
use mathlib.Core.List.{List, [], ◌∷◌, ◌++◌}
use mathlib.Core.Option.{some}
use Prim.Native.Nat.{ℕ, ◌*◌, ◌-◌, ◌≤◌, ◌<◌}
use native.Mathlib.Omega.{arith}
use borrow.Author.Tests.{le-ltb}
use lib.ListN.{length, take, drop, replicate, take-append-drop}
use Rattle.packet.specs.declared.frame.Frame.TheVariants.{Refused}
use Rattle.packet.specs.declared.frame.Framed.{Framed}
use Rattle.packet.specs.Frame.{Event, packet, too_long, none_held, heard, without_packet, answer_by}
use Rattle.packet.proofs.FrameLaws.{padded_length}
use Rattle.session.specs.declared.state.Session.{Session}
use Rattle.session.specs.declared.state.Uplink.{Uplink}
use Rattle.session.specs.declared.reply.Reply.TheVariants as reply
use Rattle.session.specs.declared.reply.Answer.TheVariants as answer
use Rattle.session.specs.State.{closed_session, with_held, with_up}
use Rattle.session.specs.Reply.{tell, answered}
use Rattle.table.specs.Table.{files}
use Rattle.carry.specs.declared.turn.Turn.{Turn}
use Rattle.carry.specs.Turn.{turn_of, Mem, mem, Turned, turned}
use Rattle.carry.specs.Download as download
use Rattle.carry.specs.Carry.{on_chooses, carry_out}
use Rattle.decide.specs.Decide.{decide_of, on_frame}
use Rattle.decide.specs.declared.act.Act.{Act}
use Rattle.decide.proofs.Closing.{closes}
use Rattle.server.specs.declared.Server.{Server}
use Rattle.server.specs.State.{Lent, lent, outcome, done_with, link_of, with_link, with_turn, words, part, with_part}
use Rattle.server.specs.Check.{check_of}
use Rattle.server.specs.Turns.{hear_of, size_in, in_use, parts_of, put_back, act_of}
use Rattle.server.specs.Calls.{answered_by, heard_by, step_of, on_check, receive_of, receive_by}
use Rattle.promises.specs.Parts.{one_of}
use Rattle.promises.specs.Demand1.{upload_errors, download_errors, naks, UploadOver}
use Rattle.answers.proofs.Checks.{Through, StateFacts, check_through, check_refuses, state_facts, part_length, held_few}
use Rattle.answers.proofs.Hearing.{Unended, Ended, Hears, unended, ended, hears}
use Rattle.answers.proofs.Deciding as decided
use Rattle.answers.proofs.Carried as carried

-- ---- parts put back

-- a part put back where it was
pub part_back : (a n : ℕ) (l : List ℕ) → with_part a n (part a n l) l ≡ l
part_back a n l = ap (λ (k : List ℕ). take a l ++ k) (take-append-drop n (drop a l)) ∙ take-append-drop a l

pub put_back_same : (sv : Server) (i : ℕ) (m : Mem) (t : Turn) → put_back sv i m (turned t (parts_of sv i m)) ≡ turned t m
unfolding put_back
put_back_same sv i m t =
    rw (
      take-append-drop (words sv.blocks) m.map,
      take-append-drop sv.blocks m.owner,
      take-append-drop (4 * sv.files) m.table,
      part_back (i * sv.most) sv.most m.selected,
    )

-- ---- what is heard

pub record FramedFacts (taken : ℕ) (f : Framed) : Type 0 where
  pub took : f.taken ≡ taken
  pub held : f.held ≡ 0
  pub size : size_in f.frame ≤ 256
  pub info : length f.info ≡ 256

pub framed_facts : (taken : ℕ) (v : Event) → ((kind : ℕ) (info : List ℕ) → v ≡ packet kind info → length info ≤ 256)
    → FramedFacts taken (answer_by taken none_held (some v))
unfolding answer_by without_packet size_in
framed_facts taken (packet kind info) h =
    record { took = refl; held = refl; size = h kind info refl; info = padded_length info (h kind info refl) }
framed_facts taken too_long h = record { took = refl; held = refl; size = omega arith; info = refl }

-- ---- what is done

pub data Acted (sv : Server) (i : ℕ) (s : Session) (m : Mem) (t : Turned) : Type 0 where
  plain : carried.is_plain t.turn.reply ≡ true → Acted sv i s m t
  closing : t
      ≡ turned (turn_of closed_session sv.last reply.Closing)
      (mem m.disk m.map m.owner m.table (with_part (i * sv.most) sv.most (replicate sv.most 0) m.selected))
      → Acted sv i s m t
  upload_error : (e : ℕ) → one_of e upload_errors ≡ true → t ≡ turned (turn_of s sv.last (reply.UploadError e)) m → Acted sv i s m t
  download_error : (e : ℕ) → one_of e download_errors ≡ true → t ≡ turned (turn_of s sv.last (reply.DownloadError e)) m → Acted sv i s m t
  nak : (e : ℕ) (u : Uplink) → one_of e naks ≡ true → UploadOver e u → t.turn ≡ turn_of (with_up s u) sv.last (reply.Nak e)
      → t.mem.selected ≡ m.selected
      → Acted sv i s m t

module _ (sv : Server) (i : ℕ) (s : Session) (m : Mem) where
  stays_by : (t : Turned) → carried.Carried s sv.last (parts_of sv i m) t → Acted sv i s m (put_back sv i m t)
  unfolding put_back
  stays_by t (carried.plain t' e) = plain e
  stays_by t (carried.upload_error e o) = upload_error e o (put_back_same sv i m (turn_of s sv.last (reply.UploadError e)))
  stays_by t (carried.download_error e o) = download_error e o (put_back_same sv i m (turn_of s sv.last (reply.DownloadError e)))
  stays_by t (carried.nak e u map owner table o v) = nak e u o v refl (part_back (i * sv.most) sv.most m.selected)

module _ (sv : Server) (i : ℕ) (m : Mem) where
  pub put_back_closed : length (part (i * sv.most) sv.most m.selected) ≡ sv.most
      → put_back sv i m (on_chooses (parts_of sv i m) (download.close_turn sv.last (part (i * sv.most) sv.most m.selected)))
      ≡ turned (turn_of closed_session sv.last reply.Closing)
      (mem m.disk m.map m.owner m.table (with_part (i * sv.most) sv.most (replicate sv.most 0) m.selected))
  unfolding put_back on_chooses download.close_turn
  put_back_closed n =
      rw (
        take-append-drop (words sv.blocks) m.map,
        take-append-drop sv.blocks m.owner,
        take-append-drop (4 * sv.files) m.table,
        n,
      )

-- ---- the store and the sessions that an act is handed

module _ (sv : Server) (l : Lent) (session clock : ℕ) (input out : List ℕ) (i : ℕ) (t : Through sv l session true (length out) i) where
  pub facts : StateFacts sv l
  facts = state_facts sv l t.fit t.is_sound

  pub below : i < sv.sessions
  below = omega (arith, t.index, t.from_one, t.in_range)

  pub linked : (link_of sv i).linked ≡ true
  linked = subst (λ (k : ℕ). (link_of sv k).linked ≡ true) (sym t.index) t.in_state_law

  pub packet_part : length (part (i * 258) 258 l.held) ≡ 258
  packet_part = part_length l.held i sv.sessions 258 below facts.room.held

  pub selection_part : length (part (i * sv.most) sv.most l.selected) ≡ sv.most
  selection_part = part_length l.selected i sv.sessions sv.most below facts.room.selected

  pub few_held : (link_of sv i).held < 258
  few_held = held_few sv l facts i below linked

  pub heard_by_law : Hears (part (i * 258) 258 l.held) (link_of sv i).held input
  heard_by_law = hears (part (i * 258) 258 l.held) (link_of sv i).held input packet_part few_held

  -- bytes that end no packet change the unfinished packet alone
  pub step_unended : (u : Unended (part (i * 258) 258 l.held) (link_of sv i).held input)
      → step_of sv i clock input l out
      ≡ outcome (done_with (with_link sv i (with_held (link_of sv i) u.state.count)) (answer.Quiet (length input)))
      (lent l.disk l.map l.owner l.table l.selected (with_part (i * 258) 258 u.state.part l.held)) out
  unfolding step_of heard_by hear_of without_packet act_of decide_of on_frame carry_out answered_by answered tell
  step_unended u =
      rw (
        u.is,
        put_back_same sv i (mem l.disk l.map l.owner l.table l.selected)
            (turn_of (with_held (link_of sv i) u.state.count) sv.last reply.Nothing),
        le-ltb (length out) 258 t.room,
      )

  -- bytes that end a packet
  unfoldable pub turn_at : Ended (part (i * 258) 258 l.held) (link_of sv i).held input → Turned
  turn_at e =
      act_of sv i (with_held (link_of sv i) 0) (answer_by e.taken none_held (some e.event)).frame clock
      (answer_by e.taken none_held (some e.event)).info (mem l.disk l.map l.owner l.table l.selected)

  pub step_ended : (e : Ended (part (i * 258) 258 l.held) (link_of sv i).held input)
      → step_of sv i clock input l out
      ≡ outcome (done_with (with_turn sv i (turn_at e).turn) (tell (turn_at e).turn.reply e.taken out).answer)
      (lent (turn_at e).mem.disk (turn_at e).mem.map (turn_at e).mem.owner (turn_at e).mem.table (turn_at e).mem.selected
      (with_part (i * 258) 258 (replicate 258 0) l.held))
      (tell (turn_at e).turn.reply e.taken out).out
  unfolding step_of heard_by hear_of answered_by answered turn_at
  step_ended e =
      let f = framed_facts e.taken e.event e.info in
      rw (e.is, f.took, f.held, le-ltb (length out) 258 t.room)

  -- what is decided on it
  unfoldable pub act_at : Ended (part (i * 258) 258 l.held) (link_of sv i).held input → Act
  act_at e =
      decide_of (with_held (link_of sv i) 0) (in_use sv) (answer_by e.taken none_held (some e.event)).frame
      (answer_by e.taken none_held (some e.event)).info (files (take (4 * sv.files) l.table)) (part (i * sv.most) sv.most l.selected)

  carried_at : (e : Ended (part (i * 258) 258 l.held) (link_of sv i).held input) → closes (act_at e) ≡ false
      → carried.Carried (with_held (link_of sv i) 0) sv.last (parts_of sv i (mem l.disk l.map l.owner l.table l.selected))
      (carry_out (act_at e) (with_held (link_of sv i) 0) sv.last clock sv.most (size_in (answer_by e.taken none_held (some e.event)).frame)
      (answer_by e.taken none_held (some e.event)).info (parts_of sv i (mem l.disk l.map l.owner l.table l.selected)))
  unfolding act_at
  carried_at e f =
      carried.carried (with_held (link_of sv i) 0) sv.last clock sv.most _ _
      (parts_of sv i (mem l.disk l.map l.owner l.table l.selected))
      (ready (framed_facts e.taken e.event e.info)) _
      (decided.decide_proper (with_held (link_of sv i) 0) (in_use sv) _ _ _ _) f
    where
      ready : FramedFacts e.taken (answer_by e.taken none_held (some e.event))
          → carried.Ready (with_held (link_of sv i) 0) sv.last sv.most (size_in (answer_by e.taken none_held (some e.event)).frame)
          (answer_by e.taken none_held (some e.event)).info (parts_of sv i (mem l.disk l.map l.owner l.table l.selected))
      ready f =
          record {
            sound = facts.store;
            sizes = facts.store_sizes;
            some_most = facts.some_most;
            few_most = facts.sizes.most;
            selection = omega (arith, selection_part);
            information = f.info;
            fits = f.size;
            file = λ place u. ((facts.sessions.each i below linked).receiving place u.offset u.received u.is).number;
          }

  pub turn_stays : (e : Ended (part (i * 258) 258 l.held) (link_of sv i).held input) → closes (act_at e) ≡ false
      → Acted sv i (with_held (link_of sv i) 0) (mem l.disk l.map l.owner l.table l.selected) (turn_at e)
  unfolding turn_at act_at act_of
  turn_stays e f = stays_by sv i (with_held (link_of sv i) 0) (mem l.disk l.map l.owner l.table l.selected) _ (carried_at e f)

  -- and then the reply does not close
  pub turn_open : (e : Ended (part (i * 258) 258 l.held) (link_of sv i).held input) → closes (act_at e) ≡ false
      → (turn_at e).turn.reply ≡ reply.Closing
      → ⊥
  unfolding turn_at act_at act_of put_back
  turn_open e f q = carried.carried_open _ _ _ _ (carried_at e f) q

  pub turn_closes : (e : Ended (part (i * 258) 258 l.held) (link_of sv i).held input) → closes (act_at e) ≡ true
      → turn_at e
      ≡ turned (turn_of closed_session sv.last reply.Closing)
      (mem l.disk l.map l.owner l.table (with_part (i * sv.most) sv.most (replicate sv.most 0) l.selected))
  unfolding turn_at act_at act_of
  turn_closes e f =
      ap (λ (t : Turned). put_back sv i (mem l.disk l.map l.owner l.table l.selected) t)
      (carried.carried_close (act_at e) (with_held (link_of sv i) 0) sv.last clock sv.most _ _
      (parts_of sv i (mem l.disk l.map l.owner l.table l.selected)) f)
      ∙ put_back_closed sv i (mem l.disk l.map l.owner l.table l.selected) selection_part

  pub turn_acted : (e : Ended (part (i * 258) 258 l.held) (link_of sv i).held input)
      → Acted sv i (with_held (link_of sv i) 0) (mem l.disk l.map l.owner l.table l.selected) (turn_at e)
  turn_acted e = go (closes (act_at e)) refl
    where
      go : (t : Bool) → closes (act_at e) ≡ t
          → Acted sv i (with_held (link_of sv i) 0) (mem l.disk l.map l.owner l.table l.selected) (turn_at e)
      go true q = closing (turn_closes e q)
      go false q = turn_stays e q

-- ---- the cases of a receive call

pub record EndsPacket (sv : Server) (l : Lent) (session clock : ℕ) (input out : List ℕ) : Type 0 where
  pub i : ℕ
  pub through : Through sv l session true (length out) i
  pub heard : Ended (part (i * 258) 258 l.held) (link_of sv i).held input
  pub turn : Turned
  pub acted : Acted sv i (with_held (link_of sv i) 0) (mem l.disk l.map l.owner l.table l.selected) turn
  pub is : receive_of sv l out session clock input
      ≡ outcome (done_with (with_turn sv i turn.turn) (tell turn.turn.reply heard.taken out).answer)
      (lent turn.mem.disk turn.mem.map turn.mem.owner turn.mem.table turn.mem.selected
      (with_part (i * 258) 258 (replicate 258 0) l.held))
      (tell turn.turn.reply heard.taken out).out

pub record EndsNone (sv : Server) (l : Lent) (session clock : ℕ) (input out : List ℕ) : Type 0 where
  pub i : ℕ
  pub through : Through sv l session true (length out) i
  pub heard : Unended (part (i * 258) 258 l.held) (link_of sv i).held input
  pub is : receive_of sv l out session clock input
      ≡ outcome (done_with (with_link sv i (with_held (link_of sv i) heard.state.count)) (answer.Quiet (length input)))
      (lent l.disk l.map l.owner l.table l.selected (with_part (i * 258) 258 heard.state.part l.held)) out

pub data Receives (sv : Server) (l : Lent) (session clock : ℕ) (input out : List ℕ) : Type 0 where
  refused : (n : ℕ) → one_of n (32 ∷ 33 ∷ 34 ∷ 35 ∷ []) ≡ true → check_of sv l session true (length out) ≡ Err n
      → receive_of sv l out session clock input ≡ outcome (done_with sv (answer.Refused n)) l out
      → Receives sv l session clock input out
  ends_none : EndsNone sv l session clock input out → Receives sv l session clock input out
  ends_packet : EndsPacket sv l session clock input out → Receives sv l session clock input out

pub receives : (sv : Server) (l : Lent) (session clock : ℕ) (input out : List ℕ) → Receives sv l session clock input out
unfolding receive_of receive_by on_check
receives sv l session clock input out = go (check_of sv l session true (length out)) refl
  where
    go : (k : Result ℕ ℕ) → check_of sv l session true (length out) ≡ k → Receives sv l session clock input out
    go (Err n) e = refused n (check_refuses sv l session true (length out) n e) e (rw e)
    go (Ok i) e = by (check_through sv l session true (length out) i e)
      where
        by : Through sv l session true (length out) i → Receives sv l session clock input out
        by t = on (heard_by_law sv l session clock input out i t)
          where
            on : Hears (part (i * 258) 258 l.held) (link_of sv i).held input → Receives sv l session clock input out
            on (unended u) = ends_none (record { i = i; through = t; heard = u; is = rw e (step_unended sv l session clock input out i t u) })
            on (ended h) =
                ends_packet (record {
                  i = i;
                  through = t;
                  heard = h;
                  turn = turn_at sv l session clock input out i t h;
                  acted = turn_acted sv l session clock input out i t h;
                  is = rw e (step_ended sv l session clock input out i t h);
                })
