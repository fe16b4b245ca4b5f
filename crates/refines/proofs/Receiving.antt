-- Bytes of a link are a step of the machine: every packet, and what ends in none.
use Rattle.std.specs.Prelude.{Result}
use mathlib.Core.Path.{◌≡◌, refl, sym, ap, ap₂, ◌∙◌}
use mathlib.Core.Bool.{Bool, true, false, cond}
use mathlib.Core.List.{List, [], ◌++◌}
use mathlib.Core.Option.{Option, none, some}
use Prim.Native.Nat.{ℕ, ◌+◌, ◌-◌, ◌*◌, ◌≤◌, ◌<◌}
use native.Mathlib.Omega.{arith}
use borrow.Author.Tests.{eqb-true, ltb-true, ltb-false, eq-eqb, ne_eqb, lt-ltb}
use lib.Dec.{eqb, ltb}
use lib.ListN.{length, take, replicate, length-replicate}
use lib.Seq.{length-take-le}
use Rattle.packet.specs.declared.frame.Frame.TheVariants.{Open, TooLong, Whole}
use Rattle.packet.specs.Machine.{call}
use Rattle.packet.specs.Frame.{Held, Event, Heard, heard, packet, too_long, none_held, byte, padded, without_packet, answer_by, answer_of}
use Rattle.packet.specs.Frame as frame
use Rattle.packet.proofs.FrameLaws.{padded_length}
use Rattle.session.specs.declared.state.Session.{Session}
use Rattle.session.specs.declared.state.Uplink.{Uplink}
use Rattle.session.specs.declared.state.Uplink.TheVariants as up
use Rattle.session.specs.declared.state.Downlink.{Downlink}
use Rattle.session.specs.declared.state.Downlink.TheVariants as down
use Rattle.session.specs.declared.reply.Reply.TheVariants as reply
use Rattle.session.specs.State.{with_held}
use Rattle.session.specs.Expected.{takes_data, takes_upload, takes_ack, takes_nak, expected_up, expected_down, expected}
use Rattle.session.specs.Reply.{Told, told, tell}
use Rattle.links.proofs.Facts.{LinkFacts, selection_of, packet_of, part_end}
use Rattle.decide.specs.Uplink.{on_uplink}
use Rattle.decide.specs.Downlink.{on_downlink}
use Rattle.decide.specs.Decide.{on_frame, decide_of}
use Rattle.decide.specs.Decide as decide
use Rattle.decide.specs.Uplink as uplink
use Rattle.carry.specs.Turn.{turn_of}
use Rattle.carry.specs.Turn as carry
use Rattle.carry.specs.Download as download
use Rattle.carry.specs.Carry.{on_chooses, carry_out}
use Rattle.server.specs.declared.Server.{Server}
use Rattle.server.specs.State.{Lent, link_of, with_part, part}
use Rattle.server.specs.Turns.{HeardIn, heard_in, hear_of, size_in, put_back}
use Rattle.server.specs.Calls.{answered_by, heard_by, step_of, on_check, receive_of, receive_by}
use Rattle.history.specs.Good.{Good}
use Rattle.history.specs.Stored.{files_of}
use Rattle.history.specs.Calls as history
use Rattle.history.proofs.Parts.{part_size}
use Rattle.history.proofs.Decided.{select_taken}
use Rattle.history.proofs.InUse.{act_in_use}
use Rattle.history.proofs.Sessions.{packet_own, packet_stays}
use Rattle.model.specs.State as model
use Rattle.model.specs.State.{Model, in_session, Turn, turn, Stepped, stepped, closing}
use Rattle.model.specs.Uplink.{on_upload_cmd, on_data, on_data_end}
use Rattle.model.specs.Downlink.{on_download_cmd, on_dl_ack_cmd, on_dl_nak_cmd, on_dir_cmd, on_select_cmd}
use Rattle.model.specs.Step.{by_type, on_packet, ends_in, on_event, refusal, step}
use Rattle.views.specs.View.{numbered, up_of, down_of, open_from, session_from, view}
use Rattle.refines.specs.Refines.{Refines}
use Rattle.views.proofs.Views.{facts, check_is, through, open_from_law, open_view}
use Rattle.refines.proofs.Plain.{told_room, seen, refined, by_check}
use Rattle.refines.proofs.Turns.{mk, parts, turn_view, turned, turn_view_law, link_mk}
use Rattle.refines.proofs.Packets.{Here, F, N, fs, sel, s0, k0, M, M_is, does, on, closes_all}
use Rattle.refines.proofs.Hearing.{held_as, Waits, Hears, waits, ended, used_by, Short, hears}
use Rattle.refines.proofs.Expecting.{by_table}
use Rattle.refines.proofs.Uplink.{data_does, end_does}
use Rattle.refines.proofs.Beginning.{upload_does}
use Rattle.refines.proofs.Downlink.{nak_does, ack_does, download_does}
use Rattle.refines.proofs.Directories.{directory_does}
use Rattle.refines.proofs.Select.{select_does}

clash : {A : Type 0} → false ≡ true → A
clash e = let z : ◌≡◌ {A = ℕ} 0 1 = cc in absurd (omega arith)

-- ---- every packet

module _ (c : Here) (kind : ℕ) where
  abbrev s : Session
  s = link_of c.sv c.i

  abbrev size : ℕ
  size = length c.info

  -- the machine's lines for the downlink
  abbrev below : Turn
  below =
      cond (eqb kind 8) (on_download_cmd (M c) c.i (k0 c) c.info)
      (cond (eqb kind 12) (on_dl_ack_cmd (k0 c).down (M c) c.i c.info)
      (cond (eqb kind 13) (on_dl_nak_cmd (k0 c).down (M c) c.i)
      (cond (eqb kind 16) (on_select_cmd (M c) c.i c.info)
      (cond (eqb kind 15) (on_dir_cmd true (M c) c.i (k0 c) c.info)
      (on_dir_cmd false (M c) c.i (k0 c) c.info)))))

  abbrev lines : Turn
  lines =
      cond (eqb kind 0) (on_data (k0 c).up (M c) c.i c.info)
      (cond (eqb kind 1) (on_data_end (k0 c).up (M c) c.i c.clock)
      (cond (eqb kind 3) (on_upload_cmd (M c) c.i c.info)
      below))

  -- the types of the uplink that are expected are 0, 1 and 3
  uplink_does : expected_up s.up kind size ≡ true → does c (on_uplink s.up c.sv.links kind size (padded c.info) (fs c)) ≡ lines
  unfolding on_uplink expected_up
  uplink_does e = go (eqb kind 0) (eqb kind 1) (eqb kind 3) e
    where
      go : (x y z : Bool)
          → cond x (takes_data s.up) (cond y (cond (eqb size 0) (takes_data s.up) false) (cond z (takes_upload s.up) false)) ≡ true
          → does c (cond x (uplink.on_data s.up size (fs c)) (cond y (uplink.on_end s.up) (uplink.on_upload c.sv.links size (padded c.info) (fs c))))
          ≡ cond x (on_data (k0 c).up (M c) c.i c.info) (cond y (on_data_end (k0 c).up (M c) c.i c.clock) (cond z (on_upload_cmd (M c) c.i c.info) below))
      go true y z e = data_does c s.up refl
      go false true z e = end_does c s.up refl
      go false false true e = upload_does c
      go false false false e = clash e

  downlink_does : expected_down s.down kind size ≡ true
      → does c (on_downlink s.down s.count s.next kind size (padded c.info) (fs c) (sel c)) ≡ below
  unfolding on_downlink
  downlink_does x =
      on c (eqb kind 8) _ _ _ _ (λ _. download_does c)
      (λ _.
      on c (eqb kind 12) _ _ _ _ (λ _. ack_does c s.down refl)
      (λ _.
      on c (eqb kind 13) _ _ _ _ (λ _. nak_does c s.down)
      (λ _.
      on c (eqb kind 16) _ _ _ _ (λ q. select_does c (select_taken s.down kind size (eqb-true kind 16 q) x))
      (λ _. on c (eqb kind 15) _ _ _ _ (λ _. directory_does c true) (λ _. directory_does c false)))))

  above : ltb kind 8 ≡ false → lines ≡ below
  above e =
      let k = ltb-false kind 8 e in
      rw (ne_eqb kind 0 (λ z. omega arith), ne_eqb kind 1 (λ z. omega arith), ne_eqb kind 3 (λ z. omega arith))

  expected_does : expected s.up s.down kind size ≡ true
      → does c (cond (ltb kind 8) (on_uplink s.up c.sv.links kind size (padded c.info) (fs c))
      (on_downlink s.down s.count s.next kind size (padded c.info) (fs c) (sel c)))
      ≡ lines
  unfolding expected
  expected_does e = go (ltb kind 8) refl e
    where
      go : (b : Bool) → ltb kind 8 ≡ b → cond b (expected_up s.up kind size) (expected_down s.down kind size) ≡ true
          → does c (cond b (on_uplink s.up c.sv.links kind size (padded c.info) (fs c))
          (on_downlink s.down s.count s.next kind size (padded c.info) (fs c) (sel c)))
          ≡ lines
      go true q e = uplink_does e
      go false q e = downlink_does e ∙ sym (above q)

  -- DATA and DATA_END without an upload, DL_ACK_CMD and DL_NAK_CMD where they are not expected
  data_closes : (u : Uplink) → takes_data u ≡ false → on_data (up_of (F c) u) (M c) c.i c.info ≡ closing (M c) c.i
  unfolding on_data
  data_closes up.Idle e = refl
  data_closes (up.Receiving place offset received) e = clash (sym e)
  data_closes up.Ignoring e = clash (sym e)

  end_closes : (u : Uplink) → takes_data u ≡ false → on_data_end (up_of (F c) u) (M c) c.i c.clock ≡ closing (M c) c.i
  unfolding on_data_end
  end_closes up.Idle e = refl
  end_closes (up.Receiving place offset received) e = clash (sym e)
  end_closes up.Ignoring e = clash (sym e)

  ack_closes : (d : Downlink) → takes_ack d ≡ false → on_dl_ack_cmd (down_of (F c) (N c) (sel c) s.next d) (M c) c.i c.info ≡ closing (M c) c.i
  unfolding on_dl_ack_cmd
  ack_closes down.Idle e = refl
  ack_closes (down.Sending place offset sent) e = refl
  ack_closes (down.Ended place) e = clash (sym e)
  ack_closes (down.Aborting place) e = refl
  ack_closes (down.Listing l long done sent) e = refl

  nak_closes : (d : Downlink) → takes_nak d ≡ false → on_dl_nak_cmd (down_of (F c) (N c) (sel c) s.next d) (M c) c.i ≡ closing (M c) c.i
  unfolding on_dl_nak_cmd
  nak_closes down.Idle e = clash (sym e)
  nak_closes (down.Sending place offset sent) e = clash (sym e)
  nak_closes (down.Ended place) e = clash (sym e)
  nak_closes (down.Aborting place) e = refl
  nak_closes (down.Listing l long done sent) e = clash (sym e)

  -- what the machine does, its session being k0
  machine_is : on_packet (M c) c.i c.clock kind c.info ≡ cond (expected s.up s.down kind size) lines (closing (M c) c.i)
  unfolding by_type
  machine_is =
      ap (λ (k : model.Session). by_type (M c) c.i k c.clock kind c.info)
      (link_mk c.sv c.l c.good c.i c.inside c.sv.last.number c.sv.last.time (view c.sv c.l).files (k0 c))
      ∙ by_table kind size (on_data (k0 c).up (M c) c.i c.info) (on_data_end (k0 c).up (M c) c.i c.clock)
      (on_upload_cmd (M c) c.i c.info) (on_download_cmd (M c) c.i (k0 c) c.info) (on_dl_ack_cmd (k0 c).down (M c) c.i c.info)
      (on_dl_nak_cmd (k0 c).down (M c) c.i) (on_dir_cmd false (M c) c.i (k0 c) c.info) (on_dir_cmd true (M c) c.i (k0 c) c.info)
      (on_select_cmd (M c) c.i c.info) (closing (M c) c.i)
      (F c) (N c) (sel c) s.next s.up s.down (data_closes s.up) (end_closes s.up) (ack_closes s.down) (nak_closes s.down)

  pub packet_does : does c (decide.on_packet (s0 c) c.sv.links kind size (padded c.info) (fs c) (sel c)) ≡ on_packet (M c) c.i c.clock kind c.info
  unfolding decide.on_packet
  packet_does =
      on c (expected s.up s.down kind size) _ _ _ _ expected_does (λ _. closes_all c) ∙ sym machine_is

-- ---- what was heard

module _ (sv : Server) (l : Lent) (g : Good sv l) (i : ℕ) (inside : i < sv.sessions) (linked : (link_of sv i).linked ≡ true) (clock : ℕ) (out : List ℕ)
    (room : 258 ≤ length out) where
  abbrev was : List ℕ
  was = packet_of l.held i

  own : LinkFacts (Rattle.table.specs.Table.files (Rattle.server.specs.State.table_part sv l)) sv.most (selection_of sv.most l.selected i) was (link_of sv i)
  own = (facts sv l g).sessions.each i inside linked

  -- what was heard is acted on
  heard_view : (h : HeardIn) → ((j : ℕ) → (j ≡ i → ⊥) → packet_of h.held j ≡ packet_of l.held j)
      → (t : Turn)
      → turn_view sv l i (packet_of h.held i) (turned sv l g i inside linked h.framed.held clock h.framed.frame h.framed.info) ≡ t
      → seen (heard_by sv i clock l out h) ≡ stepped (tell t.reply h.framed.taken out) t.after
  unfolding heard_by answered_by put_back
  heard_view h others t e =
      rw (act_in_use sv (facts sv l g).sessions.beyond i (with_held (link_of sv i) h.framed.held) h.framed.frame clock h.framed.info
      (carry.mem l.disk l.map l.owner l.table l.selected))
      (ap₂ stepped
      (ap (λ (x : Told). told x.answer x.out) (told_room _ h.framed.taken out room))
      (turn_view_law sv l g i inside linked h.framed.held clock h.framed.frame h.framed.info h.held others)
      ∙ ap (λ (x : Turn). stepped (tell x.reply h.framed.taken out) x.after) e)

  -- ---- the bytes

  abbrev count : ℕ
  count = (link_of sv i).held

  lent_room : sv.sessions * 258 ≤ length l.held
  lent_room = (facts sv l g).sessions.packets

  size_was : length was ≡ 258
  size_was = part_size (i * 258) 258 l.held (omega (arith, part_end i sv.sessions 258 inside, lent_room))

  held_few : count < 258
  held_few = go (ltb count 2) refl
    where
      go : (t : Bool) → ltb count 2 ≡ t → count < 258
      go true e = omega (arith, ltb-true count 2 e)
      go false e = let f = own.packet (ltb-false count 2 e) in omega (arith, f.announces, f.fewer)

  held_length : length (take count was) ≡ count
  held_length = length-take-le count was (omega (arith, held_few, size_was))

  -- the framing's answer is the byte machine's
  framed_is : (input : List ℕ) → frame.receive_of was count input ≡ answer_of (call byte (held_as count was) input)
  unfolding frame.receive_of
  framed_is input = rw (eq-eqb (length was) 258 size_was, lt-ltb count 258 held_few)

  hear_is : (input : List ℕ) (r : Heard) → answer_of (call byte (held_as count was) input) ≡ r
      → hear_of l.held i count input ≡ heard_in r.answer (with_part (i * 258) 258 r.part l.held)
  unfolding hear_of
  hear_is input r e = ap (λ (x : Heard). heard_in x.answer (with_part (i * 258) 258 x.part l.held)) (framed_is input ∙ e)

  held_is : (model.session_at (view sv l) i).held ≡ take count was
  held_is = ap (λ (k : model.Session). k.held) (open_view sv l g i inside linked)

  -- ---- the bytes end nothing

  open_turn : (state : Held)
      → turned sv l g i inside linked state.count clock Open (padded []) ≡ carry.turned (turn_of (with_held (link_of sv i) state.count) sv.last reply.Nothing) (parts sv l i)
  unfolding decide_of on_frame carry_out
  open_turn state = refl

  answer_open : (taken : ℕ) (state : Held)
      → answer_of (record { taken = taken; state = state; event = none })
      ≡ heard (record { taken = taken; held = state.count; frame = Open; info = padded [] }) state.part
  unfolding answer_of answer_by without_packet
  answer_open taken state = refl

  waits_view : (input : List ℕ) (w : Waits count was input)
      → seen (heard_by sv i clock l out (hear_of l.held i count input))
      ≡ stepped (tell reply.Nothing (length input) out) (in_session i (model.with_held (take count was ++ input)) (view sv l))
  waits_view input w =
      ap (λ (h : HeardIn). seen (heard_by sv i clock l out h)) (hear_is input _ (ap answer_of w.came ∙ answer_open (length input) w.state))
      ∙ heard_view now (packet_stays sv.sessions i w.state.part l.held inside lent_room w.size) target
      (ap (turn_view sv l i (packet_of now.held i)) (open_turn w.state) ∙ ap (turn reply.Nothing) state_is)
    where
      now : HeardIn
      now =
          heard_in (record { taken = length input; held = w.state.count; frame = Open; info = padded [] })
          (with_part (i * 258) 258 w.state.part l.held)

      target : Turn
      target = turn reply.Nothing (in_session i (model.with_held (take count was ++ input)) (view sv l))

      bytes : take w.state.count (packet_of now.held i) ≡ take count was ++ input
      bytes = ap (take w.state.count) (packet_own sv.sessions i w.state.part l.held inside lent_room w.size) ∙ w.bytes

      state_is : mk sv l i sv.last.number sv.last.time (view sv l).files
          (session_from (files_of sv l) (numbered sv l) (part (i * sv.most) sv.most l.selected) (packet_of now.held i) (with_held (link_of sv i) w.state.count))
          ≡ in_session i (model.with_held (take count was ++ input)) (view sv l)
      state_is =
          ap (model.with_session (view sv l) i)
          (open_from_law (files_of sv l) (numbered sv l) (part (i * sv.most) sv.most l.selected) (packet_of now.held i) (with_held (link_of sv i) w.state.count) linked
          ∙ ap (λ (bs : List ℕ).
          model.with_held bs (open_from (files_of sv l) (numbered sv l) (part (i * sv.most) sv.most l.selected) was (link_of sv i))) bytes
          ∙ ap (model.with_held (take count was ++ input)) (sym (open_view sv l g i inside linked)))

  -- ---- they end in a packet, or in an announced length that is too long

  zeros_stay : (j : ℕ) → (j ≡ i → ⊥) → packet_of (with_part (i * 258) 258 (replicate 258 0) l.held) j ≡ packet_of l.held j
  zeros_stay = packet_stays sv.sessions i (replicate 258 0) l.held inside lent_room (length-replicate {A = ℕ} 258 0)

  answer_long : (taken : ℕ)
      → answer_of (record { taken = taken; state = none_held; event = some too_long })
      ≡ heard (record { taken = taken; held = 0; frame = TooLong; info = padded [] }) (replicate 258 0)
  unfolding answer_of answer_by without_packet
  answer_long taken = refl

  answer_whole : (taken kind : ℕ) (info : List ℕ)
      → answer_of (record { taken = taken; state = none_held; event = some (packet kind info) })
      ≡ heard (record { taken = taken; held = 0; frame = Whole kind (length info); info = padded info }) (replicate 258 0)
  unfolding answer_of answer_by without_packet
  answer_whole taken kind info = refl

  long_turn : turn_view sv l i (packet_of (with_part (i * 258) 258 (replicate 258 0) l.held) i) (turned sv l g i inside linked 0 clock TooLong (padded []))
      ≡ closing (view sv l) i
  unfolding decide_of on_frame carry_out on_chooses download.close_turn
  long_turn = refl

  abbrev here : (info : List ℕ) → length info ≤ 256 → Here
  here info short =
      record {
        sv = sv;
        l = l;
        good = g;
        i = i;
        inside = inside;
        linked = linked;
        part = packet_of (with_part (i * 258) 258 (replicate 258 0) l.held) i;
        clock = clock;
        info = info;
        short = short;
      }

  whole_turn : (kind : ℕ) (info : List ℕ) (short : length info ≤ 256)
      → turn_view sv l i (packet_of (with_part (i * 258) 258 (replicate 258 0) l.held) i)
      (turned sv l g i inside linked 0 clock (Whole kind (length info)) (padded info))
      ≡ on_packet (in_session i (model.with_held []) (view sv l)) i clock kind info
  unfolding decide_of on_frame size_in
  whole_turn kind info short =
      rw (eq-eqb (length (padded info)) 256 (padded_length info short))
      (packet_does (here info short) kind ∙ ap (λ (m : Model). on_packet m i clock kind info) (sym (M_is (here info short))))

  ends_view : (input : List ℕ) (taken : ℕ) (v : Event)
      → call byte (held_as count was) input ≡ record { taken = taken; state = none_held; event = some v }
      → taken + count ≡ used_by v → Short v
      → seen (heard_by sv i clock l out (hear_of l.held i count input)) ≡ on_event (some v) (view sv l) i clock (take count was) input out
  unfolding on_event
  ends_view input taken (packet kind info) came used short =
      ap (λ (h : HeardIn). seen (heard_by sv i clock l out h)) (hear_is input _ (ap answer_of came ∙ answer_whole taken kind info))
      ∙ heard_view (heard_in (record { taken = taken; held = 0; frame = Whole kind (length info); info = padded info }) (with_part (i * 258) 258 (replicate 258 0) l.held))
      zeros_stay _ (whole_turn kind info short)
      ∙ ap (λ (k : ℕ). stepped (tell (on_packet (in_session i (model.with_held []) (view sv l)) i clock kind info).reply k out)
      (on_packet (in_session i (model.with_held []) (view sv l)) i clock kind info).after)
      (let h = held_length in omega arith)
  ends_view input taken too_long came used short =
      ap (λ (h : HeardIn). seen (heard_by sv i clock l out h)) (hear_is input _ (ap answer_of came ∙ answer_long taken))
      ∙ heard_view (heard_in (record { taken = taken; held = 0; frame = TooLong; info = padded [] }) (with_part (i * 258) 258 (replicate 258 0) l.held))
      zeros_stay _ long_turn
      ∙ ap (λ (k : ℕ). stepped (tell reply.Closing k out) (closing (view sv l) i).after) (let h = held_length in omega arith)

  hears_view : (input : List ℕ) → Hears count was input
      → seen (heard_by sv i clock l out (hear_of l.held i count input)) ≡ on_event (ends_in (take count was ++ input)) (view sv l) i clock (take count was) input out
  unfolding on_event
  hears_view input (waits w) =
      waits_view input w ∙ ap (λ (v : Option Event). on_event v (view sv l) i clock (take count was) input out) (sym w.is)
  hears_view input (ended w) =
      ends_view input w.taken w.event w.came w.used w.short
      ∙ ap (λ (v : Option Event). on_event v (view sv l) i clock (take count was) input out) (sym w.is)

  pub step_view : (input : List ℕ)
      → seen (step_of sv i clock input l out)
      ≡ on_event (ends_in ((model.session_at (view sv l) i).held ++ input)) (view sv l) i clock (model.session_at (view sv l) i).held input out
  unfolding step_of
  step_view input =
      hears_view input (hears input count was size_was own.packet)
      ∙ ap (λ (bs : List ℕ). on_event (ends_in (bs ++ input)) (view sv l) i clock bs input out) (sym held_is)

-- ---- THEOREM: receive

module _ (sv : Server) (l : Lent) (g : Good sv l) where
  abbrev receives : List ℕ → ℕ → List ℕ → Result ℕ ℕ → Stepped
  receives out clock input k = seen (on_check k sv l out clock input)

  pub receive_refines : (session clock : ℕ) (input out : List ℕ) → Refines sv l (history.receive session clock input out)
  unfolding receive_of receive_by on_check step
  receive_refines session clock input out =
      refined sv l (history.receive session clock input out)
      (ap (receives out clock input) (check_is sv l g session true (length out))
      ∙ by_check (refusal (view sv l) session true (length out)) (session - 1) (receives out clock input) _ (view sv l) out
      (λ z.
      let t = through sv l g session true (length out) z in
      step_view sv l g (session - 1) t.inside t.linked clock out t.room input)
      refl)
