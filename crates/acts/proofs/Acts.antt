-- What the act that a packet asks for leaves of a sound store, for every session, packet and clock.
use mathlib.Core.Path.{◌≡◌, refl, sym, ap, ◌∙◌, subst}
use mathlib.Core.Bool.{Bool, true, false, cond}
use mathlib.Core.List.{List, ◌++◌}
use Prim.Native.Nat.{ℕ, ◌+◌, ◌-◌, ◌≤◌}
use native.Mathlib.Omega.{arith}
use lib.Dec.{eqb, ltb}
use lib.ListN.{length, take, drop, replicate, length-append, length-replicate, length-drop, length-map}
use Rattle.blocks.specs.FreeMap.{free_count}
use Rattle.packet.specs.declared.frame.Frame.{Frame}
use Rattle.session.specs.declared.state.Session.{Session}
use Rattle.session.specs.declared.state.Uplink.TheVariants as up
use Rattle.session.specs.declared.state.Downlink.TheVariants as down
use Rattle.session.specs.declared.state.Listed.{Listed}
use Rattle.session.specs.declared.reply.Reply.TheVariants.{Nothing, Closing, DataEnd, DownloadError, Aborted, Completed, Selected}
use Rattle.session.specs.State.{closed_session, with_up, with_down, with_next, with_selection}
use Rattle.table.specs.Table.{files}
use Rattle.files.specs.View.{record_at}
use Rattle.files.specs.Completion.{destinations_at}
use Rattle.std.proofs.Common.{Err}
use Rattle.files.specs.Selection.{count_in, refusal_in, Selects, selects, numbers_at, chosen, select_number, listed, select_of}
use Rattle.files.proofs.Calls.{done, refused, by_number}
use Rattle.files.proofs.Choice.{select_room, chosen_most}
use Rattle.links.proofs.Facts.{CompleteAt, PartialAt}
use Rattle.decide.specs.declared.act.Act.{Act}
use Rattle.decide.specs.declared.act.Act.TheVariants as act
use Rattle.decide.specs.Decide.{decide_of}
use Rattle.carry.specs.declared.turn.Last.{Last}
use Rattle.carry.specs.declared.turn.Turn.{Turn}
use Rattle.carry.specs.Turn.{turn_of, Mem, mem, Turned, turned, chooses}
use Rattle.carry.specs.Upload as upload
use Rattle.carry.specs.Download as download
use Rattle.carry.specs.Carry.{on_chooses, carry_out}
use Rattle.server.specs.Turns.{size_in}
use Rattle.acts.specs.Change.{Files, Change, same, begins, receives, completes, discards}
use Rattle.acts.proofs.Interface.{files_in, Stored, Kept}
use Rattle.acts.proofs.Asked.{Uploading, Asked, decide_asked}
use Rattle.acts.proofs.Effects.{Own, Free, Order, Acted}
use Rattle.acts.proofs.Uploading.{ignoring_over, same_store, begin_acts, discard_acts, finish_acts, store_acts}

-- ---- the selection keeps its length

listed_length_law : (most : ℕ) (numbers selected : List ℕ) → length numbers ≤ most → most ≤ length selected
    → length (listed most numbers selected) ≡ length selected
listed_length_law most numbers selected h k =
    rw (
      length-append numbers (replicate (most - length numbers) 0 ++ drop most selected),
      length-append (replicate {A = ℕ} (most - length numbers) 0) (drop most selected),
      length-replicate {A = ℕ} (most - length numbers) 0,
      length-drop most selected,
    )
    (omega arith)

select_length : (eq disk owner table selected : List ℕ) (most : ℕ) → length (select_of eq disk owner table selected most).selected ≡ length selected
unfolding select_of
select_length eq disk owner table selected most =
    let k = select_number eq (length selected) most in
    let ns = numbers_at table (chosen most eq disk owner table) in
    let n : length ns ≡ length (chosen most eq disk owner table) =
    length-map (chosen most eq disk owner table) (λ (place : ℕ). (record_at table place).number) in
    let c = chosen_most eq disk owner table selected most in
    by_number k
    (λ z.
    ap (λ (r : Selects). length r.selected) (done k _ (selects (Err k) selected) z)
    ∙ listed_length_law most ns selected (omega arith) (select_room eq selected most z))
    (λ z. ap (λ (r : Selects). length r.selected) (refused k _ (selects (Err k) selected) z))

-- ---- the acts

module _ (s : Session) (m : Mem) (last : Last) (st : Stored m last) (more : List ℕ) where
  -- a turn that changes the session alone
  turn_acts : (t : Turn) → t.last ≡ last → Acted s more m last (turned t m)
  turn_acts t e = same_store s m last st more t m.selected e refl

  either_last : (b : Bool) (x y : Turn) → x.last ≡ last → y.last ≡ last → (cond b x y).last ≡ last
  either_last true x y e f = e
  either_last false x y e f = f

  close_acts : Acted s more m last (on_chooses m (download.close_turn last m.selected))
  unfolding on_chooses download.close_turn
  close_acts =
      same_store s m last st more (turn_of closed_session last Closing) (replicate (length m.selected) 0) refl
      (length-replicate (length m.selected) 0)

  selected_acts : (r : Selects) → length r.selected ≡ length m.selected → Acted s more m last (on_chooses m (download.selected_as s last r))
  unfolding on_chooses download.selected_as
  selected_acts r l = go (eqb (refusal_in r.answer) 0)
    where
      go : (b : Bool) → Acted s more m last (on_chooses m (cond b
          (chooses (turn_of (with_selection s (count_in r.answer)) last (Selected (count_in r.answer))) r.selected)
          (chooses (turn_of s last (DownloadError (refusal_in r.answer))) r.selected)))
      go true = same_store s m last st more (turn_of (with_selection s (count_in r.answer)) last (Selected (count_in r.answer))) r.selected refl l
      go false = same_store s m last st more (turn_of s last (DownloadError (refusal_in r.answer))) r.selected refl l

  select_acts : (most size : ℕ) (info : List ℕ)
      → Acted s more m last (on_chooses m (download.select_turn s last most size info m.disk m.owner m.table m.selected))
  unfolding on_chooses download.select_turn
  select_acts most size info = go (ltb (length info) size)
    where
      go : (b : Bool) → Acted s more m last (on_chooses m (cond b (chooses (turn_of s last Nothing) m.selected)
          (download.selected_as s last (select_of (take size info) m.disk m.owner m.table m.selected most))))
      go true = same_store s m last st more (turn_of s last Nothing) m.selected refl refl
      go false =
          selected_acts (select_of (take size info) m.disk m.owner m.table m.selected most)
          (select_length (take size info) m.disk m.owner m.table m.selected most)

  send_acts : (place offset lock passed : ℕ)
      → Acted s more m last (turned (download.begin_turn s last place offset lock passed m.disk m.owner m.table) m)
  unfolding download.begin_turn
  send_acts place offset lock passed =
      turn_acts _ (either_last (ltb (destinations_at m.disk m.owner m.table place) lock) (turn_of s last (DownloadError 10))
      (turn_of (with_down (with_next s passed) (down.Sending place offset 0)) last Nothing) refl refl)

  list_acts : (listed : Listed) (long : Bool) (passed : ℕ) → Acted s more m last (turned (download.list_turn s last listed long passed) m)
  unfolding download.list_turn
  list_acts listed long passed = turn_acts _ refl

  confirm_acts : (place destination : ℕ)
      → Acted s more m last (turned (download.confirm_turn s last place destination m.disk m.owner m.table) m)
  unfolding download.confirm_turn
  confirm_acts place destination =
      turn_acts _ (either_last (ltb (destinations_at m.disk m.owner m.table place) destination) (turn_of (with_down s down.Idle) last Aborted)
      (turn_of (with_down s down.Idle) last Completed) refl refl)

module _ (s : Session) (m : Mem) (last : Last) (clock most size : ℕ) (info : List ℕ) (st : Stored m last)
    (partial : (place offset received : ℕ) → s.up ≡ up.Receiving place offset received
    → PartialAt (files m.table) place (offset + received)) where
  pub carried : (a : Act) → Asked s size (files m.table) a
      → Acted s (take size info) m last (carry_out a s last clock most size info m)
  unfolding carry_out
  carried act.Close h = close_acts s m last st (take size info)
  carried act.Ignore h = turn_acts s m last st (take size info) (turn_of s last Nothing) refl
  carried (act.Tell r) h = turn_acts s m last st (take size info) (turn_of s last r) refl
  carried (act.Begin n) h = begin_acts s m last st (take size info) n
  carried (act.Resume place number received) h =
      turn_acts s m last st (take size info) (upload.resume_turn s last place number received) refl
  carried (act.Store place offset received) h =
      store_acts s m last st place offset received size h (partial place offset received h.receiving) info
  carried (act.Overrun place) h =
      discard_acts s m last st (take size info) place h.offset h.received h.receiving
      (partial place h.offset h.received h.receiving) up.Ignoring ignoring_over 16
  carried act.Stop h = turn_acts s m last st (take size info) (turn_of (with_up s up.Idle) last Nothing) refl
  carried (act.Finish place) h =
      finish_acts s m last st (take size info) place h.offset h.received h.receiving
      (partial place h.offset h.received h.receiving) clock
  carried act.Select h = select_acts s m last st (take size info) most size info
  carried (act.Send place offset lock passed) h = send_acts s m last st (take size info) place offset lock passed
  carried (act.Confirm place destination) h = confirm_acts s m last st (take size info) place destination
  carried (act.End r) h = turn_acts s m last st (take size info) (turn_of (with_down s down.Idle) last r) refl
  carried (act.Abort place) h = turn_acts s m last st (take size info) (turn_of (with_down s (down.Aborting place)) last DataEnd) refl
  carried (act.List listed long passed) h = list_acts s m last st (take size info) listed long passed

-- ---- the files that an act leaves alone

module _ (s : Session) (more : List ℕ) (m : Mem) (last : Last) where
  elsewhere : (place q : ℕ) → (Uploading s q → ⊥) → Uploading s place → q ≡ place → ⊥
  elsewhere place q n u e = n (subst (λ (p : ℕ). Uploading s p) (sym e) u)

  by_change : (last' : Last) (after : Files) (s' : Session) (c : Change last (files_in m) last' after) → Own s s' more c → (q : ℕ)
      → ((record_at m.table q).number ≡ 0 → ⊥) → (Uploading s q → ⊥) → after q ≡ files_in m q
  by_change last' after s' (same c) o q n u = c.files q
  by_change last' after s' (begins c) o q n u = c.others q (λ e. n (ap (λ (p : ℕ). (record_at m.table p).number) e ∙ c.free))
  by_change last' after s' (receives c) o q n u =
      c.others q (elsewhere c.place q u (record { offset = o.1.offset; received = o.1.received; receiving = o.1.receiving }))
  by_change last' after s' (completes c) o q n u = c.others q (elsewhere c.place q u o.uploading)
  by_change last' after s' (discards c) o q n u = c.others q (elsewhere c.place q u o.uploading)

  pub untouched : (t : Turned) → Acted s more m last t → (q : ℕ) → ((record_at m.table q).number ≡ 0 → ⊥) → (Uploading s q → ⊥)
      → files_in t.mem q ≡ files_in m q
  untouched t a q n u = by_change t.turn.last (files_in t.mem) t.turn.session a.kept.change a.own q n u

-- ---- the act that a packet asks for

abbrev pub turn_after : Session → List Session → Frame → List ℕ → Mem → Last → ℕ → ℕ → Turned
turn_after s links frame info m last clock most =
    carry_out (decide_of s links frame info (files m.table) m.selected) s last clock most (size_in frame) info m

module _ (s : Session) (links : List Session) (frame : Frame) (info : List ℕ) (m : Mem) (last : Last) (clock most : ℕ) (st : Stored m last)
    (partial : (place offset received : ℕ) → s.up ≡ up.Receiving place offset received
    → PartialAt (files m.table) place (offset + received)) where
  pub act_acted : Acted s (take (size_in frame) info) m last (turn_after s links frame info m last clock most)
  act_acted =
      carried s m last clock most (size_in frame) info st partial (decide_of s links frame info (files m.table) m.selected)
      (decide_asked s links frame info (files m.table) m.selected)

  -- the store is sound, its slices have their lengths, and its files changed in one way
  pub act_kept : Kept m last (turn_after s links frame info m last clock most)
  act_kept = act_acted.kept

  -- whose file was changed, and what became of the session's upload
  pub act_own : Own s (turn_after s links frame info m last clock most).turn.session (take (size_in frame) info) act_kept.change
  unfolding act_kept
  act_own = act_acted.own

  -- the number of free blocks
  pub act_free : Free (free_count m.map) (free_count (turn_after s links frame info m last clock most).mem.map) act_kept.change
  unfolding act_kept
  act_free = act_acted.free

  -- the complete files by upload time
  pub act_order : Order m.table (turn_after s links frame info m last clock most).mem.table act_kept.change
  unfolding act_kept
  act_order = act_acted.order

  -- "a call changes no file but its own": a file that the session does not upload is as it was
  pub act_others : (q : ℕ) → ((record_at m.table q).number ≡ 0 → ⊥) → (Uploading s q → ⊥)
      → files_in (turn_after s links frame info m last clock most).mem q ≡ files_in m q
  act_others q n u = untouched s (take (size_in frame) info) m last _ act_acted q n u

  -- a complete file is as it was
  pub act_complete : (q : ℕ) → CompleteAt (files m.table) q
      → files_in (turn_after s links frame info m last clock most).mem q ≡ files_in m q
  act_complete q c = act_others q c.number (λ u. c.time (partial q u.offset u.received u.receiving).time)
