-- The packets of an upload are steps of the machine: DATA and DATA_END.
use mathlib.Core.Path.{◌≡◌, refl, sym, ap, ap₂, ◌∙◌, subst}
use mathlib.Core.Bool.{Bool, true, false, cond}
use mathlib.Core.List.{List}
use mathlib.Core.Option.{Option, some}
use Prim.Native.Nat.{ℕ, ◌+◌, ◌≤◌, ◌<◌}
use native.Mathlib.Omega.{arith}
use borrow.Author.Tests.{eqb-true, eqb-false, ltb-false, le-ltb, eq-eqb, ne_eqb}
use lib.Dec.{eqb, ltb}
use lib.ListN.{length}
use Rattle.packet.specs.Frame.{padded}
use Rattle.packet.proofs.FrameLaws.{padded_length}
use Rattle.header.specs.Header.{verdict}
use Rattle.session.specs.declared.state.Session.{Session}
use Rattle.session.specs.declared.state.Uplink.{Uplink}
use Rattle.session.specs.declared.state.Uplink.TheVariants as up
use Rattle.session.specs.declared.reply.Reply.{Reply}
use Rattle.session.specs.declared.reply.Reply.TheVariants as reply
use Rattle.session.specs.State.{with_up}
use Rattle.table.specs.declared.File as table
use Rattle.std.proofs.Common.{Some, None}
use Rattle.table.specs.Table.{files, numbers}
use Rattle.table.specs.Given.{upload_time, most_given}
use Rattle.table.specs.Fit.{Distinct}
use Rattle.table.proofs.Giving.{time_given}
use Rattle.files.specs.View.{record_at}
use Rattle.files.specs.Uploads.{append_of, discard_of}
use Rattle.files.specs.Completion.{check_of, complete_of}
use Rattle.files.proofs.Received.{append_done, append_leaves, AppendLeaves}
use Rattle.files.proofs.Discarded.{discard_done, discard_leaves, DiscardLeaves}
use Rattle.files.proofs.Completed.{check_is, check_whole, complete_done, complete_leaves, CompleteLeaves}
use Rattle.decide.specs.Uplink as decide
use Rattle.decide.specs.declared.act.Act.TheVariants as act
use Rattle.carry.specs.declared.turn.Last.{Last}
use Rattle.carry.specs.Turn.{last_of, turn_of, Mem, mem, turned, Moves}
use Rattle.carry.specs.Upload as upload
use Rattle.carry.specs.Carry.{on_frees, on_writes, on_moves, carry_out}
use Rattle.server.specs.declared.Server.{Server}
use Rattle.server.specs.State.{Lent, link_of, map_part, owner_part, table_part}
use Rattle.links.proofs.Facts.{LinkFacts, PartialAt, CompleteAt, selection_of, packet_of}
use Rattle.acts.proofs.Interface.{files_in}
use Rattle.model.specs.State as model
use Rattle.model.specs.State.{File, file, with_files, in_session, Turn, turn}
use Rattle.model.specs.Files.{find, changed, without}
use Rattle.model.specs.Uplink.{discarded, grown, data_to, on_data, time_at, completed, data_end_to, on_data_end}
use Rattle.views.specs.View.{file_of, up_of, down_of, open_from}
use Rattle.views.proofs.Views.{facts, found_at, open_from_law}
use Rattle.views.proofs.Stores.{files_by, by_number}
use Rattle.refines.proofs.Turns.{mk, parts, turn_view, down_stays, set_mk}
use Rattle.views.proofs.Stores as stores
use Rattle.views.proofs.Bytes as bytes
use Rattle.refines.proofs.Packets.{Here, F, fs, sel, s0, k0, M, does, on, moves, ignores, closes_all}

module _ (c : Here) where
  abbrev sv : Server
  sv = c.sv

  abbrev l : Lent
  l = c.l

  abbrev s : Session
  s = link_of c.sv c.i

  abbrev P : Mem
  P = parts c.sv c.l c.i

  own : LinkFacts (fs c) sv.most (selection_of sv.most l.selected c.i) (packet_of l.held c.i) s
  own = (facts sv l c.good).sessions.each c.i c.inside c.linked

  one : Distinct (numbers (fs c))
  one = (facts sv l c.good).store.files.numbers

  -- ---- a turn that leaves another store

  pub moved : (m : Mem) (s' : Session) (last : Last) (r : Reply) (files : List File) (k : model.Session) → s'.linked ≡ true → files_by m last.number ≡ files
      → open_from (files_in m) (by_number m) m.selected c.part s' ≡ k
      → turn_view sv l c.i c.part (turned (turn_of s' last r) m) ≡ turn r (mk sv l c.i last.number last.time files k)
  moved m s' last r files k o e f =
      ap₂ (λ (xs : List File) (x : model.Session). turn r (mk sv l c.i last.number last.time xs x)) e
      (open_from_law (files_in m) (by_number m) m.selected c.part s' o ∙ f)

  -- the session's downlink names complete files, and is as it was
  pub down_kept : (m : Mem) (place : ℕ) → Distinct (numbers (files m.table)) → ((q : ℕ) → (q ≡ place → ⊥) → files_in m q ≡ F c q)
      → (CompleteAt (fs c) place → ⊥)
      → down_of (files_in m) (by_number m) (sel c) s.next s.down ≡ (k0 c).down
  down_kept m place two others n =
      down_stays P m sv.most (packet_of l.held c.i) s own one two
      (λ q k. others q (λ z. n (subst (CompleteAt (fs c)) z k)))

  -- the session with another uplink
  pub link_up : (m : Mem) (u : Uplink) → m.selected ≡ sel c → down_of (files_in m) (by_number m) (sel c) s.next s.down ≡ (k0 c).down
      → open_from (files_in m) (by_number m) m.selected c.part (with_up (s0 c) u) ≡ model.with_up (up_of (files_in m) u) (k0 c)
  link_up m u e d =
      ap (λ (xs : List ℕ). open_from (files_in m) (by_number m) xs c.part (with_up (s0 c) u)) e
      ∙ ap (λ (x : model.Downlink). model.with_down x (model.with_up (up_of (files_in m) u) (k0 c))) d

  -- ---- the partial file that the session receives

  module _ (place offset received : ℕ) (e : s.up ≡ up.Receiving place offset received) where
    partial : PartialAt (fs c) place (offset + received)
    partial = own.receiving place offset received e

    abbrev n : ℕ
    n = (F c place).file.number

    incomplete : CompleteAt (fs c) place → ⊥
    incomplete k = k.time partial.time

    found : find n (M c).files ≡ some (file_of (F c place))
    found = found_at sv l c.good place partial.number

    -- ---- it is discarded

    abbrev d : Mem
    d =
        mem l.disk (discard_of (map_part sv l) (owner_part sv l) (table_part sv l) place).map (discard_of (map_part sv l) (owner_part sv l) (table_part sv l) place).owner
        (discard_of (map_part sv l) (owner_part sv l) (table_part sv l) place).table (sel c)

    dropped : DiscardLeaves (map_part sv l) (owner_part sv l) (table_part sv l) sv.last.number sv.last.time place
        (discard_of (map_part sv l) (owner_part sv l) (table_part sv l) place)
    dropped =
        discard_leaves (map_part sv l) (owner_part sv l) (table_part sv l) sv.last.number sv.last.time (facts sv l c.good).store place
        (discard_done (map_part sv l) (owner_part sv l) (table_part sv l) sv.last.number sv.last.time (facts sv l c.good).store
        (facts sv l c.good).disk.some (facts sv l c.good).disk.most place partial.number)

    discard_does : (u : Uplink) (U : model.Uplink) → up_of (files_in d) u ≡ U → (r : Reply)
        → turn_view sv l c.i c.part (turned (turn_of (with_up (s0 c) u) sv.last r) d) ≡ turn r (discarded c.i n U (M c))
    discard_does u U h r =
        moved d (with_up (s0 c) u) sv.last r (without n (M c).files) (model.with_up U (k0 c)) c.linked
        (stores.files_without P d one dropped.sound.files.numbers place (dropped.others l.disk) partial.number
        (ap (λ (f : table.File). f.number) dropped.file) sv.last.number)
        (link_up d u refl (down_kept d place dropped.sound.files.numbers (dropped.others l.disk) incomplete) ∙ ap (λ (x : model.Uplink). model.with_up x (k0 c)) h)
        ∙ ap (turn r) (sym (set_mk sv l c.good c.i c.inside (model.with_up U) sv.last.number sv.last.time (without n (M c).files) (k0 c)))

    -- ---- DATA

    abbrev w : Mem
    w =
        mem (append_of l.disk (owner_part sv l) (table_part sv l) place c.info).disk (map_part sv l) (owner_part sv l)
        (append_of l.disk (owner_part sv l) (table_part sv l) place c.info).table (sel c)

    store_is : (record_at (table_part sv l) place).received + length c.info ≤ (record_at (table_part sv l) place).size
        → carry_out (act.Store place offset received) (s0 c) sv.last c.clock sv.most (length c.info) (padded c.info) P
        ≡ turned (turn_of (with_up (s0 c) (up.Receiving place offset (upload.grown received (length c.info)))) sv.last reply.Nothing) w
    unfolding carry_out on_writes upload.store_turn upload.appended_as upload.stored_as
    store_is h =
        rw (
          le-ltb (length (padded c.info)) (length c.info) (omega (arith, padded_length c.info c.short, c.short)),
          bytes.take_padded c.info,
          append_done (map_part sv l) l.disk (owner_part sv l) (table_part sv l) sv.last.number sv.last.time (facts sv l c.good).store
              (facts sv l c.good).disk place partial.number c.info h,
        )

    store_does : (record_at (table_part sv l) place).received + length c.info ≤ (record_at (table_part sv l) place).size
        → does c (act.Store place offset received) ≡ turn reply.Nothing (with_files (M c) (changed n (grown c.info) (M c).files))
    store_does h =
        ap (turn_view sv l c.i c.part) (store_is h)
        ∙ moved w (with_up (s0 c) (up.Receiving place offset (upload.grown received (length c.info)))) sv.last reply.Nothing
        (changed n (grown c.info) (M c).files) (k0 c) c.linked
        (stores.files_changed P w one a.sound.files.numbers place a.others partial.number (grown c.info) number
        (ap₂ (λ (f : table.File) (b : List ℕ). file f.number f.size b f.time) a.file a.bytes) sv.last.number)
        (link_up w (up.Receiving place offset (upload.grown received (length c.info))) refl (down_kept w place a.sound.files.numbers a.others incomplete)
        ∙ ap (λ (u : model.Uplink). model.with_up u (k0 c)) (ap model.receiving number ∙ sym (ap (up_of (F c)) e)))
      where
        a : AppendLeaves (map_part sv l) l.disk (owner_part sv l) (table_part sv l) sv.last.number sv.last.time place c.info
            (append_of l.disk (owner_part sv l) (table_part sv l) place c.info)
        a =
            append_leaves (map_part sv l) l.disk (owner_part sv l) (table_part sv l) sv.last.number sv.last.time (facts sv l c.good).store place
            c.info
            (append_done (map_part sv l) l.disk (owner_part sv l) (table_part sv l) sv.last.number sv.last.time (facts sv l c.good).store
            (facts sv l c.good).disk place partial.number c.info h)

        number : (record_at w.table place).number ≡ n
        number = ap (λ (f : table.File). f.number) a.file

    overrun_does : does c (act.Overrun place) ≡ turn (reply.Nak 16) (discarded c.i n model.ignoring (M c))
    unfolding carry_out on_frees upload.discard_turn
    overrun_does = discard_does up.Ignoring model.ignoring refl (reply.Nak 16)

    receiving_does : does c (decide.on_data (up.Receiving place offset received) (length c.info) (fs c)) ≡ data_to (some (file_of (F c place))) (M c) c.i n c.info
    unfolding decide.on_data data_to
    receiving_does =
        subst (λ (k : ℕ).
        does c (cond (ltb (F c place).file.size ((F c place).file.received + length c.info)) (act.Overrun place) (act.Store place offset received))
        ≡ cond (ltb (F c place).file.size (k + length c.info)) (turn (reply.Nak 16) (discarded c.i n model.ignoring (M c)))
        (turn reply.Nothing (with_files (M c) (changed n (grown c.info) (M c).files))))
        (sym (bytes.bytes_received sv l (facts sv l c.good) place partial.number))
        (on c (ltb (F c place).file.size ((F c place).file.received + length c.info)) _ _ _ _ (λ _. overrun_does) (λ q. store_does (ltb-false _ _ q)))

    -- ---- DATA_END

    reject_does : (number : ℕ)
        → turn_view sv l c.i c.part
        (on_moves P (upload.with_disk l.disk (upload.discard_turn (s0 c) sv.last place up.Idle number (map_part sv l) (owner_part sv l) (table_part sv l))))
        ≡ turn (reply.Nak number) (discarded c.i n model.no_upload (M c))
    unfolding on_moves upload.with_disk upload.discard_turn
    reject_does number = discard_does up.Idle model.no_upload refl (reply.Nak number)

    module _ (time : ℕ) (later : sv.last.time < time) (z : check_of l.disk (owner_part sv l) (table_part sv l) place ≡ 0) where
      abbrev x : Mem
      x =
          mem (complete_of l.disk (owner_part sv l) (table_part sv l) place time).disk (map_part sv l) (owner_part sv l)
          (complete_of l.disk (owner_part sv l) (table_part sv l) place time).table (sel c)

      done : (complete_of l.disk (owner_part sv l) (table_part sv l) place time).answer ≡ 0
      done =
          complete_done (map_part sv l) l.disk (owner_part sv l) (table_part sv l) sv.last.number sv.last.time (facts sv l c.good).store
          (facts sv l c.good).disk place partial.number z time

      accept_is : on_moves P (upload.finish_as (upload.timed (Some time)) (s0 c) sv.last place l.disk (map_part sv l) (owner_part sv l) (table_part sv l))
          ≡ turned (turn_of (with_up (s0 c) up.Idle) (last_of sv.last.number time) reply.Ack) x
      unfolding on_moves upload.finish_as upload.timed upload.with_blocks upload.accept_turn upload.accepted_as
      accept_is = rw done

      k : CompleteLeaves (map_part sv l) l.disk (owner_part sv l) (table_part sv l) sv.last.number sv.last.time place time
          (complete_of l.disk (owner_part sv l) (table_part sv l) place time)
      k =
          complete_leaves (map_part sv l) l.disk (owner_part sv l) (table_part sv l) sv.last.number sv.last.time (facts sv l c.good).store place time
          done

      sound_after : Distinct (numbers (files x.table))
      sound_after =
          (k.sound later
          (check_whole (map_part sv l) l.disk (owner_part sv l) (table_part sv l) sv.last.number sv.last.time (facts sv l c.good).store
          (facts sv l c.good).disk place partial.number z)
          ).files.numbers

      accept_does : turn_view sv l c.i c.part
          (on_moves P (upload.finish_as (upload.timed (Some time)) (s0 c) sv.last place l.disk (map_part sv l) (owner_part sv l) (table_part sv l)))
          ≡ turn reply.Ack (in_session c.i (model.with_up model.no_upload)
          (model.model (M c) sv.last.number time (changed n (completed time) (M c).files) (M c).sessions))
      accept_does =
          ap (turn_view sv l c.i c.part) accept_is
          ∙ moved x (with_up (s0 c) up.Idle) (last_of sv.last.number time) reply.Ack (changed n (completed time) (M c).files) (model.with_up model.no_upload (k0 c))
          c.linked
          (stores.files_changed P x one sound_after place k.others partial.number (completed time)
          (ap (λ (f : table.File). f.number) k.file)
          (ap₂ (λ (f : table.File) (b : List ℕ). file f.number f.size b f.time) k.file k.bytes) sv.last.number)
          (link_up x up.Idle refl (down_kept x place sound_after k.others incomplete))
          ∙ ap (turn reply.Ack)
          (sym (set_mk sv l c.good c.i c.inside (model.with_up model.no_upload) sv.last.number time (changed n (completed time) (M c).files) (k0 c)))

    abbrev checked : ℕ
    checked = check_of l.disk (owner_part sv l) (table_part sv l) place

    later : eqb sv.last.time most_given ≡ false → sv.last.time < time_at c.clock sv.last.time
    later f = (time_given c.clock sv.last.time (time_at c.clock sv.last.time) (rw f)).later

    abbrev acked : Turn
    acked =
        turn reply.Ack (in_session c.i (model.with_up model.no_upload)
        (model.model (M c) sv.last.number (time_at c.clock sv.last.time) (changed n (completed (time_at c.clock sv.last.time)) (M c).files)
        (M c).sessions))

    abbrev ended : Turn
    ended = cond (eqb sv.last.time most_given) (turn (reply.Nak 3) (discarded c.i n model.no_upload (M c))) acked

    timed_does : checked ≡ 0
        → turn_view sv l c.i c.part
        (on_moves P (upload.finish_as (upload.timed (upload_time c.clock sv.last.time)) (s0 c) sv.last place l.disk (map_part sv l) (owner_part sv l)
        (table_part sv l)))
        ≡ ended
    unfolding upload.timed upload.finish_as
    timed_does z = go (eqb sv.last.time most_given) refl
      where
        go : (b : Bool) → eqb sv.last.time most_given ≡ b
            → turn_view sv l c.i c.part
            (on_moves P (upload.finish_as (upload.timed (cond b None (Some (time_at c.clock sv.last.time)))) (s0 c) sv.last place l.disk (map_part sv l)
            (owner_part sv l) (table_part sv l)))
            ≡ cond b (turn (reply.Nak 3) (discarded c.i n model.no_upload (M c))) acked
        go true f = reject_does 3
        go false f = accept_does (time_at c.clock sv.last.time) (later f) z

    finish_checked : checked ≡ 0
        → upload.finish_turn (s0 c) sv.last place c.clock l.disk (map_part sv l) (owner_part sv l) (table_part sv l)
        ≡ upload.finish_as (upload.timed (upload_time c.clock sv.last.time)) (s0 c) sv.last place l.disk (map_part sv l) (owner_part sv l) (table_part sv l)
    unfolding upload.judged_at
    finish_checked e = rw (eq-eqb checked 0 e)

    finish_rejected : (checked ≡ 0 → ⊥)
        → upload.finish_turn (s0 c) sv.last place c.clock l.disk (map_part sv l) (owner_part sv l) (table_part sv l)
        ≡ upload.with_disk l.disk (upload.discard_turn (s0 c) sv.last place up.Idle checked (map_part sv l) (owner_part sv l) (table_part sv l))
    unfolding upload.judged_at upload.finish_as
    finish_rejected e = rw (ne_eqb checked 0 e)

    check_reads : checked ≡ verdict (F c place).bytes (F c place).file.size
    check_reads =
        check_is (map_part sv l) l.disk (owner_part sv l) (table_part sv l) sv.last.number sv.last.time (facts sv l c.good).store
        (facts sv l c.good).disk place partial.number

    finish_does : does c (act.Finish place) ≡ data_end_to (some (file_of (F c place))) (M c) c.i n c.clock
    unfolding carry_out data_end_to
    finish_does =
        go (eqb checked 0) refl
        ∙ ap (λ (k : ℕ). cond (eqb k 0) ended (turn (reply.Nak k) (discarded c.i n model.no_upload (M c)))) check_reads
      where
        go : (a : Bool) → eqb checked 0 ≡ a → does c (act.Finish place) ≡ cond a ended (turn (reply.Nak checked) (discarded c.i n model.no_upload (M c)))
        go true e =
            ap (λ (r : Moves). turn_view sv l c.i c.part (on_moves P r)) (finish_checked (eqb-true checked 0 e)) ∙ timed_does (eqb-true checked 0 e)
        go false e =
            ap (λ (r : Moves). turn_view sv l c.i c.part (on_moves P r)) (finish_rejected (eqb-false checked 0 e)) ∙ reject_does checked

  pub data_does : (u : Uplink) → s.up ≡ u → does c (decide.on_data u (length c.info) (fs c)) ≡ on_data (up_of (F c) u) (M c) c.i c.info
  unfolding decide.on_data on_data
  data_does up.Idle e = closes_all c
  data_does (up.Receiving place offset received) e =
      receiving_does place offset received e
      ∙ ap (λ (f : Option File). data_to f (M c) c.i (F c place).file.number c.info) (sym (found place offset received e))
  data_does up.Ignoring e = ignores c

  pub end_does : (u : Uplink) → s.up ≡ u → does c (decide.on_end u) ≡ on_data_end (up_of (F c) u) (M c) c.i c.clock
  unfolding decide.on_end on_data_end carry_out
  end_does up.Idle e = closes_all c
  end_does (up.Receiving place offset received) e =
      finish_does place offset received e
      ∙ ap (λ (f : Option File). data_end_to f (M c) c.i (F c place).file.number c.clock) (sym (found place offset received e))
  end_does up.Ignoring e = moves c (with_up (s0 c) up.Idle) (model.with_up model.no_upload) c.linked refl reply.Nothing
