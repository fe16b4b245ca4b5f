-- The packets of the downlink are steps of the machine: DOWNLOAD_CMD, DL_ACK_CMD and DL_NAK_CMD.
use mathlib.Core.Path.{◌≡◌, refl, sym, ap, ap₂, ◌∙◌, subst}
use mathlib.Core.Bool.{Bool, true, false, cond}
use mathlib.Core.Option.{Option}
use Prim.Native.Nat.{ℕ, ◌+◌, ◌*◌}
use native.Mathlib.Omega.{arith}
use borrow.Author.Tests.{eqb-true, eqb-false, ltb-true}
use lib.Dec.{eqb, ltb}
use lib.ListN.{length, get_or, take}
use lib.Seq.{length-take-le, get_or-take}
use Rattle.packet.specs.Frame.{padded}
use Rattle.session.specs.declared.state.Session.{Session}
use Rattle.session.specs.declared.state.Downlink.{Downlink}
use Rattle.session.specs.declared.state.Downlink.TheVariants as down
use Rattle.session.specs.declared.reply.Reply.{Reply}
use Rattle.session.specs.declared.reply.Reply.TheVariants as reply
use Rattle.session.specs.State.{with_down, with_next}
use Rattle.std.proofs.Common.{Some, None}
use Rattle.std.specs.Prelude as std
use Rattle.table.specs.Table.{file_at, find_of}
use Rattle.table.proofs.Finding.{find_found, find_number_law}
use Rattle.decide.specs.Words.{word_at}
use Rattle.decide.specs.Downlink.{on_found, on_numbered}
use Rattle.decide.specs.Downlink as decide
use Rattle.decide.specs.declared.act.Act.TheVariants as act
use Rattle.carry.specs.Turn.{turn_of, turned}
use Rattle.carry.specs.declared.turn.Turn as carry
use Rattle.carry.specs.Download as download
use Rattle.carry.specs.Carry.{carry_out}
use Rattle.server.specs.declared.Server.{Server}
use Rattle.server.specs.State.{Lent, link_of, owner_part, table_part}
use Rattle.links.proofs.Facts.{LinkFacts, selection_of, packet_of, part_end}
use Rattle.files.specs.Completion.{destinations_at}
use Rattle.history.proofs.Parts.{part_size}
use Rattle.model.specs.State as model
use Rattle.model.specs.State.{File, sending, in_session, turn}
use Rattle.model.specs.Files.{find}
use Rattle.model.specs.Downlink.{destinations_in, download_of, download_numbered, on_download_cmd, fewer_destinations, on_dl_ack_cmd, on_dl_nak_cmd}
use Rattle.views.specs.View.{file_in, down_of}
use Rattle.views.proofs.Views.{facts, find_view, found_at}
use Rattle.refines.proofs.Turns.{parts, turn_view}
use Rattle.views.proofs.Bytes as bytes
use Rattle.refines.proofs.Packets.{Here, F, N, fs, sel, s0, k0, M, does, on, moves, stays, tells, ignores, closes_all}

module _ (c : Here) where
  abbrev sv : Server
  sv = c.sv

  abbrev l : Lent
  l = c.l

  abbrev s : Session
  s = link_of c.sv c.i

  pub own : LinkFacts (fs c) sv.most (selection_of sv.most l.selected c.i) (packet_of l.held c.i) s
  own = (facts sv l c.good).sessions.each c.i c.inside c.linked

  -- ---- DL_NAK_CMD

  pub nak_does : (d : Downlink) → does c (decide.on_nak d) ≡ on_dl_nak_cmd (down_of (F c) (N c) (sel c) s.next d) (M c) c.i
  unfolding carry_out decide.on_nak on_dl_nak_cmd
  nak_does down.Idle = ignores c
  nak_does (down.Sending place offset sent) =
      moves c (with_down (s0 c) (down.Aborting place)) (model.with_down (down_of (F c) (N c) (sel c) s.next (down.Aborting place))) c.linked refl reply.DataEnd
  nak_does (down.Ended place) = moves c (with_down (s0 c) down.Idle) (model.with_down model.no_download) c.linked refl reply.Aborted
  nak_does (down.Aborting place) = closes_all c
  nak_does (down.Listing l long done sent) = moves c (with_down (s0 c) down.Idle) (model.with_down model.no_download) c.linked refl reply.DataEnd

  -- ---- DL_ACK_CMD

  fewer_read : (place n : ℕ) → ((F c place).file.number ≡ 0 → ⊥)
      → ltb (destinations_at l.disk (owner_part sv l) (table_part sv l) place) n ≡ fewer_destinations (find (F c place).file.number (M c).files) n
  unfolding fewer_destinations
  fewer_read place n file =
      ap (λ (k : ℕ). ltb k n) (bytes.destinations_read sv l (facts sv l c.good) place file)
      ∙ ap (λ (f : Option File). fewer_destinations f n) (sym (found_at sv l c.good place file))

  confirm_does : (place n : ℕ) → ((F c place).file.number ≡ 0 → ⊥)
      → does c (act.Confirm place n)
      ≡ turn (cond (fewer_destinations (find (F c place).file.number (M c).files) n) reply.Aborted reply.Completed) (in_session c.i (model.with_down model.no_download) (M c))
  unfolding carry_out download.confirm_turn
  confirm_does place n file =
      ap (λ (b : Bool). turn_view sv l c.i c.part (turned (cond b (ended reply.Aborted) (ended reply.Completed)) (parts sv l c.i))) (fewer_read place n file)
      ∙ go (fewer_destinations (find (F c place).file.number (M c).files) n)
    where
      ended : Reply → carry.Turn
      ended r = turn_of (with_down (s0 c) down.Idle) sv.last r

      go : (b : Bool) → turn_view sv l c.i c.part (turned (cond b (ended reply.Aborted) (ended reply.Completed)) (parts sv l c.i))
          ≡ turn (cond b reply.Aborted reply.Completed) (in_session c.i (model.with_down model.no_download) (M c))
      go true = moves c (with_down (s0 c) down.Idle) (model.with_down model.no_download) c.linked refl reply.Aborted
      go false = moves c (with_down (s0 c) down.Idle) (model.with_down model.no_download) c.linked refl reply.Completed

  pub ack_does : (d : Downlink) → s.down ≡ d → does c (decide.on_ack d (length c.info) (get_or (padded c.info) 0 0)) ≡ on_dl_ack_cmd (down_of (F c) (N c) (sel c) s.next d) (M c) c.i c.info
  unfolding carry_out decide.on_ack on_dl_ack_cmd
  ack_does down.Idle e = closes_all c
  ack_does (down.Sending place offset sent) e = closes_all c
  ack_does (down.Ended place) e = go (eqb (length c.info) 1) refl
    where
      go : (b : Bool) → eqb (length c.info) 1 ≡ b
          → does c (cond b (act.Confirm place (get_or (padded c.info) 0 0)) (act.End reply.Aborted))
          ≡ turn (cond b (cond (fewer_destinations (find (F c place).file.number (M c).files) (get_or c.info 0 0)) reply.Aborted reply.Completed) reply.Aborted)
          (in_session c.i (model.with_down model.no_download) (M c))
      go true q =
          let n = eqb-true (length c.info) 1 q in
          ap (λ (k : ℕ). does c (act.Confirm place k)) (bytes.byte_padded c.info 0 (omega arith))
          ∙ confirm_does place (get_or c.info 0 0) (own.ended place e).number
      go false q = moves c (with_down (s0 c) down.Idle) (model.with_down model.no_download) c.linked refl reply.Aborted
  ack_does (down.Aborting place) e = closes_all c
  ack_does (down.Listing l long done sent) e = closes_all c

  -- ---- DOWNLOAD_CMD

  send_does : (place n offset lock passed : ℕ) → ((F c place).file.number ≡ 0 → ⊥) → (F c place).file.number ≡ n
      → does c (act.Send place offset lock passed)
      ≡ cond (ltb (destinations_in (F c place).bytes) lock) (turn (reply.DownloadError 10) (M c))
      (turn reply.Nothing (in_session c.i (λ k. model.with_down (sending n offset) (model.with_next passed k)) (M c)))
  unfolding carry_out download.begin_turn
  send_does place n offset lock passed file e =
      ap (λ (k : ℕ). turn_view sv l c.i c.part (turned (cond (ltb k lock) refused begun) (parts sv l c.i)))
      (bytes.destinations_read sv l (facts sv l c.good) place file)
      ∙ go (ltb (destinations_in (F c place).bytes) lock)
    where
      refused : carry.Turn
      refused = turn_of (s0 c) sv.last (reply.DownloadError 10)

      begun : carry.Turn
      begun = turn_of (with_down (with_next (s0 c) passed) (down.Sending place offset 0)) sv.last reply.Nothing

      from : down_of (F c) (N c) (sel c) passed (down.Sending place offset 0) ≡ sending n offset
      from = ap₂ sending e (omega arith)

      go : (b : Bool) → turn_view sv l c.i c.part (turned (cond b refused begun) (parts sv l c.i))
          ≡ cond b (turn (reply.DownloadError 10) (M c)) (turn reply.Nothing (in_session c.i (λ k. model.with_down (sending n offset) (model.with_next passed k)) (M c)))
      go true = stays c (reply.DownloadError 10)
      go false =
          moves c (with_down (with_next (s0 c) passed) (down.Sending place offset 0)) (λ k. model.with_down (sending n offset) (model.with_next passed k)) c.linked
          (ap (λ (d : model.Downlink). model.with_down d (model.with_next passed (k0 c))) from) reply.Nothing

  found_does : (found : std.Option ℕ) (n offset lock passed : ℕ) → find_of (fs c) n ≡ found
      → does c (on_found found offset lock passed (fs c)) ≡ download_of (file_in (F c) found) (M c) c.i n offset lock passed
  unfolding on_found download_of
  found_does None n offset lock passed e = tells c (reply.DownloadError 4)
  found_does (Some place) n offset lock passed e =
      on c (eqb (file_at (fs c) place).time 0) _ _ _ _ (λ _. tells c (reply.DownloadError 11))
      (λ q.
      subst (λ (k : ℕ). does c (cond (ltb (file_at (fs c) place).size offset) (act.Tell (reply.DownloadError 2)) (act.Send place offset lock passed))
      ≡ cond (ltb k offset) (turn (reply.DownloadError 2) (M c))
      (cond (ltb (destinations_in (F c place).bytes) lock) (turn (reply.DownloadError 10) (M c))
      (turn reply.Nothing (in_session c.i (λ k. model.with_down (sending n offset) (model.with_next passed k)) (M c)))))
      (sym (bytes.bytes_whole sv l (facts sv l c.good) place file (eqb-false (file_at (fs c) place).time 0 q)))
      (on c (ltb (file_at (fs c) place).size offset) _ _ _ _ (λ _. tells c (reply.DownloadError 2))
      (λ _. send_does place n offset lock passed file (find_number_law (fs c) n place e))))
    where
      file : (F c place).file.number ≡ 0 → ⊥
      file y = (find_found (fs c) n place e).0 (sym (find_number_law (fs c) n place e) ∙ y)

  file_does : (n offset lock passed : ℕ)
      → does c (on_found (find_of (fs c) n) offset lock passed (fs c)) ≡ download_of (find n (M c).files) (M c) c.i n offset lock passed
  file_does n offset lock passed =
      found_does (find_of (fs c) n) n offset lock passed refl
      ∙ ap (λ (f : Option File). download_of f (M c) c.i n offset lock passed) (sym (find_view sv l c.good n))

  pub size_sel : length (sel c) ≡ sv.most
  size_sel =
      part_size (c.i * sv.most) sv.most l.selected
      (omega (arith, part_end c.i sv.sessions sv.most c.inside, (facts sv l c.good).room.selected))

  pub count_is : length (take s.count (sel c)) ≡ s.count
  count_is = length-take-le s.count (sel c) (omega (arith, size_sel, own.at_most))

  numbered_does : (n offset lock : ℕ)
      → does c (on_numbered n offset lock s.count s.next (fs c) (sel c))
      ≡ download_numbered (M c) c.i (k0 c) n offset lock
  unfolding on_numbered download_numbered
  numbered_does n offset lock =
      on c (eqb n 0) _ _ _ _
      (λ _.
      subst (λ (k : ℕ). does c (cond (ltb s.next s.count) (on_found (find_of (fs c) (get_or (sel c) s.next 0)) offset lock (s.next + 1) (fs c)) (act.Tell (reply.DownloadError 5)))
      ≡ cond (ltb s.next k)
      (download_of (find (get_or (take s.count (sel c)) s.next 0) (M c).files) (M c) c.i (get_or (take s.count (sel c)) s.next 0) offset lock (s.next + 1))
      (turn (reply.DownloadError 5) (M c)))
      (sym count_is)
      (on c (ltb s.next s.count) _ _ _ _
      (λ q.
      subst (λ (k : ℕ). does c (on_found (find_of (fs c) (get_or (sel c) s.next 0)) offset lock (s.next + 1) (fs c))
      ≡ download_of (find k (M c).files) (M c) c.i k offset lock (s.next + 1))
      (sym (get_or-take s.count (sel c) s.next 0 (ltb-true s.next s.count q)))
      (file_does (get_or (sel c) s.next 0) offset lock (s.next + 1)))
      (λ _. tells c (reply.DownloadError 5))))
      (λ _. file_does n offset lock s.next)

  pub download_does : does c (decide.on_download s.count s.next (length c.info) (padded c.info) (fs c) (sel c)) ≡ on_download_cmd (M c) c.i (k0 c) c.info
  unfolding decide.on_download on_download_cmd
  download_does =
      on c (eqb (length c.info) 9) _ _ _ _
      (λ q.
      let n = eqb-true (length c.info) 9 q in
      rw (bytes.word_padded c.info 0 (omega arith), bytes.word_padded c.info 4 (omega arith), bytes.byte_padded c.info 8 (omega arith))
      (numbered_does (word_at c.info 0) (word_at c.info 4) (get_or c.info 8 0)))
      (λ _. tells c (reply.DownloadError 1))
