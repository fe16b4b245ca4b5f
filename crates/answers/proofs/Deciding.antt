-- What may be decided on a packet: which refusals, and for which file. Assumes nothing.
use mathlib.Core.Path.{◌≡◌, refl}
use mathlib.Core.Bool.{Bool, true, false, cond}
use mathlib.Core.List.{List}
use Prim.Native.Nat.{ℕ, ◌+◌, ◌≤◌}
use borrow.Author.Tests.{ltb-false}
use lib.Dec.{eqb, ltb}
use lib.ListN.{length, get_or}
use Rattle.packet.specs.declared.frame.Frame.{Frame}
use Rattle.packet.specs.declared.frame.Frame.TheVariants.{Open, TooLong, Whole, Refused}
use Rattle.session.specs.declared.state.Session.{Session}
use Rattle.session.specs.declared.state.Uplink.{Uplink}
use Rattle.session.specs.declared.state.Uplink.TheVariants as up
use Rattle.session.specs.declared.state.Downlink.{Downlink}
use Rattle.session.specs.declared.state.Downlink.TheVariants as down
use Rattle.session.specs.declared.reply.Reply.TheVariants.{DataEnd, UploadError, DownloadError, Aborted}
use Rattle.session.specs.Expected.{expected}
use Rattle.table.specs.declared.File.{File}
use Rattle.std.proofs.Common.{Option, Some, None}
use Rattle.table.specs.Table.{file_at, find_of}
use Rattle.decide.specs.Words.{word_at}
use Rattle.decide.specs.Uplink.{uploading, on_continued, on_upload, on_data, on_end, on_uplink}
use Rattle.decide.specs.Downlink.{on_found, on_numbered, on_download, list_found, list_numbered, on_directory, on_ack, on_nak, on_downlink}
use Rattle.session.specs.declared.state.Listed.{Listed}
use Rattle.decide.specs.Decide.{on_packet, on_frame, decide_of}
use Rattle.decide.specs.declared.act.Act.{Act}
use Rattle.decide.specs.declared.act.Act.TheVariants as act
use Rattle.server.specs.Turns.{size_in}
use Rattle.promises.specs.Parts.{one_of}
use Rattle.promises.specs.Demand1.{upload_errors, download_errors}

-- the session is uploading the file at a place
pub record Uploads (u : Uplink) (place : ℕ) : Type 0 where
  pub offset : ℕ
  pub received : ℕ
  pub is : u ≡ up.Receiving place offset received

pub data Proper (u : Uplink) (size : ℕ) (fs : List File) : Act → Type 0 where
  close : Proper u size fs act.Close
  ignore : Proper u size fs act.Ignore
  upload_error : (e : ℕ) → one_of e upload_errors ≡ true → Proper u size fs (act.Tell (UploadError e))
  download_error : (e : ℕ) → one_of e download_errors ≡ true → Proper u size fs (act.Tell (DownloadError e))
  begin : (n : ℕ) → Proper u size fs (act.Begin n)
  resume : (place number received : ℕ) → Proper u size fs (act.Resume place number received)
  store : (place offset received : ℕ) → Uploads u place → (file_at fs place).received + size ≤ (file_at fs place).size
      → Proper u size fs (act.Store place offset received)
  overrun : (place : ℕ) → Uploads u place → Proper u size fs (act.Overrun place)
  stop : Proper u size fs act.Stop
  finish : (place : ℕ) → Uploads u place → Proper u size fs (act.Finish place)
  select : Proper u size fs act.Select
  send : (place offset lock passed : ℕ) → Proper u size fs (act.Send place offset lock passed)
  confirm : (place destination : ℕ) → Proper u size fs (act.Confirm place destination)
  ending : Proper u size fs (act.End Aborted)
  abort : (place : ℕ) → Proper u size fs (act.Abort place)
  break_off : Proper u size fs (act.End DataEnd)
  list : (l : Listed) (long : Bool) (passed : ℕ) → Proper u size fs (act.List l long passed)

module _ (u : Uplink) (size : ℕ) (fs : List File) where
  either : (b : Bool) (x y : Act) → Proper u size fs x → Proper u size fs y → Proper u size fs (cond b x y)
  either true x y e f = e
  either false x y e f = f

  -- ---- the uplink

  continued_proper : (f : Option ℕ) (number n : ℕ) (links : List Session) → Proper u size fs (on_continued f number n links fs)
  unfolding on_continued
  continued_proper None number n links = upload_error 4 refl
  continued_proper (Some place) number n links =
      either (eqb (file_at fs place).time 0) _ _
      (either (eqb (file_at fs place).size n) _ _
      (either (uploading links place) _ _ (upload_error 2 refl) (resume place number (file_at fs place).received))
      (upload_error 2 refl))
      (upload_error 12 refl)

  upload_proper : (links : List Session) (info : List ℕ) → Proper u size fs (on_upload links size info fs)
  unfolding on_upload
  upload_proper links info =
      either (eqb size 8) _ _
      (either (eqb (word_at info 0) 0) _ _ (begin (word_at info 4))
      (continued_proper (find_of fs (word_at info 0)) (word_at info 0) (word_at info 4) links))
      (upload_error 1 refl)

  data_proper : (v : Uplink) → u ≡ v → Proper u size fs (on_data v size fs)
  unfolding on_data
  data_proper up.Idle e = close
  data_proper (up.Receiving place offset received) e = go (ltb (file_at fs place).size ((file_at fs place).received + size)) refl
    where
      go : (t : Bool) → ltb (file_at fs place).size ((file_at fs place).received + size) ≡ t
          → Proper u size fs (cond t (act.Overrun place) (act.Store place offset received))
      go true q = overrun place (record { offset = offset; received = received; is = e })
      go false q = store place offset received (record { offset = offset; received = received; is = e }) (ltb-false _ _ q)
  data_proper up.Ignoring e = ignore

  end_proper : (v : Uplink) → u ≡ v → Proper u size fs (on_end v)
  unfolding on_end
  end_proper up.Idle e = close
  end_proper (up.Receiving place offset received) e = finish place (record { offset = offset; received = received; is = e })
  end_proper up.Ignoring e = stop

  uplink_proper : (links : List Session) (kind : ℕ) (info : List ℕ) → Proper u size fs (on_uplink u links kind size info fs)
  unfolding on_uplink
  uplink_proper links kind info =
      either (eqb kind 0) _ _ (data_proper u refl) (either (eqb kind 1) _ _ (end_proper u refl) (upload_proper links info))

  -- ---- the downlink

  found_proper : (f : Option ℕ) (offset lock passed : ℕ) → Proper u size fs (on_found f offset lock passed fs)
  unfolding on_found
  found_proper None offset lock passed = download_error 4 refl
  found_proper (Some place) offset lock passed =
      either (eqb (file_at fs place).time 0) _ _ (download_error 11 refl)
      (either (ltb (file_at fs place).size offset) _ _ (download_error 2 refl) (send place offset lock passed))

  numbered_proper : (number offset lock count next : ℕ) (selected : List ℕ) → Proper u size fs (on_numbered number offset lock count next fs selected)
  unfolding on_numbered
  numbered_proper number offset lock count next selected =
      either (eqb number 0) _ _
      (either (ltb next count) _ _ (found_proper (find_of fs (get_or selected next 0)) offset lock (next + 1)) (download_error 5 refl))
      (found_proper (find_of fs number) offset lock next)

  download_proper : (count next : ℕ) (info selected : List ℕ) → Proper u size fs (on_download count next size info fs selected)
  unfolding on_download
  download_proper count next info selected =
      either (eqb size 9) _ _ (numbered_proper (word_at info 0) (word_at info 4) (get_or info 8 0) count next selected) (download_error 1 refl)

  list_found_proper : (f : Option ℕ) (long : Bool) (next : ℕ) → Proper u size fs (list_found f long next fs)
  unfolding list_found
  list_found_proper None long next = download_error 4 refl
  list_found_proper (Some place) long next = either (eqb (file_at fs place).time 0) _ _ (download_error 11 refl) (list _ long next)

  directory_proper : (long : Bool) (count next : ℕ) (info : List ℕ) → Proper u size fs (on_directory long count next size info fs)
  unfolding on_directory list_numbered
  directory_proper long count next info =
      either (eqb size 4) _ _
      (either (eqb (word_at info 0) 0) _ _ (either (ltb next count) _ _ (list _ long _) (download_error 5 refl))
      (list_found_proper (find_of fs (word_at info 0)) long next))
      (download_error 1 refl)

  ack_proper : (d : Downlink) (destination : ℕ) → Proper u size fs (on_ack d size destination)
  unfolding on_ack
  ack_proper down.Idle destination = close
  ack_proper (down.Sending place offset sent) destination = close
  ack_proper (down.Ended place) destination = either (eqb size 1) _ _ (confirm place destination) ending
  ack_proper (down.Aborting place) destination = close
  ack_proper (down.Listing l long done sent) destination = close

  nak_proper : (d : Downlink) → Proper u size fs (on_nak d)
  unfolding on_nak
  nak_proper down.Idle = ignore
  nak_proper (down.Sending place offset sent) = abort place
  nak_proper (down.Ended place) = ending
  nak_proper (down.Aborting place) = close
  nak_proper (down.Listing l long done sent) = break_off

  downlink_proper : (d : Downlink) (count next kind : ℕ) (info selected : List ℕ)
      → Proper u size fs (on_downlink d count next kind size info fs selected)
  unfolding on_downlink
  downlink_proper d count next kind info selected =
      either (eqb kind 8) _ _ (download_proper count next info selected)
      (either (eqb kind 12) _ _ (ack_proper d (get_or info 0 0))
      (either (eqb kind 13) _ _ (nak_proper d)
      (either (eqb kind 16) _ _ select
      (either (eqb kind 15) _ _ (directory_proper true count next info) (directory_proper false count next info)))))

-- ---- a packet, and what the bytes of a link came to

packet_proper : (s : Session) (links : List Session) (kind size : ℕ) (info : List ℕ) (fs : List File) (selected : List ℕ)
    → Proper s.up size fs (on_packet s links kind size info fs selected)
unfolding on_packet
packet_proper s links kind size info fs selected =
    either s.up size fs (expected s.up s.down kind size) _ _
    (either s.up size fs (ltb kind 8) _ _ (uplink_proper s.up size fs links kind info)
    (downlink_proper s.up size fs s.down s.count s.next kind info selected))
    close

frame_proper : (s : Session) (links : List Session) (frame : Frame) (info : List ℕ) (fs : List File) (selected : List ℕ)
    → Proper s.up (size_in frame) fs (on_frame s links frame info fs selected)
unfolding on_frame size_in
frame_proper s links Open info fs selected = ignore
frame_proper s links TooLong info fs selected = close
frame_proper s links (Whole kind size) info fs selected = packet_proper s links kind size info fs selected
frame_proper s links (Refused n) info fs selected = ignore

pub decide_proper : (s : Session) (links : List Session) (frame : Frame) (info : List ℕ) (fs : List File) (selected : List ℕ)
    → Proper s.up (size_in frame) fs (decide_of s links frame info fs selected)
unfolding decide_of
decide_proper s links frame info fs selected =
    either s.up (size_in frame) fs (eqb (length info) 256) _ _ (frame_proper s links frame info fs selected) ignore
