-- What is known of an act that a packet asks for: whose file it concerns, and that bytes to be stored have room.
use mathlib.Core.Path.{◌≡◌, refl}
use mathlib.Core.Bool.{Bool, true, false, cond}
use mathlib.Core.List.{List}
use Prim.Native.Nat.{ℕ, ◌+◌, ◌≤◌}
use lib.Dec.{eqb, ltb}
use lib.ListN.{length, get_or}
use borrow.Author.Tests.{ltb-false}
use Rattle.packet.specs.declared.frame.Frame.{Frame}
use Rattle.packet.specs.declared.frame.Frame.TheVariants as frame
use Rattle.session.specs.declared.state.Session.{Session}
use Rattle.session.specs.declared.state.Uplink.{Uplink}
use Rattle.session.specs.declared.state.Uplink.TheVariants as up
use Rattle.session.specs.declared.state.Downlink.{Downlink}
use Rattle.session.specs.declared.state.Downlink.TheVariants as down
use Rattle.session.specs.declared.state.Listed.TheVariants as listed
use Rattle.session.specs.declared.reply.Reply.TheVariants.{DownloadError, UploadError, Aborted}
use Rattle.session.specs.Expected.{expected}
use Rattle.table.specs.declared.File.{File}
use Rattle.std.proofs.Common.{Option, Some, None}
use Rattle.table.specs.Table.{file_at, find_of}
use Rattle.decide.specs.declared.act.Act.{Act}
use Rattle.decide.specs.declared.act.Act.TheVariants as act
use Rattle.decide.specs.Words.{word_at}
use Rattle.decide.specs.Uplink.{uploading, on_continued, on_upload, on_data, on_end, on_uplink}
use Rattle.decide.specs.Downlink.{on_found, on_numbered, on_download, ten_from, list_found, list_numbered, on_directory, on_ack, on_nak, on_downlink}
use Rattle.decide.specs.Decide.{on_packet, on_frame, decide_of}
use Rattle.server.specs.Turns.{size_in}

-- the session uploads the file at a place
pub record Uploading (s : Session) (place : ℕ) : Type 0 where
  pub offset : ℕ
  pub received : ℕ
  pub receiving : s.up ≡ up.Receiving place offset received

-- bytes to be stored are those of a DATA within the announced length of the session's file
pub record Room (s : Session) (size : ℕ) (fs : List File) (place offset received : ℕ) : Type 0 where
  pub receiving : s.up ≡ up.Receiving place offset received
  pub fits : (file_at fs place).received + size ≤ (file_at fs place).size

abbrev pub Asked : Session → ℕ → List File → Act → Type 0
Asked s size fs act.Close = Unit {0}
Asked s size fs act.Ignore = Unit {0}
Asked s size fs (act.Tell r) = Unit {0}
Asked s size fs (act.Begin n) = Unit {0}
Asked s size fs (act.Resume place number received) = Unit {0}
Asked s size fs (act.Store place offset received) = Room s size fs place offset received
Asked s size fs (act.Overrun place) = Uploading s place
Asked s size fs act.Stop = Unit {0}
Asked s size fs (act.Finish place) = Uploading s place
Asked s size fs act.Select = Unit {0}
Asked s size fs (act.Send place offset lock passed) = Unit {0}
Asked s size fs (act.Confirm place destination) = Unit {0}
Asked s size fs (act.End r) = Unit {0}
Asked s size fs (act.Abort place) = Unit {0}
Asked s size fs (act.List listed long passed) = Unit {0}

module _ (s : Session) (size : ℕ) (fs : List File) where
  either : (b : Bool) (x y : Act) → Asked s size fs x → Asked s size fs y → Asked s size fs (cond b x y)
  either true x y f g = f
  either false x y f g = g

  -- ---- the uplink

  on_data_law : (u : Uplink) → s.up ≡ u → Asked s size fs (on_data u size fs)
  unfolding on_data
  on_data_law up.Idle e = tt
  on_data_law (up.Receiving place offset received) e = go (ltb (file_at fs place).size ((file_at fs place).received + size)) refl
    where
      go : (b : Bool) → ltb (file_at fs place).size ((file_at fs place).received + size) ≡ b
          → Asked s size fs (cond b (act.Overrun place) (act.Store place offset received))
      go true t = record { offset = offset; received = received; receiving = e }
      go false t = record { receiving = e; fits = ltb-false (file_at fs place).size ((file_at fs place).received + size) t }
  on_data_law up.Ignoring e = tt

  on_end_law : (u : Uplink) → s.up ≡ u → Asked s size fs (on_end u)
  unfolding on_end
  on_end_law up.Idle e = tt
  on_end_law (up.Receiving place offset received) e = record { offset = offset; received = received; receiving = e }
  on_end_law up.Ignoring e = tt

  on_continued_law : (f : Option ℕ) (number total : ℕ) (links : List Session) → Asked s size fs (on_continued f number total links fs)
  unfolding on_continued
  on_continued_law None number total links = tt
  on_continued_law (Some place) number total links =
      either (eqb (file_at fs place).time 0) _ (act.Tell (UploadError 12))
      (either (eqb (file_at fs place).size total) _ (act.Tell (UploadError 2))
      (either (uploading links place) (act.Tell (UploadError 2)) (act.Resume place number (file_at fs place).received) tt tt)
      tt)
      tt

  on_upload_law : (links : List Session) (n : ℕ) (info : List ℕ) → Asked s size fs (on_upload links n info fs)
  unfolding on_upload
  on_upload_law links n info =
      either (eqb n 8) _ (act.Tell (UploadError 1))
      (either (eqb (word_at info 0) 0) (act.Begin (word_at info 4)) _ tt
      (on_continued_law (find_of fs (word_at info 0)) (word_at info 0) (word_at info 4) links))
      tt

  on_uplink_law : (links : List Session) (kind : ℕ) (info : List ℕ) → Asked s size fs (on_uplink s.up links kind size info fs)
  unfolding on_uplink
  on_uplink_law links kind info =
      either (eqb kind 0) (on_data s.up size fs) _ (on_data_law s.up refl)
      (either (eqb kind 1) (on_end s.up) (on_upload links size info fs) (on_end_law s.up refl) (on_upload_law links size info))

  -- ---- the downlink

  on_found_law : (f : Option ℕ) (offset lock passed : ℕ) → Asked s size fs (on_found f offset lock passed fs)
  unfolding on_found
  on_found_law None offset lock passed = tt
  on_found_law (Some place) offset lock passed =
      either (eqb (file_at fs place).time 0) (act.Tell (DownloadError 11)) _ tt
      (either (ltb (file_at fs place).size offset) (act.Tell (DownloadError 2)) (act.Send place offset lock passed) tt tt)

  on_numbered_law : (number offset lock count next : ℕ) (selected : List ℕ) → Asked s size fs (on_numbered number offset lock count next fs selected)
  unfolding on_numbered
  on_numbered_law number offset lock count next selected =
      either (eqb number 0) _ (on_found (find_of fs number) offset lock next fs)
      (either (ltb next count) (on_found (find_of fs (get_or selected next 0)) offset lock (next + 1) fs) (act.Tell (DownloadError 5))
      (on_found_law (find_of fs (get_or selected next 0)) offset lock (next + 1)) tt)
      (on_found_law (find_of fs number) offset lock next)

  on_download_law : (count next n : ℕ) (info selected : List ℕ) → Asked s size fs (on_download count next n info fs selected)
  unfolding on_download
  on_download_law count next n info selected =
      either (eqb n 9) (on_numbered (word_at info 0) (word_at info 4) (get_or info 8 0) count next fs selected) (act.Tell (DownloadError 1))
      (on_numbered_law (word_at info 0) (word_at info 4) (get_or info 8 0) count next selected) tt

  list_found_law : (f : Option ℕ) (long : Bool) (next : ℕ) → Asked s size fs (list_found f long next fs)
  unfolding list_found
  list_found_law None long next = tt
  list_found_law (Some place) long next =
      either (eqb (file_at fs place).time 0) (act.Tell (DownloadError 11)) (act.List (listed.One place) long next) tt tt

  list_numbered_law : (number : ℕ) (long : Bool) (count next : ℕ) → Asked s size fs (list_numbered number long count next fs)
  unfolding list_numbered
  list_numbered_law number long count next =
      either (eqb number 0) _ (list_found (find_of fs number) long next fs)
      (either (ltb next count) (act.List (listed.Selected next) long (ten_from next count)) (act.Tell (DownloadError 5)) tt tt)
      (list_found_law (find_of fs number) long next)

  on_directory_law : (long : Bool) (count next n : ℕ) (info : List ℕ) → Asked s size fs (on_directory long count next n info fs)
  unfolding on_directory
  on_directory_law long count next n info =
      either (eqb n 4) (list_numbered (word_at info 0) long count next fs) (act.Tell (DownloadError 1))
      (list_numbered_law (word_at info 0) long count next) tt

  on_ack_law : (d : Downlink) (n destination : ℕ) → Asked s size fs (on_ack d n destination)
  unfolding on_ack
  on_ack_law down.Idle n destination = tt
  on_ack_law (down.Sending place offset sent) n destination = tt
  on_ack_law (down.Ended place) n destination = either (eqb n 1) (act.Confirm place destination) (act.End Aborted) tt tt
  on_ack_law (down.Aborting place) n destination = tt
  on_ack_law (down.Listing listed long done sent) n destination = tt

  on_nak_law : (d : Downlink) → Asked s size fs (on_nak d)
  unfolding on_nak
  on_nak_law down.Idle = tt
  on_nak_law (down.Sending place offset sent) = tt
  on_nak_law (down.Ended place) = tt
  on_nak_law (down.Aborting place) = tt
  on_nak_law (down.Listing listed long done sent) = tt

  on_downlink_law : (d : Downlink) (count next kind n : ℕ) (info selected : List ℕ) → Asked s size fs (on_downlink d count next kind n info fs selected)
  unfolding on_downlink
  on_downlink_law d count next kind n info selected =
      either (eqb kind 8) (on_download count next n info fs selected) _ (on_download_law count next n info selected)
      (either (eqb kind 12) (on_ack d n (get_or info 0 0)) _ (on_ack_law d n (get_or info 0 0))
      (either (eqb kind 13) (on_nak d) _ (on_nak_law d)
      (either (eqb kind 16) act.Select _ tt
      (either (eqb kind 15) (on_directory true count next n info fs) (on_directory false count next n info fs)
      (on_directory_law true count next n info) (on_directory_law false count next n info)))))

  -- ---- a packet

  on_packet_law : (links : List Session) (kind : ℕ) (info selected : List ℕ) → Asked s size fs (on_packet s links kind size info fs selected)
  unfolding on_packet
  on_packet_law links kind info selected =
      either (expected s.up s.down kind size) _ act.Close
      (either (ltb kind 8) (on_uplink s.up links kind size info fs) (on_downlink s.down s.count s.next kind size info fs selected)
      (on_uplink_law links kind info) (on_downlink_law s.down s.count s.next kind size info selected))
      tt

on_frame_law : (s : Session) (links : List Session) (f : Frame) (info : List ℕ) (fs : List File) (selected : List ℕ)
    → Asked s (size_in f) fs (on_frame s links f info fs selected)
unfolding on_frame size_in
on_frame_law s links frame.Open info fs selected = tt
on_frame_law s links frame.TooLong info fs selected = tt
on_frame_law s links (frame.Whole kind size) info fs selected = on_packet_law s size fs links kind info selected
on_frame_law s links (frame.Refused n) info fs selected = tt

pub decide_asked : (s : Session) (links : List Session) (f : Frame) (info : List ℕ) (fs : List File) (selected : List ℕ)
    → Asked s (size_in f) fs (decide_of s links f info fs selected)
unfolding decide_of
decide_asked s links f info fs selected =
    either s (size_in f) fs (eqb (length info) 256) (on_frame s links f info fs selected) act.Ignore (on_frame_law s links f info fs selected) tt
