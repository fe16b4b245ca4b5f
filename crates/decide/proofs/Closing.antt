-- When a link is closed: for a packet that is too long and for one that its session does not expect, and in no other case. Assumes nothing.
use mathlib.Core.Path.{◌≡◌, refl, sym, ap, ◌∙◌}
use mathlib.Core.Bool.{Bool, true, false, cond, not}
use mathlib.Core.List.{List}
use Prim.Native.Nat.{ℕ, ◌+◌}
use native.Mathlib.Omega.{arith}
use borrow.Author.Tests.{eq-eqb}
use lib.Dec.{eqb, leb, ltb}
use lib.ListN.{length, get_or}
use Rattle.packet.specs.declared.frame.Frame.{Frame}
use Rattle.packet.specs.declared.frame.Frame.TheVariants.{Open, TooLong, Whole, Refused}
use Rattle.session.specs.declared.state.Session.{Session}
use Rattle.session.specs.declared.state.Uplink.{Uplink}
use Rattle.session.specs.declared.state.Uplink.TheVariants as up
use Rattle.session.specs.declared.state.Downlink.{Downlink}
use Rattle.session.specs.declared.state.Downlink.TheVariants as down
use Rattle.session.specs.declared.reply.Reply.TheVariants.{DownloadError}
use Rattle.session.specs.Expected.{takes_data, takes_upload, takes_command, takes_ack, takes_nak, expected_up, expected_down, expected}
use Rattle.table.specs.declared.File.{File}
use Rattle.std.proofs.Common.{Option, Some, None}
use Rattle.table.specs.Table.{file_at, find_of}
use Rattle.decide.specs.Words.{word_at}
use Rattle.decide.specs.Uplink.{uploading, on_continued, on_upload, on_data, on_end, on_uplink}
use Rattle.decide.specs.Downlink.{on_found, on_numbered, on_download, list_found, list_numbered, on_directory, on_ack, on_nak, on_downlink}
use Rattle.decide.specs.Decide.{on_packet, on_frame, decide_of}
use Rattle.decide.specs.declared.act.Act.{Act}
use Rattle.decide.specs.declared.act.Act.TheVariants as act

-- an act closes the link
abbrev pub closes : Act → Bool
closes act.Close = true
closes act.Ignore = false
closes (act.Tell r) = false
closes (act.Begin n) = false
closes (act.Resume place number received) = false
closes (act.Store place offset received) = false
closes (act.Overrun place) = false
closes act.Stop = false
closes (act.Finish place) = false
closes act.Select = false
closes (act.Send place offset lock passed) = false
closes (act.Confirm place destination) = false
closes (act.End r) = false
closes (act.Abort place) = false
closes (act.List listed long passed) = false

-- the link is closed at what the bytes came to
abbrev pub closing : Session → Frame → Bool
closing s Open = false
closing s TooLong = true
closing s (Whole kind size) = not (expected s.up s.down kind size)
closing s (Refused n) = false

clash : false ≡ true → ⊥
clash e = let z : ◌≡◌ {A = ℕ} 0 1 = cc in omega arith

-- an act that closes is Close
pub close_alone : (a : Act) → closes a ≡ true → a ≡ act.Close
close_alone act.Close e = refl
close_alone act.Ignore e = absurd (clash e)
close_alone (act.Tell r) e = absurd (clash e)
close_alone (act.Begin n) e = absurd (clash e)
close_alone (act.Resume place number received) e = absurd (clash e)
close_alone (act.Store place offset received) e = absurd (clash e)
close_alone (act.Overrun place) e = absurd (clash e)
close_alone act.Stop e = absurd (clash e)
close_alone (act.Finish place) e = absurd (clash e)
close_alone act.Select e = absurd (clash e)
close_alone (act.Send place offset lock passed) e = absurd (clash e)
close_alone (act.Confirm place destination) e = absurd (clash e)
close_alone (act.End r) e = absurd (clash e)
close_alone (act.Abort place) e = absurd (clash e)
close_alone (act.List listed long passed) e = absurd (clash e)

-- neither of two acts closes, and so neither does the one that a test picks
either : (b : Bool) (x y : Act) → closes x ≡ false → closes y ≡ false → closes (cond b x y) ≡ false
either true x y e f = e
either false x y e f = f

-- ---- the uplink

data_stays : (u : Uplink) (size : ℕ) (fs : List File) → takes_data u ≡ true → closes (on_data u size fs) ≡ false
unfolding on_data
data_stays up.Idle size fs e = absurd (clash e)
data_stays (up.Receiving place offset received) size fs e = either (ltb (file_at fs place).size ((file_at fs place).received + size)) _ _ refl refl
data_stays up.Ignoring size fs e = refl

end_stays : (u : Uplink) → takes_data u ≡ true → closes (on_end u) ≡ false
unfolding on_end
end_stays up.Idle e = absurd (clash e)
end_stays (up.Receiving place offset received) e = refl
end_stays up.Ignoring e = refl

continued_stays : (f : Option ℕ) (number size : ℕ) (links : List Session) (fs : List File) → closes (on_continued f number size links fs) ≡ false
unfolding on_continued
continued_stays None number size links fs = refl
continued_stays (Some place) number size links fs =
    either (eqb (file_at fs place).time 0) _ _
    (either (eqb (file_at fs place).size size) _ _ (either (uploading links place) _ _ refl refl) refl)
    refl

upload_stays : (links : List Session) (size : ℕ) (info : List ℕ) (fs : List File) → closes (on_upload links size info fs) ≡ false
unfolding on_upload
upload_stays links size info fs =
    either (eqb size 8) _ _
    (either (eqb (word_at info 0) 0) _ _ refl (continued_stays (find_of fs (word_at info 0)) (word_at info 0) (word_at info 4) links fs))
    refl

uplink_stays : (u : Uplink) (links : List Session) (kind size : ℕ) (info : List ℕ) (fs : List File)
    → expected_up u kind size ≡ true
    → closes (on_uplink u links kind size info fs) ≡ false
unfolding on_uplink expected_up
uplink_stays u links kind size info fs e = by-type (eqb kind 0) (eqb kind 1) (eqb size 0) (cond (eqb kind 3) (takes_upload u) false) e
  where
    by-type : (is-data is-end is-empty other : Bool)
        → cond is-data (takes_data u) (cond is-end (cond is-empty (takes_data u) false) other) ≡ true
        → closes (cond is-data (on_data u size fs) (cond is-end (on_end u) (on_upload links size info fs))) ≡ false
    by-type true is-end is-empty other e = data_stays u size fs e
    by-type false true true other e = end_stays u e
    by-type false true false other e = absurd (clash e)
    by-type false false is-empty other e = upload_stays links size info fs

-- ---- the downlink

found_stays : (f : Option ℕ) (offset lock passed : ℕ) (fs : List File) → closes (on_found f offset lock passed fs) ≡ false
unfolding on_found
found_stays None offset lock passed fs = refl
found_stays (Some place) offset lock passed fs =
    either (eqb (file_at fs place).time 0) _ _ refl (either (ltb (file_at fs place).size offset) _ _ refl refl)

numbered_stays : (number offset lock count next : ℕ) (fs : List File) (selected : List ℕ)
    → closes (on_numbered number offset lock count next fs selected) ≡ false
unfolding on_numbered
numbered_stays number offset lock count next fs selected =
    either (eqb number 0) _ _
    (either (ltb next count) _ _ (found_stays (find_of fs (get_or selected next 0)) offset lock _ fs) refl)
    (found_stays (find_of fs number) offset lock next fs)

download_stays : (count next size : ℕ) (info : List ℕ) (fs : List File) (selected : List ℕ)
    → closes (on_download count next size info fs selected) ≡ false
unfolding on_download
download_stays count next size info fs selected =
    either (eqb size 9) _ _ (numbered_stays (word_at info 0) (word_at info 4) (get_or info 8 0) count next fs selected) refl

list_found_stays : (f : Option ℕ) (long : Bool) (next : ℕ) (fs : List File) → closes (list_found f long next fs) ≡ false
unfolding list_found
list_found_stays None long next fs = refl
list_found_stays (Some place) long next fs = either (eqb (file_at fs place).time 0) _ _ refl refl

directory_stays : (long : Bool) (count next size : ℕ) (info : List ℕ) (fs : List File) → closes (on_directory long count next size info fs) ≡ false
unfolding on_directory list_numbered
directory_stays long count next size info fs =
    either (eqb size 4) _ _
    (either (eqb (word_at info 0) 0) _ _ (either (ltb next count) _ _ refl refl) (list_found_stays (find_of fs (word_at info 0)) long next fs))
    refl

ack_stays : (d : Downlink) (size destination : ℕ) → takes_ack d ≡ true → closes (on_ack d size destination) ≡ false
unfolding on_ack
ack_stays down.Idle size destination e = absurd (clash e)
ack_stays (down.Sending place offset sent) size destination e = absurd (clash e)
ack_stays (down.Ended place) size destination e = either (eqb size 1) _ _ refl refl
ack_stays (down.Aborting place) size destination e = absurd (clash e)
ack_stays (down.Listing listed long done sent) size destination e = absurd (clash e)

nak_stays : (d : Downlink) → takes_nak d ≡ true → closes (on_nak d) ≡ false
unfolding on_nak
nak_stays down.Idle e = refl
nak_stays (down.Sending place offset sent) e = refl
nak_stays (down.Ended place) e = refl
nak_stays (down.Aborting place) e = absurd (clash e)
nak_stays (down.Listing listed long done sent) e = refl

downlink_stays : (d : Downlink) (count next kind size : ℕ) (info : List ℕ) (fs : List File) (selected : List ℕ)
    → expected_down d kind size ≡ true
    → closes (on_downlink d count next kind size info fs selected) ≡ false
unfolding on_downlink expected_down
downlink_stays d count next kind size info fs selected e =
    by-type (eqb kind 8) (eqb kind 12) (eqb kind 13) (eqb size 0) (cond (leb 14 kind) (cond (leb kind 16) (takes_command d) false) false) e
  where
    by-type : (is-download is-ack is-nak is-empty other : Bool)
        → cond is-download (takes_command d) (cond is-ack (takes_ack d) (cond is-nak (cond is-empty (takes_nak d) false) other)) ≡ true
        → closes (cond is-download (on_download count next size info fs selected) (cond is-ack (on_ack d size (get_or info 0 0)) (cond is-nak (on_nak d) (cond (eqb kind 16) act.Select
        (cond (eqb kind 15) (on_directory true count next size info fs) (on_directory false count next size info fs))))))
        ≡ false
    by-type true is-ack is-nak is-empty other e = download_stays count next size info fs selected
    by-type false true is-nak is-empty other e = ack_stays d size (get_or info 0 0) e
    by-type false false true true other e = nak_stays d e
    by-type false false true false other e = absurd (clash e)
    by-type false false false is-empty other e =
        either (eqb kind 16) _ _ refl
        (either (eqb kind 15) _ _ (directory_stays true count next size info fs) (directory_stays false count next size info fs))

-- ---- a packet, and what the bytes of a link came to

-- "The server closes a link in no other case (H)."
pub packet_closes : (s : Session) (links : List Session) (kind size : ℕ) (info : List ℕ) (fs : List File) (selected : List ℕ)
    → closes (on_packet s links kind size info fs selected) ≡ not (expected s.up s.down kind size)
unfolding on_packet expected
packet_closes s links kind size info fs selected =
    by_side (ltb kind 8) (expected_up s.up kind size) (expected_down s.down kind size) (uplink_stays s.up links kind size info fs) (downlink_stays s.down s.count s.next kind size info fs selected)
  where
    by_side : (is_up up-expected down-expected : Bool)
        → (up-expected ≡ true → closes (on_uplink s.up links kind size info fs) ≡ false)
        → (down-expected ≡ true → closes (on_downlink s.down s.count s.next kind size info fs selected) ≡ false)
        → closes (cond (cond is_up up-expected down-expected) (cond is_up (on_uplink s.up links kind size info fs) (on_downlink s.down s.count s.next kind size info fs selected)) act.Close)
        ≡ not (cond is_up up-expected down-expected)
    by_side true true w f g = f refl
    by_side true false w f g = refl
    by_side false v true f g = g refl
    by_side false v false f g = refl

-- an unexpected packet closes, and an expected one does not
pub unexpected_closes : (s : Session) (links : List Session) (kind size : ℕ) (info : List ℕ) (fs : List File) (selected : List ℕ)
    → expected s.up s.down kind size ≡ false
    → on_packet s links kind size info fs selected ≡ act.Close
unfolding on_packet
unexpected_closes s links kind size info fs selected e = rw e

pub expected_stays : (s : Session) (links : List Session) (kind size : ℕ) (info : List ℕ) (fs : List File) (selected : List ℕ)
    → expected s.up s.down kind size ≡ true
    → on_packet s links kind size info fs selected ≡ act.Close
    → ⊥
expected_stays s links kind size info fs selected e c = clash (sym (ap not e) ∙ sym (packet_closes s links kind size info fs selected) ∙ ap closes c)

-- with 256 bytes of information, a link is closed exactly for a packet that is too long or not expected
pub decide_closes : (s : Session) (links : List Session) (frame : Frame) (info : List ℕ) (fs : List File) (selected : List ℕ)
    → length info ≡ 256
    → closes (decide_of s links frame info fs selected) ≡ closing s frame
unfolding decide_of on_frame
decide_closes s links Open info fs selected n = rw (eq-eqb _ _ n)
decide_closes s links TooLong info fs selected n = rw (eq-eqb _ _ n)
decide_closes s links (Whole kind size) info fs selected n = rw (eq-eqb _ _ n) (packet_closes s links kind size info fs selected)
decide_closes s links (Refused k) info fs selected n = rw (eq-eqb _ _ n)
