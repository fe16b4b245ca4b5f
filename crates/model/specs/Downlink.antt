-- THE DOWNLINK, packet by packet, and what a request of the driver brings (document 01, "Downlink" and "Refusals by number"; directories: document 02,
-- A1): for each of them and each downlink state what goes out and the state afterwards. Session i, counted from 0. Assumes nothing.
use Rattle.std.specs.Prelude.{Bool, false, cond, List, [], ◌∷◌, map, ℕ, ◌+◌, eqb, ltb, length, get_or, take, drop}
use Rattle.std.proofs.Math.Option.{Option, none, some}
use Rattle.header.specs.Items.{fields_of}
use Rattle.header.specs.Header.{check_items, destinations_of}
use Rattle.header.specs.Entries.{entry_of, running_on}
use Rattle.equation.specs.Answer.{validity_of}
use Rattle.session.specs.declared.reply.Reply.TheVariants as reply
use Rattle.session.specs.Reply.{tell, sent_info}
use Rattle.decide.specs.Words.{word_at}
use Rattle.model.specs.State.{File, Downlink, no_download, sending, ended, aborting, listing, Session, with_down, with_next, with_selection, Model}
use Rattle.model.specs.State.{in_session, Turn, turn, closing, Stepped, stepped}
use Rattle.model.specs.Files.{find, selection}

-- ---- DOWNLOAD_CMD (8): "has number, offset (4 bytes each) and lock destination (1)"

-- "14 hex is a destination": how many a file has
unfoldable pub destinations_in : List ℕ → ℕ
destinations_in bytes = cond (eqb (check_items bytes) 0) (destinations_of (fields_of bytes)) 0

-- Order: "DOWNLOAD: 1, then 5 or 4, 11, 2, 10". 4 "no such file"; 11 "download of a partial file"; 2 "download offset beyond the file's length"; 10
-- "lock destination above the file's number of destinations". An accepted one gets no packet, and `passed` selected files then lie behind.
unfoldable pub download_of : Option File → Model → ℕ → ℕ → ℕ → ℕ → ℕ → Turn
download_of none m i n offset lock passed = turn (reply.DownloadError 4) m
download_of (some f) m i n offset lock passed =
    cond (eqb f.time 0) (turn (reply.DownloadError 11) m)
    (cond (ltb (length f.bytes) offset) (turn (reply.DownloadError 2) m)
    (cond (ltb (destinations_in f.bytes) lock) (turn (reply.DownloadError 10) m)
    (turn reply.Nothing (in_session i (λ s. with_down (sending n offset) (with_next passed s)) m))))

-- "Number 0 means the next selected file; an accepted command moves past it." 5 "download of number 0 and no selected file left".
-- s is session i.
unfoldable pub download_numbered : Model → ℕ → Session → ℕ → ℕ → ℕ → Turn
download_numbered m i s n offset lock =
    cond (eqb n 0)
    (cond (ltb s.next (length s.selected))
    (download_of (find (get_or s.selected s.next 0) m.files) m i (get_or s.selected s.next 0) offset lock (s.next + 1))
    (turn (reply.DownloadError 5) m))
    (download_of (find n m.files) m i n offset lock s.next)

-- 1 "DOWNLOAD not 9 .. byte(s) long"
unfoldable pub on_download_cmd : Model → ℕ → Session → List ℕ → Turn
on_download_cmd m i s info =
    cond (eqb (length info) 9) (download_numbered m i s (word_at info 0) (word_at info 4) (get_or info 8 0)) (turn (reply.DownloadError 1) m)

-- ---- the driver's request: "Each further request by the driver yields one DATA of up to 256 bytes, as full as can be, then DATA_END"

-- DATA (0) has the file's bytes from the offset on
unfoldable pub data_due : Option File → Model → ℕ → ℕ → ℕ → List ℕ → Stepped
data_due none m i n offset out = stepped (tell reply.Nothing 0 out) m
data_due (some f) m i n offset out =
    cond (ltb offset (length f.bytes))
    (stepped (sent_info 0 (take 256 (drop offset f.bytes)) 0 out)
    (in_session i (with_down (sending n (offset + length (take 256 (drop offset f.bytes))))) m))
    (stepped (tell reply.DataEnd 0 out) (in_session i (with_down (ended n)) m))

-- the entry of a file (`entry_of`, crates/header/specs/Entries.antt), and the entries of the files of these numbers, one behind the other
abbrev pub entry_in : Bool → Option File → List ℕ
entry_in long none = []
entry_in long (some f) = entry_of long f.bytes

abbrev pub directory_of : Bool → List ℕ → List File → List ℕ
directory_of long ns files = running_on (map (λ n. entry_in long (find n files)) ns)

-- a directory: "the headers sent as DATA and DATA_END" (A1), each DATA as full as can be; then no download is left, and no DL_ACK_CMD is
-- awaited (001, appendix B). `entries` are all its bytes.
unfoldable pub listing_due : List ℕ → Model → ℕ → Bool → List ℕ → ℕ → List ℕ → Stepped
listing_due entries m i long ns offset out =
    cond (ltb offset (length entries))
    (stepped (sent_info 0 (take 256 (drop offset entries)) 0 out)
    (in_session i (with_down (listing long ns (offset + length (take 256 (drop offset entries))))) m))
    (stepped (tell reply.DataEnd 0 out) (in_session i (with_down no_download) m))

-- "with nothing due it yields nothing and changes nothing"; "DL_ABORTED_RESP at the next request", after DL_NAK_CMD brought DATA_END
unfoldable pub on_request : Downlink → Model → ℕ → List ℕ → Stepped
on_request no_download m i out = stepped (tell reply.Nothing 0 out) m
on_request (sending n offset) m i out = data_due (find n m.files) m i n offset out
on_request (ended n) m i out = stepped (tell reply.Nothing 0 out) m
on_request (aborting n) m i out = stepped (tell reply.Aborted 0 out) (in_session i (with_down no_download) m)
on_request (listing long ns offset) m i out = listing_due (directory_of long ns m.files) m i long ns offset out

-- ---- DL_ACK_CMD (12): "gets DL_COMPLETED_RESP, or DL_ABORTED_RESP if its destination number is not zero and the file has fewer destinations"

unfoldable pub fewer_destinations : Option File → ℕ → Bool
fewer_destinations none n = false
fewer_destinations (some f) n = ltb (destinations_in f.bytes) n

-- "Before DATA_END is sent DL_ACK_CMD is unexpected". Where it is not 1 byte long, "1 is DL_ABORTED_RESP without a number and ends the download (H)".
unfoldable pub on_dl_ack_cmd : Downlink → Model → ℕ → List ℕ → Turn
on_dl_ack_cmd no_download m i info = closing m i
on_dl_ack_cmd (sending n offset) m i info = closing m i
on_dl_ack_cmd (ended n) m i info =
    turn
    (cond (eqb (length info) 1)
    (cond (fewer_destinations (find n m.files) (get_or info 0 0)) reply.Aborted reply.Completed)
    reply.Aborted)
    (in_session i (with_down no_download) m)
on_dl_ack_cmd (aborting n) m i info = closing m i
on_dl_ack_cmd (listing long ns offset) m i info = closing m i

-- ---- DL_NAK_CMD (13)

-- "Before DATA_END is sent .. DL_NAK_CMD brings DATA_END at once and DL_ABORTED_RESP at the next request (001, 5.3), any downlink command between
-- these two being unexpected. After a usual DATA_END, DL_NAK_CMD gets DL_ABORTED_RESP at once." With no download it does nothing, and of a directory
-- it brings the DATA_END and nothing else (001, appendix B).
unfoldable pub on_dl_nak_cmd : Downlink → Model → ℕ → Turn
on_dl_nak_cmd no_download m i = turn reply.Nothing m
on_dl_nak_cmd (sending n offset) m i = turn reply.DataEnd (in_session i (with_down (aborting n)) m)
on_dl_nak_cmd (ended n) m i = turn reply.Aborted (in_session i (with_down no_download) m)
on_dl_nak_cmd (aborting n) m i = closing m i
on_dl_nak_cmd (listing long ns offset) m i = turn reply.DataEnd (in_session i (with_down no_download) m)

-- ---- DIR_SHORT_CMD (14), DIR_LONG_CMD (15): "for one file and for the next files of the selection" (A1); the file number, 4 bytes (001, 6.1)

-- Order: "1 for types 14 and 15 now only on a wrong length; then 5 or 4, then 11". An accepted one gets no packet. That of one file leaves the place in
-- the selection.
unfoldable pub directory_of_one : Option File → Model → ℕ → Bool → ℕ → Turn
directory_of_one none m i long n = turn (reply.DownloadError 4) m
directory_of_one (some f) m i long n =
    cond (eqb f.time 0) (turn (reply.DownloadError 11) m) (turn reply.Nothing (in_session i (with_down (listing long (n ∷ []) 0)) m))

-- the next ten files of the selection, or all that are left
abbrev pub next_ten : Session → List ℕ
next_ten s = take 10 (drop s.next s.selected)

-- "An accepted directory of number 0 moves the same place in the selection that downloads move, past every file it sends." s is session i.
-- Selected files are complete, so that 11 is for a file named by its number alone.
unfoldable pub directory_numbered : Model → ℕ → Session → Bool → ℕ → Turn
directory_numbered m i s long n =
    cond (eqb n 0)
    (cond (ltb s.next (length s.selected))
    (turn reply.Nothing (in_session i (λ x. with_down (listing long (next_ten s) 0) (with_next (s.next + length (next_ten s)) x)) m))
    (turn (reply.DownloadError 5) m))
    (directory_of_one (find n m.files) m i long n)

unfoldable pub on_dir_cmd : Bool → Model → ℕ → Session → List ℕ → Turn
on_dir_cmd long m i s info = cond (eqb (length info) 4) (directory_numbered m i s long (word_at info 0)) (turn (reply.DownloadError 1) m)

-- ---- SELECT_CMD (16): "SELECT_RESP has their number, 2 bytes"

-- 8 "equation refused"; "a refused SELECT keeps the old selection"
unfoldable pub on_select_cmd : Model → ℕ → List ℕ → Turn
on_select_cmd m i info =
    cond (eqb (validity_of info) 0)
    (turn (reply.Selected (length (selection m.maxsel info m.files))) (in_session i (with_selection (selection m.maxsel info m.files)) m))
    (turn (reply.DownloadError 8) m)
