-- What a packet of the downlink asks for (document 01, "Downlink", "Refusals by number"). Assumes nothing.
use Rattle.std.specs.Prelude.{Bool, true, false, cond, List, ℕ, ◌+◌, ◌-◌, eqb, ltb, get_or, Option, Some, None}
use Rattle.session.specs.declared.state.Downlink.{Downlink}
use Rattle.session.specs.declared.state.Downlink.TheVariants as down
use Rattle.session.specs.declared.state.Listed.TheVariants as listed
use Rattle.session.specs.declared.reply.Reply.TheVariants.{DataEnd, DownloadError, Aborted}
use Rattle.table.specs.declared.File.{File}
use Rattle.table.specs.Table.{file_at, find_of, find_number}
use Rattle.decide.specs.Words.{word_at}
use Rattle.decide.specs.declared.act.Act.{Act}
use Rattle.decide.specs.declared.act.Act.TheVariants as act

-- "DOWNLOAD: 1, then 5 or 4, 11, 2, 10": 4 "no such file"; 11 "download of a partial file"; 2 "download offset beyond the file's length"; 10 is
-- found when the download begins. `passed` selected files lie behind an accepted command.
unfoldable pub on_found : Option ℕ → ℕ → ℕ → ℕ → List File → Act
on_found None offset lock passed fs = act.Tell (DownloadError (find_number None))
on_found (Some place) offset lock passed fs =
    cond (eqb (file_at fs place).time 0) (act.Tell (DownloadError 11))
    (cond (ltb (file_at fs place).size offset) (act.Tell (DownloadError 2))
    (act.Send place offset lock passed))

-- "Number 0 means the next selected file; an accepted command moves past it"; 5 "download of number 0 and no selected file left"
unfoldable pub on_numbered : ℕ → ℕ → ℕ → ℕ → ℕ → List File → List ℕ → Act
on_numbered number offset lock count next fs selected =
    cond (eqb number 0)
    (cond (ltb next count) (on_found (find_of fs (get_or selected next 0)) offset lock (next + 1) fs) (act.Tell (DownloadError 5)))
    (on_found (find_of fs number) offset lock next fs)

-- "DOWNLOAD_CMD has number, offset (4 bytes each) and lock destination (1)."
unfoldable pub on_download : ℕ → ℕ → ℕ → List ℕ → List File → List ℕ → Act
on_download count next size info fs selected =
    cond (eqb size 9) (on_numbered (word_at info 0) (word_at info 4) (get_or info 8 0) count next fs selected) (act.Tell (DownloadError 1))

-- ---- directories (A1 of document 02): "Refusals: 1 for types 14 and 15 now only on a wrong length; then 5 or 4, then 11."

-- "the next 10 files in the current selection list" (001, 6.1), or all that are left: how many of them lie behind then
unfoldable pub ten_from : ℕ → ℕ → ℕ
ten_from next count = cond (ltb (count - next) 10) count (next + 10)

-- "for one file": the place in the selection stays
unfoldable pub list_found : Option ℕ → Bool → ℕ → List File → Act
list_found None long next fs = act.Tell (DownloadError (find_number None))
list_found (Some place) long next fs =
    cond (eqb (file_at fs place).time 0) (act.Tell (DownloadError 11)) (act.List (listed.One place) long next)

-- "An accepted directory of number 0 moves the same place in the selection that downloads move, past every file it sends."
unfoldable pub list_numbered : ℕ → Bool → ℕ → ℕ → List File → Act
list_numbered number long count next fs =
    cond (eqb number 0)
    (cond (ltb next count) (act.List (listed.Selected next) long (ten_from next count)) (act.Tell (DownloadError 5)))
    (list_found (find_of fs number) long next fs)

-- "Information: 4 bytes" (001, 6.1), the file number
unfoldable pub on_directory : Bool → ℕ → ℕ → ℕ → List ℕ → List File → Act
on_directory long count next size info fs =
    cond (eqb size 4) (list_numbered (word_at info 0) long count next fs) (act.Tell (DownloadError 1))

-- "DL_ACK_CMD gets DL_COMPLETED_RESP, or DL_ABORTED_RESP if its destination number is not zero and the file has fewer destinations."
-- "DL_ACK, where 1 is DL_ABORTED_RESP without a number and ends the download (H)"
unfoldable pub on_ack : Downlink → ℕ → ℕ → Act
on_ack down.Idle size destination = act.Close
on_ack (down.Sending place offset sent) size destination = act.Close
on_ack (down.Ended place) size destination = cond (eqb size 1) (act.Confirm place destination) (act.End Aborted)
on_ack (down.Aborting place) size destination = act.Close
on_ack (down.Listing listed long done sent) size destination = act.Close

-- "DL_NAK_CMD brings DATA_END at once and DL_ABORTED_RESP at the next request (001, 5.3)"; "After a usual DATA_END, DL_NAK_CMD gets
-- DL_ABORTED_RESP at once."; with the downlink idle it does nothing, and a directory gets DATA_END and is over (001, appendix B)
unfoldable pub on_nak : Downlink → Act
on_nak down.Idle = act.Ignore
on_nak (down.Sending place offset sent) = act.Abort place
on_nak (down.Ended place) = act.End Aborted
on_nak (down.Aborting place) = act.Close
on_nak (down.Listing listed long done sent) = act.End DataEnd

-- DOWNLOAD_CMD (8), DL_ACK_CMD (12), DL_NAK_CMD (13), SELECT_CMD (16), DIR_LONG_CMD (15), and else DIR_SHORT_CMD (14)
unfoldable pub on_downlink : Downlink → ℕ → ℕ → ℕ → ℕ → List ℕ → List File → List ℕ → Act
on_downlink d count next kind size info fs selected =
    cond (eqb kind 8) (on_download count next size info fs selected)
    (cond (eqb kind 12) (on_ack d size (get_or info 0 0))
    (cond (eqb kind 13) (on_nak d)
    (cond (eqb kind 16) act.Select
    (cond (eqb kind 15) (on_directory true count next size info fs)
    (on_directory false count next size info fs)))))
