-- Directories (02, A1): of one file and of the next files selected, short and long, the place in the selection, refusals, and each packet while one is
-- sent. Assumes nothing.
use mathlib.Core.Path.{◌≡◌, refl}
use mathlib.Core.Bool.{true, false}
use mathlib.Core.List.{List, [], ◌∷◌, ◌++◌, map}
use Prim.Native.Nat.{ℕ, zero, suc}
use lib.ListN.{length, take, drop}
use Rattle.model.specs.State.{Session, session_at}
use Rattle.model.specs.State as model
use Rattle.calls.specs.Call.{Call, login, receive, lose}
use Rattle.cases.specs.Pass.{output, log_in, rx, pump, heard, left, day}
use Rattle.cases.specs.Packets.{smallest, complete_as, landrover, landrover_as, landrover_short, upload, data', data_end, download, ack, nak}
use Rattle.cases.specs.Packets.{dir_short, dir_long, select, newer, sized}
use Rattle.cases.specs.Computing.{computing}

-- a file is uploaded, in one DATA, and completed at a clock
abbrev uploaded : ℕ → List ℕ → List Call
uploaded clock bytes = rx clock (upload 0 (length bytes)) ∷ rx clock (data' bytes) ∷ rx clock data_end ∷ []

-- two complete files, numbers 1 and 2, with upload times 4 and 5; session 1 is open
abbrev stored : List Call
stored = log_in 0 ∷ uploaded 4 smallest ++ uploaded 5 landrover

-- and both are selected
abbrev chosen : List Call
chosen = stored ++ rx 6 (select (newer 0)) ∷ []

-- session 1 then, with this downlink and this place in the selection
abbrev with : model.Downlink → ℕ → Session
with down next = record { linked = true; up = model.no_upload; down = down; selected = 1 ∷ 2 ∷ []; next = next; held = [] }

-- ---- one file

-- DATA with the whole header, DATA_END; then a request brings nothing
pub long : heard (left day stored) (rx 6 (dir_long 2) ∷ pump ∷ pump ∷ pump ∷ []) ≡ [] ∷ (92 ∷ 0 ∷ landrover_as 2 5) ∷ (0 ∷ 1 ∷ []) ∷ [] ∷ []
unfolding computing
long = refl

-- DATA with AA 55, the mandatory items as stored and the end mark: 80 bytes
pub short : heard (left day stored) (rx 6 (dir_short 2) ∷ pump ∷ pump ∷ pump ∷ []) ≡ [] ∷ (80 ∷ 0 ∷ landrover_short 2 5) ∷ (0 ∷ 1 ∷ []) ∷ [] ∷ []
unfolding computing
short = refl

-- that of one file leaves the place in the selection
pub of_one : session_at (left day (chosen ++ rx 6 (dir_short 2) ∷ [])) 0 ≡ with (model.listing false (2 ∷ []) 0) 0
unfolding computing
of_one = refl

-- ---- the next files selected

-- the entries of both, one behind the other, oldest first
pub both : heard (left day chosen) (rx 6 (dir_long 0) ∷ pump ∷ pump ∷ pump ∷ []) ≡ [] ∷ (172 ∷ 0 ∷ complete_as 1 4 ++ landrover_as 2 5) ∷ (0 ∷ 1 ∷ []) ∷ [] ∷ []
unfolding computing
both = refl

pub both_short : heard (left day chosen) (rx 6 (dir_short 0) ∷ pump ∷ pump ∷ pump ∷ [])
    ≡ [] ∷ (160 ∷ 0 ∷ complete_as 1 4 ++ landrover_short 2 5) ∷ (0 ∷ 1 ∷ []) ∷ [] ∷ []
unfolding computing
both_short = refl

-- the place is past both as soon as the command is accepted, while DATA is sent, and after DATA_END
pub moved : session_at (left day (chosen ++ rx 6 (dir_long 0) ∷ [])) 0 ≡ with (model.listing true (1 ∷ 2 ∷ []) 0) 2
unfolding computing
moved = refl

pub sent : session_at (left day (chosen ++ rx 6 (dir_long 0) ∷ pump ∷ [])) 0 ≡ with (model.listing true (1 ∷ 2 ∷ []) 172) 2
unfolding computing
sent = refl

pub ended : session_at (left day (chosen ++ rx 6 (dir_long 0) ∷ pump ∷ pump ∷ [])) 0 ≡ with model.no_download 2
unfolding computing
ended = refl

-- "the same place in the selection that downloads move": a download takes the first file, a directory the one that is left, and then there is none, 5
pub one_place : heard (left day (chosen ++ rx 6 (download 0 80 0) ∷ pump ∷ rx 6 (ack 0) ∷ []))
    (rx 6 (dir_short 0) ∷ pump ∷ pump ∷ rx 6 (dir_short 0) ∷ rx 6 (dir_long 0) ∷ rx 6 (download 0 0 0) ∷ [])
    ≡ [] ∷ (80 ∷ 0 ∷ landrover_short 2 5) ∷ (0 ∷ 1 ∷ []) ∷ (1 ∷ 9 ∷ 5 ∷ []) ∷ (1 ∷ 9 ∷ 5 ∷ []) ∷ (1 ∷ 9 ∷ 5 ∷ []) ∷ []
unfolding computing
one_place = refl

-- oldest first, by upload time: number 2 is completed before number 1
abbrev crossed : List Call
crossed =
    log_in 7 ∷ login 2 7 output ∷ rx 7 (upload 0 80) ∷ receive 2 7 (upload 0 80) output ∷ rx 7 (data' smallest) ∷ receive 2 7 (data' smallest) output
    ∷ receive 2 7 data_end output ∷ rx 7 data_end ∷ rx 8 (select (newer 0)) ∷ []

pub oldest_first_law : heard (left day crossed) (rx 8 (dir_short 0) ∷ pump ∷ pump ∷ []) ≡ [] ∷ (160 ∷ 0 ∷ complete_as 2 7 ++ complete_as 1 8) ∷ (0 ∷ 1 ∷ []) ∷ []
unfolding computing
oldest_first_law = refl

-- four short entries are 320 bytes: DATA of 256, of 64, DATA_END
abbrev four_files : List Call
four_files = log_in 0 ∷ uploaded 1 smallest ++ uploaded 2 smallest ++ uploaded 3 smallest ++ uploaded 4 smallest ++ rx 6 (select (sized 80)) ∷ []

abbrev entries : List ℕ
entries = complete_as 1 1 ++ complete_as 2 2 ++ complete_as 3 3 ++ complete_as 4 4

pub four_entries : heard (left day four_files) (rx 6 (dir_short 0) ∷ pump ∷ pump ∷ pump ∷ pump ∷ [])
    ≡ [] ∷ (0 ∷ 32 ∷ take 256 entries) ∷ (64 ∷ 0 ∷ drop 256 entries) ∷ (0 ∷ 1 ∷ []) ∷ [] ∷ []
unfolding computing
four_entries = refl

-- "the next 10 files" (001, 6.1): of twelve that are selected ten, then two, then none is left
abbrev files : ℕ → List Call
files zero = []
files (suc n) = files n ++ uploaded 1 smallest

abbrev twelve : model.Model
twelve = left day (log_in 0 ∷ files 12 ++ rx 6 (select (sized 80)) ∷ [])

abbrev at_twelve : List Call → model.Downlink × ℕ
at_twelve calls = ((session_at (left twelve calls) 0).down, (session_at (left twelve calls) 0).next)

pub ten : at_twelve (rx 6 (dir_long 0) ∷ []) ≡ (model.listing true (1 ∷ 2 ∷ 3 ∷ 4 ∷ 5 ∷ 6 ∷ 7 ∷ 8 ∷ 9 ∷ 10 ∷ []) 0, 10)
unfolding computing
ten = refl

-- ten short entries are 800 bytes
pub ten_entries : map (take 2) (heard twelve (rx 6 (dir_short 0) ∷ pump ∷ pump ∷ pump ∷ pump ∷ pump ∷ []))
    ≡ [] ∷ (0 ∷ 32 ∷ []) ∷ (0 ∷ 32 ∷ []) ∷ (0 ∷ 32 ∷ []) ∷ (32 ∷ 0 ∷ []) ∷ (0 ∷ 1 ∷ []) ∷ []
unfolding computing
ten_entries = refl

pub two_left : at_twelve (rx 6 (dir_long 0) ∷ rx 6 nak ∷ rx 6 (dir_short 0) ∷ []) ≡ (model.listing false (11 ∷ 12 ∷ []) 0, 12)
unfolding computing
two_left = refl

pub none_left : heard (left twelve (rx 6 (dir_long 0) ∷ rx 6 nak ∷ rx 6 (dir_short 0) ∷ rx 6 nak ∷ [])) (rx 6 (dir_long 0) ∷ []) ≡ (1 ∷ 9 ∷ 5 ∷ []) ∷ []
unfolding computing
none_left = refl

-- ---- refusals

-- information of 0, 3 and 5 bytes: 1; nothing selected: 5; no such file: 4, and ffffffff is a number like others; a partial file: 11
pub refusals : heard (left day (log_in 0 ∷ rx 0 (upload 0 80) ∷ []))
    (rx 0 (0 ∷ 14 ∷ []) ∷ rx 0 (3 ∷ 15 ∷ 1 ∷ 0 ∷ 0 ∷ []) ∷ rx 0 (5 ∷ 14 ∷ 1 ∷ 0 ∷ 0 ∷ 0 ∷ 0 ∷ []) ∷ rx 0 (dir_short 0) ∷ rx 0 (dir_long 0)
    ∷ rx 0 (dir_short 2) ∷ rx 0 (dir_long 4294967295) ∷ rx 0 (dir_short 1) ∷ rx 0 (dir_long 1) ∷ [])
    ≡ (1 ∷ 9 ∷ 1 ∷ []) ∷ (1 ∷ 9 ∷ 1 ∷ []) ∷ (1 ∷ 9 ∷ 1 ∷ []) ∷ (1 ∷ 9 ∷ 5 ∷ []) ∷ (1 ∷ 9 ∷ 5 ∷ [])
    ∷ (1 ∷ 9 ∷ 4 ∷ []) ∷ (1 ∷ 9 ∷ 4 ∷ []) ∷ (1 ∷ 9 ∷ 11 ∷ []) ∷ (1 ∷ 9 ∷ 11 ∷ []) ∷ []
unfolding computing
refusals = refl

-- and a refused one leaves the place in the selection
pub refused : session_at (left day (chosen ++ rx 6 (0 ∷ 14 ∷ []) ∷ rx 6 (dir_long 3) ∷ [])) 0 ≡ with model.no_download 0
unfolding computing
refused = refl

-- ---- while a directory is sent

abbrev listing : List Call
listing = chosen ++ rx 6 (dir_long 0) ∷ []

-- DL_ACK_CMD, SELECT_CMD, DOWNLOAD_CMD, DIR_SHORT_CMD and DIR_LONG_CMD are unexpected, and close the link
pub unexpected : heard (left day listing) (rx 6 (ack 0) ∷ []) ++ heard (left day listing) (rx 6 (select (newer 0)) ∷ [])
    ++ heard (left day listing) (rx 6 (download 1 0 0) ∷ []) ++ heard (left day listing) (rx 6 (dir_short 1) ∷ [])
    ++ heard (left day listing) (rx 6 (dir_long 0) ∷ [])
    ≡ (0 ∷ []) ∷ (0 ∷ []) ∷ (0 ∷ []) ∷ (0 ∷ []) ∷ (0 ∷ []) ∷ []
unfolding computing
unexpected = refl

-- a closed link, and a lost one, forget it
pub closed : session_at (left day (listing ++ rx 6 (ack 0) ∷ [])) 0 ≡ model.closed_session
unfolding computing
closed = refl

pub lost : session_at (left day (listing ++ pump ∷ lose 1 ∷ [])) 0 ≡ model.closed_session
unfolding computing
lost = refl

-- DL_NAK_CMD before DATA_END brings it at once, before or after DATA; then nothing is due, and a DL_NAK_CMD does nothing
pub nak_at_once : heard (left day listing) (rx 6 nak ∷ pump ∷ rx 6 nak ∷ []) ≡ (0 ∷ 1 ∷ []) ∷ [] ∷ [] ∷ []
unfolding computing
nak_at_once = refl

pub nak_behind_data : heard (left day (listing ++ pump ∷ [])) (rx 6 nak ∷ pump ∷ []) ≡ (0 ∷ 1 ∷ []) ∷ [] ∷ []
unfolding computing
nak_behind_data = refl

-- the place in the selection is where the command left it
pub broken_off : session_at (left day (listing ++ rx 6 nak ∷ [])) 0 ≡ with model.no_download 2
unfolding computing
broken_off = refl

-- behind DATA_END DL_ACK_CMD is not awaited: it closes the link
pub ack_behind : heard (left day (listing ++ pump ∷ pump ∷ [])) (rx 6 (ack 0) ∷ []) ≡ (0 ∷ []) ∷ []
unfolding computing
ack_behind = refl

-- an upload goes on beside it, and completes a file that the directory does not show
pub beside : heard (left day listing) (rx 6 (upload 0 80) ∷ pump ∷ rx 6 (data' smallest) ∷ rx 6 data_end ∷ pump ∷ [])
    ≡ (8 ∷ 4 ∷ 3 ∷ 0 ∷ 0 ∷ 0 ∷ 0 ∷ 0 ∷ 0 ∷ 0 ∷ []) ∷ (172 ∷ 0 ∷ complete_as 1 4 ++ landrover_as 2 5) ∷ [] ∷ (0 ∷ 6 ∷ []) ∷ (0 ∷ 1 ∷ []) ∷ []
unfolding computing
beside = refl
