-- A lost link and its continuation: the link is lost in the middle of the second DATA packet; the file is continued behind the first, and completed while
-- the clock runs backwards. Assumes nothing.
use mathlib.Core.Path.{◌≡◌, refl}
use mathlib.Core.Bool.{true}
use mathlib.Core.List.{List, [], ◌∷◌}
use lib.ListN.{take, drop}
use Rattle.model.specs.State.{file, session_at}
use Rattle.model.specs.State as model
use Rattle.calls.specs.Call.{Call, lose}
use Rattle.cases.specs.Pass.{log_in, rx, heard, left, day}
use Rattle.cases.specs.Packets.{smallest, complete_as, upload, data', data_end}
use Rattle.cases.specs.Computing.{computing}

abbrev calls : List Call
calls =
    log_in 5 ∷ rx 6 (upload 0 80) ∷ rx 7 (data' (take 40 smallest)) ∷ rx 8 (40 ∷ 0 ∷ take 9 (drop 40 smallest)) ∷ lose 1
    ∷ log_in 9 ∷ rx 10 (upload 1 80) ∷ rx 11 (data' (drop 40 smallest)) ∷ rx 4 data_end ∷ []

-- "a continuation offers that length", of the whole DATA packets: 40; then UL_ACK_RESP
pub lost_once_law : heard day calls ≡
    (5 ∷ 2 ∷ 5 ∷ 0 ∷ 0 ∷ 0 ∷ 4 ∷ []) ∷ (8 ∷ 4 ∷ 1 ∷ 0 ∷ 0 ∷ 0 ∷ 0 ∷ 0 ∷ 0 ∷ 0 ∷ []) ∷ [] ∷ [] ∷ []
    ∷ (5 ∷ 2 ∷ 9 ∷ 0 ∷ 0 ∷ 0 ∷ 4 ∷ []) ∷ (8 ∷ 4 ∷ 1 ∷ 0 ∷ 0 ∷ 0 ∷ 40 ∷ 0 ∷ 0 ∷ 0 ∷ []) ∷ [] ∷ (0 ∷ 6 ∷ []) ∷ []
unfolding computing
lost_once_law = refl

-- one complete file, "with only the [five] server-set fields replaced": number 1, upload time 4
pub lost_files : (left day calls).files ≡ file 1 80 (complete_as 1 4) 4 ∷ []
unfolding computing
lost_files = refl

-- before the link is lost the session holds the bytes of the unfinished packet; afterwards they are forgotten, and the partial has 40 bytes
pub before : session_at (left day (take 4 calls)) 0
    ≡ record { linked = true; up = model.receiving 1; down = model.no_download; selected = []; next = 0; held = 40 ∷ 0 ∷ take 9 (drop 40 smallest) }
unfolding computing
before = refl

pub afterwards : session_at (left day (take 5 calls)) 0 ≡ model.closed_session
unfolding computing
afterwards = refl

pub partial : (left day (take 5 calls)).files ≡ file 1 80 (take 40 smallest) 0 ∷ []
unfolding computing
partial = refl
