-- Downloads: the next selected file, the place in the selection, and DL_ACK_CMD and DL_NAK_CMD in each downlink state. Assumes nothing.
use mathlib.Core.Path.{◌≡◌, refl}
use mathlib.Core.Bool.{true}
use mathlib.Core.List.{List, [], ◌∷◌, ◌++◌}
use Prim.Native.Nat.{ℕ}
use Rattle.model.specs.State.{session_at}
use Rattle.model.specs.State as model
use Rattle.calls.specs.Call.{Call}
use Rattle.cases.specs.Pass.{log_in, rx, pump, heard, left, day}
use Rattle.cases.specs.Packets.{smallest, complete_as, upload, data', data_end, download, ack, nak, select}
use Rattle.cases.specs.Packets.{sized}
use Rattle.cases.specs.Computing.{computing}

-- one complete file; session 1 is open
abbrev stored : List Call
stored = log_in 0 ∷ rx 4 (upload 0 80) ∷ rx 4 (data' smallest) ∷ rx 4 data_end ∷ []

-- SELECT_RESP 1; DATA, DATA_END, nothing; DL_COMPLETED_RESP; no selected file is left
pub fetch : heard (left day stored)
    (rx 12 (select (sized 80)) ∷ rx 12 (download 0 0 0) ∷ pump ∷ pump ∷ pump ∷ rx 13 (ack 0) ∷ rx 13 (download 0 0 0) ∷ [])
    ≡ (2 ∷ 17 ∷ 1 ∷ 0 ∷ []) ∷ [] ∷ (80 ∷ 0 ∷ complete_as 1 4) ∷ (0 ∷ 1 ∷ []) ∷ [] ∷ (0 ∷ 11 ∷ []) ∷ (1 ∷ 9 ∷ 5 ∷ []) ∷ []
unfolding computing
fetch = refl

-- "Number 0 means the next selected file; an accepted command moves past it": the place is then 1
abbrev asked : List ℕ → List Call
asked command = stored ++ rx 12 (select (sized 80)) ∷ rx 12 command ∷ []

pub moved : session_at (left day (asked (download 0 0 0))) 0
    ≡ record { linked = true; up = model.no_upload; down = model.sending 1 0; selected = 1 ∷ []; next = 1; held = [] }
unfolding computing
moved = refl

-- a command that names the file, and one that is refused (a lock destination above none), leave the place
pub by_number : session_at (left day (asked (download 1 40 0))) 0
    ≡ record { linked = true; up = model.no_upload; down = model.sending 1 40; selected = 1 ∷ []; next = 0; held = [] }
unfolding computing
by_number = refl

pub refused : session_at (left day (asked (download 0 0 1))) 0
    ≡ record { linked = true; up = model.no_upload; down = model.no_download; selected = 1 ∷ []; next = 0; held = [] }
unfolding computing
refused = refl

-- DL_NAK_CMD before DATA_END: DATA_END at once, DL_ABORTED_RESP at the next request, then nothing
pub nak_before : heard (left day (stored ++ rx 5 (download 1 0 0) ∷ [])) (rx 5 nak ∷ pump ∷ pump ∷ []) ≡ (0 ∷ 1 ∷ []) ∷ (0 ∷ 10 ∷ []) ∷ [] ∷ []
unfolding computing
nak_before = refl

-- after a usual DATA_END: DL_ABORTED_RESP at once; with no download: nothing
pub nak_after : heard (left day (stored ++ rx 5 (download 1 0 0) ∷ pump ∷ pump ∷ [])) (rx 5 nak ∷ rx 5 nak ∷ pump ∷ []) ≡ (0 ∷ 10 ∷ []) ∷ [] ∷ [] ∷ []
unfolding computing
nak_after = refl

-- between the two it is unexpected, and so is DL_ACK_CMD before DATA_END
pub nak_twice : heard (left day (stored ++ rx 5 (download 1 0 0) ∷ rx 5 nak ∷ [])) (rx 5 nak ∷ []) ≡ (0 ∷ []) ∷ []
unfolding computing
nak_twice = refl

pub ack_early : heard (left day (stored ++ rx 5 (download 1 0 0) ∷ [])) (rx 5 (ack 0) ∷ []) ≡ (0 ∷ []) ∷ []
unfolding computing
ack_early = refl

-- the file has no destination; DL_ACK_CMD of two bytes
pub ack_first : heard (left day (stored ++ rx 5 (download 1 80 0) ∷ pump ∷ [])) (rx 5 (ack 1) ∷ []) ≡ (0 ∷ 10 ∷ []) ∷ []
unfolding computing
ack_first = refl

pub ack_of_two : heard (left day (stored ++ rx 5 (download 1 80 0) ∷ pump ∷ [])) (rx 5 (2 ∷ 12 ∷ 0 ∷ 0 ∷ []) ∷ []) ≡ (0 ∷ 10 ∷ []) ∷ []
unfolding computing
ack_of_two = refl
