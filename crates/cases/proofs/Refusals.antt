-- Refusals and closings. Assumes nothing.
use mathlib.Core.Path.{◌≡◌, refl}
use mathlib.Core.List.{[], ◌∷◌}
use lib.ListN.{replicate}
use Rattle.calls.specs.Call.{login, receive, request}
use Rattle.cases.specs.Pass.{output, log_in, rx, heard, left, day}
use Rattle.cases.specs.Packets.{smallest, upload, data', data_end, download}
use Rattle.cases.specs.Computing.{computing}

-- a DATA that passes 80 bytes: UL_NAK_RESP 16; further DATA and DATA_END get nothing; then the session may upload again, and the blocks are free
pub overrun : heard (left day (log_in 0 ∷ rx 0 (upload 0 80) ∷ []))
    (rx 0 (data' (replicate 81 0)) ∷ rx 0 (data' (replicate 81 0)) ∷ rx 0 data_end ∷ rx 0 (upload 0 32768) ∷ [])
    ≡ (1 ∷ 7 ∷ 16 ∷ []) ∷ [] ∷ [] ∷ (8 ∷ 4 ∷ 2 ∷ 0 ∷ 0 ∷ 0 ∷ 0 ∷ 0 ∷ 0 ∷ 0 ∷ []) ∷ []
unfolding computing
overrun = refl

-- another session is uploading it: 2; a complete file: 12; no such file: 4; UPLOAD_CMD of one byte: 1
pub continued : heard (left day (log_in 0 ∷ rx 0 (upload 0 80) ∷ login 2 0 output ∷ []))
    (receive 2 0 (upload 1 80) output ∷ receive 2 0 (upload 3 80) output ∷ receive 2 0 (1 ∷ 3 ∷ 0 ∷ []) output ∷ rx 0 (data' smallest) ∷ rx 0 data_end
    ∷ receive 2 0 (upload 1 80) output ∷ [])
    ≡ (1 ∷ 5 ∷ 2 ∷ []) ∷ (1 ∷ 5 ∷ 4 ∷ []) ∷ (1 ∷ 5 ∷ 1 ∷ []) ∷ [] ∷ (0 ∷ 6 ∷ []) ∷ (1 ∷ 5 ∷ 12 ∷ []) ∷ []
unfolding computing
continued = refl

-- downloads: a partial file, 11; from behind the last byte, 2; types 14 and 15, 1
pub downloads : heard (left day (log_in 0 ∷ rx 0 (upload 0 80) ∷ []))
    (rx 0 (download 1 0 0) ∷ rx 0 (data' smallest) ∷ rx 0 data_end ∷ rx 0 (download 1 81 0) ∷ rx 0 (0 ∷ 14 ∷ []) ∷ rx 0 (0 ∷ 15 ∷ []) ∷ [])
    ≡ (1 ∷ 9 ∷ 11 ∷ []) ∷ [] ∷ (0 ∷ 6 ∷ []) ∷ (1 ∷ 9 ∷ 2 ∷ []) ∷ (1 ∷ 9 ∷ 1 ∷ []) ∷ (1 ∷ 9 ∷ 1 ∷ []) ∷ []
unfolding computing
downloads = refl

-- session 0 and session 5 of 4, a login of an open one, bytes for one that is not open: 34; an output of 257 bytes: 32
pub local : heard (left day (log_in 0 ∷ [])) (login 0 0 output ∷ login 5 0 output ∷ log_in 0 ∷ receive 2 0 [] output ∷ request 1 (replicate 257 0) ∷ [])
    ≡ (34 ∷ []) ∷ (34 ∷ []) ∷ (34 ∷ []) ∷ (34 ∷ []) ∷ (32 ∷ []) ∷ []
unfolding computing
local = refl

-- closings: DATA without an upload; a type of the server's own; type 18; DATA_END with information
pub closings : heard day (log_in 0 ∷ rx 0 (data' []) ∷ log_in 0 ∷ rx 0 (0 ∷ 2 ∷ []) ∷ log_in 0 ∷ rx 0 (0 ∷ 18 ∷ []) ∷ log_in 0 ∷ rx 0 (upload 0 80)
    ∷ rx 0 (1 ∷ 1 ∷ 0 ∷ []) ∷ [])
    ≡ (5 ∷ 2 ∷ 0 ∷ 0 ∷ 0 ∷ 0 ∷ 4 ∷ []) ∷ (0 ∷ []) ∷ (5 ∷ 2 ∷ 0 ∷ 0 ∷ 0 ∷ 0 ∷ 4 ∷ []) ∷ (0 ∷ []) ∷ (5 ∷ 2 ∷ 0 ∷ 0 ∷ 0 ∷ 0 ∷ 4 ∷ []) ∷ (0 ∷ [])
    ∷ (5 ∷ 2 ∷ 0 ∷ 0 ∷ 0 ∷ 0 ∷ 4 ∷ []) ∷ (8 ∷ 4 ∷ 1 ∷ 0 ∷ 0 ∷ 0 ∷ 0 ∷ 0 ∷ 0 ∷ 0 ∷ []) ∷ (0 ∷ []) ∷ []
unfolding computing
closings = refl
