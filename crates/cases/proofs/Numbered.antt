-- The numbered examples of document 01, P1 to P12, where they speak of what the server says. Assumes nothing.
use mathlib.Core.Path.{◌≡◌, refl}
use mathlib.Core.List.{List, [], ◌∷◌, ◌++◌, map}
use Prim.Native.Nat.{ℕ}
use lib.ListN.{length, take, drop, replicate}
use Rattle.model.specs.Files.{free}
use Rattle.calls.specs.Call.{Call}
use Rattle.cases.specs.Pass.{log_in, rx, pump, heard, left, day}
use Rattle.cases.specs.Packets.{file_with, smallest, landrover, untitled, upload, data', data_end, download, select}
use Rattle.cases.specs.Packets.{sized, title_is, title_above}
use Rattle.cases.specs.Computing.{computing}

-- a file is uploaded, in one DATA, and completed at a clock
abbrev uploaded : ℕ → List ℕ → List Call
uploaded clock bytes = rx clock (upload 0 (length bytes)) ∷ rx clock (data' bytes) ∷ rx clock data_end ∷ []

-- P1 "DATA of 256 bytes begins 00 20": the first of a file of 336 bytes, with a body of 256 zeros
abbrev large : List ℕ
large = file_with 80 539 [] (replicate 256 0)

pub p1 : map (take 2) (heard (left day (log_in 0 ∷ rx 1 (upload 0 336) ∷ rx 1 (data' (take 256 large)) ∷ rx 1 (data' (drop 256 large)) ∷ rx 1 data_end ∷ []))
    (rx 1 (download 1 0 0) ∷ pump ∷ pump ∷ pump ∷ [])) ≡ [] ∷ (0 ∷ 32 ∷ []) ∷ (80 ∷ 0 ∷ []) ∷ (0 ∷ 1 ∷ []) ∷ []
unfolding computing
p1 = refl

-- P2 "01 20 closes"
pub p2 : heard day (log_in 0 ∷ rx 0 (1 ∷ 32 ∷ []) ∷ rx 0 [] ∷ []) ≡ (5 ∷ 2 ∷ 0 ∷ 0 ∷ 0 ∷ 0 ∷ 4 ∷ []) ∷ (0 ∷ []) ∷ (34 ∷ []) ∷ []
unfolding computing
p2 = refl

-- P3 "LOGIN_RESP at time 0: 05 02 00 00 00 00 04"
pub p3 : heard day (log_in 0 ∷ []) ≡ (5 ∷ 2 ∷ 0 ∷ 0 ∷ 0 ∷ 0 ∷ 4 ∷ []) ∷ []
unfolding computing
p3 = refl

-- P4 "SELECT_RESP begins 02 11"
pub p4 : heard (left day (log_in 0 ∷ [])) (rx 0 (select (sized 80)) ∷ []) ≡ (2 ∷ 17 ∷ 0 ∷ 0 ∷ []) ∷ []
unfolding computing
p4 = refl

-- P5 "UL_ERROR 13: 01 05 0d": a file of 32,769 bytes needs 129 of 128 blocks
pub p5 : heard (left day (log_in 0 ∷ [])) (rx 0 (upload 0 32769) ∷ []) ≡ (1 ∷ 5 ∷ 13 ∷ []) ∷ []
unfolding computing
p5 = refl

-- P6 "lengths 0, 256, 257 take 0, 1, 2 blocks": each begun on a session of its own
abbrev begun : ℕ → List Call
begun size = log_in 0 ∷ rx 0 (upload 0 size) ∷ []

pub p6 : free (left day (begun 0)) ∷ free (left day (begun 256)) ∷ free (left day (begun 257)) ∷ [] ≡ 128 ∷ 127 ∷ 126 ∷ []
unfolding computing
p6 = refl

-- P7 "last time 1000, clock 900: 1001; clock 2000: 2000"
pub p7 : map (λ f. f.time) (left day (log_in 0 ∷ uploaded 1000 smallest ++ uploaded 900 smallest ++ uploaded 2000 smallest)).files
    ≡ 1000 ∷ 1001 ∷ 2000 ∷ []
unfolding computing
p7 = refl

-- P8 the file of 80 bytes "is accepted; its first 79 bytes, announced as 79: 14": UL_ACK_RESP, UL_NAK_RESP
pub p8 : heard (left day (log_in 0 ∷ [])) (uploaded 1 smallest ++ uploaded 1 (take 79 smallest))
    ≡ (8 ∷ 4 ∷ 1 ∷ 0 ∷ 0 ∷ 0 ∷ 0 ∷ 0 ∷ 0 ∷ 0 ∷ []) ∷ [] ∷ (0 ∷ 6 ∷ []) ∷ (8 ∷ 4 ∷ 2 ∷ 0 ∷ 0 ∷ 0 ∷ 0 ∷ 0 ∷ 0 ∷ 0 ∷ []) ∷ [] ∷ (1 ∷ 7 ∷ 14 ∷ []) ∷ []
unfolding computing
p8 = refl

-- P9, the exam's question: a SELECT for titles greater than "m" gets DL_ERROR_RESP 8, whatever files there are
pub p9 : heard (left day (log_in 0 ∷ uploaded 1 landrover)) (rx 2 (select (title_above (109 ∷ []))) ∷ []) ≡ (1 ∷ 9 ∷ 8 ∷ []) ∷ []
unfolding computing
p9 = refl

-- P10 "`*land*` matches "Landrover"; `?` does not match """
pub p10 : heard (left day (log_in 0 ∷ uploaded 1 landrover)) (rx 2 (select (title_is (42 ∷ 108 ∷ 97 ∷ 110 ∷ 100 ∷ 42 ∷ []))) ∷ [])
    ≡ (2 ∷ 17 ∷ 1 ∷ 0 ∷ []) ∷ []
unfolding computing
p10 = refl

pub p10_empty : heard (left day (log_in 0 ∷ uploaded 1 untitled)) (rx 2 (select (title_is (63 ∷ []))) ∷ []) ≡ (2 ∷ 17 ∷ 0 ∷ 0 ∷ []) ∷ []
unfolding computing
p10_empty = refl

-- P11 "five `*`: 8", and P12 "the empty equation: 8"
pub p11 : heard (left day (log_in 0 ∷ [])) (rx 2 (select (title_is (replicate 5 42))) ∷ rx 2 (select []) ∷ []) ≡ (1 ∷ 9 ∷ 8 ∷ []) ∷ (1 ∷ 9 ∷ 8 ∷ []) ∷ []
unfolding computing
p11 = refl
