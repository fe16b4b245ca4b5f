-- Two files completed in one second, and MAXSEL 1: the client that selects above each page's newest time is given both, one a page. Assumes nothing.
use mathlib.Core.Path.{◌≡◌, refl}
use mathlib.Core.List.{List, [], ◌∷◌, ◌++◌}
use Prim.Native.Nat.{ℕ}
use Rattle.model.specs.State.{file, session_at}
use Rattle.calls.specs.Call.{Call, login, receive}
use Rattle.cases.specs.Pass.{output, log_in, rx, heard, left, one}
use Rattle.cases.specs.Packets.{smallest, complete_as, upload, data', data_end, select}
use Rattle.cases.specs.Packets.{newer}
use Rattle.cases.specs.Computing.{computing}

-- two files begun in the order 1, 2 on two sessions, and completed in the order 2, 1, both at clock 7: "number 6 may complete after number 7 (003)"
abbrev calls : List Call
calls =
    log_in 7 ∷ login 2 7 output ∷ rx 7 (upload 0 80) ∷ receive 2 7 (upload 0 80) output ∷ rx 7 (data' smallest) ∷ receive 2 7 (data' smallest) output
    ∷ receive 2 7 data_end output ∷ rx 7 data_end ∷ []

-- "Upload times rise strictly in order of completion."
pub times : (left one calls).files ≡ file 1 80 (complete_as 1 8) 8 ∷ file 2 80 (complete_as 2 7) 7 ∷ []
unfolding computing
times = refl

-- three pages: above 0, above 7, above 8
abbrev pages : ℕ → List Call
pages time = rx 9 (select (newer time)) ∷ []

pub first_page : (session_at (left one (calls ++ pages 0)) 0).selected ≡ 2 ∷ []
unfolding computing
first_page = refl

pub second_page : (session_at (left one (calls ++ pages 0 ++ pages 7)) 0).selected ≡ 1 ∷ []
unfolding computing
second_page = refl

-- the last page is shorter than MAXSEL
pub said_pages : heard (left one calls) (pages 0 ++ pages 7 ++ pages 8) ≡ (2 ∷ 17 ∷ 1 ∷ 0 ∷ []) ∷ (2 ∷ 17 ∷ 1 ∷ 0 ∷ []) ∷ (2 ∷ 17 ∷ 0 ∷ 0 ∷ []) ∷ []
unfolding computing
said_pages = refl
