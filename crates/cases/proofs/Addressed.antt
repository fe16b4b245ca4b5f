-- A letter to two people (02, A2): "a file to A and B is both equal to A and not equal to A", and it is found under both. Assumes nothing.
use mathlib.Core.Path.{◌≡◌, refl}
use mathlib.Core.List.{List, [], ◌∷◌, ◌++◌}
use Prim.Native.Nat.{ℕ}
use Rattle.calls.specs.Call.{Call}
use Rattle.cases.specs.Pass.{log_in, rx, heard, left, day}
use Rattle.cases.specs.Packets.{letter, upload, data', data_end, select, addressed_to, addressed_elsewhere}
use Rattle.cases.specs.Computing.{computing}

-- the letter is uploaded
abbrev calls : List Call
calls = log_in 7 ∷ rx 7 (upload 0 88) ∷ rx 7 (data' letter) ∷ rx 7 data_end ∷ []

-- destination equal "A", not equal "A", equal "A" AND not equal "A", equal "B", equal "C"
abbrev selections : List Call
selections =
    rx 8 (select (addressed_to (65 ∷ []))) ∷ rx 8 (select (addressed_elsewhere (65 ∷ [])))
    ∷ rx 8 (select (addressed_to (65 ∷ []) ++ addressed_elsewhere (65 ∷ []) ++ 1 ∷ [])) ∷ rx 8 (select (addressed_to (66 ∷ [])))
    ∷ rx 8 (select (addressed_to (67 ∷ []))) ∷ []

-- SELECT_RESP with the number of files: the letter for all but the last
pub found : heard (left day calls) selections
    ≡ (2 ∷ 17 ∷ 1 ∷ 0 ∷ []) ∷ (2 ∷ 17 ∷ 1 ∷ 0 ∷ []) ∷ (2 ∷ 17 ∷ 1 ∷ 0 ∷ []) ∷ (2 ∷ 17 ∷ 1 ∷ 0 ∷ []) ∷ (2 ∷ 17 ∷ 0 ∷ 0 ∷ []) ∷ []
unfolding computing
found = refl
