-- Document 01's example script, as calls. Assumes nothing.
use mathlib.Core.Path.{◌≡◌, refl}
use mathlib.Core.List.{List, [], ◌∷◌}
use Rattle.model.specs.Files.{free}
use Rattle.calls.specs.Call.{Call}
use Rattle.cases.specs.Pass.{log_in, rx, heard, left, day}
use Rattle.cases.specs.Computing.{computing}

-- open 1; rx 1 08030000000050000000
abbrev calls : List Call
calls = log_in 0 ∷ rx 0 (8 ∷ 3 ∷ 0 ∷ 0 ∷ 0 ∷ 0 ∷ 80 ∷ 0 ∷ 0 ∷ 0 ∷ []) ∷ []

-- LOGIN_RESP 0000000004; UL_GO_RESP 0100000000000000
pub script : heard day calls ≡ (5 ∷ 2 ∷ 0 ∷ 0 ∷ 0 ∷ 0 ∷ 4 ∷ []) ∷ (8 ∷ 4 ∷ 1 ∷ 0 ∷ 0 ∷ 0 ∷ 0 ∷ 0 ∷ 0 ∷ 0 ∷ []) ∷ []
unfolding computing
script = refl

-- blocks 127 1
pub script_blocks : free (left day calls) ≡ 127
unfolding computing
script_blocks = refl
