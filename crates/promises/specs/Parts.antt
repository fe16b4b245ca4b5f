-- The local refusal of a call, by one name for all four calls. Assumes nothing.
use Rattle.std.specs.Prelude.{Bool, true, false, cond, List, [], ◌∷◌, ℕ, eqb, Result}
use Rattle.server.specs.declared.Server.{Server}
use Rattle.server.specs.State.{Lent}
use Rattle.server.specs.Check.{check_of}
use Rattle.history.specs.Calls.{Call}
pub use Rattle.steps.specs.Parts.{session_in, bytes_in, out_in, open_in, room_in}

-- the local refusal of a call, or the session that it goes to, counted from 0
abbrev pub check_in : Server → Lent → Call → Result ℕ ℕ
check_in sv l c = check_of sv l (session_in c) (open_in c) (room_in c)

-- a number stands in a list
abbrev pub one_of : ℕ → List ℕ → Bool
one_of n [] = false
one_of n (m ∷ ms) = cond (eqb n m) true (one_of n ms)
