-- THE DESK: what the program's own run writes is `desk_of` of the answer sheet that it read, from "`passday`'s empty store". `run` (src/main.rt) has the
-- contract `Sat kind.Desk`. Assumes nothing.
use Rattle.std.specs.Prelude.{◌≡◌, List, ◌++◌, ℕ, ◌<◌, ◌^◌, length}
use Rattle.marking.specs.declared.Kind.TheVariants as kind
use Rattle.marking.specs.Desk.{desk_of}
use Rattle.sitting.specs.declared.turn.Stage.TheVariants as stage
use Rattle.sitting.specs.Run.{MayFollow}
use Rattle.sitting.specs.Whole.{start_of, Sat}

-- where it has written all; `rest` is what the input may still bring, nothing where it has ended
abbrev pub DeskPrints : Type 0
DeskPrints =
    (ran : Sat kind.Desk) → length ran.played.read < 2 ^ 63 → ran.after.sitting.stage ≡ stage.Done
    → (rest : List ℕ) → MayFollow ran.after.sitting rest → ran.played.wrote ≡ desk_of (start_of ran.memory.lent) (ran.played.read ++ rest)
