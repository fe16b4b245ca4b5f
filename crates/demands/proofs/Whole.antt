-- DEMAND 3, but for its last sentence: every statement of specs/Demand3.antt, for every legal start and every history. Assumes nothing.
use mathlib.Core.Path.{◌≡◌}
use mathlib.Core.Bool.{true}
use Rattle.history.specs.Calls.{Start, legal, History}
use Rattle.demands.specs.Demand3.{Demand3}
use Rattle.demands.proofs.Theorems.{each_block, blocks_held, by_place, answers, agrees}

pub demand_3 : (s : Start) → legal s ≡ true → (h : History) → Demand3 s h
demand_3 s ok h =
    record { blocks = each_block s ok h; held = blocks_held s ok h; places = by_place s ok h; answers = answers s ok h; files = agrees s ok h }
