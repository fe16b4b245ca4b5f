use Prim.Native.Nat.{◌+◌, ◌-◌}
use lib.ListN.{length, drop}
use Rattle.equation.specs.Parsed.{relations_by}
use Rattle.equation.proofs.MarkLaws as marks
use Rattle.stored.specs.Answers.{file_at}
use Rattle.stored.specs.Cursor.{Stands}
use Rattle.stored.proofs.settle_items.Given as goal

abbrev pub invariant-loop-id : goal.invariant-loop-id
invariant-loop-id l =
    marks.Walking (relations_by l.eq l.steps) (drop 2 (file_at l.disk l.owner l.place l.n)) l.initial.truths l.truths l.at × Stands l.owner l.place l.here.index l.here.block (2 + l.at)

abbrev pub decreases-loop-id : goal.decreases-loop-id
decreases-loop-id l = length (drop 2 (file_at l.disk l.owner l.place l.n)) - l.at
