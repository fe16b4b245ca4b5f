use Rattle.std.proofs.Common.{◌-◌, ◌<◌, length}
use Rattle.marking.specs.Fields.{InField}
use Rattle.marking.proofs.fields.after_pieces.Given as goal

abbrev pub invariant-loop-n : goal.invariant-loop-n
invariant-loop-n l = (0 < l.size) × InField l.line l.n

abbrev pub decreases-loop-n : goal.decreases-loop-n
decreases-loop-n l = length l.line - l.n
