use Rattle.std.proofs.Common.{◌≡◌, true, cond, drop}
use Rattle.table.specs.Fit.{among}
use Rattle.table.proofs.stands_later.Given as goal

abbrev pub invariant-loop-later : goal.invariant-loop-later
invariant-loop-later l = among l.value l.later-items ≡ cond l.found true (among l.value (drop l.later-index l.later-items))
