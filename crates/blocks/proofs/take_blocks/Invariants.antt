use Rattle.std.proofs.Common.{◌-◌}
use Rattle.blocks.proofs.Steps.{Taking}
use Rattle.blocks.proofs.take_blocks.Given as goal

abbrev pub invariant-loop : goal.invariant-loop
invariant-loop l = Taking l.initial.map l.initial.owner l.v l.n l.map l.owner (l.n - l.counter) l.i
