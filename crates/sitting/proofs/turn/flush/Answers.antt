use Rattle.std.proofs.Common.{true, false}
use Rattle.sitting.specs.Turn.{flushed_of}
use Rattle.sitting.proofs.turn.flush.Goals as goal

pub write_front-requires : goal.write_front-requires
write_front-requires c = tt

pub written_stage-then-requires : goal.written_stage-then-requires
written_stage-then-requires c = tt

pub returns-then-write_front : goal.returns-then-write_front
unfolding flushed_of
returns-then-write_front c = record { written = true; is = rw c.written_stage-then.ensures }

pub with_stage-requires : goal.with_stage-requires
with_stage-requires c = tt

pub returns : goal.returns
unfolding flushed_of
returns c = record { written = false; is = c.with_stage.ensures }
