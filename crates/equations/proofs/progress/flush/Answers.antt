use Rattle.std.proofs.Common.{true, false}
use Rattle.equations.specs.Turn.{flushed_of}
use Rattle.equations.proofs.progress.flush.Goals as goal

pub returns-then-write_front : goal.returns-then-write_front
unfolding flushed_of
returns-then-write_front c = record { written = true; is = rw c.written_stage.ensures }

pub returns : goal.returns
unfolding flushed_of
returns c = record { written = false; is = c.with_stage.ensures }
