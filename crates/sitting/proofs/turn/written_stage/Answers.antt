use Rattle.sitting.specs.Turn.{written_stage}
use Rattle.sitting.proofs.turn.written_stage.Goals as goal

pub returns-in-Going : goal.returns-in-Going
unfolding written_stage
returns-in-Going c = rw c.in-Going.is

pub returns-in-Last : goal.returns-in-Last
unfolding written_stage
returns-in-Last c = rw c.in-Last.is

pub returns-in-Done : goal.returns-in-Done
unfolding written_stage
returns-in-Done c = rw c.in-Done.is

pub returns-in-Broken : goal.returns-in-Broken
unfolding written_stage
returns-in-Broken c = rw c.in-Broken.is
