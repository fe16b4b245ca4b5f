use Rattle.script.specs.Doing.{session_of}
use Rattle.script.proofs.doing.session_of.Goals as goal

pub returns-in-Rest : goal.returns-in-Rest
unfolding session_of
returns-in-Rest c = rw c.in-Rest.is

pub returns-in-Opening : goal.returns-in-Opening
unfolding session_of
returns-in-Opening c = rw c.in-Opening.is

pub returns-in-Dropping : goal.returns-in-Dropping
unfolding session_of
returns-in-Dropping c = rw c.in-Dropping.is

pub returns-in-Hearing : goal.returns-in-Hearing
unfolding session_of
returns-in-Hearing c = rw c.in-Hearing.is

pub returns-in-Pumping : goal.returns-in-Pumping
unfolding session_of
returns-in-Pumping c = rw c.in-Pumping.is
