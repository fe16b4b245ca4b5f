use Rattle.script.specs.Doing.{heard_on}
use Rattle.script.proofs.doing.heard_on.Goals as goal

pub returns-in-Quiet : goal.returns-in-Quiet
unfolding heard_on
returns-in-Quiet c = rw (c.in-Quiet.is, c.go_on.ensures)

pub returns-in-Sent : goal.returns-in-Sent
unfolding heard_on
returns-in-Sent c = rw (c.in-Sent.is, c.go_on-in-Sent.ensures)

pub returns-in-Closed : goal.returns-in-Closed
unfolding heard_on
returns-in-Closed c = rw c.in-Closed.is

pub returns-in-Refused : goal.returns-in-Refused
unfolding heard_on
returns-in-Refused c = rw c.in-Refused.is
