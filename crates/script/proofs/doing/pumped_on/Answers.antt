use Rattle.script.specs.Doing.{pumped_on}
use Rattle.script.proofs.doing.pumped_on.Goals as goal

pub returns-in-Quiet : goal.returns-in-Quiet
unfolding pumped_on
returns-in-Quiet c = rw c.in-Quiet.is

pub returns-in-Sent : goal.returns-in-Sent
unfolding pumped_on
returns-in-Sent c = rw c.in-Sent.is

pub returns-in-Closed : goal.returns-in-Closed
unfolding pumped_on
returns-in-Closed c = rw c.in-Closed.is

pub returns-in-Refused : goal.returns-in-Refused
unfolding pumped_on
returns-in-Refused c = rw c.in-Refused.is
