use Rattle.script.specs.Calling.{heard_of}
use Rattle.script.proofs.CallLaws.{heard_none}
use Rattle.script.proofs.calling.handed.Goals as goal

pub returns-in-Hearing : goal.returns-in-Hearing
unfolding heard_of
returns-in-Hearing c = rw (c.in-Hearing.is, ← c.least-e.ensures.2, ← c.least.ensures.2)

pub returns-in_default : goal.returns-in_default
returns-in_default c = heard_none c.args.doing c.args.size c.in_default.not-Hearing
