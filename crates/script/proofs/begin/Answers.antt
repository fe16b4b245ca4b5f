use Rattle.script.specs.Day.{begin_of}
use Rattle.script.proofs.begin.Goals as goal

pub returns-in-Unreadable : goal.returns-in-Unreadable
unfolding begin_of
returns-in-Unreadable c = rw c.in-Unreadable.is

pub returns-in-Time : goal.returns-in-Time
unfolding begin_of
returns-in-Time c = rw c.in-Time.is

pub returns-in-Open : goal.returns-in-Open
unfolding begin_of
returns-in-Open c = rw c.in-Open.is

pub returns-in-Drop : goal.returns-in-Drop
unfolding begin_of
returns-in-Drop c = rw c.in-Drop.is

pub returns-in-Rx : goal.returns-in-Rx
unfolding begin_of
returns-in-Rx c = rw c.in-Rx.is
