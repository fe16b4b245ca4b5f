use Rattle.sitting.specs.Turn.{by_verdict, decide_of}
use Rattle.sitting.proofs.turn.decide.Goals as goal

pub writes_first-requires : goal.writes_first-requires
writes_first-requires c = tt

pub returns-then-writes_first : goal.returns-then-writes_first
unfolding by_verdict decide_of
returns-then-writes_first c = rw (← c.writes_first.ensures, c.if-writes_first.true)

pub next_line-requires : goal.next_line-requires
next_line-requires c = tt

pub in_line-requires : goal.in_line-requires
in_line-requires c = tt

pub in_line-requires-in-Told : goal.in_line-requires-in-Told
in_line-requires-in-Told c = tt

pub returns-in-Rest : goal.returns-in-Rest
unfolding by_verdict decide_of
returns-in-Rest c = rw (← c.writes_first.ensures, c.if-writes_first.false, c.in-Rest.is) c.next_line.ensures

pub returns-in-Open : goal.returns-in-Open
unfolding by_verdict decide_of
returns-in-Open c = rw (← c.writes_first.ensures, c.if-writes_first.false, c.in-Open.is) c.in_line.ensures

pub returns-in-Told : goal.returns-in-Told
unfolding by_verdict decide_of
returns-in-Told c = rw (← c.writes_first.ensures, c.if-writes_first.false, c.in-Told.is) c.in_line-in-Told.ensures
