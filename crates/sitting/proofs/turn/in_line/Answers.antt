use Rattle.sitting.proofs.turn.in_line.Goals as goal

pub rests-requires : goal.rests-requires
rests-requires c = tt

pub returns-then-rests : goal.returns-then-rests
returns-then-rests c = rw (← c.rests.ensures, c.if-rests.true)

pub returns : goal.returns
returns c = rw (← c.rests.ensures, c.if-rests.false)
