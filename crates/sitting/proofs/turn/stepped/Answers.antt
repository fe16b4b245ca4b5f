use Rattle.sitting.proofs.turn.stepped.Goals as goal

pub least-requires : goal.least-requires
least-requires c = tt

pub with_more-requires : goal.with_more-requires
with_more-requires c = tt

pub returns : goal.returns
returns c = rw (c.with_more.ensures, c.least.ensures.2)
