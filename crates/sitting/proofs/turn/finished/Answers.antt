use Rattle.sitting.proofs.turn.finished.Goals as goal

pub right_after-requires : goal.right_after-requires
right_after-requires c = tt

pub least-requires : goal.least-requires
least-requires c = tt

pub with_more-requires : goal.with_more-requires
with_more-requires c = tt

pub returns : goal.returns
returns c = rw (c.with_more.ensures, c.least.ensures.2, c.right_after.ensures)
