use Rattle.sitting.proofs.turn.right_after.Goals as goal

pub wrapping_add_usize-requires : goal.wrapping_add_usize-requires
wrapping_add_usize-requires c = tt

pub returns-then-more : goal.returns-then-more
returns-then-more c = rw c.if-more.true c.wrapping_add_usize.ensures.value
