use Rattle.sitting.proofs.turn.with_more.Goals as goal

pub wrapping_add_usize-requires : goal.wrapping_add_usize-requires
wrapping_add_usize-requires c = tt

pub returns : goal.returns
returns c = rw c.wrapping_add_usize.ensures.value
