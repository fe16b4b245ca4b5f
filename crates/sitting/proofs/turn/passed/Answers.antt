use Rattle.sitting.proofs.turn.passed.Goals as goal

pub begin-next-requires : goal.begin-next-requires
begin-next-requires c = tt

pub wrapping_add_usize-requires : goal.wrapping_add_usize-requires
wrapping_add_usize-requires c = tt

pub least-requires : goal.least-requires
least-requires c = tt

pub wrapping_add_usize-requires-2 : goal.wrapping_add_usize-requires-2
wrapping_add_usize-requires-2 c = tt

pub least-requires-2 : goal.least-requires-2
least-requires-2 c = tt

pub wrapping_add_usize-requires-3 : goal.wrapping_add_usize-requires-3
wrapping_add_usize-requires-3 c = tt

pub returns : goal.returns
returns c = rw (c.wrapping_add_usize-3.ensures.value, c.least-2.ensures.2, c.wrapping_add_usize-2.ensures.value, c.least.ensures.2, c.wrapping_add_usize.ensures.value, c.begin-next.ensures)
