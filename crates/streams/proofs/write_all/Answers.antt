use Rattle.streams.proofs.Written.{appends_next}
use Rattle.streams.proofs.write_all.Goals as goal

pub loop-done-preserved : goal.loop-done-preserved
loop-done-preserved g c = appends_next _ _ _ _ _ _ c.loop-done.invariant c.in-Ok.ensures.bytes
