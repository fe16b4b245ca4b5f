use native.Mathlib.Omega.{arith}
use Rattle.packet.proofs.FrameLaws.{taken_out}
use Rattle.packet.proofs.frame.information.Goals as goal

pub returns : goal.returns
returns c = let e = c in taken_out e.args.part.now e.args.size c.store.new.to (omega arith) (omega arith) c.store.ensures.to_after
