-- `blocks::give` meets its contract. A number past the last block changes nothing.
use mathlib.Core.Path.{sym}
use lib.Seq.{set_out}
use Rattle.blocks.proofs.give.Goals as goal

pub returns-else-b-owner : goal.returns-else-b-owner
returns-else-b-owner c = sym (set_out _ _ _ c.if-b-owner.false)
