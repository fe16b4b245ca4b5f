-- `blocks::copy` meets its contract.
use mathlib.Core.Path.{refl, ◌∙◌}
use native.Mathlib.Omega.{arith}
use lib.ListN.{length-set}
use Rattle.blocks.proofs.Steps.{fill_step, fill_done}
use Rattle.blocks.proofs.copy.Goals as goal

pub loop-i-preserved : goal.loop-i-preserved
loop-i-preserved c =
    let s = c in (
      simp length-set s.loop-i.invariant.0,
      s.loop-i.invariant.1,
      fill_step s.loop-i.to s.args.from.now s.loop-i.i _ (omega arith) (omega arith) refl s.loop-i.invariant.2,
    )

pub returns : goal.returns
returns c = let l = c.loop-i in fill_done l.to c.args.from.now l.i (l.invariant.0 ∙ l.invariant.1) (omega arith) l.invariant.2
