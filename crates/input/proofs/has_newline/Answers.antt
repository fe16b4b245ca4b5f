use Rattle.std.proofs.Common.{arith}
use Rattle.input.proofs.InputLaws.{near_closer, near_same}
use Rattle.input.proofs.has_newline.Goals as goal
use Rattle.input.proofs.has_newline.Goals.{then-d-least, else-d-least}

pub loop-b-preserved : goal.loop-b-preserved
loop-b-preserved c =
    let l = c.loop-b in
    elim c.if-d-least.branch [
      | then-d-least w ↦ rw w.least-is (near_closer _ _ _ _ c.loop-b-test.true (omega arith) (omega arith) l.invariant w.if-d-least.true)
      | else-d-least w ↦ rw w.least-is (near_same _ _ _ _ c.loop-b-test.true (omega arith) (omega arith) l.invariant w.if-d-least.false)
    ]
