use Rattle.std.proofs.Common.{◌+◌, ◌%◌, ◌<◌, get_or, arith}
use Rattle.marking.proofs.TabLaws.{distance, near_none, near_closer, near_same, near_all}
use Rattle.marking.proofs.fields.has_tab.Goals as goal
use Rattle.marking.proofs.fields.has_tab.Goals.{then-d-least, else-d-least}

pub loop-b-init : goal.loop-b-init
loop-b-init c = near_none _

pub loop-b-preserved : goal.loop-b-preserved
loop-b-preserved c =
    let l = c.loop-b in
    let x = get_or c.args.bytes.now l.b-index 0 in
    let e = distance x (c.type_inv.bytes l.b-index).fits in
    let small : (x + 247) % 256 < 256 = omega arith in
    elim c.if-d-least.branch [
      | then-d-least w ↦ rw w.least-is (near_closer c.args.bytes.now l.least l.b-index _ c.loop-b-test.true small e l.invariant w.if-d-least.true)
      | else-d-least w ↦ rw w.least-is (near_same c.args.bytes.now l.least l.b-index _ c.loop-b-test.true small e l.invariant w.if-d-least.false)
    ]

pub returns : goal.returns
returns c = let l = c.loop-b in near_all c.args.bytes.now l.least l.b-index l.invariant c.loop-b-test.false
