-- `blocks::count_few` meets its contract. The invariant: what is counted and what is left are all blocks of the owner.
use Rattle.std.proofs.Common.{ap, arith, drop_of_length-le}
use Rattle.blocks.specs.Owners.{blocks}
use Rattle.blocks.proofs.Owners.{blocks_hit, blocks_miss}
use Rattle.blocks.proofs.count_few.Goals as goal
use Rattle.blocks.proofs.count_few.Goals.{then-o-v, else-o-v}

pub loop-o-preserved : goal.loop-o-preserved
loop-o-preserved c =
    let o = c.args.owner.now in
    let i = c.loop-o.o-index in
    elim c.if-o-v.branch [
      | then-o-v w ↦ omega (arith, w.n-is, blocks_hit c.args.v o i c.loop-o-test.true w.if-o-v.true)
      | else-o-v w ↦ omega (arith, w.n-is, blocks_miss c.args.v o i c.loop-o-test.true w.if-o-v.false)
    ]

pub returns : goal.returns
unfolding blocks
returns c = let e = ap (blocks c.args.v) (drop_of_length-le c.args.owner.now c.loop-o-test.false) in omega arith
