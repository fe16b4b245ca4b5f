-- `blocks::count_bits` meets its contract. The invariant: what is counted and what is left are all one bits.
use Rattle.std.proofs.Common.{◌≤◌, ap, get_or, arith, drop_of_length-le}
use lib.Count.{ones, ones-le}
use Rattle.blocks.specs.FreeMap.{free_count}
use Rattle.blocks.proofs.Bits.{count_step}
use Rattle.blocks.proofs.count_bits.Goals as goal

pub loop-w-preserved : goal.loop-w-preserved
loop-w-preserved c =
    let i = c.loop-w.w-index in
    let few : ones (get_or c.args.map.now i 0) ≤ 64 = ones-le 64 _ (c.type_inv.map i).fits in
    omega (arith, few, count_step c.args.map.now i c.loop-w-test.true)

pub returns : goal.returns
unfolding free_count
returns c = let e = ap free_count (drop_of_length-le c.args.map.now c.loop-w-test.false) in omega arith
