-- `blocks::lowest_free` meets its contract. The invariant: the lowest free block is the lowest of the words left.
use Rattle.std.proofs.Common.{ap, arith, drop_of_length-le}
use Rattle.blocks.specs.FreeMap.{lowest}
use Rattle.blocks.proofs.Lowest.{low_found, low_next}
use Rattle.blocks.proofs.lowest_free.Goals as goal

pub returns-then-w-ne0 : goal.returns-then-w-ne0
returns-then-w-ne0 c = let e = low_found c.args.map.now c.loop-i.i c.loop-i-test.true (omega arith) in omega arith

pub loop-i-preserved : goal.loop-i-preserved
loop-i-preserved c = let e = low_next c.args.map.now c.loop-i.i c.loop-i-test.true (omega arith) in omega arith

pub returns : goal.returns
unfolding lowest
returns c = let e = ap lowest (drop_of_length-le c.args.map.now c.loop-i-test.false) in omega arith
