use Rattle.std.proofs.Common.{◌≡◌, drop, arith, drop_of_length-le}
use Rattle.header.specs.Header.{sum_of}
use Rattle.header.proofs.Machine.{sum_step}
use Rattle.header.proofs.scan.add_bytes.Goals as goal

pub loop-b-preserved : goal.loop-b-preserved
loop-b-preserved c = (omega arith, omega (arith, sum_step c.args.part.now c.loop-b.b-index c.loop-b-test.true))

pub returns : goal.returns
unfolding sum_of
returns c = let e : sum_of (drop c.loop-b.b-index c.args.part.now) ≡ 0 = rw (drop_of_length-le c.args.part.now c.loop-b-test.false) in omega arith
