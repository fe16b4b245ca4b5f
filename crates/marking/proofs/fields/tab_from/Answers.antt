use Rattle.std.proofs.Common.{add-one, arith}
use Rattle.marking.proofs.TabLaws.{tab_here, tab_on, tab_end}
use Rattle.marking.proofs.fields.tab_from.Goals as goal

pub returns-then-line-n-eq9 : goal.returns-then-line-n-eq9
returns-then-line-n-eq9 c = omega (arith, c.loop-n.invariant, tab_here c.args.line.now c.loop-n.n c.loop-n-test.true c.if-line-n-eq9.true)

pub loop-n-preserved : goal.loop-n-preserved
loop-n-preserved c = rw add-one (omega (arith, c.loop-n.invariant, tab_on c.args.line.now c.loop-n.n c.loop-n-test.true c.if-line-n-eq9.false))

pub returns : goal.returns
returns c = omega (arith, c.loop-n.invariant, tab_end c.args.line.now c.loop-n.n c.loop-n-test.false, c.requires.within)
