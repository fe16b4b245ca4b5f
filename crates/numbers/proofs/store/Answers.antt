use native.Mathlib.Omega.{arith}
use lib.ListN.{length-set}
use Rattle.numbers.proofs.NumberLaws.{stored_next, stored_all}
use Rattle.numbers.proofs.store.Goals as goal

pub loop-i-preserved : goal.loop-i-preserved
loop-i-preserved c =
    let e = c in
    let l = c.loop-i in
    (simp length-set (omega arith), l.invariant.1, stored_next e.args.to.now e.args.at e.args.from.now l.to l.i (omega arith) (omega arith) l.invariant.2)

pub returns-clause-to_after : goal.returns-clause-to_after
returns-clause-to_after c =
    let e = c in
    let l = c.loop-i in
    stored_all e.args.to.now e.args.at e.args.from.now l.to l.i (omega arith) (omega arith) l.invariant.2
