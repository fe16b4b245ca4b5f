use Rattle.std.proofs.Common.{◌≡◌, ◌+◌, ◌*◌, arith}
use Rattle.lines.proofs.PairLaws.{pairs_first, pairs_next, pairs_last}
use Rattle.lines.proofs.numeral.pair_up.Goals as goal

pub loop-k-init : goal.loop-k-init
loop-k-init c = pairs_first _ _ (omega arith)

pub loop-k-preserved : goal.loop-k-preserved
loop-k-preserved c =
    let l = c.loop-k in
    let e : 2 * (l.k + 1) ≡ 2 * l.k + 2 = omega arith in
    rw (c.pair_of.ensures, e) (pairs_next l.pairs l.k c.args.digits.now (2 * l.k) _ (omega arith) l.invariant)

pub returns : goal.returns
returns c = let l = c.loop-k in pairs_last l.pairs l.k c.args.digits.now (2 * l.k) _ (omega arith) l.invariant
