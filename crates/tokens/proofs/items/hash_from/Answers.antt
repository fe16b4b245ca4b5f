use Rattle.std.proofs.Common.{◌≡◌, arith}
use Rattle.tokens.proofs.TokenLaws as laws
use Rattle.tokens.proofs.items.hash_from.Goals as goal

pub loop-n-init : goal.loop-n-init
loop-n-init c = laws.hashing_none c.args.text.now c.args.at c.requires

pub overflow_mul-v : goal.overflow_mul-v
overflow_mul-v c = omega (arith, c.loop-n.invariant.small_3 (omega arith))

pub overflow_add-v : goal.overflow_add-v
overflow_add-v c = omega (arith, c.loop-n.invariant.small_3 (omega arith))

pub loop-n-preserved : goal.loop-n-preserved
loop-n-preserved c =
    let l = c.loop-n in
    let b = c.byte_of in
    let d = c.hex_value-d in
    laws.hashing_more c.args.text.now c.args.at l.n l.v l.invariant b.result d.result b.ensures d.ensures c.loop-n-test.true c.if-d-ge16.false

pub returns-then-d-ge16 : goal.returns-then-d-ge16
returns-then-d-ge16 c =
    let l = c.loop-n in
    let b = c.byte_of in
    let d = c.hex_value-d in
    laws.hashing_wrong c.args.text.now c.args.at l.n l.v l.invariant b.result d.result b.ensures d.ensures c.loop-n-test.true c.if-d-ge16.true

pub returns : goal.returns
returns c =
    let l = c.loop-n in
    let e : l.n ≡ 4 = omega (arith, l.invariant.most) in
    rw e at (laws.hashing_done c.args.text.now c.args.at l.n l.v l.invariant c.loop-n-test.false)
