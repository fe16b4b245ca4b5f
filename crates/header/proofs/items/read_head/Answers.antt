use Rattle.std.proofs.Common.{◌+◌, arith}
use Rattle.header.proofs.Walk.{head_short, head_end, head_zero, head_over, head_item}
use Rattle.header.proofs.items.read_head.Goals as goal

pub returns-then-bytes-lt3 : goal.returns-then-bytes-lt3
returns-then-bytes-lt3 c = head_short _ c.args.at (omega arith)

pub returns-then-bytes-at : goal.returns-then-bytes-at
returns-then-bytes-at c = head_short _ c.args.at (omega arith)

pub overflow_cast-n : goal.overflow_cast-n
overflow_cast-n c = omega (arith, c.type_inv.bytes (c.args.at + 2))

pub returns-then-n-eq0 : goal.returns-then-n-eq0
returns-then-n-eq0 c = head_end _ c.args.at _ (omega arith) c.number16-id.ensures c.if-id-eq0.true c.if-n-eq0.true

pub returns-then-id-eq0 : goal.returns-then-id-eq0
returns-then-id-eq0 c = head_zero _ c.args.at _ (omega arith) c.number16-id.ensures c.if-id-eq0.true c.if-n-eq0.false

pub returns-then-bytes-at-2 : goal.returns-then-bytes-at-2
returns-then-bytes-at-2 c = head_over _ c.args.at _ (omega arith) c.number16-id.ensures c.if-id-eq0.false c.if-bytes-at-2.true

pub returns : goal.returns
returns c = head_item _ c.args.at _ (omega arith) c.number16-id.ensures c.if-id-eq0.false c.if-bytes-at-2.false
