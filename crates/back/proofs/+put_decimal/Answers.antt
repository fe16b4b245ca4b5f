-- `back::put_decimal` meets its contract. Assumes nothing.
use Rattle.std.proofs.Common.{arith}
use Rattle.writing.proofs.Pieces as pieces
use Rattle.back.proofs.+put_decimal.Goals as goal

pub put-requires : goal.put-requires
put-requires t c = pieces.decimal_some c.args.v c.args.n c.args.out.now c.requires

pub returns-then-v-lt10 : goal.returns-then-v-lt10
returns-then-v-lt10 t c =
    pieces.decimal_one c.args.v c.args.n c.args.out.now c.if-v-lt10.true c.put.result c.put.new.out c.put.ensures

pub put-k-requires : goal.put-k-requires
put-k-requires t c = pieces.decimal_some c.args.v c.args.n c.args.out.now c.requires

pub put_decimal-requires : goal.put_decimal-requires
put_decimal-requires t c =
    let k = c.put-k in (
      omega (arith, c.decreases, c.if-v-lt10.false),
      pieces.decimal_left c.args.v c.args.n c.args.out.now c.if-v-lt10.false k.result k.new.out k.ensures c.requires,
    )

pub returns : goal.returns
returns t c =
    let k = c.put-k in
    let rest = c.put_decimal in
    pieces.decimal_more c.args.v c.args.n c.args.out.now c.if-v-lt10.false k.result k.new.out k.ensures rest.result rest.new.out rest.ensures
