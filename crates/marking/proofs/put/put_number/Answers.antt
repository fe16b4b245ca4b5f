use Rattle.std.proofs.Common.{arith}
use Rattle.marking.proofs.PutLaws.{number_put}
use Rattle.marking.proofs.put.put_number.Goals as goal

pub error_line-size-requires : goal.error_line-size-requires
error_line-size-requires c = tt

pub least-end-requires : goal.least-end-requires
least-end-requires c = tt

pub least-start-requires : goal.least-start-requires
least-start-requires c = tt

pub put-requires : goal.put-requires
put-requires c = tt

pub returns : goal.returns
returns c = number_put c.args.word.now c.args.text.now _ _ c.args.at c.args.number _ _ _ _ (omega arith) c.error_line-size.ensures c.least-end.ensures.2 c.least-start.ensures.2 c.put.ensures
