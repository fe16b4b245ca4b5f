use Rattle.packet.specs.Names.{bytes_of}
use Rattle.marking.proofs.VerdictLaws.{told_right, told_wrong}
use Rattle.marking.proofs.verdict.tell.Goals as goal

pub put-requires : goal.put-requires
put-requires c = tt

pub returns-then-matched-answer : goal.returns-then-matched-answer
unfolding bytes_of
returns-then-matched-answer c = told_right c.args.matched c.args.at _ c.args.answer.now c.args.text.now _ c.if-matched-answer.true c.put.ensures

pub least-front-requires : goal.least-front-requires
least-front-requires c = tt

pub put-requires-2 : goal.put-requires-2
put-requires-2 c = tt

pub returns : goal.returns
unfolding bytes_of
returns c = told_wrong c.args.matched c.args.at _ c.args.answer.now c.args.text.now _ _ c.if-matched-answer.false c.least-front.ensures.2 c.put-2.ensures
