use Rattle.marking.proofs.VerdictLaws.{finish_rest, finish_open, finish_told}
use Rattle.marking.proofs.verdict.finish.Goals as goal

pub tell-requires : goal.tell-requires
tell-requires c = tt

pub put-requires : goal.put-requires
put-requires c = tt

pub returns-in-Rest : goal.returns-in-Rest
returns-in-Rest c = finish_rest c.args.verdict c.args.answer.now c.args.text.now c.args.at c.in-Rest.is

pub returns-in-Open : goal.returns-in-Open
returns-in-Open c = finish_open c.args.verdict c.args.answer.now c.args.text.now _ c.args.at _ _ c.in-Open.is c.tell.ensures

pub returns-in-Told : goal.returns-in-Told
returns-in-Told c = finish_told c.args.verdict c.args.answer.now c.args.text.now _ c.args.at _ c.in-Told.is c.put.ensures
