use Rattle.marking.proofs.VerdictLaws.{part_rest, part_open, part_told}
use Rattle.marking.proofs.verdict.judge_part.Goals as goal

pub go_on-requires : goal.go_on-requires
go_on-requires c = tt

pub put-requires : goal.put-requires
put-requires c = tt

pub returns-in-Rest : goal.returns-in-Rest
returns-in-Rest c = part_rest c.args.verdict c.args.answer.now c.args.part.now c.args.text.now c.args.at c.in-Rest.is

pub returns-in-Open : goal.returns-in-Open
returns-in-Open c = part_open c.args.verdict c.args.answer.now c.args.part.now c.args.text.now _ c.args.at _ _ c.in-Open.is c.go_on.ensures

pub returns-in-Told : goal.returns-in-Told
returns-in-Told c = part_told c.args.verdict c.args.answer.now c.args.part.now c.args.text.now _ c.args.at _ c.in-Told.is c.put.ensures
