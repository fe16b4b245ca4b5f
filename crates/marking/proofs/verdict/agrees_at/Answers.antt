use Rattle.marking.proofs.VerdictLaws.{agrees_short, agrees_part}
use Rattle.marking.proofs.verdict.agrees_at.Goals as goal

pub least-start-requires : goal.least-start-requires
least-start-requires c = tt

pub returns-then-answer-start : goal.returns-then-answer-start
returns-then-answer-start c = agrees_short c.args.at _ c.args.answer.now c.args.part.now c.least-start.ensures.2 c.if-answer-start.true

pub is_same-requires : goal.is_same-requires
is_same-requires c = tt

pub returns : goal.returns
returns c = agrees_part c.args.at _ c.args.answer.now c.args.part.now c.least-start.ensures.2 _ c.is_same.ensures
