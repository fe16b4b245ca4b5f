use Rattle.marking.proofs.VerdictLaws.{line_judged}
use Rattle.marking.proofs.verdict.judge.Goals as goal

pub tail_end-requires : goal.tail_end-requires
tail_end-requires c = tt

pub least-end-requires : goal.least-end-requires
least-end-requires c = tt

pub near_tab-requires : goal.near_tab-requires
near_tab-requires c = tt

pub least-start-requires : goal.least-start-requires
least-start-requires c = tt

pub judge_part-requires : goal.judge_part-requires
judge_part-requires c = tt

pub returns : goal.returns
returns c = line_judged c.args.verdict c.args.answer.now c.args.line.now c.args.text.now _ c.args.at _ _ _ _ _ c.tail_end.ensures c.least-end.ensures.2 c.near_tab.ensures c.least-start.ensures.2 c.judge_part.ensures
