use Rattle.std.proofs.Common.{sym, length-take-le}
use Rattle.marking.proofs.VerdictLaws.{concluded}
use Rattle.marking.proofs.conclude.Goals as goal

pub least-size-requires : goal.least-size-requires
least-size-requires c = tt

pub least-end-requires : goal.least-end-requires
least-end-requires c = tt

pub least-start-requires : goal.least-start-requires
least-start-requires c = tt

pub slice_bounds-judge-end : goal.slice_bounds-judge-end
slice_bounds-judge-end c = sym (length-take-le c.least-size.result c.args.out.now c.least-size.ensures.1)

pub judge-judged-requires : goal.judge-judged-requires
judge-judged-requires c = tt

pub returns : goal.returns
returns c = concluded c.args.stepped.day c.args.verdict c.args.answer c.args.input.now c.args.out.now c.args.text.now _ c.args.at c.args.stepped.written _ _ _ _ c.least-size.ensures.2 c.least-end.ensures.2 c.least-start.ensures.2 c.judge-judged.ensures
