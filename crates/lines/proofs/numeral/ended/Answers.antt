use Rattle.std.proofs.Common.{eq-eqb, ne_eqb}
use Rattle.lines.proofs.numeral.ended.Goals as goal

pub returns-then-at-end : goal.returns-then-at-end
returns-then-at-end c = rw (eq-eqb c.args.at c.args.end c.if-at-end.true)

pub returns-else-at-end : goal.returns-else-at-end
returns-else-at-end c = rw (ne_eqb c.args.at c.args.end c.if-at-end.false)
