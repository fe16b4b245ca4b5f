use Rattle.std.proofs.Common.{eq-eqb, ne_eqb}
use Rattle.lines.specs.Commands.{ends_at}
use Rattle.lines.proofs.commands.number_to.Goals as goal

pub returns-in_err-value : goal.returns-in_err-value
unfolding ends_at
returns-in_err-value c = rw (c.from_residual.ensures, ← c.decimal.ensures, c.in_err-value.was)

pub returns-then-next-end : goal.returns-then-next-end
unfolding ends_at
returns-then-next-end c = rw (← c.decimal.ensures, c.in_ok-value.was, eq-eqb c.in_ok-value.next c.args.end c.if-next-end.true)

pub returns-else-next-end : goal.returns-else-next-end
unfolding ends_at
returns-else-next-end c = rw (← c.decimal.ensures, c.in_ok-value.was, ne_eqb c.in_ok-value.next c.args.end c.if-next-end.false)
