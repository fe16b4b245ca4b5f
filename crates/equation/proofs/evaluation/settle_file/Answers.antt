-- `equation::evaluation::settle_file` meets its contract. Assumes nothing.
use Rattle.equation.specs.Marks.{settled_by}
use Rattle.equation.proofs.Settled as settles
use Rattle.equation.proofs.evaluation.settle_file.Goals as goal

pub returns-then-starts_with : goal.returns-then-starts_with
returns-then-starts_with c = rw (settles.fields_at c.args.file.now _ c.starts_with.ensures.value, c.if-starts_with.true) c.settle_items.ensures

pub returns-else-starts_with : goal.returns-else-starts_with
unfolding settled_by
returns-else-starts_with c = rw (settles.fields_at c.args.file.now _ c.starts_with.ensures.value, c.if-starts_with.false)
