-- `back::put_connective` meets its contract. Assumes nothing.
use Rattle.writing.proofs.Parts as parts
use Rattle.back.proofs.put_connective.Goals as goal

pub returns-then-p-eq1 : goal.returns-then-p-eq1
returns-then-p-eq1 c =
    rw (← parts.connective_and c.args.p c.if-p-eq1.true)
    c.put_all.ensures

pub returns-else-p-eq1 : goal.returns-else-p-eq1
returns-else-p-eq1 c =
    rw (← parts.connective_or c.args.p c.if-p-eq1.false)
    c.put_all-else-p-eq1.ensures
