-- `why::older_where` meets its contract.
use Rattle.why.proofs.older_where.Goals as goal

pub returns-then-matched : goal.returns-then-matched
returns-then-matched c = rw c.if-matched.true c.count_older.ensures
