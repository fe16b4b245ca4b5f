-- `sending::due` meets its contract. Assumes nothing.
use borrow.Author.Tests.{lt-ltb, le-ltb}
use Rattle.sending.specs.Sending.{due_in}
use Rattle.sending.proofs.due.Goals as goal

pub returns-then-out-lt258 : goal.returns-then-out-lt258
unfolding due_in
returns-then-out-lt258 c = rw (lt-ltb _ _ c.if-out-lt258.true)

pub returns : goal.returns
unfolding due_in
returns c = rw (le-ltb _ _ c.if-out-lt258.false) c.send_due.ensures
