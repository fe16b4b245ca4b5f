use borrow.Author.Tests.{lt-ltb, le-ltb}
use Rattle.sending.specs.Sending.{sending_of}
use Rattle.sending.proofs.SendLaws.{least_is_min}
use Rattle.sending.proofs.send_next.Goals as goal

pub returns-then-at-size : goal.returns-then-at-size
unfolding sending_of
returns-then-at-size c = rw (← c.get-f.ensures, lt-ltb _ _ c.if-at-size.true, ← least_is_min _, ← c.min-n.ensures) c.send_data.ensures

pub returns : goal.returns
unfolding sending_of
returns c = rw (← c.get-f.ensures, le-ltb _ _ c.if-at-size.false, c.with_down.ensures, ← c.send.ensures)
