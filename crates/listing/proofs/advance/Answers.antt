use borrow.Author.Tests.{lt-ltb, le-ltb, le-leb, lt-leb}
use Rattle.listing.specs.Progress.{advanced}
use Rattle.listing.proofs.advance.Goals as goal

pub returns-then-size-p : goal.returns-then-size-p
unfolding advanced
returns-then-size-p c = rw (le-leb _ _ c.if-size-p.true)

pub returns-then-room-left : goal.returns-then-room-left
unfolding advanced
returns-then-room-left c = rw (lt-leb _ _ c.if-size-p.false, lt-ltb _ _ c.if-room-left.true)

pub returns : goal.returns
unfolding advanced
returns c = rw (lt-leb _ _ c.if-size-p.false, le-ltb _ _ c.if-room-left.false)
