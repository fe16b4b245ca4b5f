use borrow.Author.Tests.{lt-ltb, le-ltb}
use Rattle.packet.specs.Feed.{mark_of}
use Rattle.packet.proofs.frame.mark_of.Goals as goal

pub returns-then-n-lt2 : goal.returns-then-n-lt2
unfolding mark_of
returns-then-n-lt2 c = simp (lt-ltb _ _ c.if-n-lt2.true)

pub returns-then-size-gt256 : goal.returns-then-size-gt256
unfolding mark_of
returns-then-size-gt256 c = simp (le-ltb _ _ c.if-n-lt2.false, ← c.announced_by-size.ensures.0, lt-ltb _ _ c.if-size-gt256.true)

pub returns-then-n-size : goal.returns-then-n-size
unfolding mark_of
returns-then-n-size c = simp (le-ltb _ _ c.if-n-lt2.false, ← c.announced_by-size.ensures.0, le-ltb _ _ c.if-size-gt256.false, lt-ltb _ _ c.if-n-size.true)

pub returns : goal.returns
unfolding mark_of
returns c = simp (le-ltb _ _ c.if-n-lt2.false, ← c.announced_by-size.ensures.0, le-ltb _ _ c.if-size-gt256.false, le-ltb _ _ c.if-n-size.false)
