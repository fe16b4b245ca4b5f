use borrow.Author.Tests.{lt-ltb, le-ltb}
use Rattle.packet.specs.Feed.{wanted_of}
use Rattle.packet.proofs.frame.wanted.Goals as goal

pub returns-then-n-lt2 : goal.returns-then-n-lt2
unfolding wanted_of
returns-then-n-lt2 c = simp (lt-ltb _ _ c.if-n-lt2.true)

pub returns-then-count-gt256 : goal.returns-then-count-gt256
unfolding wanted_of
returns-then-count-gt256 c = simp (le-ltb _ _ c.if-n-lt2.false, ← c.announced_by-count.ensures.0, lt-ltb _ _ c.if-count-gt256.true)

pub returns-then-n-count : goal.returns-then-n-count
unfolding wanted_of
returns-then-n-count c = simp (le-ltb _ _ c.if-n-lt2.false, ← c.announced_by-count.ensures.0, le-ltb _ _ c.if-count-gt256.false, lt-ltb _ _ c.if-n-count.true)

pub returns : goal.returns
unfolding wanted_of
returns c = simp (le-ltb _ _ c.if-n-lt2.false, ← c.announced_by-count.ensures.0, le-ltb _ _ c.if-count-gt256.false, le-ltb _ _ c.if-n-count.false)
