-- `links::selection_sound` meets its contract. Assumes nothing.
use borrow.Author.Tests.{le-leb, lt-leb}
use Rattle.links.specs.Sound.{selection_sound}
use Rattle.links.proofs.selection_sound.Goals as goal

pub returns-then-most-count : goal.returns-then-most-count
unfolding selection_sound
returns-then-most-count c = rw (lt-leb _ _ c.if-most-count.true)

pub returns-then-count-next : goal.returns-then-count-next
unfolding selection_sound
returns-then-count-next c = rw (le-leb _ _ c.if-most-count.false, lt-leb _ _ c.if-count-next.true)

pub returns : goal.returns
unfolding selection_sound
returns c = rw (le-leb _ _ c.if-most-count.false, le-leb _ _ c.if-count-next.false) c.names_sound.ensures
