-- `links::directory_sound` meets its contract. Assumes nothing.
use borrow.Author.Tests.{lt-leb, le-leb}
use Rattle.links.specs.Sound.{directory_sound}
use Rattle.links.proofs.directory_sound.Goals as goal

pub returns-then-count-done : goal.returns-then-count-done
unfolding directory_sound
returns-then-count-done c = rw (← c.listed_sound.ensures, c.if-listed_sound.true, ← c.count.ensures, lt-leb _ _ c.if-count-done.true)

pub returns-then-listed_sound : goal.returns-then-listed_sound
unfolding directory_sound
returns-then-listed_sound c = rw (← c.listed_sound.ensures, c.if-listed_sound.true, ← c.count.ensures, le-leb _ _ c.if-count-done.false, ← c.found_at-found.ensures, ← c.size_in.ensures)

pub returns : goal.returns
unfolding directory_sound
returns c = rw (← c.listed_sound.ensures, c.if-listed_sound.false)
