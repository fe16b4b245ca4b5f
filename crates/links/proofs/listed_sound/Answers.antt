-- `links::listed_sound` meets its contract. Assumes nothing.
use Rattle.links.specs.Sound.{listed_sound}
use Rattle.links.proofs.listed_sound.Goals as goal

pub returns-in-One : goal.returns-in-One
unfolding listed_sound
returns-in-One c = rw c.in-One.is c.complete_at.ensures

pub returns-in-Selected : goal.returns-in-Selected
unfolding listed_sound
returns-in-Selected c = rw c.in-Selected.is
