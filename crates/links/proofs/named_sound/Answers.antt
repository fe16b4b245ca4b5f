-- `links::named_sound` meets its contract. Assumes nothing.
use Rattle.links.specs.Sound.{named_at}
use Rattle.links.proofs.named_sound.Goals as goal

pub returns-in-None : goal.returns-in-None
unfolding named_at
returns-in-None c = rw (← c.find-found.ensures, c.in-None.is)

pub returns-in-Some : goal.returns-in-Some
unfolding named_at
returns-in-Some c = rw (← c.find-found.ensures, c.in-Some.is) c.complete_at.ensures
