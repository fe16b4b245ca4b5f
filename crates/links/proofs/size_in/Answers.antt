-- `links::size_in` meets its contract. Assumes nothing.
use Rattle.links.specs.Sound.{size_in}
use Rattle.std.proofs.Common.{rules}
use Rattle.links.proofs.size_in.Goals as goal

pub returns-in-None : goal.returns-in-None
unfolding size_in
returns-in-None c = rw c.in-None.is

pub returns-in-Some : goal.returns-in-Some
unfolding size_in
returns-in-Some c = search rules
