-- `links::complete_at` meets its contract. Assumes nothing.
use Rattle.links.proofs.complete_at.Goals as goal

pub returns : goal.returns
returns c = rw (c.upload_time_of.ensures, c.get-f.ensures)
