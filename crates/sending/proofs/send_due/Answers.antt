-- `sending::send_due` meets its contract. Assumes nothing.
use Rattle.sending.specs.Sending.{due_of, sending_of, data_of, listed_as}
use Rattle.sending.proofs.send_due.Goals as goal

pub returns-in-Sending : goal.returns-in-Sending
unfolding due_of sending_of data_of
returns-in-Sending c = rw c.in-Sending.is c.send_next.ensures

pub returns-in-Aborting : goal.returns-in-Aborting
unfolding due_of
returns-in-Aborting c = rw (c.in-Aborting.is, c.with_down.ensures, ← c.send.ensures)

pub returns-in-Listing : goal.returns-in-Listing
unfolding due_of listed_as
returns-in-Listing c = rw c.in-Listing.is c.send_listing.ensures
