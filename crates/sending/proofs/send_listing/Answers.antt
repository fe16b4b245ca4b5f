-- `sending::send_listing` meets its contract. Assumes nothing.
use Rattle.listing.proofs.FillLaws.{fill_size, fill_whole}
use Rattle.sending.proofs.send_listing.Goals as goal

pub send_filled-requires : goal.send_filled-requires
send_filled-requires c = rw c.fill-f.ensures (fill_size _ _ _, fill_whole _ _ _, c.requires)

pub returns : goal.returns
returns c = rw (← c.fill-f.ensures) c.send_filled.ensures
