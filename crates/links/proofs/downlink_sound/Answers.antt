-- `links::downlink_sound` meets its contract. Assumes nothing.
use borrow.Author.Tests.{eq-eqb, ne_eqb}
use Rattle.links.specs.Sound.{downlink_sound}
use Rattle.links.proofs.downlink_sound.Goals as goal

pub returns-then-upload_time_of-eq0 : goal.returns-then-upload_time_of-eq0
unfolding downlink_sound
returns-then-upload_time_of-eq0 c = rw (c.in-Sending.is, ← c.get-f.ensures, ← c.upload_time_of.ensures, eq-eqb _ _ c.if-upload_time_of-eq0.true)

pub returns-in-Idle : goal.returns-in-Idle
unfolding downlink_sound
returns-in-Idle c = rw c.in-Idle.is

pub returns-else-upload_time_of-eq0 : goal.returns-else-upload_time_of-eq0
unfolding downlink_sound
returns-else-upload_time_of-eq0 c = rw (c.in-Sending.is, ← c.get-f.ensures, ← c.upload_time_of.ensures, ne_eqb _ _ c.if-upload_time_of-eq0.false)

pub returns-in-Ended : goal.returns-in-Ended
unfolding downlink_sound
returns-in-Ended c = rw c.in-Ended.is c.complete_at.ensures

pub returns-in-Aborting : goal.returns-in-Aborting
unfolding downlink_sound
returns-in-Aborting c = rw c.in-Aborting.is c.complete_at-in-Aborting.ensures

pub returns-in-Listing : goal.returns-in-Listing
unfolding downlink_sound
returns-in-Listing c = rw c.in-Listing.is c.directory_sound.ensures
