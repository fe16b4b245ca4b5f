-- `links::link_sound` meets its contract. Assumes nothing.
use Rattle.links.specs.Sound.{link_sound}
use Rattle.links.proofs.link_sound.Goals as goal

pub returns-then-selection_sound : goal.returns-then-selection_sound
unfolding link_sound
returns-then-selection_sound c = rw (c.if-s.true, ← c.uplink_sound.ensures, c.if-uplink_sound.true, ← c.downlink_sound.ensures, c.if-downlink_sound.true, ← c.selection_sound.ensures, c.if-selection_sound.true) c.packet_sound.ensures

pub returns-else-selection_sound : goal.returns-else-selection_sound
unfolding link_sound
returns-else-selection_sound c = rw (c.if-s.true, ← c.uplink_sound.ensures, c.if-uplink_sound.true, ← c.downlink_sound.ensures, c.if-downlink_sound.true, ← c.selection_sound.ensures, c.if-selection_sound.false)

pub returns-else-downlink_sound : goal.returns-else-downlink_sound
unfolding link_sound
returns-else-downlink_sound c = rw (c.if-s.true, ← c.uplink_sound.ensures, c.if-uplink_sound.true, ← c.downlink_sound.ensures, c.if-downlink_sound.false)

pub returns-else-uplink_sound : goal.returns-else-uplink_sound
unfolding link_sound
returns-else-uplink_sound c = rw (c.if-s.true, ← c.uplink_sound.ensures, c.if-uplink_sound.false)

pub returns : goal.returns
unfolding link_sound
returns c = rw c.if-s.false
