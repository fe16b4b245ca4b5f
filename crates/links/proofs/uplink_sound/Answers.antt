-- `links::uplink_sound` meets its contract. Assumes nothing.
use borrow.Author.Tests.{eq-eqb, ne_eqb}
use Rattle.links.specs.Sound.{uplink_sound}
use Rattle.links.proofs.uplink_sound.Goals as goal

pub returns-then-f-eq0 : goal.returns-then-f-eq0
unfolding uplink_sound
returns-then-f-eq0 c = rw (c.in-Receiving.is, ← c.get-f.ensures, eq-eqb _ _ c.if-f-eq0.true)

pub returns-then-f-ne0 : goal.returns-then-f-ne0
unfolding uplink_sound
returns-then-f-ne0 c = rw (c.in-Receiving.is, ← c.get-f.ensures, ne_eqb _ _ c.if-f-eq0.false, ne_eqb _ _ c.if-f-ne0.true)

pub returns-in-Idle : goal.returns-in-Idle
unfolding uplink_sound
returns-in-Idle c = rw c.in-Idle.is

pub returns-else-f-ne0 : goal.returns-else-f-ne0
unfolding uplink_sound
returns-else-f-ne0 c = rw (c.in-Receiving.is, ← c.get-f.ensures, ne_eqb _ _ c.if-f-eq0.false, eq-eqb _ _ c.if-f-ne0.false)

pub returns-in-Ignoring : goal.returns-in-Ignoring
unfolding uplink_sound
returns-in-Ignoring c = rw c.in-Ignoring.is
