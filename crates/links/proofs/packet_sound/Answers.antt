-- `links::packet_sound` meets its contract. Assumes nothing.
use native.Mathlib.Omega.{arith}
use borrow.Author.Tests.{lt-ltb, le-ltb, le-leb, lt-leb}
use Rattle.links.specs.Sound.{packet_sound}
use Rattle.links.proofs.packet_sound.Goals as goal

pub returns-then-held-lt2 : goal.returns-then-held-lt2
unfolding packet_sound
returns-then-held-lt2 c = rw (lt-ltb _ _ c.if-held-lt2.true)

pub overflow_cast-size : goal.overflow_cast-size
overflow_cast-size c = omega (arith, c.type_inv.part 0)

pub overflow_cast-size-2 : goal.overflow_cast-size-2
overflow_cast-size-2 c = omega (arith, c.type_inv.part 1)

pub overflow_mul-size : goal.overflow_mul-size
overflow_mul-size c = omega (arith, c.type_inv.part 1)

pub overflow_add-size : goal.overflow_add-size
overflow_add-size c = omega (arith, c.type_inv.part 0, c.type_inv.part 1)

pub returns-then-size-gt256 : goal.returns-then-size-gt256
unfolding packet_sound
returns-then-size-gt256 c = rw (le-ltb _ _ c.if-held-lt2.false, lt-leb _ _ c.if-size-gt256.true)

pub returns : goal.returns
unfolding packet_sound
returns c = rw (le-ltb _ _ c.if-held-lt2.false, le-leb _ _ c.if-size-gt256.false)
