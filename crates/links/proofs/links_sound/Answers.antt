-- `links::links_sound` meets its contract. Assumes nothing.
use native.Mathlib.Omega.{arith}
use native.Mathlib.Nat.{mul-le-mul}
use borrow.Author.Tests.{le-leb, lt-leb}
use Rattle.links.specs.Sound.{links_sound}
use Rattle.links.proofs.links_sound.Goals as goal

pub returns-then-sessions-gt4 : goal.returns-then-sessions-gt4
unfolding links_sound
returns-then-sessions-gt4 c = rw (lt-leb _ _ c.if-sessions-gt4.true)

pub returns-then-most-gt50 : goal.returns-then-most-gt50
unfolding links_sound
returns-then-most-gt50 c = rw (le-leb _ _ c.if-sessions-gt4.false, lt-leb _ _ c.if-most-gt50.true)

pub overflow_mul-sessions : goal.overflow_mul-sessions
overflow_mul-sessions c = omega (arith, mul-le-mul c.if-sessions-gt4.false c.if-most-gt50.false)

pub returns-then-selected-sessions : goal.returns-then-selected-sessions
unfolding links_sound
returns-then-selected-sessions c = rw (le-leb _ _ c.if-sessions-gt4.false, le-leb _ _ c.if-most-gt50.false, lt-leb _ _ c.if-selected-sessions.true)

pub returns-then-held-sessions : goal.returns-then-held-sessions
unfolding links_sound
returns-then-held-sessions c = rw (le-leb _ _ c.if-sessions-gt4.false, le-leb _ _ c.if-most-gt50.false, le-leb _ _ c.if-selected-sessions.false, lt-leb _ _ c.if-held-sessions.true)

pub returns-then-link_at-3 : goal.returns-then-link_at-3
unfolding links_sound
returns-then-link_at-3 c = rw (le-leb _ _ c.if-sessions-gt4.false, le-leb _ _ c.if-most-gt50.false, le-leb _ _ c.if-selected-sessions.false, le-leb _ _ c.if-held-sessions.false, ← c.link_at.ensures, c.if-link_at.true, ← c.link_at-then-link_at.ensures, c.if-link_at-2.true, ← c.link_at-then-link_at-2.ensures, c.if-link_at-3.true) c.link_at-then-link_at-3.ensures

pub returns-else-link_at-3 : goal.returns-else-link_at-3
unfolding links_sound
returns-else-link_at-3 c = rw (le-leb _ _ c.if-sessions-gt4.false, le-leb _ _ c.if-most-gt50.false, le-leb _ _ c.if-selected-sessions.false, le-leb _ _ c.if-held-sessions.false, ← c.link_at.ensures, c.if-link_at.true, ← c.link_at-then-link_at.ensures, c.if-link_at-2.true, ← c.link_at-then-link_at-2.ensures, c.if-link_at-3.false)

pub returns-else-link_at-2 : goal.returns-else-link_at-2
unfolding links_sound
returns-else-link_at-2 c = rw (le-leb _ _ c.if-sessions-gt4.false, le-leb _ _ c.if-most-gt50.false, le-leb _ _ c.if-selected-sessions.false, le-leb _ _ c.if-held-sessions.false, ← c.link_at.ensures, c.if-link_at.true, ← c.link_at-then-link_at.ensures, c.if-link_at-2.false)

pub returns-else-link_at : goal.returns-else-link_at
unfolding links_sound
returns-else-link_at c = rw (le-leb _ _ c.if-sessions-gt4.false, le-leb _ _ c.if-most-gt50.false, le-leb _ _ c.if-selected-sessions.false, le-leb _ _ c.if-held-sessions.false, ← c.link_at.ensures, c.if-link_at.false)
