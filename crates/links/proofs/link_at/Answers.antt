-- `links::link_at` meets its contract. Assumes nothing.
use native.Mathlib.Omega.{arith}
use native.Mathlib.Nat.{mul-le-mul, add-sub_cancel_left}
use borrow.Author.Tests.{lt-ltb, le-ltb}
use Rattle.links.specs.Sound.{link_in}
use Rattle.links.proofs.Facts.{part_end}
use Rattle.links.proofs.link_at.Goals as goal

pub overflow_mul-a : goal.overflow_mul-a
overflow_mul-a c = omega (arith, mul-le-mul c.requires.0 c.requires.2)

pub overflow_add-a : goal.overflow_add-a
overflow_add-a c = omega (arith, mul-le-mul c.requires.0 c.requires.2)

pub offset_bounds-selected-a : goal.offset_bounds-selected-a
offset_bounds-selected-a c = omega (arith, mul-le-mul c.requires.0 c.requires.2)

pub slice_bounds-link_sound-end : goal.slice_bounds-link_sound-end
slice_bounds-link_sound-end c = omega (arith, part_end _ _ c.args.most c.if-i-sessions.true)

pub returns-then-i-sessions : goal.returns-then-i-sessions
unfolding link_in
returns-then-i-sessions c = simp (lt-ltb _ _ c.if-i-sessions.true, c.link_sound.ensures, add-sub_cancel_left)

pub returns : goal.returns
unfolding link_in
returns c = rw (le-ltb _ _ c.if-i-sessions.false)
