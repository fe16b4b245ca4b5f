use native.Mathlib.Omega.{arith}
use native.Mathlib.Nat.{mul-le-mul}
use mathlib.Core.Path.{sym, ap, ◌∙◌}
use borrow.Author.Tests.{lt-ltb, le-ltb}
use lib.ListN.{length-set}
use Rattle.server.proofs.CheckLaws.{sizes_true}
use Rattle.embed.specs.Calls.{memory_by, filled}
use Rattle.embed.proofs.Checked.{seven_needs}
use Rattle.embed.proofs.figmorella_memory.Goals as goal

pub returns-then-need-lt7 : goal.returns-then-need-lt7
unfolding memory_by
returns-then-need-lt7 c = rw (lt-ltb _ _ c.if-need-lt7.true)

pub overflow_mul-need : goal.overflow_mul-need
overflow_mul-need c = let s = sizes_true _ _ _ _ (sym c.sizes_fit.ensures ∙ c.if-sizes_fit.true) in omega (arith, s.blocks, s.files, s.sessions)

pub bounds-need-1 : goal.bounds-need-1
bounds-need-1 c = simp length-set (omega (arith, c.if-need-lt7.false))

pub overflow_add-need : goal.overflow_add-need
overflow_add-need c = let s = sizes_true _ _ _ _ (sym c.sizes_fit.ensures ∙ c.if-sizes_fit.true) in omega (arith, s.blocks, s.files, s.sessions)

pub bounds-need-2 : goal.bounds-need-2
bounds-need-2 c = simp length-set (omega (arith, c.if-need-lt7.false))

pub bounds-need-3 : goal.bounds-need-3
bounds-need-3 c = simp length-set (omega (arith, c.if-need-lt7.false))

pub overflow_mul-need-then-sizes_fit : goal.overflow_mul-need-then-sizes_fit
overflow_mul-need-then-sizes_fit c = let s = sizes_true _ _ _ _ (sym c.sizes_fit.ensures ∙ c.if-sizes_fit.true) in omega (arith, s.blocks, s.files, s.sessions)

pub bounds-need-4 : goal.bounds-need-4
bounds-need-4 c = simp length-set (omega (arith, c.if-need-lt7.false))

pub overflow_mul-need-then-sizes_fit-2 : goal.overflow_mul-need-then-sizes_fit-2
overflow_mul-need-then-sizes_fit-2 c = let s = sizes_true _ _ _ _ (sym c.sizes_fit.ensures ∙ c.if-sizes_fit.true) in omega (arith, mul-le-mul s.sessions s.most)

pub bounds-need-5 : goal.bounds-need-5
bounds-need-5 c = simp length-set (omega (arith, c.if-need-lt7.false))

pub overflow_mul-need-then-sizes_fit-3 : goal.overflow_mul-need-then-sizes_fit-3
overflow_mul-need-then-sizes_fit-3 c = let s = sizes_true _ _ _ _ (sym c.sizes_fit.ensures ∙ c.if-sizes_fit.true) in omega (arith, s.blocks, s.files, s.sessions)

pub bounds-need-6 : goal.bounds-need-6
bounds-need-6 c = simp length-set (omega (arith, c.if-need-lt7.false))

pub shape_of-need-then-sizes_fit : goal.shape_of-need-then-sizes_fit
shape_of-need-then-sizes_fit c = simp length-set

pub returns-then-sizes_fit : goal.returns-then-sizes_fit
unfolding memory_by
returns-then-sizes_fit c = rw (le-ltb _ _ c.if-need-lt7.false, ← c.sizes_fit.ensures, c.if-sizes_fit.true) (ap (filled 0) (seven_needs c.args.need.now _ _ _ _ _ _ _ c.if-need-lt7.false))

pub returns : goal.returns
unfolding memory_by
returns c = rw (le-ltb _ _ c.if-need-lt7.false, ← c.sizes_fit.ensures, c.if-sizes_fit.false)
