-- `blocks::counts` meets its contract. The invariant is `Counted`: the counts and what is left are all blocks.
use Prim.Native.Nat.{ℕ, ◌+◌}
use mathlib.Core.Path.{refl, ap, ◌∙◌}
use native.Mathlib.Omega.{arith}
use native.Mathlib.Nat.{zero-add}
use lib.ListN.{get_or-replicate, get_or, drop_of_length-le}
use Rattle.blocks.specs.Owners.{blocks}
use Rattle.blocks.proofs.Owners.{counts_all}
use Rattle.blocks.proofs.Parts.{run_fits, run_added}
use Rattle.blocks.proofs.counts.Goals as goal

pub loop-i-init : goal.loop-i-init
loop-i-init c =
    let o = c.args.owner.now in
    record { done = omega arith; size = refl; all = λ u q. ap (λ (x : ℕ). x + blocks u o) (get_or-replicate 257 u 0 0 q) ∙ zero-add (blocks u o) }

pub run_end-end-requires : goal.run_end-end-requires
run_end-end-requires c = omega arith

pub offset_bounds-owner-i : goal.offset_bounds-owner-i
offset_bounds-owner-i c = omega arith

pub bounds-owner-i : goal.bounds-owner-i
bounds-owner-i c = omega arith

pub overflow_sub-end : goal.overflow_sub-end
overflow_sub-end c = omega arith

pub add_run-requires : goal.add_run-requires
add_run-requires c =
    let l = c.loop-i in
    let o = c.args.owner.now in
    let e = c.run_end-end in
    (l.invariant.size, omega (arith, run_fits o l.n l.i l.invariant (get_or o l.i 0) e.result (omega (arith, e.ensures.0)) e.ensures.2))

pub loop-i-smaller : goal.loop-i-smaller
loop-i-smaller c = omega arith

pub loop-i-preserved : goal.loop-i-preserved
loop-i-preserved c =
    let l = c.loop-i in
    let o = c.args.owner.now in
    let e = c.run_end-end in
    run_added o l.n l.i l.invariant (get_or o l.i 0) e.result (omega (arith, e.ensures.0)) e.ensures.2 _ c.add_run.ensures e.ensures.1

pub returns : goal.returns
unfolding blocks
returns c =
    let l = c.loop-i in
    let o = c.args.owner.now in
    counts_all l.n o l.invariant.size (λ u q. let z = ap (blocks u) (drop_of_length-le o c.loop-i-test.false) in let a = l.invariant.all u q in omega arith)
