-- `blocks::put_runs` meets its contract. The invariant is `Writing`: storing what is left on the disk reached is storing all on the disk at entry.
use Prim.Native.Nat.{◌+◌}
use mathlib.Core.Path.{refl, sym, ap, ◌∙◌}
use native.Mathlib.Omega.{arith}
use lib.ListN.{length, drop_of_length-le}
use native.Mathlib.Nat.{add-zero}
use Rattle.blocks.specs.Contents.{stored}
use Rattle.blocks.proofs.Owners.{blocks_le}
use Rattle.blocks.proofs.Runs.{walk_in, run_size, write_next}
use Rattle.blocks.proofs.put_runs.Goals as goal

pub find_block-b-requires : goal.find_block-b-requires
find_block-b-requires c = omega arith

pub loop-i-init : goal.loop-i-init
loop-i-init c =
    let a = c.args in
    let p = c.requires in
    record {
      walk = record { few = p.0; room = p.2; done = omega arith; block = λ h. simp add-zero c.find_block-b.ensures };
      fits = p.1;
      size = refl;
      same = simp add-zero;
    }

pub overflow_add-at : goal.overflow_add-at
overflow_add-at c =
    let s = c in
    let a = s.args in
    let t = s.loop-i.invariant.walk in
    omega (arith, t.few, t.room, t.done, blocks_le a.v a.owner.now)

pub overflow_sub-bytes : goal.overflow_sub-bytes
overflow_sub-bytes c =
    let s = c in
    let a = s.args in
    let t = s.loop-i.invariant.walk in
    omega (arith, t.done)

pub run_length-requires : goal.run_length-requires
run_length-requires c = omega arith

pub overflow_add-e : goal.overflow_add-e
overflow_add-e c =
    let s = c in
    let a = s.args in
    let t = s.loop-i.invariant.walk in
    omega (arith, t.few, t.room, t.done, c.run_length.ensures.0)

pub overflow_mul-b : goal.overflow_mul-b
overflow_mul-b c =
    let s = c in
    let a = s.args in
    let t = s.loop-i.invariant.walk in
    omega (arith, t.few, t.room, t.done, s.loop-i.invariant.fits, s.loop-i.invariant.size, walk_in a.v a.owner.now a.at (length a.bytes.now) s.loop-i.i s.loop-i.b t (omega (arith, s.loop-i.invariant.size)))

pub overflow_add-at-in-loop-i : goal.overflow_add-at-in-loop-i
overflow_add-at-in-loop-i c =
    let s = c in
    let a = s.args in
    let t = s.loop-i.invariant.walk in
    omega (arith, t.few, t.room, t.done, blocks_le a.v a.owner.now)

pub overflow_add-b : goal.overflow_add-b
overflow_add-b c =
    let s = c in
    let a = s.args in
    let t = s.loop-i.invariant.walk in
    omega (arith, t.few, t.room, t.done, s.loop-i.invariant.fits, s.loop-i.invariant.size, walk_in a.v a.owner.now a.at (length a.bytes.now) s.loop-i.i s.loop-i.b t (omega (arith, s.loop-i.invariant.size)))

pub slice_bounds-put_run-count : goal.slice_bounds-put_run-count
slice_bounds-put_run-count c =
    let s = c in
    let a = s.args in
    let t = s.loop-i.invariant.walk in
    omega (arith, c.run_length.ensures.0)

pub slice_bounds-put_run-start : goal.slice_bounds-put_run-start
slice_bounds-put_run-start c =
    let s = c in
    let a = s.args in
    let t = s.loop-i.invariant.walk in
    omega (arith, c.run_length.ensures.0, t.done)

pub slice_bounds-put_run-end : goal.slice_bounds-put_run-end
slice_bounds-put_run-end c =
    let s = c in
    let a = s.args in
    let t = s.loop-i.invariant.walk in
    omega (arith, c.run_length.ensures.0, t.done)

pub put_run-requires : goal.put_run-requires
put_run-requires c =
    let s = c in
    let a = s.args in
    let t = s.loop-i.invariant.walk in
    let r = c.run_length in
    let z = s.loop-i.invariant.size in
    let n = run_size a.bytes.now s.loop-i.i r.result (omega (arith, r.ensures.0)) in
    omega (arith, n, r.ensures.1, s.loop-i.invariant.fits, walk_in a.v a.owner.now a.at (length a.bytes.now) s.loop-i.i s.loop-i.b t (omega arith))

pub overflow_add-b-in-loop-i : goal.overflow_add-b-in-loop-i
overflow_add-b-in-loop-i c =
    let s = c in
    let a = s.args in
    let t = s.loop-i.invariant.walk in
    omega (arith, t.few, t.room, t.done, s.loop-i.invariant.fits, s.loop-i.invariant.size, walk_in a.v a.owner.now a.at (length a.bytes.now) s.loop-i.i s.loop-i.b t (omega (arith, s.loop-i.invariant.size)))

pub next_before-b-requires : goal.next_before-b-requires
next_before-b-requires c = omega arith

pub loop-i-smaller : goal.loop-i-smaller
loop-i-smaller c =
    let s = c in
    let t = s.loop-i.invariant.walk in
    let p = c.run_length.ensures.2 (omega arith) in
    omega (arith, t.done, s.loop-i.invariant.size)

pub loop-i-preserved : goal.loop-i-preserved
loop-i-preserved c =
    let s = c in
    let a = s.args in
    let t = s.loop-i.invariant.walk in
    let r = c.run_length in
    write_next a.disk.now a.owner.now a.v a.at a.bytes.now s.loop-i.disk s.loop-i.b s.loop-i.i r.result s.loop-i.invariant c.loop-i-test.true
    r.ensures.0 r.ensures.1 r.ensures.3 _ _ c.put_run.ensures c.next_before-b.ensures

pub shape_of-disk : goal.shape_of-disk
shape_of-disk c = c.loop-i.invariant.size

pub returns : goal.returns
unfolding stored
returns c =
    let s = c in
    let a = s.args in
    let t = s.loop-i.invariant.walk in
    sym (s.loop-i.invariant.same ∙ ap (stored a.v a.owner.now s.loop-i.disk (a.at + s.loop-i.i)) (drop_of_length-le a.bytes.now c.loop-i-test.false))
