-- `blocks::get_runs` meets its contract. The invariant is `Reading`: the bytes read so far are those that the owner holds.
use Prim.Native.Nat.{ℕ}
use mathlib.Core.Path.{◌≡◌, refl, sym, ap, ◌∙◌}
use native.Mathlib.Omega.{arith}
use lib.ListN.{length, take, drop}
use native.Mathlib.Nat.{add-zero}
use lib.Seq.{take_all}
use Rattle.blocks.specs.Contents.{held}
use Rattle.blocks.proofs.Owners.{blocks_le}
use Rattle.blocks.proofs.Runs.{walk_in, run_size, read_next}
use Rattle.blocks.proofs.get_runs.Goals as goal

pub find_block-b-requires : goal.find_block-b-requires
find_block-b-requires c = omega arith

pub loop-i-init : goal.loop-i-init
loop-i-init c =
    let a = c.args in
    let p = c.requires in
    record {
      walk = record { few = p.0; room = p.2; done = omega arith; block = λ h. simp add-zero c.find_block-b.ensures };
      fits = p.1;
      size = refl;
      same = refl;
    }

pub overflow_add-at : goal.overflow_add-at
overflow_add-at c =
    let s = c in
    let a = s.args in
    let t = s.loop-i.invariant.walk in
    omega (arith, t.few, t.room, t.done, blocks_le a.v a.owner.now)

pub overflow_sub-out : goal.overflow_sub-out
overflow_sub-out c =
    let s = c in
    let a = s.args in
    let t = s.loop-i.invariant.walk in
    omega (arith, t.done)

pub run_length-requires : goal.run_length-requires
run_length-requires c = omega arith

pub overflow_add-e : goal.overflow_add-e
overflow_add-e c =
    let s = c in
    let a = s.args in
    let t = s.loop-i.invariant.walk in
    omega (arith, t.few, t.room, t.done, c.run_length.ensures.0, s.loop-i.invariant.size)

pub overflow_mul-b : goal.overflow_mul-b
overflow_mul-b c =
    let s = c in
    let a = s.args in
    let t = s.loop-i.invariant.walk in
    omega (arith, t.few, t.room, t.done, s.loop-i.invariant.fits, s.loop-i.invariant.size, walk_in a.v a.owner.now a.at (length a.out.now) s.loop-i.i s.loop-i.b t (omega (arith, s.loop-i.invariant.size)))

pub overflow_add-at-in-loop-i : goal.overflow_add-at-in-loop-i
overflow_add-at-in-loop-i c =
    let s = c in
    let a = s.args in
    let t = s.loop-i.invariant.walk in
    omega (arith, t.few, t.room, t.done, blocks_le a.v a.owner.now)

pub overflow_add-b : goal.overflow_add-b
overflow_add-b c =
    let s = c in
    let a = s.args in
    let t = s.loop-i.invariant.walk in
    omega (arith, t.few, t.room, t.done, s.loop-i.invariant.fits, s.loop-i.invariant.size, walk_in a.v a.owner.now a.at (length a.out.now) s.loop-i.i s.loop-i.b t (omega (arith, s.loop-i.invariant.size)))

pub slice_bounds-get_run-count : goal.slice_bounds-get_run-count
slice_bounds-get_run-count c =
    let s = c in
    let a = s.args in
    let t = s.loop-i.invariant.walk in
    omega (arith, c.run_length.ensures.0)

pub slice_bounds-get_run-start : goal.slice_bounds-get_run-start
slice_bounds-get_run-start c =
    let s = c in
    let a = s.args in
    let t = s.loop-i.invariant.walk in
    omega (arith, c.run_length.ensures.0, t.done)

pub slice_bounds-get_run-end : goal.slice_bounds-get_run-end
slice_bounds-get_run-end c =
    let s = c in
    let a = s.args in
    let t = s.loop-i.invariant.walk in
    omega (arith, c.run_length.ensures.0, t.done)

pub get_run-requires : goal.get_run-requires
get_run-requires c =
    let s = c in
    let a = s.args in
    let t = s.loop-i.invariant.walk in
    let r = c.run_length in
    let z = s.loop-i.invariant.size in
    let n = run_size s.loop-i.out s.loop-i.i r.result (omega (arith, r.ensures.0)) in
    omega (arith, n, r.ensures.1, s.loop-i.invariant.fits, walk_in a.v a.owner.now a.at (length a.out.now) s.loop-i.i s.loop-i.b t (omega arith))

pub overflow_add-b-in-loop-i : goal.overflow_add-b-in-loop-i
overflow_add-b-in-loop-i c =
    let s = c in
    let a = s.args in
    let t = s.loop-i.invariant.walk in
    omega (arith, t.few, t.room, t.done, s.loop-i.invariant.fits, s.loop-i.invariant.size, walk_in a.v a.owner.now a.at (length a.out.now) s.loop-i.i s.loop-i.b t (omega (arith, s.loop-i.invariant.size)))

pub next_before-b-requires : goal.next_before-b-requires
next_before-b-requires c = omega arith

pub loop-i-smaller : goal.loop-i-smaller
loop-i-smaller c =
    let s = c in
    let t = s.loop-i.invariant.walk in
    let p = c.run_length.ensures.2 (omega arith) in
    omega (arith, t.done, s.loop-i.invariant.size)

pub loop-i-preserved : goal.loop-i-preserved
loop-i-preserved c =
    let s = c in
    let a = s.args in
    let t = s.loop-i.invariant.walk in
    let r = c.run_length in
    read_next a.disk.now a.owner.now a.v a.at a.out.now s.loop-i.out s.loop-i.b s.loop-i.i r.result s.loop-i.invariant c.loop-i-test.true
    r.ensures.0 r.ensures.1 r.ensures.3 _ _ c.get_run.ensures c.next_before-b.ensures

pub shape_of-out : goal.shape_of-out
shape_of-out c = c.loop-i.invariant.size

pub returns : goal.returns
returns c =
    let s = c in
    let a = s.args in
    let z = s.loop-i.invariant.size in
    let d = s.loop-i.invariant.walk.done in
    let e : s.loop-i.i ≡ length a.out.now = omega arith in
    sym (take_all s.loop-i.i s.loop-i.out c.loop-i-test.false) ∙ s.loop-i.invariant.same
    ∙ ap (λ (n : ℕ). take n (drop a.at (held a.v a.owner.now a.disk.now))) e
