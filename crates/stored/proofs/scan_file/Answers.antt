-- `stored::scan_file` meets its contract. The invariant is `Feeding`: what is left of the file gives the scan of the whole.
use Prim.Native.Nat.{◌+◌}
use native.Mathlib.Omega.{arith}
use Rattle.blocks.proofs.Owners.{next_ge}
use Rattle.header.specs.Scan.{start_of, scan_from}
use Rattle.header.proofs.Machine.{scan_append}
use Rattle.stored.specs.Answers.{file_at}
use Rattle.stored.proofs.Feeding.{feed_start, feed_next, feed_done, scan_none}
use Rattle.stored.proofs.scan_file.Goals as goal

pub loop-b-init : goal.loop-b-init
loop-b-init c = let a = c.args in feed_start scan_from (a.place + 1) a.owner.now a.disk.now (start_of a.want) a.received _ _ c.start-s.ensures c.next_block-b.ensures

pub overflow_mul-from : goal.overflow_mul-from
overflow_mul-from c = omega arith

pub overflow_add-to : goal.overflow_add-to
overflow_add-to c = omega arith

pub slice_bounds-feed-count : goal.slice_bounds-feed-count
slice_bounds-feed-count c = omega arith

pub slice_bounds-feed-start : goal.slice_bounds-feed-start
slice_bounds-feed-start c = omega arith

pub slice_bounds-feed-end : goal.slice_bounds-feed-end
slice_bounds-feed-end c = omega arith

pub overflow_sub-left : goal.overflow_sub-left
overflow_sub-left c = omega arith

pub overflow_add-b : goal.overflow_add-b
overflow_add-b c = omega arith

pub loop-b-smaller : goal.loop-b-smaller
loop-b-smaller c = let s = c in let a = s.args in omega (arith, c.next_block-b-in-loop-b.ensures, next_ge (a.place + 1) a.owner.now (s.loop-b.b + 1) (omega arith))

pub loop-b-preserved : goal.loop-b-preserved
loop-b-preserved c =
    let s = c in
    let a = s.args in
    let p = s.requires in
    let l = s.loop-b in
    let n = c.min-n in
    feed_next scan_from scan_append (a.place + 1) a.owner.now a.disk.now (scan_from (start_of a.want) (file_at a.disk.now a.owner.now a.place a.received))
    l.s l.left l.b n.result l.invariant c.loop-b-test.true p.1 (omega arith) (omega arith) (λ h. omega arith)
    _ _ c.feed-s.ensures c.next_block-b-in-loop-b.ensures

pub returns : goal.returns
returns c =
    let s = c in
    let a = s.args in
    let l = s.loop-b in
    feed_done scan_from (a.place + 1) a.owner.now a.disk.now (scan_from (start_of a.want) (file_at a.disk.now a.owner.now a.place a.received))
    l.s l.left l.b l.invariant c.loop-b-test.false (scan_none l.s)
