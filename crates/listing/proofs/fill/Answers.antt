use mathlib.Core.Path.{ap, sym, ◌∙◌}
use Prim.Native.Nat.{◌≤◌, ◌<◌}
use native.Mathlib.Omega.{arith}
use lib.ListN.{length}
use Rattle.table.specs.Table.{files}
use Rattle.listing.specs.Listing.{entry_in, entries_of}
use Rattle.listing.proofs.EntryLaws.{entries_count, entry_of}
use Rattle.listing.proofs.LoopLaws.{going_start, going_whole, going_past, going_full, going_read, advanced_less}
use Rattle.listing.proofs.fill.Goals as goal

pub loop-p-init : goal.loop-p-init
loop-p-init c =
    let a = c.args in
    going_start
    (entries_of a.listed a.long a.next a.disk.now a.owner.now (files a.table.now) a.selected.now)
    a.done
    a.sent

pub slice_bounds-read_found-count : goal.slice_bounds-read_found-count
slice_bounds-read_found-count c = omega (arith, c.loop-p.invariant.within)

pub slice_bounds-bytes-start : goal.slice_bounds-bytes-start
slice_bounds-bytes-start c = c.loop-p.invariant.within

pub slice_bounds-bytes-end : goal.slice_bounds-bytes-end
slice_bounds-bytes-end c =
    let a = c.args in
    let s = c.loop-p in
    let whole =
    going_whole
    (entries_of a.listed a.long a.next a.disk.now a.owner.now (files a.table.now) a.selected.now)
    a.done
    a.sent
    s.p
    s.bytes
    s.invariant in
    omega (arith, whole)

pub overflow_sub-at : goal.overflow_sub-at
overflow_sub-at c = c.loop-p.invariant.within

pub loop-p-smaller : goal.loop-p-smaller
loop-p-smaller c =
    let b = c in
    let s = b in
    rw c.advance-p.ensures
    (advanced_less s.count-n.result s.loop-p.p c.read_found-size.result b.loop-p-test.true b.if-at-lt256.true)

pub loop-p-preserved : goal.loop-p-preserved
loop-p-preserved c =
    let a = c.args in
    let fs = files a.table.now in
    let s = c.loop-p in
    let es = entries_of a.listed a.long a.next a.disk.now a.owner.now fs a.selected.now in
    let found = c.found_at-found in
    let read = c.read_found-size in
    let n = entries_count a.long a.disk.now a.owner.now a.listed a.next fs a.selected.now in
    let b = c in
    let more : s.p.done < length es = omega (arith, n, b.count-n.ensures, b.loop-p-test.true) in
    going_read
    es
    a.done
    a.sent
    s.p
    s.bytes
    s.invariant
    (entry_in a.long a.disk.now a.owner.now fs found.result)
    read.result
    read.new.out
    c.advance-p.result
    more
    c.if-at-lt256.true
    (entry_of a.long a.disk.now a.owner.now a.listed a.next fs a.selected.now s.p.done
    ∙ ap (entry_in a.long a.disk.now a.owner.now fs) (sym found.ensures))
    read.ensures
    c.advance-p.ensures

pub returns-else-at-lt256 : goal.returns-else-at-lt256
returns-else-at-lt256 c =
    let a = c.args in
    let s = c.loop-p in
    c.collected.ensures
    ∙ going_full
    (entries_of a.listed a.long a.next a.disk.now a.owner.now (files a.table.now) a.selected.now)
    a.done
    a.sent
    s.p
    s.bytes
    s.invariant
    c.if-at-lt256.false

pub returns : goal.returns
returns c =
    let a = c.args in
    let fs = files a.table.now in
    let s = c.loop-p in
    let es = entries_of a.listed a.long a.next a.disk.now a.owner.now fs a.selected.now in
    let n = entries_count a.long a.disk.now a.owner.now a.listed a.next fs a.selected.now in
    let past : length es ≤ s.p.done = omega (arith, n, c.count-n.ensures, c.loop-p-test.false) in
    c.collected-2.ensures ∙ rw c.at_end.ensures (going_past es a.done a.sent s.p s.bytes s.invariant past)
