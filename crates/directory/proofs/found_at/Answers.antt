use native.Mathlib.Omega.{arith}
use Prim.Native.Nat.{◌-◌, ◌≤◌, ◌<◌, min}
use lib.ListN.{length}
use Rattle.std.proofs.Common.{Some}
use Rattle.table.specs.Table.{files}
use Rattle.directory.specs.Directory.{found_in}
use Rattle.directory.proofs.DirectoryLaws.{none_past_one, found_within, found_past}
use Rattle.directory.proofs.found_at.Goals as goal

pub returns-then-k-eq0 : goal.returns-then-k-eq0
unfolding found_in
returns-then-k-eq0 c = rw (c.in-One.is, c.if-k-eq0.true)

pub returns-then-k-selected_count : goal.returns-then-k-selected_count
returns-then-k-selected_count c =
    let b = c in
    let a = b.args in
    let inside : a.k < min a.next (length a.selected.now) - b.in-Selected.first = omega (arith, b.selected_count.ensures, c.if-k-selected_count.true) in
    rw (b.in-Selected.is, found_within b.in-Selected.first a.next (files a.table.now) a.selected.now a.k inside) c.find.ensures

pub returns-else-k-eq0 : goal.returns-else-k-eq0
unfolding found_in
returns-else-k-eq0 c =
    rw c.in-One.is (none_past_one (Some c.in-One.place) c.args.k c.if-k-eq0.false)

pub returns-else-k-selected_count : goal.returns-else-k-selected_count
returns-else-k-selected_count c =
    let b = c in
    let a = b.args in
    let past : min a.next (length a.selected.now) - b.in-Selected.first ≤ a.k = omega (arith, b.selected_count.ensures, c.if-k-selected_count.false) in
    rw (b.in-Selected.is, found_past b.in-Selected.first a.next (files a.table.now) a.selected.now a.k past)
