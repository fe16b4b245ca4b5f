use Prim.Native.Nat.{◌+◌, ◌-◌}
use Rattle.table.specs.Table.{files}
use Rattle.listing.specs.Listing.{entries_of}
use Rattle.listing.proofs.LoopLaws.{Going}
use Rattle.listing.proofs.fill.Given as goal

abbrev pub invariant-loop-p : goal.invariant-loop-p
invariant-loop-p l =
    Going (entries_of l.listed l.long l.next l.disk l.owner (files l.table) l.selected) l.done l.sent l.p l.bytes

abbrev pub decreases-loop-p : goal.decreases-loop-p
decreases-loop-p l = l.n - l.p.done + (256 - l.p.size)
