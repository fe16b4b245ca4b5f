use mathlib.Core.Path.{sym}
use Prim.Native.Nat.{◌*◌}
use lib.Seq.{length-take-le}
use Rattle.server.specs.Making.{empty_of}
use Rattle.making.proofs.empty.Goals as goal

pub slice_bounds-make-end-2 : goal.slice_bounds-make-end-2
slice_bounds-make-end-2 c = let e = c in sym (length-take-le _ e.args.map.now e.requires.maps)

pub slice_bounds-make-end-4 : goal.slice_bounds-make-end-4
slice_bounds-make-end-4 c = let e = c in sym (length-take-le _ e.args.owner.now e.requires.owners)

pub slice_bounds-forget-end-2 : goal.slice_bounds-forget-end-2
slice_bounds-forget-end-2 c = let e = c in sym (length-take-le _ e.args.table.now e.requires.records)

pub slice_bounds-forget-end-4 : goal.slice_bounds-forget-end-4
slice_bounds-forget-end-4 c = let e = c in sym (length-take-le _ e.args.selected.now e.requires.selections)

pub slice_bounds-forget-end-6 : goal.slice_bounds-forget-end-6
slice_bounds-forget-end-6 c = let e = c in sym (length-take-le _ e.args.held.now e.requires.packets)

pub shape_of-map : goal.shape_of-map
shape_of-map c = c.map-1.given.1

pub shape_of-owner : goal.shape_of-owner
shape_of-owner c = c.owner-1.given.1

pub shape_of-table : goal.shape_of-table
shape_of-table c = c.table-1.given.1

pub shape_of-selected : goal.shape_of-selected
shape_of-selected c = c.selected-1.given.1

pub shape_of-held : goal.shape_of-held
shape_of-held c = c.held-1.given.1

pub returns : goal.returns
unfolding empty_of
returns c = let e = c in rw (c.make.ensures.map_after, c.make.ensures.owner_after, rw (length-take-le (4 * e.args.files) e.args.table.now e.requires.records) at c.forget.ensures, rw (length-take-le (e.args.sessions * e.args.most) e.args.selected.now e.requires.selections) at c.forget-2.ensures, rw (length-take-le (e.args.sessions * 258) e.args.held.now e.requires.packets) at c.forget-3.ensures)
