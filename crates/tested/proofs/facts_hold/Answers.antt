use mathlib.Core.Path.{sym}
use lib.Seq.{length-take-le}
use Rattle.tested.proofs.facts_hold.Goals as goal

pub slice_bounds-sound-end : goal.slice_bounds-sound-end
slice_bounds-sound-end c = let e = c in sym (length-take-le _ e.args.map.now e.requires.2)

pub slice_bounds-sound-end-2 : goal.slice_bounds-sound-end-2
slice_bounds-sound-end-2 c = let e = c in sym (length-take-le _ e.args.owner.now e.requires.3)

pub slice_bounds-sound-end-3 : goal.slice_bounds-sound-end-3
slice_bounds-sound-end-3 c = let e = c in sym (length-take-le _ e.args.table.now e.requires.4)

pub slice_bounds-links_sound-end : goal.slice_bounds-links_sound-end
slice_bounds-links_sound-end c = let e = c in sym (length-take-le _ e.args.table.now e.requires.4)
