use mathlib.Core.Path.{sym, ◌∙◌}
use Rattle.server.proofs.CheckLaws.{sizes_true, room_true, both_true}
use Rattle.tested.proofs.is_sound.Goals as goal

pub facts_hold-requires : goal.facts_hold-requires
facts_hold-requires c =
    let t = both_true _ _ (sym c.fits_all.ensures ∙ c.if-fits_all.true) in
    let z = sizes_true _ _ _ _ t.0 in
    let r = room_true _ _ _ _ _ _ _ _ _ _ t.1 in
    (z.blocks, z.files, r.map, r.owner, r.table)
