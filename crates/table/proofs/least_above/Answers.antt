-- `table::least_above` meets its contract. The invariant: `least` is the least time above `after` from place `at` on.
use Rattle.std.proofs.Common.{sym, ap, ◌∙◌, arith}
use Rattle.table.specs.Table.{files, uploaded}
use Rattle.table.proofs.Ordering.{least_next, least_end}
use Rattle.table.proofs.least_above.Goals as goal

pub loop-at-init : goal.loop-at-init
loop-at-init c =
    let s = c.args in
    sym (least_end s.after (files s.table.now) c.places-at.result (omega (arith, c.places-at.ensures)))

pub loop-at-preserved : goal.loop-at-preserved
loop-at-preserved c =
    let s = c.args in
    let l = c.loop-at in
    let t = c.upload_time_of.ensures ∙ ap uploaded c.get.ensures in
    least_next s.after (files s.table.now) l.at l.least c.upload_time_of.result c.lesser_above-least.result c.loop-at-test.true (omega (arith, c.places-at.ensures, l.auto)) l.invariant t
    c.lesser_above-least.ensures
