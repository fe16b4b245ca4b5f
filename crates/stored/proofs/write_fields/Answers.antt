-- `stored::write_fields` meets its contract. Writing the parts leaves the disk that storing the whole file leaves.
use mathlib.Core.Path.{ap, ◌∙◌}
use native.Mathlib.Omega.{arith}
use lib.ListN.{length}
use Rattle.blocks.proofs.Answers.{disk_fits_law}
use Rattle.blocks.proofs.Held.{length_stored}
use Rattle.header.proofs.Written.{bytes_all}
use Rattle.stored.proofs.Setting.{items_still, sum_written}
use Rattle.stored.proofs.write_fields.Goals as goal

pub sum_at-sum-requires : goal.sum_at-sum-requires
sum_at-sum-requires c =
    let w = c in
    let a = w.args in
    let s = w.requires in
    let f = disk_fits_law (length a.disk.now) (length a.owner.now) a.place s.sizes in
    let l = ap length w.write_rows.ensures ∙ length_stored _ a.owner.now a.disk.now 0 _ in
    let b = bytes_all a.disk.now (λ k. omega (arith, w.slice_known-1.given k)) in
    (f.most, omega (arith, l, f.bytes), f.place_most, items_still a.disk.now a.owner.now a.place a.received a.at s b a.number a.time _ w.write_rows.ensures)

pub shape_of-disk : goal.shape_of-disk
shape_of-disk c = c.disk-2-1.given ∙ c.disk-1.given

pub returns : goal.returns
returns c =
    let h = c in
    let w = h in
    let a = w.args in
    let s = w.requires in
    let b = bytes_all a.disk.now (λ k. omega (arith, w.slice_known-1.given k)) in
    sum_written a.disk.now a.owner.now a.place a.received a.at s b a.number a.time _ _ h.sum_at-sum.result
    w.write_rows.ensures h.sum_at-sum.ensures c.write_sum.ensures
