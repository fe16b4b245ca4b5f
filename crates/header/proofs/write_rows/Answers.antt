use Rattle.std.proofs.Common.{refl, arith}
use Rattle.header.proofs.Written.{bytes_all}
use Rattle.header.proofs.Set.{stored_rows, row_size, rows_step, rows_done}
use Rattle.header.proofs.write_rows.Goals as goal

pub loop-k-init : goal.loop-k-init
loop-k-init c = (bytes_all c.args.file.now (λ k. omega (arith, c.type_inv.file k)), c.requires, unfold stored_rows in refl)

pub write_row-requires : goal.write_row-requires
write_row-requires c =
    let l = c.loop-k in
    let a = c.args in
    row_size a.number a.time a.upload a.file.now l.invariant.1 l.invariant.0 l.k c.row_at.result c.row_at.ensures (omega arith)

pub loop-k-preserved : goal.loop-k-preserved
loop-k-preserved c =
    let l = c.loop-k in
    let a = c.args in
    let w = c.write_row in
    let r = c.row_at in (
      l.invariant.0,
      l.invariant.1,
      rows_step a.number a.time a.upload a.file.now l.invariant.1 l.invariant.0 l.k r.result l.file w.new.file r.ensures
          l.invariant.2 w.ensures (omega arith),
    )

pub returns : goal.returns
returns c =
    let l = c.loop-k in
    let a = c.args in
    rows_done a.number a.time a.upload a.file.now l.invariant.1 l.invariant.0 l.k l.file l.invariant.2 (omega arith)
