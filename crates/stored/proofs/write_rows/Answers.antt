-- `stored::write_rows` meets its contract. Each row is written behind those before it.
use native.Mathlib.Omega.{arith}
use Rattle.header.proofs.Written.{bytes_all}
use Rattle.stored.proofs.Setting.{rows_begun, row_fits, row_written, rows_written}
use Rattle.stored.proofs.write_rows.Goals as goal

pub loop-k-init : goal.loop-k-init
loop-k-init c =
    let a = c.args in
    let s = c.requires in
    let b = bytes_all a.disk.now (λ k. omega (arith, c.type_inv.disk k)) in
    (b, s, rows_begun a.disk.now a.owner.now a.place a.received a.at s b a.number a.time)

pub write_row-requires : goal.write_row-requires
write_row-requires c =
    let l = c.loop-k in
    let a = c.args in
    row_fits a.disk.now a.owner.now a.place a.received a.at l.invariant.1 l.invariant.0 a.number a.time l.k c.row_at.result
    c.row_at.ensures (omega arith)

pub loop-k-preserved : goal.loop-k-preserved
loop-k-preserved c =
    let l = c.loop-k in
    let a = c.args in
    let w = c.write_row in
    let r = c.row_at in (
      l.invariant.0,
      l.invariant.1,
      row_written a.disk.now a.owner.now a.place a.received a.at l.invariant.1 l.invariant.0 a.number a.time l.k l.disk w.new.disk
          r.result r.ensures w.ensures (omega arith) l.invariant.2,
    )

pub returns : goal.returns
returns c =
    let l = c.loop-k in
    let a = c.args in
    rows_written a.disk.now a.owner.now a.place a.received a.at l.invariant.1 l.invariant.0 a.number a.time l.k l.disk l.invariant.2
    (omega arith)
