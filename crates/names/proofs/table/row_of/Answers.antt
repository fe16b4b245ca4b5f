use mathlib.Core.Path.{refl}
use Rattle.names.proofs.RowLaws as laws
use Rattle.names.proofs.table.row_of.Goals as goal

pub loop-k-init : goal.loop-k-init
loop-k-init c = refl

pub returns-then-row-id : goal.returns-then-row-id
returns-then-row-id c =
    let a = c.args in
    let l = c.loop-k in
    let r = c.row_at-row in
    laws.row_is a.id l.k r.result r.ensures c.loop-k-test.true c.if-row-id.true l.invariant

pub loop-k-preserved : goal.loop-k-preserved
loop-k-preserved c =
    let a = c.args in
    let l = c.loop-k in
    let r = c.row_at-row in
    laws.row_next a.id l.k r.result r.ensures c.loop-k-test.true c.if-row-id.false l.invariant

pub returns : goal.returns
returns c =
    let a = c.args in
    let l = c.loop-k in
    let r = c.row_at in
    laws.row_none a.id l.k r.result r.ensures c.loop-k-test.false l.invariant
