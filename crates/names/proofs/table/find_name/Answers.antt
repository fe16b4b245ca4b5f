use mathlib.Core.Path.{refl, sym, ◌∙◌}
use native.Mathlib.Omega.{arith}
use lib.Seq.{length-take-le}
use Rattle.names.proofs.RowLaws as laws
use Rattle.std.proofs.Common.{rules}
use Rattle.names.proofs.table.find_name.Goals as goal

pub loop-k-init : goal.loop-k-init
loop-k-init c = refl

pub slice_bounds-letters-end : goal.slice_bounds-letters-end
slice_bounds-letters-end c =
    let l = c.loop-k in
    let r = c.row_at-row in
    omega (arith, laws.row_room l.k r.result r.ensures)

pub slice_bounds-shared_letters-end : goal.slice_bounds-shared_letters-end
slice_bounds-shared_letters-end c =
    let l = c.loop-k in
    let r = c.row_at-row in
    sym (length-take-le r.result.size r.result.letters (laws.row_room l.k r.result r.ensures))

pub returns-then-same-size : goal.returns-then-same-size
returns-then-same-size c =
    let a = c.args in
    let l = c.loop-k in
    let t = c.loop-k-test.true in
    let r = c.row_at-row in
    let s = c.shared_letters-same in
    laws.name_known a.text.now l.k l.most s.result r.result r.ensures t l.invariant s.ensures c.if-same-size.true

pub loop-k-preserved : goal.loop-k-preserved
loop-k-preserved c =
    let a = c.args in
    let l = c.loop-k in
    let t = c.loop-k-test.true in
    elim c.if-shares_a_letter.branch [
      | goal.then-shares_a_letter+else-same-size w ↦
          laws.name_other a.text.now l.k l.most w.shared_letters-same.result w.row_at-row.result w.row_at-row.ensures t l.invariant
          w.shared_letters-same.ensures w.if-same-size.false c.if-shares_a_letter.most (w.most-is ∙ search rules)
      | goal.else-shares_a_letter w ↦
          rw w.most-is (laws.name_passed a.text.now l.k l.most t l.invariant (sym c.shares_a_letter.ensures ∙ w.if-shares_a_letter.false))
    ]

pub returns : goal.returns
returns c =
    let a = c.args in
    let l = c.loop-k in
    laws.name_unknown a.text.now l.k l.most c.loop-k-test.false l.invariant
