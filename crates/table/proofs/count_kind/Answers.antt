-- `table::count_kind` meets its contract. The invariant: what is counted so far, and the files of the kind from `at` on, are all of the kind.
use Rattle.std.proofs.Common.{true, false, sym, ap, ◌∙◌, arith}
use Rattle.table.specs.Table.{files, is_kind}
use Rattle.table.proofs.Records.{length_files, count_next, count_end, count_bound}
use Rattle.table.proofs.count_kind.Goals as goal
use Rattle.table.proofs.count_kind.Goals.{then-is_kind, else-is_kind}

pub overflow_add-n : goal.overflow_add-n
overflow_add-n c =
    let s = c.args in
    omega (arith, c.loop-at.invariant, count_bound (is_kind s.kind) (files s.table.now), length_files s.table.now)

pub loop-at-preserved : goal.loop-at-preserved
loop-at-preserved c =
    let s = c.args in
    let l = c.loop-at in
    let fs = files s.table.now in
    let k = sym (c.is_kind.ensures ∙ ap (is_kind s.kind) c.get.ensures) in
    elim c.if-is_kind.branch [
      | then-is_kind w ↦ count_next (is_kind s.kind) fs l.at l.n c.if-is_kind.n true (omega (arith, c.places-at-end.ensures, c.loop-at-test.true)) (k ∙ w.if-is_kind.true) w.n-is l.invariant
      | else-is_kind w ↦ count_next (is_kind s.kind) fs l.at l.n c.if-is_kind.n false (omega (arith, c.places-at-end.ensures, c.loop-at-test.true)) (k ∙ w.if-is_kind.false) (omega (arith, w.n-is)) l.invariant
    ]

pub returns : goal.returns
returns c =
    let s = c.args in
    let l = c.loop-at in
    omega (arith, l.invariant, count_end (is_kind s.kind) (files s.table.now) l.at (omega (arith, c.places-at-end.ensures, c.loop-at-test.false)))
