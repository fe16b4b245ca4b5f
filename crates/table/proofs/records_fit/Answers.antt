-- `table::records_fit` meets its contract. The invariant: the records before `at` fit, so what is left to test are those from `at` on.
use Rattle.std.proofs.Common.{true, false, sym, ◌∙◌, arith}
use Rattle.table.specs.Table.{files}
use Rattle.table.proofs.Fitting.{fit_next, fit_end}
use Rattle.table.proofs.Records.{length_files}
use Rattle.table.proofs.records_fit.Goals as goal

pub held_at-requires : goal.held_at-requires
held_at-requires c = omega (arith, c.places-at-end.ensures, c.loop-at-test.true, length_files c.args.table.now)

pub returns-then-not-record_fits : goal.returns-then-not-record_fits
returns-then-not-record_fits c =
    let s = c.args in
    let l = c.loop-at in
    sym (l.invariant ∙ fit_next s.last s.latest s.counts.now (files s.table.now) l.at c.held_at.result c.get.result false (omega (arith, c.places-at-end.ensures, c.loop-at-test.true)) c.held_at.ensures c.get.ensures
    (sym c.record_fits.ensures ∙ c.if-not-record_fits.true))

pub loop-at-preserved : goal.loop-at-preserved
loop-at-preserved c =
    let s = c.args in
    let l = c.loop-at in
    l.invariant ∙ fit_next s.last s.latest s.counts.now (files s.table.now) l.at c.held_at.result c.get.result true (omega (arith, c.places-at-end.ensures, c.loop-at-test.true)) c.held_at.ensures c.get.ensures
    (sym c.record_fits.ensures ∙ c.if-not-record_fits.false)

pub returns : goal.returns
returns c =
    let s = c.args in
    let l = c.loop-at in
    sym (l.invariant ∙ fit_end s.last s.latest s.counts.now (files s.table.now) l.at (omega (arith, c.places-at-end.ensures, c.loop-at-test.false)))
