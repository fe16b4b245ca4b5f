-- `table::first_with` meets its contract. The invariant: no place before `at` has the value.
use Rattle.std.proofs.Common.{sym, ap, ◌∙◌, arith}
use Rattle.table.specs.Table.{files, key_of}
use Rattle.table.proofs.Finding.{key_hit, key_miss, key_end}
use Rattle.table.proofs.first_with.Goals as goal

pub returns-then-key_of-value : goal.returns-then-key_of-value
returns-then-key_of-value c =
    let s = c.args in
    let l = c.loop-at in
    let k = c.key_of.ensures ∙ ap (key_of s.key) c.get.ensures in
    sym (l.invariant ∙ key_hit s.key (files s.table.now) s.value l.at (omega (arith, c.places-at-end.ensures, c.loop-at-test.true)) (sym k ∙ c.if-key_of-value.true))

pub loop-at-preserved : goal.loop-at-preserved
loop-at-preserved c =
    let s = c.args in
    let l = c.loop-at in
    let k = c.key_of.ensures ∙ ap (key_of s.key) c.get.ensures in
    l.invariant ∙ key_miss s.key (files s.table.now) s.value l.at (omega (arith, c.places-at-end.ensures, c.loop-at-test.true)) (λ e. c.if-key_of-value.false (k ∙ e))

pub returns : goal.returns
returns c =
    let s = c.args in
    let l = c.loop-at in
    sym (l.invariant ∙ key_end s.key (files s.table.now) s.value l.at (omega (arith, c.places-at-end.ensures, c.loop-at-test.false)))
