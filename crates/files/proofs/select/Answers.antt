-- `files::select` meets its contract: the numbers are written over zeros.
use Rattle.std.proofs.Common.{sym, ap, ◌∙◌, List, arith, length, rules}
use Rattle.std.proofs.lemmas.List.Edits.{sets}
use Rattle.std.proofs.lemmas.Result.{err_from_is_err_and}
use Rattle.refusal.specs.Refusal.{number, number_of}
use Rattle.refusal.proofs.Laws.{refused}
use Rattle.files.specs.Selection.{numbers_at, chosen}
use Rattle.files.proofs.Choice.{select_room, cleared_length, select_done, select_refused}
use Rattle.files.proofs.select.Goals as goal

pub returns-in_err-n : goal.returns-in_err-n
returns-in_err-n c =
    let a = c.args in
    let f = c.in_err-n.field-0.0 in
    let p = err_from_is_err_and c.from_residual.result c.from_residual.ensures.1 in
    rw (p.1, p.2)
    (select_refused a.eq.now a.disk.now a.owner.now a.table.now a.selected.now a.most (number f) (sym (ap number_of c.in_err-n.was) ∙ c.select_parse.ensures.refused_value)
    (λ z. let h = refused f in omega arith))

pub clear-requires : goal.clear-requires
clear-requires c =
    let a = c.args in select_room a.eq.now a.selected.now a.most (sym c.select_parse.ensures.refused_value ∙ ap number_of c.in_ok-n.was)

pub slice_bounds-steps-end : goal.slice_bounds-steps-end
slice_bounds-steps-end c = let f = rw c.in_ok-n.was at c.select_parse.ensures.count_in_bounds in f.0

pub slice_bounds-choose-end : goal.slice_bounds-choose-end
slice_bounds-choose-end c =
    let f = rw c.in_ok-n.was at c.select_parse.ensures.count_in_bounds in
    search rules

pub choose-requires : goal.choose-requires
choose-requires c =
    let a = c.args in
    let f = rw c.in_ok-n.was at c.select_parse.ensures.count_in_bounds in
    let h = select_room a.eq.now a.selected.now a.most (sym c.select_parse.ensures.refused_value ∙ ap number_of c.in_ok-n.was) in
    (f.1, omega (arith, cleared_length a.selected.now a.most h, ap length c.clear.ensures))

pub returns : goal.returns
returns c =
    let a = c.args in
    let z = sym c.select_parse.ensures.refused_value ∙ ap number_of c.in_ok-n.was in
    let e = c.choose.ensures in
    let s = e.selected_after ∙ ap (λ (l : List _). sets l 0 (numbers_at a.table.now (chosen a.most a.eq.now a.disk.now a.owner.now a.table.now))) c.clear.ensures in
    select_done a.eq.now a.disk.now a.owner.now a.table.now a.selected.now a.most _ _ z e.value s
