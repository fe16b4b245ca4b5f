-- `files::choose` meets its contract. The invariant: what is left to choose after the files passed completes what is written. Each file passed leaves fewer.
use mathlib.Core.Path.{sym, ap, ◌∙◌}
use Rattle.stored.specs.Answers.{truth_at}
use Rattle.table.specs.declared.File.{File}
use Rattle.table.specs.Table.{uploaded}
use Rattle.files.specs.Selection.{is_yes, meets_at}
use Rattle.files.proofs.Choice.{choosing_start, choosing_none, choosing_full, choosing_less, choosing_next}
use mathlib.Core.Bool.{cond}
use lib.ListN.{set}
use native.Mathlib.Omega.{arith}
use Rattle.files.proofs.choose.Goals as goal

pub loop-count-init : goal.loop-count-init
loop-count-init c =
    let a = c.args in
    choosing_start (meets_at a.eq.now a.disk.now a.owner.now a.table.now) a.table.now a.selected.now a.most c.requires.1

pub returns-in-None : goal.returns-in-None
returns-in-None c =
    let a = c.args in
    let l = c.loop-count in
    let f = choosing_none (meets_at a.eq.now a.disk.now a.owner.now a.table.now) a.table.now a.selected.now a.most l.selected l.count l.after l.invariant (sym c.next_complete-next.ensures ∙ c.in-None.is) in
    record { value = f.counted; selected_after = f.stored }

pub note-count-requires : goal.note-count-requires
note-count-requires c =
    let l = c.loop-count in
    omega (arith, c.loop-count-test.true, l.invariant.room, l.invariant.size)

pub loop-count-smaller : goal.loop-count-smaller
loop-count-smaller c =
    let a = c.args in
    let l = c.loop-count in
    choosing_less (meets_at a.eq.now a.disk.now a.owner.now a.table.now) a.table.now a.selected.now a.most l.selected l.count l.after l.invariant c.in-Some.place (sym c.next_complete-next.ensures ∙ c.in-Some.is) _
    (c.upload_time_of-after.ensures ∙ ap uploaded c.get-file.ensures)

pub loop-count-preserved : goal.loop-count-preserved
loop-count-preserved c =
    let a = c.args in
    let l = c.loop-count in
    let g = c.get-file.ensures in
    let m = c.meets-met.ensures ∙ ap (λ (f : File). is_yes (truth_at a.eq.now a.disk.now a.owner.now c.in-Some.place f.received)) g in
    let n = c.note-count.ensures in
    choosing_next (meets_at a.eq.now a.disk.now a.owner.now a.table.now) a.table.now a.selected.now a.most l.selected l.count l.after l.invariant c.in-Some.place (sym c.next_complete-next.ensures ∙ c.in-Some.is) _
    (c.upload_time_of-after.ensures ∙ ap uploaded g) c.loop-count-test.true c.meets-met.result _ _ m n.value
    (n.selected_after ∙ ap (λ (f : File). cond c.meets-met.result (set l.selected l.count f.number) l.selected) g)

pub returns : goal.returns
returns c =
    let a = c.args in
    let l = c.loop-count in
    let f = choosing_full (meets_at a.eq.now a.disk.now a.owner.now a.table.now) a.table.now a.selected.now a.most l.selected l.count l.after l.invariant c.loop-count-test.false in
    record { value = f.counted; selected_after = f.stored }
