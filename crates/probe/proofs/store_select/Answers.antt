-- `probe::store_select` meets its contract: at most 50 files are selected.
use Rattle.probe.proofs.Ranges.{selected_most}
use Rattle.probe.proofs.store_select.Goals as goal

pub selection_code-requires : goal.selection_code-requires
selection_code-requires c =
    let a = c.args in
    selected_most a.eq.now a.disk.now a.owner.now a.table.now a.selected.now a.most _ c.select-answer.ensures
