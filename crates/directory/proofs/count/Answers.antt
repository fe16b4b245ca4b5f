use Rattle.table.specs.Table.{files}
use Rattle.directory.specs.Directory.{found_in}
use Rattle.directory.proofs.DirectoryLaws.{found_count}
use Rattle.directory.proofs.count.Goals as goal

pub returns-in-One : goal.returns-in-One
unfolding found_in
returns-in-One c = rw c.in-One.is

pub returns-in-Selected : goal.returns-in-Selected
returns-in-Selected c =
    let a = c.args in
    rw (c.in-Selected.is, found_count c.in-Selected.first a.next (files a.table.now) a.selected.now) c.selected_count.ensures
