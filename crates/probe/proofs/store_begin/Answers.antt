-- `probe::store_begin` meets its contract: the place answered is one of the table.
use Rattle.probe.proofs.Ranges.{begun_below}
use Rattle.probe.proofs.store_begin.Goals as goal

pub begun_code-requires : goal.begun_code-requires
begun_code-requires c =
    let a = c.args in
    begun_below a.map.now a.owner.now a.table.now a.last a.size _ c.begin-answer.ensures
