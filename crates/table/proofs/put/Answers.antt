-- `table::put` meets its contract. Four stores are one record stored.
use Rattle.table.proofs.Records.{put_here, put_none}
use Rattle.table.proofs.put.Goals as goal

pub returns-then-table-place-clause-table_after : goal.returns-then-table-place-clause-table_after
returns-then-table-place-clause-table_after c = put_none c.args.table.now c.args.place c.args.file c.if-table-place.true

pub returns-clause-table_after : goal.returns-clause-table_after
returns-clause-table_after c = put_here c.args.table.now c.args.place c.args.file c.if-table-place.false
