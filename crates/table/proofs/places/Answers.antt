-- `table::places` meets its contract.
use mathlib.Core.Path.{sym}
use Rattle.table.proofs.Records.{length_files}
use Rattle.table.proofs.places.Goals as goal

pub returns : goal.returns
returns c = sym (length_files c.args.table.now)
