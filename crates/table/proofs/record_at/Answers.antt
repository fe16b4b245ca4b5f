-- `table::record_at` meets its contract. The four words of the place are its record.
use mathlib.Core.Path.{sym}
use Rattle.table.proofs.Records.{file_words}
use Rattle.table.proofs.record_at.Goals as goal

pub returns : goal.returns
returns c = sym (file_words c.args.table.now c.args.place c.requires)
