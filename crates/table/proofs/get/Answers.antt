-- `table::get` meets its contract.
use mathlib.Core.Path.{sym}
use native.Mathlib.Omega.{arith}
use Rattle.table.specs.Table.{files}
use Rattle.table.proofs.Records.{length_files, no_file_law}
use Rattle.table.proofs.get.Goals as goal

pub returns : goal.returns
returns c = sym (no_file_law (files c.args.table.now) c.args.place (omega (arith, c.if-place-table.false, length_files c.args.table.now)))
