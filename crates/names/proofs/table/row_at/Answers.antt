use native.Mathlib.Omega.{arith}
use Rattle.packet.specs.Names.{bytes_of}
use Rattle.names.specs.Names.{items}
use Rattle.names.proofs.RowLaws.{no_row, rows, letters, size}
use Rattle.names.proofs.table.row_at.Goals as goal

pub returns-then-k-gt27 : goal.returns-then-k-gt27
returns-then-k-gt27 c = no_row c.args.k (omega arith)

pub returns : goal.returns
unfolding items bytes_of letters size
returns c = rows c.args.k (omega arith)
