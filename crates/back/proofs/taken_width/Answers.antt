-- `back::taken_width` meets its contract. Assumes nothing.
use Rattle.std.proofs.Common.{arith}
use Rattle.writing.proofs.Parts.{usual}
use Rattle.back.proofs.taken_width.Goals as goal

pub returns : goal.returns
returns c = omega (arith, usual c.row_of.result c.least_width.result c.args.id c.args.v c.row_of.ensures c.least_width.ensures, c.least_width.ensures, c.max.ensures)
