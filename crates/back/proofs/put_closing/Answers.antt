-- `back::put_closing` meets its contract. Assumes nothing.
use mathlib.Core.Path.{ap}
use native.Mathlib.Omega.{arith}
use lib.ListN.{length}
use Rattle.writing.proofs.Parts as parts
use Rattle.writing.proofs.Pieces as pieces
use Rattle.back.proofs.put_closing.Goals as goal

pub put-requires : goal.put-requires
put-requires c =
    omega (
      arith,
      c.requires,
      ap length (parts.closing_in c.args.p c.args.level c.if-p-level.true),
    )

pub returns-then-p-level : goal.returns-then-p-level
returns-then-p-level c =
    rw (parts.closing_in c.args.p c.args.level
    c.if-p-level.true) c.put.ensures

pub returns-else-p-level : goal.returns-else-p-level
returns-else-p-level c =
    rw (parts.closing_out c.args.p c.args.level c.if-p-level.false)
    (pieces.no_piece c.args.n c.args.out.now)
