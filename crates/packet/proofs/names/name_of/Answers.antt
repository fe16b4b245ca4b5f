use mathlib.Core.Path.{sym}
use native.Mathlib.Omega.{arith}
use Rattle.packet.specs.Names.{names, bytes_of}
use Rattle.packet.proofs.NameLaws.{unnamed, rows, row, size}
use Rattle.packet.proofs.names.name_of.Goals as goal

pub returns-then-k-gt17 : goal.returns-then-k-gt17
returns-then-k-gt17 c = sym (unnamed c.args.kind (omega arith))

pub returns : goal.returns
unfolding names bytes_of row size
returns c = rw c.from-k.ensures (rows c.args.kind (omega arith))
