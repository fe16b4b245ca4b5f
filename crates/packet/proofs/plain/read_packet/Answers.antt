use native.Mathlib.Omega.{arith}
use mathlib.Core.Path.{sym, ◌∙◌}
use borrow.Author.Tests.{lt-ltb, le-ltb}
use Rattle.packet.proofs.PacketLaws.{read_short, read_by}
use Rattle.packet.proofs.plain.read_packet.Goals as goal

pub returns-then-bytes-lt2 : goal.returns-then-bytes-lt2
returns-then-bytes-lt2 c = read_short _ (omega arith)

pub overflow_cast-size : goal.overflow_cast-size
overflow_cast-size c = omega (arith, c.type_inv.bytes 0)

pub overflow_cast-size-2 : goal.overflow_cast-size-2
overflow_cast-size-2 c = omega (arith, c.type_inv.bytes 1)

pub overflow_mul-size : goal.overflow_mul-size
overflow_mul-size c = omega (arith, c.type_inv.bytes 1)

pub overflow_add-size : goal.overflow_add-size
overflow_add-size c = omega (arith, c.type_inv.bytes 1, c.type_inv.bytes 0)

pub returns-then-kind-gt17 : goal.returns-then-kind-gt17
returns-then-kind-gt17 c = sym (read_by c.args.bytes.now (omega arith) ∙ simp (lt-ltb _ _ c.if-kind-gt17.true))

pub returns-then-bytes-size : goal.returns-then-bytes-size
returns-then-bytes-size c = sym (read_by c.args.bytes.now (omega arith) ∙ simp (le-ltb _ _ c.if-kind-gt17.false, lt-ltb _ _ c.if-bytes-size.true))

pub returns : goal.returns
returns c = sym (read_by c.args.bytes.now (omega arith) ∙ simp (le-ltb _ _ c.if-kind-gt17.false, le-ltb _ _ c.if-bytes-size.false))
