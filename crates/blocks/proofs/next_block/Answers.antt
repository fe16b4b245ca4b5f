-- `blocks::next_block` meets its contract. The largest u16 plus 1 is above every owner.
use Prim.Native.Nat.{◌+◌}
use mathlib.Core.Path.{sym}
use native.Mathlib.Omega.{arith}
use Rattle.blocks.proofs.Owners.{next_none}
use Rattle.blocks.proofs.next_block.Goals as goal

pub returns-then-place-eq65535 : goal.returns-then-place-eq65535
returns-then-place-eq65535 c =
    let a = c.args in
    sym (next_none (a.place + 1) a.owner.now a.from (λ b. omega (arith, c.type_inv.owner b)))
