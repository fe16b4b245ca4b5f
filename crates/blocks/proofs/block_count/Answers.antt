-- `blocks::block_count` meets its contract. The largest u16 plus 1 is above every owner.
use Prim.Native.Nat.{◌+◌}
use mathlib.Core.Path.{sym}
use native.Mathlib.Omega.{arith}
use Rattle.blocks.proofs.Owners.{blocks_none}
use Rattle.blocks.proofs.block_count.Goals as goal

pub returns-then-place-eq65535 : goal.returns-then-place-eq65535
returns-then-place-eq65535 c =
    let a = c.args in
    sym (blocks_none (a.place + 1) a.owner.now (λ b. omega (arith, c.type_inv.owner b)))
