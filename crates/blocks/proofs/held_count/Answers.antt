-- `blocks::held_count` meets its contract. Each block is free or held.
use native.Mathlib.Omega.{arith}
use Rattle.blocks.proofs.Owners.{blocks_le, free_held}
use Rattle.blocks.proofs.held_count.Goals as goal

pub overflow_sub-result : goal.overflow_sub-result
overflow_sub-result c = omega (arith, c.count_of.ensures, blocks_le 0 c.args.owner.now)

pub returns : goal.returns
returns c = omega (arith, c.count_of.ensures, free_held c.args.owner.now)
