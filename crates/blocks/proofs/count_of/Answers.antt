-- `blocks::count_of` meets its contract. The invariant: what is counted and what is left are all blocks of the owner.
use Rattle.std.proofs.Common.{ap, ◌∙◌, arith}
use Rattle.std.specs.Slice.Iter.{chunks_rest}
use Rattle.blocks.specs.Owners.{blocks}
use Rattle.blocks.proofs.Owners.{blocks_le}
use Rattle.blocks.proofs.Parts.{blocks_join}
use Rattle.blocks.proofs.count_of.Goals as goal

pub overflow_add-n : goal.overflow_add-n
overflow_add-n c =
    let v = c.args.v in
    let e = ap (blocks v) c.in-Some.ensures.steps.1.0 ∙ blocks_join v c.in-Some.part.now (chunks_rest c.next.new.self) in
    omega (arith, e, blocks_le v c.args.owner.now)

pub loop-part-preserved : goal.loop-part-preserved
loop-part-preserved c =
    let v = c.args.v in
    let e = ap (blocks v) c.in-Some.ensures.steps.1.0 ∙ blocks_join v c.in-Some.part.now (chunks_rest c.next.new.self) in
    omega (arith, e)

pub returns : goal.returns
returns c = omega (arith, c.in-None.ensures.steps.1.0, blocks_le c.args.v (chunks_rest c.loop-part.part-iterator))
