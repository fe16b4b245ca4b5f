-- `blocks::skip_parts` meets its contract. The invariant: the block looked for is found from the block reached on, past the blocks left.
use Rattle.std.proofs.Common.{◌+◌, ap, ◌∙◌, arith}
use Rattle.std.specs.Slice.Iter.{chunks_exact_rest}
use Rattle.blocks.specs.Owners.{blocks}
use Rattle.blocks.proofs.Parts.{skip_part, whole}
use Rattle.blocks.proofs.skip_parts.Goals as goal

pub loop-part-preserved : goal.loop-part-preserved
loop-part-preserved c =
    let o = c.args.owner.now in
    let v = c.args.v in
    let l = c.loop-part in
    let steps = c.in-Some.ensures.steps in
    let w = whole o c.in-Some.part.now (chunks_exact_rest c.next.new.self) (chunks_exact_rest l.part-iterator) l.from l.invariant.2 steps.1.0 (steps.1.1 ∙ l.invariant.0) in (
      steps.0 ∙ l.invariant.0,
      w.inside,
      w.is_rest,
      skip_part v o c.args.k l.from l.left c.count_few-has.result (l.from + 64) (omega arith) w.inside
          (c.count_few-has.ensures ∙ ap (blocks v) w.is_part) c.if-left-has.false l.invariant.3,
    )
