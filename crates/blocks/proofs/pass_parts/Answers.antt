-- `blocks::pass_parts` meets its contract. The invariant: the search from the block reached finds what the search from the start finds.
use Rattle.std.proofs.Common.{◌≡◌, ◌+◌, sym, ap, ◌∙◌, arith}
use Rattle.std.specs.Slice.Iter.{chunks_exact_rest}
use Rattle.blocks.specs.Owners.{blocks}
use Rattle.blocks.proofs.Parts.{pass_part, whole}
use Rattle.blocks.proofs.pass_parts.Goals as goal

pub loop-part-preserved : goal.loop-part-preserved
loop-part-preserved c =
    let o = c.args.owner.now in
    let v = c.args.v in
    let l = c.loop-part in
    let steps = c.in-Some.ensures.steps in
    let w = whole o c.in-Some.part.now (chunks_exact_rest c.next.new.self) (chunks_exact_rest l.part-iterator) l.b l.invariant.2 steps.1.0 (steps.1.1 ∙ l.invariant.0) in
    let none : blocks v c.in-Some.part.now ≡ 0 = omega arith in (
      steps.0 ∙ l.invariant.0,
      w.inside,
      w.is_rest,
      pass_part v o c.args.from l.b (l.b + 64) (omega arith) (ap (blocks v) (sym w.is_part) ∙ none) l.invariant.3,
    )
