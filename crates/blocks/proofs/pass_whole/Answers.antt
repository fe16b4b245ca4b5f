-- `blocks::pass_whole` meets its contract. The invariant: the blocks passed are all of the owner.
use Rattle.std.proofs.Common.{◌≡◌, ◌+◌, ◌-◌, sym, ap, ◌∙◌, arith}
use Rattle.std.specs.Slice.Iter.{chunks_exact_rest}
use Rattle.blocks.specs.Owners.{blocks}
use Rattle.blocks.proofs.Parts.{run_join, run_part, whole}
use Rattle.blocks.proofs.pass_whole.Goals as goal

pub loop-part-preserved : goal.loop-part-preserved
loop-part-preserved c =
    let o = c.args.owner.now in
    let v = c.args.v in
    let l = c.loop-part in
    let steps = c.in-Some.ensures.steps in
    let w = whole o c.in-Some.part.now (chunks_exact_rest c.next.new.self) (chunks_exact_rest l.part-iterator) l.b l.invariant.3 steps.1.0 (steps.1.1 ∙ l.invariant.0) in
    let all : blocks v c.in-Some.part.now ≡ 64 = omega arith in
    let n : 64 ≡ l.b + 64 - l.b = omega arith in (
      steps.0 ∙ l.invariant.0,
      omega arith,
      w.inside,
      w.is_rest,
      run_join o v c.args.from l.b (l.b + 64) l.invariant.1 (omega arith) l.invariant.4
          (run_part o v l.b (l.b + 64) (omega arith) w.inside (ap (blocks v) (sym w.is_part) ∙ all ∙ n)),
    )
