-- `blocks::clear_blocks` meets its contract. The invariant: the owners passed are released, and those left are as at entry.
use Rattle.std.proofs.Common.{◌∙◌, arith}
use Rattle.std.proofs.lemmas.List.{set-get_or}
use Rattle.blocks.proofs.Steps.{clear_hit, clear_miss, clear_done}
use Rattle.blocks.proofs.clear_blocks.Goals as goal
use Rattle.blocks.proofs.clear_blocks.Goals.{then-o-v, else-o-v}

pub loop-o-preserved : goal.loop-o-preserved
loop-o-preserved c =
    let l = c.loop-o in
    elim c.if-o-v.branch [
      | then-o-v w ↦ rw w.owner-is (l.invariant ∙ clear_hit c.args.v l.owner l.o-index (omega arith) w.if-o-v.true)
      | else-o-v w ↦ rw (w.owner-is, set-get_or) (l.invariant ∙ clear_miss c.args.v l.owner l.o-index (omega arith) w.if-o-v.false)
    ]

pub returns : goal.returns
returns c = clear_done c.args.v c.args.owner.now c.loop-o.owner c.loop-o.o-index (omega arith) c.loop-o.invariant
