-- `blocks::mark_blocks` meets its contract. The invariant: releasing the blocks left, from the map reached, is releasing all from the map at entry.
use Rattle.std.proofs.Common.{List, ℕ, ap, sym, ◌∙◌, drop_of_length-le, eq-eqb, ne_eqb}
use Rattle.blocks.specs.Owners.{released_map}
use Rattle.blocks.proofs.Steps.{mark_step}
use Rattle.blocks.proofs.mark_blocks.Goals as goal
use Rattle.blocks.proofs.mark_blocks.Goals.{then-o-v, else-o-v}

pub loop-b-preserved : goal.loop-b-preserved
loop-b-preserved c =
    let l = c.loop-b in
    let step = mark_step c.args.v c.args.owner.now l.map l.b c.loop-b-test.true in
    elim c.if-o-v.branch [
      | then-o-v w ↦ rw w.map-is (l.invariant ∙ step ∙ simp (eq-eqb _ _ w.if-o-v.true, ← w.mark.ensures))
      | else-o-v w ↦ rw w.map-is (l.invariant ∙ step ∙ simp (ne_eqb _ _ w.if-o-v.false))
    ]

pub returns : goal.returns
unfolding released_map
returns c =
    let l = c.loop-b in
    sym (l.invariant ∙ ap (λ (os : List ℕ). released_map c.args.v os l.b l.map) (drop_of_length-le c.args.owner.now c.loop-b-test.false))
