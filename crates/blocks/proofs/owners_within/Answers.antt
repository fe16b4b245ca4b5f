-- `blocks::owners_within` meets its contract. The invariant: an owner passed is above, or what is left to test are the owners from here on.
use Rattle.std.proofs.Common.{sym, ap, ◌∙◌, Bool, ◌&&◌, le-leb}
use Rattle.std.proofs.lemmas.Bool.{lt-leb}
use Rattle.blocks.proofs.Steps.{within_step, within_end, and_none, and_all}
use Rattle.blocks.proofs.owners_within.Goals as goal
use Rattle.blocks.proofs.owners_within.Goals.{then-files-o, else-files-o}

pub loop-o-preserved : goal.loop-o-preserved
loop-o-preserved c =
    let l = c.loop-o in
    let step = within_step c.args.files c.args.owner.now l.o-index c.loop-o-test.true in
    elim c.if-files-o.branch [
      | then-files-o w ↦ rw w.good-is (l.invariant ∙ ap (λ (t : Bool). l.good && t) (step ∙ simp (lt-leb _ _ w.if-files-o.true)) ∙ and_none l.good)
      | else-files-o w ↦ rw w.good-is (l.invariant ∙ ap (λ (t : Bool). l.good && t) (step ∙ simp (le-leb _ _ w.if-files-o.false)))
    ]

pub returns : goal.returns
returns c =
    let i = c.loop-o.o-index in
    sym (c.loop-o.invariant ∙ ap (λ (t : Bool). c.loop-o.good && t) (within_end c.args.files c.args.owner.now i c.loop-o-test.false) ∙ and_all c.loop-o.good)
