-- `why::settle_file` meets its contract.
use mathlib.Core.Path.{◌∙◌}
use Rattle.why.proofs.Settling.{settled_at_law}
use Rattle.why.proofs.settle_file.Goals as goal

pub returns : goal.returns
returns c =
    let a = c.args in
    let p = c.requires in
    c.settle_at.ensures.truths_after
    ∙ settled_at_law a.eq.now a.steps.now a.disk.now a.owner.now a.place a.received a.truths.now p.0 p.1
