use Rattle.std.proofs.Common.{◌-◌, sym, ◌∙◌}
use Rattle.marking.proofs.TabLaws.{passes_piece}
use Rattle.marking.proofs.fields.after_pieces.Goals as goal

pub loop-n-init : goal.loop-n-init
loop-n-init c = c.requires

pub returns-then-has_tab : goal.returns-then-has_tab
returns-then-has_tab c = c.loop-n.invariant.1

pub loop-n-preserved : goal.loop-n-preserved
loop-n-preserved c =
    let l = c.loop-n in
    (l.invariant.0, passes_piece c.args.line.now l.n c.args.size l.invariant.1 c.loop-n-test.true (sym c.if-has_tab.false ∙ c.has_tab.ensures))

pub returns : goal.returns
returns c = c.loop-n.invariant.1
