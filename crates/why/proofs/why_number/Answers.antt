-- `why::why_number` meets its contract: by the file's place.
use mathlib.Core.Path.{sym, ◌∙◌}
use Rattle.equation.proofs.Trees.{accepted}
use Rattle.std.proofs.Common.{Some}
use Rattle.why.proofs.Answers.{number_tree, number_none}
use Rattle.why.proofs.why_number.Goals as goal

pub returns-in-None : goal.returns-in-None
returns-in-None c =
    let a = c.args in
    let y = accepted a.eq.now c.requires.0.valid in
    number_none a.eq.now a.number a.disk.now a.owner.now a.table.now a.most a.named.now y.tree y.parsed
    (sym c.in-None.is ∙ c.find.ensures)

pub returns-in-Some : goal.returns-in-Some
returns-in-Some c =
    let a = c.args in
    let y = accepted a.eq.now c.requires.0.valid in
    c.why_place.ensures y.tree y.parsed
    ∙ number_tree a.eq.now a.number a.disk.now a.owner.now a.table.now a.most a.named.now y.tree
    (Some c.in-Some.place) y.parsed
    (sym c.in-Some.is ∙ c.find.ensures)
