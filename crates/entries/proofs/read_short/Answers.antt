-- `entries::read_short` meets its contract.
use mathlib.Core.Path.{◌∙◌}
use Rattle.entries.proofs.ReadingLaws.{form_rest, form_past}
use Rattle.entries.proofs.read_short.Goals as goal

pub returns-then-skip-lt80 : goal.returns-then-skip-lt80
returns-then-skip-lt80 c =
    let f = c in
    let a = f.args in
    c.put_front.ensures
    ∙ form_rest a.disk.now a.owner.now a.place a.at a.skip a.out.now f.short_form-entry.result f.short_form-entry.ensures

pub returns-else-skip-lt80 : goal.returns-else-skip-lt80
returns-else-skip-lt80 c =
    let a = c.args in
    form_past a.disk.now a.owner.now a.place a.at a.skip a.out.now c.if-skip-lt80.false
