use Rattle.std.proofs.Common.{◌∙◌}
use Rattle.lines.proofs.FieldLaws.{same_is}
use Rattle.lines.proofs.commands.same_text.Goals as goal

pub returns : goal.returns
returns c = c.eq.ensures ∙ same_is c.args.x.now c.args.y.now
