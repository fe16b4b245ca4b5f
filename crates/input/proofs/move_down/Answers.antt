use Rattle.std.proofs.Common.{◌∙◌}
use Rattle.input.proofs.InputLaws.{moved_within}
use Rattle.input.proofs.move_down.Goals as goal

pub returns : goal.returns
returns c = c.copy_within.ensures.after ∙ moved_within c.args.from c.args.n c.args.input.now
