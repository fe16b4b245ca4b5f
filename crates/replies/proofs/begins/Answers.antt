use Rattle.std.proofs.Common.{◌∙◌}
use Rattle.replies.proofs.ReplyLaws.{begins_is}
use Rattle.replies.proofs.begins.Goals as goal

pub returns : goal.returns
returns c = c.starts_with.ensures.value ∙ begins_is c.args.word.now c.args.line.now
