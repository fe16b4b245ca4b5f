use Rattle.std.proofs.Common.{◌∙◌}
use Rattle.input.proofs.InputLaws.{read_part}
use Rattle.input.proofs.read_line.Goals as goal

pub returns : goal.returns
returns c = c.read.ensures ∙ read_part c.args.input.now c.args.from c.args.end c.least-stop.result c.least-start.result _ c.least-stop.ensures.2 c.least-start.ensures.2
