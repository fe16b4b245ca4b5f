use Rattle.input.proofs.InputLaws.{find_part}
use Rattle.input.proofs.find_line.Goals as goal

pub returns : goal.returns
returns c = rw (c.first_line.ensures, c.line_length.ensures) (find_part c.args.input.now c.args.from c.args.end c.least-e.result c.least-a.result c.args.ended c.least-e.ensures.2 c.least-a.ensures.2)
