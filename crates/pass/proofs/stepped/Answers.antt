use Rattle.pass.proofs.Parts.{stepped_as}
use Rattle.pass.proofs.stepped.Goals as goal

pub returns : goal.returns
returns c = stepped_as c.args.pass _ c.args.s c.args.size _ c.least.ensures.2 c.with_more.ensures
