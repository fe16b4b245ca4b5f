use Rattle.words.proofs.PieceLaws.{joins}
use Rattle.words.proofs.push_number.Goals as goal

pub returns : goal.returns
returns c = joins c.push-a.ensures c.push_decimal.ensures
