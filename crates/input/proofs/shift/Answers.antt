use Rattle.input.proofs.PartLaws.{rest_room}
use Rattle.input.proofs.InputLaws.{shift_part}
use Rattle.input.proofs.shift.Goals as goal

pub move_down-requires : goal.move_down-requires
move_down-requires c = rest_room c.args.input.now c.args.from c.args.end c.rest-n.result c.least.result c.rest-n.ensures c.least.ensures.2

pub returns : goal.returns
returns c = rw c.move_down.ensures (shift_part c.args.input.now c.args.from c.args.end c.rest-n.result c.least.result c.rest-n.ensures c.least.ensures.2)
