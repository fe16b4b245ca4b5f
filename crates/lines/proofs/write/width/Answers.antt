use Rattle.std.proofs.Common.{arith}
use Rattle.lines.proofs.TextLaws.{digits_most, digits_one, digits_more, digits_some}
use Rattle.lines.proofs.write.width.Goals as goal

pub loop-rest-init : goal.loop-rest-init
loop-rest-init c = omega arith

pub overflow_add-digits : goal.overflow_add-digits
overflow_add-digits c = omega (arith, digits_most c.args.n (omega arith), digits_some c.loop-rest.rest)

pub loop-rest-smaller : goal.loop-rest-smaller
loop-rest-smaller c = omega arith

pub loop-rest-preserved : goal.loop-rest-preserved
loop-rest-preserved c = omega (arith, digits_more c.loop-rest.rest (omega arith))

pub returns : goal.returns
returns c = omega (arith, digits_one c.loop-rest.rest (omega arith))
