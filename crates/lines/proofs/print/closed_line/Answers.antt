use Rattle.std.proofs.Common.{arith}
use Rattle.packet.specs.Names.{bytes_of}
use Rattle.lines.proofs.TextLaws.{digits_most}
use Rattle.lines.proofs.Writing.{printed_none}
use Rattle.lines.proofs.LineLaws.{closed_size, closed_written}
use Rattle.lines.proofs.print.closed_line.Goals as goal

pub overflow_add-size : goal.overflow_add-size
overflow_add-size c = omega (arith, digits_most c.args.session (omega arith))

pub returns-then-text-size : goal.returns-then-text-size
returns-then-text-size c = printed_none _ c.args.text.now (omega (arith, closed_size c.args.session))

pub returns : goal.returns
unfolding bytes_of
returns c = closed_written c.args.session c.width-digits.result c.args.text.now _ _ (omega arith) (omega arith) c.put_decimal.ensures c.store.ensures.to_after
