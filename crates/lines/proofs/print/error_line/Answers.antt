use Rattle.std.proofs.Common.{arith, length-set}
use Rattle.packet.specs.Names.{bytes_of}
use Rattle.lines.proofs.TextLaws.{digits_most}
use Rattle.lines.proofs.Writing.{printed_none}
use Rattle.lines.proofs.LineLaws.{error_size, error_written}
use Rattle.lines.proofs.print.error_line.Goals as goal

pub overflow_add-size : goal.overflow_add-size
overflow_add-size c = omega (arith, digits_most c.args.number (omega arith))

pub returns-then-text-size : goal.returns-then-text-size
returns-then-text-size c = printed_none _ c.args.text.now (omega (arith, error_size c.args.number))

pub shape_of-text : goal.shape_of-text
shape_of-text c = simp length-set (omega (
  arith,
  c.put_decimal.auto.text,
  c.store.auto.to,
))

pub returns : goal.returns
unfolding bytes_of
returns c = error_written c.args.number c.width-digits.result c.args.text.now c.store.new.to c.put_decimal.new.text (omega arith) (omega arith) c.store.ensures.to_after c.put_decimal.ensures
