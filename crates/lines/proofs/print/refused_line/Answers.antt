use Rattle.std.proofs.Common.{arith, length-set}
use Rattle.packet.specs.Names.{bytes_of}
use Rattle.lines.proofs.TextLaws.{digits_most}
use Rattle.lines.proofs.Writing.{printed_none}
use Rattle.lines.proofs.LineLaws.{refused_size, refused_written}
use Rattle.lines.proofs.print.refused_line.Goals as goal

pub overflow_add-at : goal.overflow_add-at
overflow_add-at c = omega (arith, digits_most c.args.session (omega arith))

pub overflow_add-size : goal.overflow_add-size
overflow_add-size c = omega (
  arith,
  digits_most c.args.session (omega arith),
  digits_most c.args.number (omega arith),
)

pub overflow_add-size-2 : goal.overflow_add-size-2
overflow_add-size-2 c = omega (
  arith,
  digits_most c.args.session (omega arith),
  digits_most c.args.number (omega arith),
)

pub returns-then-text-size : goal.returns-then-text-size
returns-then-text-size c = printed_none _ c.args.text.now (omega (
  arith,
  refused_size c.args.session c.args.number,
))

pub shape_of-text : goal.shape_of-text
shape_of-text c = simp length-set (omega (
  arith,
  c.put_decimal-2.auto.text,
  c.store.auto.to,
  c.put_decimal.auto.text,
))

pub returns : goal.returns
unfolding bytes_of
returns c = refused_written c.args.session c.args.number c.width-first.result c.width-second.result c.args.text.now _ _ c.put_decimal-2.new.text (omega arith) (omega arith) (omega arith) c.put_decimal.ensures c.store.ensures.to_after c.put_decimal-2.ensures
