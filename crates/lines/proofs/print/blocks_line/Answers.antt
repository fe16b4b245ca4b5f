use Rattle.std.proofs.Common.{arith, length-set}
use Rattle.packet.specs.Names.{bytes_of}
use Rattle.lines.proofs.TextLaws.{digits_most}
use Rattle.lines.proofs.Writing.{printed_none}
use Rattle.lines.proofs.LineLaws.{blocks_size, blocks_written}
use Rattle.lines.proofs.print.blocks_line.Goals as goal

pub overflow_add-at : goal.overflow_add-at
overflow_add-at c = omega (arith, digits_most c.args.free (omega arith))

pub overflow_add-size : goal.overflow_add-size
overflow_add-size c = omega (
  arith,
  digits_most c.args.free (omega arith),
  digits_most c.args.held (omega arith),
)

pub overflow_add-size-2 : goal.overflow_add-size-2
overflow_add-size-2 c = omega (
  arith,
  digits_most c.args.free (omega arith),
  digits_most c.args.held (omega arith),
)

pub returns-then-text-size : goal.returns-then-text-size
returns-then-text-size c = printed_none _ c.args.text.now (omega (
  arith,
  blocks_size c.args.free c.args.held,
))

pub put_decimal-requires-2 : goal.put_decimal-requires-2
put_decimal-requires-2 c = record {
  digits_value = omega arith;
  digits_in_bounds = simp length-set (omega (
    arith,
    c.put_decimal.auto.text,
    c.store.auto.to,
  ));
}

pub bounds-text-size : goal.bounds-text-size
bounds-text-size c = (omega (
  arith,
  simp length-set at c.put_decimal-2.auto.text,
  c.put_decimal.auto.text,
  c.store.auto.to,
))

pub shape_of-text : goal.shape_of-text
shape_of-text c = simp length-set (omega (
  arith,
  simp length-set at c.put_decimal-2.auto.text,
  c.put_decimal.auto.text,
  c.store.auto.to,
))

pub returns : goal.returns
unfolding bytes_of
returns c = blocks_written c.args.free c.args.held c.width-first.result c.width-second.result c.args.text.now c.store.new.to c.put_decimal.new.text c.put_decimal-2.new.text (omega arith) (omega arith) (omega arith) c.store.ensures.to_after c.put_decimal.ensures c.put_decimal-2.ensures
