use Rattle.std.proofs.Common.{sym, arith, length-set, length-take-le}
use Rattle.lines.proofs.TextLaws.{digits_most}
use Rattle.lines.proofs.Writing.{printed_none}
use Rattle.lines.proofs.LineLaws.{sent_size, sent_written, letters, letters_size, letters_most, letters_within}
use Rattle.lines.proofs.print.sent_line.Goals as goal

pub overflow_add-at : goal.overflow_add-at
overflow_add-at c = omega (
  arith,
  digits_most c.args.session (omega arith),
  letters_size c.args.kind _ c.name_of-name.ensures,
  letters_most c.args.kind,
)

pub overflow_add-at-2 : goal.overflow_add-at-2
overflow_add-at-2 c = omega (
  arith,
  digits_most c.args.session (omega arith),
  letters_size c.args.kind _ c.name_of-name.ensures,
  letters_most c.args.kind,
)

pub overflow_add-size : goal.overflow_add-size
overflow_add-size c = omega (
  arith,
  digits_most c.args.session (omega arith),
  letters_size c.args.kind _ c.name_of-name.ensures,
  letters_most c.args.kind,
)

pub overflow_add-size-2 : goal.overflow_add-size-2
overflow_add-size-2 c = omega (
  arith,
  digits_most c.args.session (omega arith),
  letters_size c.args.kind _ c.name_of-name.ensures,
  letters_most c.args.kind,
)

pub returns-then-text-size : goal.returns-then-text-size
returns-then-text-size c = printed_none _ c.args.text.now (omega (
  arith,
  letters_size c.args.kind _ c.name_of-name.ensures,
  sent_size c.args.session c.args.kind c.args.info.now,
))

pub slice_bounds-bytes-end : goal.slice_bounds-bytes-end
slice_bounds-bytes-end c = letters_within c.args.kind _ c.name_of-name.ensures

pub slice_bounds-store-end : goal.slice_bounds-store-end
slice_bounds-store-end c = sym (length-take-le _ c.name_of-name.result.bytes
    (letters_within c.args.kind _ c.name_of-name.ensures))

pub bounds-text-at : goal.bounds-text-at
bounds-text-at c = omega (
  arith,
  simp length-set at c.store.auto.to,
  c.put_decimal.auto.text,
)

pub put_hex-requires : goal.put_hex-requires
put_hex-requires c = simp length-set (omega (
  arith,
  simp length-set at c.store.auto.to,
  c.put_decimal.auto.text,
))

pub bounds-text-size : goal.bounds-text-size
bounds-text-size c = omega (
  arith,
  simp length-set at c.put_hex.auto.text,
  simp length-set at c.store.auto.to,
  c.put_decimal.auto.text,
)

pub shape_of-text : goal.shape_of-text
shape_of-text c = simp length-set (omega (
  arith,
  simp length-set at c.put_hex.auto.text,
  simp length-set at c.store.auto.to,
  c.put_decimal.auto.text,
))

pub returns : goal.returns
returns c = let e = c in let name = c.name_of-name in sent_written e.args.session e.args.kind c.width-digits.result name.result.size e.args.info.now e.args.text.now c.put_decimal.new.text c.store.new.to c.put_hex.new.text
    (omega arith) (letters_size e.args.kind name.result name.ensures) (omega arith) c.put_decimal.ensures (rw (letters e.args.kind name.result name.ensures) at c.store.ensures.to_after) c.put_hex.ensures
