-- `back::put_number` meets its contract. Assumes nothing.
use mathlib.Core.Path.{ap}
use native.Mathlib.Omega.{arith}
use lib.ListN.{length}
use Rattle.numbers.specs.Numbers.{number}
use Rattle.writing.proofs.Parts as parts
use Rattle.writing.proofs.Pieces as pieces
use Rattle.back.proofs.put_number.Goals as goal

pub put_decimal-requires : goal.put_decimal-requires
put_decimal-requires c =
    omega (
      arith,
      c.requires.s_len_bound,
      ap length
          (parts.number_plain c.args.id
          (length c.args.s.now)
          c.value-v.result (number c.args.s.now)
          c.taken_width.result c.value-v.ensures c.taken_width.ensures
          c.if-w-taken_width.true),
    )

pub returns-then-w-taken_width : goal.returns-then-w-taken_width
returns-then-w-taken_width c =
    rw (parts.number_plain c.args.id
    (length c.args.s.now)
    c.value-v.result
    (number c.args.s.now)
    c.taken_width.result c.value-v.ensures
    c.taken_width.ensures c.if-w-taken_width.true) c.put_decimal.ensures

pub overflow_cast-w : goal.overflow_cast-w
overflow_cast-w c =
    omega (arith, parts.width_small (length c.args.s.now) c.requires.s_value)

pub overflow_add-w : goal.overflow_add-w
overflow_add-w c =
    omega (arith, parts.width_small (length c.args.s.now) c.requires.s_value)

pub put-k-requires : goal.put-k-requires
put-k-requires c =
    omega (
      arith,
      c.requires.s_len_bound,
      parts.sized_length c.args.id
          (length c.args.s.now)
          c.value-v.result (number c.args.s.now)
          c.taken_width.result c.value-v.ensures c.taken_width.ensures c.if-w-taken_width.false,
    )

pub put-j-requires : goal.put-j-requires
put-j-requires c =
    let a = c.args in
    let the_value = c.value-v in
    let the-taken-width = c.taken_width in
    omega (
      arith,
      c.requires.s_len_bound,
      parts.sized_length a.id (length a.s.now)
          the_value.result (number a.s.now) the-taken-width.result the_value.ensures the-taken-width.ensures
          c.if-w-taken_width.false,
      c.put-k.ensures.place,
    )

pub put_decimal-requires-2 : goal.put_decimal-requires-2
put_decimal-requires-2 c =
    let a = c.args in
    let the_value = c.value-v in
    let the-taken-width = c.taken_width in
    omega (
      arith,
      c.requires.s_len_bound,
      parts.sized_length a.id (length a.s.now) the_value.result (number a.s.now) the-taken-width.result the_value.ensures
          the-taken-width.ensures c.if-w-taken_width.false,
      c.put-k.ensures.place,
      c.put-j.ensures.place,
    )

pub returns : goal.returns
returns c =
    let a = c.args in
    let the_value = c.value-v in
    let the-taken-width = c.taken_width in
    let the-put = c.put-k in
    let the-put2 = c.put-j in
    let the-put-decimal2 = c.put_decimal-2 in
    pieces.sized_piece a.id (length a.s.now) the_value.result (number a.s.now) the-taken-width.result the_value.ensures
    the-taken-width.ensures c.if-w-taken_width.false a.n
    the-put.result the-put2.result the-put-decimal2.result a.out.now the-put.new.out the-put2.new.out
    the-put-decimal2.new.out the-put.ensures the-put2.ensures the-put-decimal2.ensures
