-- `back::put_constant` meets its contract. Assumes nothing.
use mathlib.Core.Path.{ap}
use native.Mathlib.Omega.{arith}
use lib.ListN.{length}
use Rattle.writing.proofs.Parts as parts
use Rattle.back.proofs.put_constant.Goals as goal

pub put_string-requires : goal.put_string-requires
put_string-requires c =
    omega (
      arith,
      c.requires.s_len_bound,
      ap length
          (parts.constant_string c.args.code c.args.id
          c.args.s.now c.if-code-eq3.true),
      parts.string_is c.args.s.now,
    )

pub returns-then-code-eq3 : goal.returns-then-code-eq3
returns-then-code-eq3 c =
    rw (parts.constant_string c.args.code
    c.args.id c.args.s.now
    c.if-code-eq3.true) c.put_string.ensures

pub put_number-requires : goal.put_number-requires
put_number-requires c = record {
  s_value = parts.number_wide c.args.code c.args.id
      c.args.s.now c.if-code-eq3.false c.requires.s_value;
  s_len_bound = omega (
    arith,
    c.requires.s_len_bound,
    ap length
        (parts.constant_number c.args.code c.args.id
        c.args.s.now c.if-code-eq3.false),
  );
}

pub returns : goal.returns
returns c =
    rw (parts.constant_number c.args.code
    c.args.id c.args.s.now
    c.if-code-eq3.false) c.put_number.ensures
