use Rattle.words.proofs.PieceLaws.{joins}
use Rattle.packet.specs.Names.{bytes_of}
use native.Mathlib.Omega.{arith}
use Rattle.lines.proofs.TextLaws.{digits_most_32}
use Rattle.words.specs.Pieces.{front_of}
use Rattle.words.proofs.push_front.Goals as goal

pub push_decimal-b-requires : goal.push_decimal-b-requires
push_decimal-b-requires c =
    omega (arith, c.requires, c.push-a.auto.out, c.push-a.ensures.end, digits_most_32 c.args.number (omega (arith, c.well_formed.0)))

pub push-requires : goal.push-requires
push-requires c =
    omega (
      arith,
      c.requires,
      c.push-a.auto.out,
      c.push-a.ensures.end,
      c.push_decimal-b.auto.out,
      c.push_decimal-b.ensures.end,
      digits_most_32 c.args.number (omega (arith, c.well_formed.0)),
    )

pub returns : goal.returns
unfolding front_of bytes_of
returns c = joins c.push-a.ensures (joins c.push_decimal-b.ensures c.push.ensures)
